-- `close_writer` leaves `close_writer`. The loop's invariant: what is left of the tapes to unstage, in the present session, is the whole. Assumes nothing.
use Rattle.std.proofs.Common.{length, ◌≡◌, List, ℕ, ◌-◌, ◌≤◌}
use Rattle.octets.specs.Sweep.{sweep}
use Rattle.ending.specs.Steps.{unstage}
use Rattle.ending.proofs.steps.close_writer.Given as goal

pub record Inv (session₀ session : List ℕ) (i : ℕ) : Type 0 where
  pub long : length session ≡ length session₀
  pub within : i ≤ 8
  pub rest : sweep unstage (8 - i) i session ≡ sweep unstage 8 0 session₀

abbrev pub invariant-loop-tape : goal.invariant-loop-tape
invariant-loop-tape l = Inv l.initial.session l.session l.tape
