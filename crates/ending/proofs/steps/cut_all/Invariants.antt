-- `cut_all` leaves `cut_all`. The loop's invariant: the cut of the tapes that are left, in the present session, is the whole. Assumes nothing.
use Rattle.std.proofs.Common.{length, ◌≡◌, List, ℕ, ◌-◌, ◌≤◌}
use Rattle.octets.specs.Sweep.{sweep}
use Rattle.layout.specs.Session.{Begun}
use Rattle.octets.specs.Number.{Bytes}
use Rattle.ending.specs.Steps.{cut_tape, cut_all}
use Rattle.ending.proofs.steps.cut_all.Given as goal

pub record Inv (disk session₀ session : List ℕ) (i : ℕ) : Type 0 where
  pub long : length session ≡ length session₀
  pub begun : Begun session
  pub bytes : Bytes session
  pub within : i ≤ 8
  pub rest : sweep (cut_tape disk) (8 - i) i session ≡ cut_all disk session₀

abbrev pub invariant-loop-tape : goal.invariant-loop-tape
invariant-loop-tape l = Inv l.disk l.initial.session l.session l.tape
