-- `publish_all` leaves `publish_all`. The loop's invariant: publishing the tapes that are left, in the present session, is the whole. Assumes nothing.
use Rattle.std.proofs.Common.{length, ◌≡◌, List, ℕ, ◌-◌, ◌≤◌, Bool}
use Rattle.octets.specs.Sweep.{sweep}
use Rattle.layout.specs.Session.{Begun}
use Rattle.ending.specs.Steps.{publish_tape, publish_all}
use Rattle.ending.proofs.steps.publish_all.Given as goal

pub record Inv (session₀ : List ℕ) (cut : Bool) (session : List ℕ) (i : ℕ) : Type 0 where
  pub long : length session ≡ length session₀
  pub begun : Begun session
  pub within : i ≤ 8
  pub rest : sweep (publish_tape cut) (8 - i) i session ≡ publish_all cut session₀

abbrev pub invariant-loop-tape : goal.invariant-loop-tape
invariant-loop-tape l = Inv l.initial.session l.cut l.session l.tape
