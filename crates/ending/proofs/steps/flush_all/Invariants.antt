-- `flush_all` leaves `flush_all`. The loop's invariant: the flush of the tapes that are left, on the present areas, is the whole. Assumes nothing.
use Rattle.std.proofs.Common.{length, ◌≡◌, List, ℕ, ◌-◌, ◌≤◌}
use Rattle.octets.specs.Sweep.{sweep}
use Rattle.rolling_tape.specs.Removal.{areas}
use Rattle.ending.specs.Steps.{flush_tape, flush_all}
use Rattle.ending.specs.StepLaws.{Whole}
use Rattle.ending.proofs.steps.flush_all.Given as goal

pub record Inv (disk₀ session₀ disk session : List ℕ) (i : ℕ) : Type 0 where
  pub long : length session ≡ length session₀
  pub wide : length disk ≡ length disk₀
  pub whole : Whole (areas disk session)
  pub within : i ≤ 8
  pub rest : sweep flush_tape (8 - i) i (areas disk session) ≡ flush_all (areas disk₀ session₀)

abbrev pub invariant-loop-tape : goal.invariant-loop-tape
invariant-loop-tape l = Inv l.initial.disk l.initial.session l.disk l.session l.tape
