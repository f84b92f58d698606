-- `ripen_all` leaves `ripen_all`. The loop's invariant: marks and removal of the tapes that are left, on the present areas, is the whole. Assumes nothing.
use Rattle.std.proofs.Common.{length, ◌≡◌, List, ℕ, ◌-◌, ◌≤◌}
use Rattle.octets.specs.Sweep.{sweep}
use Rattle.rolling_tape.specs.Removal.{areas}
use Rattle.ending.specs.Steps.{ripen_tape, ripen_all}
use Rattle.ending.specs.StepLaws.{Whole}
use Rattle.ending.proofs.steps.ripen_all.Given as goal

pub record Inv (disk₀ session₀ : List ℕ) (began oldest : ℕ) (disk session : List ℕ) (i : ℕ) : Type 0 where
  pub long : length session ≡ length session₀
  pub wide : length disk ≡ length disk₀
  pub whole : Whole (areas disk session)
  pub within : i ≤ 8
  pub rest : sweep (ripen_tape began oldest) (8 - i) i (areas disk session) ≡ ripen_all began oldest (areas disk₀ session₀)

abbrev pub invariant-loop-tape : goal.invariant-loop-tape
invariant-loop-tape l = Inv l.initial.disk l.initial.session l.began l.oldest l.disk l.session l.tape
