-- `retrack` leaves `retracked`. The loop's invariant: changing the slots that are left, on the present bytes, is the whole. Assumes nothing.
use Rattle.std.proofs.Common.{length, ◌≡◌, List, ℕ, ◌-◌, ◌≤◌}
use Rattle.octets.specs.Sweep.{sweep}
use Rattle.rolling_tape.specs.declared.tracking.Change.{Change}
use Rattle.rolling_tape.specs.Tracking.{retrack_slot, retracked}
use Rattle.rolling_tape.proofs.tracking.retrack.Given as goal

pub record Inv (disk session₀ : List ℕ) (place : ℕ) (change : Change) (count : ℕ) (session : List ℕ) (i : ℕ) : Type 0 where
  pub long : length session ≡ length session₀
  pub within : i ≤ count
  pub rest : sweep (retrack_slot disk place change) (count - i) i session ≡ retracked disk session₀ place change

abbrev pub invariant-loop-slot : goal.invariant-loop-slot
invariant-loop-slot l = Inv l.disk l.initial.session l.place l.change l.slot-end l.session l.slot
