-- `empty_directory` leaves `empty_directory`. The loop's invariant: emptying the slots that are left, on the present bytes, is the whole. Assumes nothing.
use Rattle.std.proofs.Common.{◌≡◌, List, ℕ, ◌-◌, ◌≤◌, length}
use Rattle.octets.specs.Sweep.{sweep}
use Rattle.layout.specs.Disk.{Sound, slots}
use Rattle.disk.specs.Steps.{empty_slot, empty_directory}
use Rattle.disk.proofs.directories.empty_directory.Given as goal

pub record Inv (disk₀ : List ℕ) (place count : ℕ) (disk : List ℕ) (i : ℕ) : Type 0 where
  pub long : length disk ≡ length disk₀
  pub sound : Sound disk
  pub same : count ≡ slots disk
  pub within : i ≤ count
  pub rest : sweep (empty_slot place) (count - i) i disk ≡ empty_directory disk₀ place

abbrev pub invariant-loop-slot : goal.invariant-loop-slot
invariant-loop-slot l = Inv l.initial.disk l.place (slots l.initial.disk) l.disk l.slot
