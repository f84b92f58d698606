-- `remove_ripe` leaves `remove_ripe`. The loop's invariant: removal at the slots that are left, on the present areas, is the whole. Assumes nothing.
use Rattle.std.proofs.Common.{length, ◌≡◌, List, ℕ, ◌-◌, ◌≤◌}
use Rattle.octets.specs.Sweep.{sweep}
use Rattle.layout.specs.Disk.{Sound, slots}
use Rattle.rolling_tape.specs.Removal.{areas, remove_slot, remove_ripe}
use Rattle.rolling_tape.proofs.removal.remove_ripe.Given as goal

pub record Inv (disk₀ session₀ : List ℕ) (place oldest count : ℕ) (disk session : List ℕ) (i : ℕ) : Type 0 where
  pub long : length session ≡ length session₀
  pub wide : length disk ≡ length disk₀
  pub sound : Sound disk
  pub same : count ≡ slots disk
  pub within : i ≤ count
  pub rest : sweep (remove_slot place oldest) (count - i) i (areas disk session) ≡ remove_ripe (areas disk₀ session₀) place oldest

abbrev pub invariant-loop-slot : goal.invariant-loop-slot
invariant-loop-slot l = Inv l.initial.disk l.initial.session l.place l.oldest l.slot-end l.disk l.session l.slot
