-- `lacking_files` counts up to the most. The loop's invariant: those found lacking so far and those that are left to be found are the whole. Assumes nothing.
use Rattle.std.proofs.Common.{◌≡◌, List, ℕ, ◌+◌, ◌-◌, ◌≤◌}
use Rattle.components.specs.Slots.{lacking_from}
use Rattle.rolling_tape.specs.Room.{on_disk}
use Rattle.rolling_tape.proofs.room.lacking_files.Given as goal

pub record Inv (disk : List ℕ) (place first count lacking done : ℕ) : Type 0 where
  pub within : done ≤ count
  pub few : lacking ≤ done
  pub rest : lacking + lacking_from (on_disk disk place) (first + done) (count - done) ≡ lacking_from (on_disk disk place) first count

abbrev pub invariant-loop-done : goal.invariant-loop-done
invariant-loop-done l = Inv l.disk l.place l.first l.count l.lacking l.done
