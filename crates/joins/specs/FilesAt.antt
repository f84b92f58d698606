-- The files of a directory, as the two areas have them; and that each of them stands in one slot, as our own calls leave it. Assumes nothing.
use Rattle.std.specs.Prelude.{◌≡◌, ◌≢◌, List, ℕ, ◌<◌}
use Rattle.layout.specs.Disk.{slots, owner, number}
use Rattle.components.specs.Files.{Files}
use Rattle.held.specs.Held.{Held}
use Rattle.disk.specs.Meaning.{disk_of}
use Rattle.session.specs.Meaning.{session_of}
use Rattle.session.specs.Rows.{ring_of, ring_bytes}
use Rattle.rolling_tape.specs.Removal.{Areas}
use Rattle.rolling_tape.specs.Files.{files_of}

-- the files of the directory in a place
abbrev pub files_at : Areas → ℕ → Files
files_at a place = files_of (disk_of a.disk) (session_of a.session).tracking place

-- no two slots have the same file
pub record Once (d : List ℕ) : Type 0 where
  pub once : (i j : ℕ) → i < slots d → j < slots d → owner d i ≢ 0 → owner d i ≡ owner d j → number d i ≡ number d j → i ≡ j

-- tape p's cache with the files of its directory, and so many unwritten bytes
abbrev pub held_at : Areas → (place p unwritten : ℕ) → Held
held_at a place p unwritten =
    record { ring = ring_of a.session p; cache = ring_bytes a.session p; files = files_at a place; unwritten = unwritten }
