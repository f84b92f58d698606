-- Bytes of a tape that go to its files: every file that they lie in is made and tracked, then they are written. Assumes nothing.
use Rattle.std.specs.Prelude.{List, ℕ, ◌+◌, ◌-◌, length}
use Rattle.components.specs.Pieces.{file_of}
use Rattle.components.specs.Slots as Slots
use Rattle.layout.specs.Session.{file_size_of}
use Rattle.ring_buffer.specs.Put.{unwritten_of}
use Rattle.session.specs.Rows.{ring_of, ring_bytes}
use Rattle.session.specs.declared.tape_rows.Staged.{Staged}
use Rattle.rolling_tape.specs.Removal.{Areas, areas}
use Rattle.rolling_tape.specs.Writing.{covered, write_run}

-- the files of n bytes from an offset on
unfoldable pub cover_run : Areas → ℕ → ℕ → ℕ → ℕ → Areas
cover_run a place fs o n = covered a place (file_of fs o) (Slots.covered fs o (o + n))

-- bytes written from an offset on, in a directory
unfoldable pub wrote : Areas → ℕ → ℕ → ℕ → List ℕ → Areas
wrote a place fs o bs =
    areas (write_run (cover_run a place fs o (length bs)).disk place fs o bs) (cover_run a place fs o (length bs)).session

-- the offset of the first byte that the files lack
abbrev pub unwritten_from : Staged → ℕ
unwritten_from row = row.len - row.unwritten

-- the bytes of tape p that the files lack
abbrev pub unwritten_bytes : List ℕ → ℕ → ℕ → List ℕ
unwritten_bytes s p n = unwritten_of (ring_of s p) (ring_bytes s p) n

unfoldable pub flushed : Areas → ℕ → ℕ → Staged → Areas
flushed a place p row = wrote a place (file_size_of a.session p) (unwritten_from row) (unwritten_bytes a.session p row.unwritten)
