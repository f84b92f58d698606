-- A tape that may send bytes to its files: what they lack, and more up to an end. What a flush and a put send is in proofs/Sends.antt. Assumes nothing.
use Rattle.std.specs.Prelude.{◌≢◌, ℕ, ◌≤◌, ◌<◌, ◌^◌}
use Rattle.components.specs.Pieces.{file_of}
use Rattle.components.specs.Slots.{covered as files_covered}
use Rattle.layout.specs.Session.{handle_number, file_size_of, ring_len}
use Rattle.session.specs.declared.tape_rows.Staged.{Staged}
use Rattle.rolling_tape.specs.Removal.{Areas}
use Rattle.cached_tape.specs.Flushing.{unwritten_from}
use Rattle.joins.specs.Writes.{Clean, Room}

pub record Lacks (a : Areas) (place p : ℕ) (row : Staged) (end : ℕ) : Type 0 where
  pub clean : Clean a
  pub directory : place < 8
  pub tape : p < 8
  pub held : handle_number a.session p ≢ 0
  pub pending : row.unwritten ≤ ring_len a.session p
  pub inside : row.unwritten ≤ row.len
  pub fits : end < 2 ^ 64
  pub room : Room a place (file_of (file_size_of a.session p) (unwritten_from row)) (files_covered (file_size_of a.session p) (unwritten_from row) end)
