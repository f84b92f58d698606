-- A put through the cache. Document 01, "Cache steps": "Files get staged bytes when the next append would push unwritten ones out, when one append fills
-- the cache, or at commit." Assumes nothing.
use Rattle.std.specs.Prelude.{true, cond, List, ℕ, ◌+◌, length}
use Rattle.layout.specs.Session.{file_size_of}
use Rattle.ring_buffer.specs.Put.{fills, pushes_out, last_of, after_put, unwritten_after}
use Rattle.ring_buffer.specs.Ring.{prepared}
use Rattle.ring_buffer.specs.declared.bookkeeping.RingBuffer.{RingBuffer}
use Rattle.session.specs.Rows.{ring_of, put_ring, push_ring, put_staged}
use Rattle.session.specs.declared.tape_rows.Staged.{Staged}
use Rattle.rolling_tape.specs.Removal.{Areas, areas}
use Rattle.cached_tape.specs.Flushing.{wrote, flushed}

-- what goes to the files: of a put that fills the cache all that they lack and the put itself, of one that would push unwritten bytes out those alone
unfoldable pub sent_to : Areas → ℕ → ℕ → Staged → List ℕ → Areas
sent_to a place p row bs =
    cond (fills (ring_of a.session p) (length bs)) (wrote (flushed a place p row) place (file_size_of a.session p) row.len bs)
    (cond (pushes_out (ring_of a.session p) row.unwritten (length bs)) (flushed a place p row) a)

-- what goes to the cache of a tape of a length: the last bytes of the put
unfoldable pub cached_in : List ℕ → ℕ → ℕ → List ℕ → List ℕ
cached_in s p len bs =
    put_ring (push_ring s p (prepared (ring_of s p) len) (last_of (ring_of s p) bs)) p (after_put (ring_of s p) len bs)

-- the staged record with n more bytes
abbrev pub grown : Staged → RingBuffer → ℕ → Staged
grown row r n =
    record { touched = true; base = row.base; len = row.len + n; start = row.start; unwritten = unwritten_after r row.unwritten n }

unfoldable pub put_in : Areas → ℕ → ℕ → Staged → List ℕ → Areas
put_in a place p row bs =
    areas (sent_to a place p row bs).disk
    (put_staged (cached_in (sent_to a place p row bs).session p row.len bs) p (grown row (ring_of a.session p) (length bs)))
