-- One tape's cache and files, and what each step of document 01, "Tape steps" and "Cache steps", does to them. Built from the definitions of
-- `ring_buffer` and `components`. Assumes nothing.
use Rattle.std.specs.Prelude.{cond, List, [], ◌∷◌, ℕ, zero, suc, ◌+◌, ◌-◌, length, Option, Some, None, slice_get}
use Rattle.octets.specs.Bytes.{put}
use Rattle.ring_buffer.specs.declared.bookkeeping.RingBuffer.{RingBuffer}
use Rattle.ring_buffer.specs.Ring.{ring_at, from_cache, fresh, reset_to, popped, truncated}
use Rattle.ring_buffer.specs.Put.{after_put, bytes_after_put, unwritten_of, sent, unwritten_after}
use Rattle.components.specs.Pieces.{file_of, place_in}
use Rattle.components.specs.Files.{Files, untracked, byte_at, write, mark_below, remove, clear_from, track}

pub record Held : Type 0 where
  pub ring : RingBuffer
  -- the bytes that the ring lies in
  pub cache : List ℕ
  pub files : Files
  -- how many of the ring's last bytes the files lack
  pub unwritten : ℕ

-- ---- writing

-- the files with what they lack, of a tape of a length
unfoldable pub flush : ℕ → ℕ → Held → Files
flush fs len h = write fs h.files (len - h.unwritten) (unwritten_of h.ring h.cache h.unwritten)

-- bytes put at the end of a tape of a length
unfoldable pub put_held : ℕ → ℕ → Held → List ℕ → Held
put_held fs len h bs =
    record {
      ring = after_put h.ring len bs;
      cache = bytes_after_put h.ring h.cache bs;
      files = write fs h.files (len - h.unwritten) (sent h.ring h.cache h.unwritten bs);
      unwritten = unwritten_after h.ring h.unwritten (length bs);
    }

-- an append committed: what the files lack is written; those below start's file are marked, if unmarked, with the epoch at which it began; and those marked
-- below the oldest other transaction's epoch are removed
unfoldable pub settled : ℕ → (began oldest len start : ℕ) → Held → Held
settled fs began oldest len start h =
    record { ring = h.ring; cache = h.cache; files = remove oldest (mark_below (file_of fs start) began (flush fs len h)); unwritten = 0 }

-- an append dropped: the cache gives up so many bytes from its end; what was written stays
unfoldable pub taken_back : ℕ → Held → Held
taken_back n h = record { ring = popped h.ring n; cache = h.cache; files = h.files; unwritten = 0 }

-- a truncate committed
unfoldable pub trimmed : ℕ → ℕ → Held → Held
trimmed fs len h =
    record { ring = truncated h.ring len; cache = h.cache; files = clear_from (file_of fs len) h.files; unwritten = h.unwritten }

-- ---- reading

-- "A read takes offsets from the cache's first index upward out of the cache, even above its length"
unfoldable pub byte_in : ℕ → Held → ℕ → Option ℕ
byte_in fs h o = cond (from_cache h.ring o) (Some (ring_at h.ring h.cache o)) (byte_at fs h.files o)

abbrev pub cons_o : Option ℕ → Option (List ℕ) → Option (List ℕ)
cons_o None l = None
cons_o (Some b) None = None
cons_o (Some b) (Some l) = Some (b ∷ l)

-- n bytes from an offset on
unfoldable pub fetch : ℕ → Held → ℕ → ℕ → Option (List ℕ)
fetch fs h o zero = Some []
fetch fs h o (suc n) = cons_o (byte_in fs h o) (fetch fs h (o + 1) n)

-- ---- a session's end, and opening

-- nothing is tracked any more
unfoldable pub forget : Files → Files
forget f k = untracked (f k)

-- a known tape's files: those up to its length's are tracked, those below its start's are marked and removed "by the removal rule with oldest epoch 2^64-1"
unfoldable pub taken : ℕ → (began len start : ℕ) → Files → Files
taken fs began len start f = remove 0xffff_ffff_ffff_ffff (mark_below (file_of fs start) began (track (file_of fs len) f))

-- the byte at an offset, of a file on the disk, tracked or not
unfoldable pub on_disk_at : ℕ → Files → ℕ → Option ℕ
on_disk_at fs f o = cond (f (file_of fs o)).there (slice_get (f (file_of fs o)).bytes (place_in fs o)) None

-- n of them from an offset on
unfoldable pub load : ℕ → Files → ℕ → ℕ → Option (List ℕ)
load fs f o zero = Some []
load fs f o (suc n) = cons_o (on_disk_at fs f o) (load fs f (o + 1) n)

-- a cache of a capacity with these bytes from an index on, laid over memory that holds something
unfoldable pub filled : (capacity first : ℕ) → (memory bs : List ℕ) → Files → Held
filled capacity first memory bs f =
    record { ring = reset_to (fresh capacity first) (length bs) first; cache = put memory 0 bs; files = f; unwritten = 0 }
