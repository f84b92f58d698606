-- A read across cache and files. Document 01, "Cache steps": "A read takes offsets from the cache's first index upward out of the cache, even above its
-- length: an old reader still finds bytes there after a truncate." Assumes nothing.
use Rattle.std.specs.Prelude.{Bool, true, List, ◌++◌, ℕ, ◌-◌, min}
use Rattle.layout.specs.Names.{name}
use Rattle.layout.specs.Session.{names_at, file_size_of}
use Rattle.ring_buffer.specs.Ring.{nths}
use Rattle.ring_buffer.specs.declared.bookkeeping.RingBuffer.{RingBuffer}
use Rattle.session.specs.Rows.{ring_of, ring_bytes}
use Rattle.rolling_tape.specs.Reading.{can_read, read_run}

-- how many of n bytes from an offset on lie below the cache's first index
abbrev pub below_cache : RingBuffer → ℕ → ℕ → ℕ
below_cache r o n = min n (r.first - o)

-- those have to stand in tracked files
unfoldable pub can_serve : List ℕ → List ℕ → ℕ → ℕ → ℕ → Bool
can_serve d s p o n = can_read d s true (name s names_at p) (file_size_of s p) o (below_cache (ring_of s p) o n)

unfoldable pub served : List ℕ → List ℕ → ℕ → ℕ → ℕ → List ℕ
served d s p o n =
    read_run d (name s names_at p) (file_size_of s p) o (below_cache (ring_of s p) o n)
    ++ nths (ring_of s p) (ring_bytes s p) (o - (ring_of s p).first) (n - below_cache (ring_of s p) o n)
