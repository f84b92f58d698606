-- The ring cache (`src/tapes/cached_tape/ring_buffer.rs`; document 01, "Cache steps"): `len` bytes of the tape from the index `first` on stand in the
-- bytes from the place `start` on, past the capacity from place 0. Assumes nothing.
use Rattle.std.specs.Prelude.{ℕ, zero, suc, ◌+◌, ◌-◌, ◌%◌, ◌^◌, ◌<◌, ◌≤◌, min, Bool, cond, List, [], ◌∷◌, take, drop, ◌==◌, nat_le, slice_index, slice_set}
use Rattle.ring_buffer.specs.declared.bookkeeping.RingBuffer.{RingBuffer}

-- a ring of 1 to 4,096 bytes that lies inside n bytes and holds no more than its capacity
pub record Sound (r : RingBuffer) (n : ℕ) : Type 0 where
  pub inside : r.start < r.capacity
  pub short : r.len ≤ r.capacity
  pub small : r.capacity ≤ 4096
  pub room : r.capacity ≤ n

-- ---- the bytes

-- the k-th byte behind the first index, whatever k is: a read does not stop at the length
unfoldable pub nth : RingBuffer → List ℕ → ℕ → ℕ
nth r bytes k = slice_index bytes ((r.start + k) % r.capacity)

-- n bytes from the k-th on
unfoldable pub nths : RingBuffer → List ℕ → ℕ → ℕ → List ℕ
nths r bytes k zero = []
nths r bytes k (suc n) = nth r bytes k ∷ nths r bytes (k + 1) n

-- "A read takes offsets from the cache's first index upward out of the cache, even above its length"
abbrev pub from_cache : RingBuffer → ℕ → Bool
from_cache r o = nat_le r.first o

-- the tape's byte at an offset, as the cache has it
abbrev pub ring_at : RingBuffer → List ℕ → ℕ → ℕ
ring_at r bytes o = nth r bytes (o - r.first)

-- the bytes that the ring holds, in tape order
abbrev pub held : RingBuffer → List ℕ → List ℕ
held r bytes = nths r bytes 0 r.len

-- the held bytes up to the ring's end, and those from its beginning
unfoldable pub first_part : RingBuffer → List ℕ → List ℕ
first_part r bytes = take (min r.len (r.capacity - r.start)) (drop r.start bytes)

unfoldable pub second_part : RingBuffer → List ℕ → List ℕ
second_part r bytes = take (r.len - (r.capacity - r.start)) bytes

-- bytes put one after the other from place e on, past the capacity from place 0 on
unfoldable pub around : ℕ → List ℕ → ℕ → List ℕ → List ℕ
around c bytes e [] = bytes
around c bytes e (b ∷ d) = around c (slice_set bytes (e % c) b) (e + 1) d

-- ---- the bookkeeping

abbrev pub ring : ℕ → ℕ → ℕ → ℕ → RingBuffer
ring capacity start len first = record { capacity = capacity; start = start; len = len; first = first }

abbrev pub fresh : ℕ → ℕ → RingBuffer
fresh capacity first = ring capacity 0 0 first

abbrev pub reset_to : RingBuffer → ℕ → ℕ → RingBuffer
reset_to r len first = ring r.capacity 0 len first

-- how many held bytes n new ones push out
abbrev pub over : RingBuffer → ℕ → ℕ
over r n = r.len + n - r.capacity

-- n bytes pushed, before which some went by the ring
unfoldable pub pushed : RingBuffer → ℕ → ℕ → RingBuffer
pushed r n missed =
    ring r.capacity ((r.start + over r n) % r.capacity) (min (r.len + n) r.capacity) ((r.first + over r n + missed) % 2 ^ 64)

-- some bytes taken back from the end
unfoldable pub popped : RingBuffer → ℕ → RingBuffer
popped r n = ring r.capacity r.start (r.len - n) (r.first - (n - r.len))

-- the tape cut to a length
unfoldable pub truncated : RingBuffer → ℕ → RingBuffer
truncated r len = ring r.capacity r.start (min r.len (len - r.first)) r.first

-- "A cache emptied by a truncate or by a dropped append takes the tape length as its first index before the next write"
unfoldable pub prepared : RingBuffer → ℕ → RingBuffer
prepared r len = ring r.capacity r.start r.len (cond (r.len == 0) len r.first)

-- a ring over the last n held bytes alone
unfoldable pub last_held : RingBuffer → ℕ → RingBuffer
last_held r n = ring r.capacity ((r.start + (r.len - n)) % r.capacity) n ((r.first + (r.len - n)) % 2 ^ 64)
