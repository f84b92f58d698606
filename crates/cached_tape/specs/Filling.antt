-- The cache of a tape that is opened: filled with the last bytes of a known one. Assumes nothing.
use Rattle.std.specs.Prelude.{List, ℕ, ◌-◌, max, length}
use Rattle.ring_buffer.specs.Ring.{fresh, reset_to}
use Rattle.session.specs.Rows.{put_ring, fill_ring}

-- the index of the first byte that a cache of a capacity holds of a tape: no byte below its start
abbrev pub first_cached : ℕ → ℕ → ℕ → ℕ
first_cached capacity len start = max (len - capacity) start

-- a new ring of a capacity with these bytes of the tape from an index on
unfoldable pub filled_with : List ℕ → ℕ → ℕ → ℕ → List ℕ → List ℕ
filled_with s p capacity first bs = put_ring (fill_ring s p 0 bs) p (reset_to (fresh capacity first) (length bs) first)
