-- Bounds of reads, shifts and cuts, in entries, and what a commit makes of start and length. Lengths are below 2^64, so a product or sum past 2^64-1 is
-- out of every bound by itself. Assumes nothing.
use Rattle.std.specs.Prelude.{Bool, ◌&&◌, ℕ, ◌+◌, ◌*◌, min, max, leb}

-- an index, in entries, that is not past a length: else a shift is 13, a cut is 14
unfoldable pub up_to : ℕ → ℕ → ℕ → Bool
up_to entry index len = leb (index * entry) len

-- entries that lie inside a tape's bounds: else a read is 12
unfoldable pub in_bounds : ℕ → ℕ → ℕ → ℕ → ℕ → Bool
in_bounds entry start len index count = leb start (index * entry) && leb (index * entry + count * entry) len

-- "Shift takes the larger of old and new start"
abbrev pub shifted_start : ℕ → ℕ → ℕ
shifted_start old new = max old new

-- "Truncate commit sets start to min(start, len)"
abbrev pub cut_start : ℕ → ℕ → ℕ
cut_start start len = min start len
