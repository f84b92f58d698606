-- A run of bytes over files: every file that it lies in is made, or met again, and tracked; then its pieces are written. "Making a file untracks higher
-- numbers; their bytes stay on disk and return if the number is reached again." Assumes nothing.
use Rattle.std.specs.Prelude.{Bool, false, cond, List, [], ◌∷◌, ℕ, zero, suc, ◌+◌, length, take, drop, Option, Some, None}
use Rattle.components.specs.Pieces.{Piece, pieces}
use Rattle.disk.specs.Steps.{make_file, find_in, write_at}
use Rattle.session.specs.Rows.{tracking_of, put_tracking}
use Rattle.session.specs.declared.tracking.Tracking.TheVariants.{Tracked}
use Rattle.rolling_tape.specs.declared.tracking.Change.TheVariants.{UntrackAbove}
use Rattle.rolling_tape.specs.Tracking.{is_tracked, retracked}
use Rattle.rolling_tape.specs.Removal.{Areas, areas}
use Rattle.rolling_tape.specs.Room.{on_disk}

-- ---- the files

-- the file in slot i was there before, and is tracked: what a free slot's row says is no file's
abbrev pub was_tracked : List ℕ → Bool → ℕ → Bool
was_tracked s there i = cond there (is_tracked (tracking_of s i)) false

-- the file of number n, in slot i
unfoldable pub track_file : List ℕ → List ℕ → ℕ → ℕ → Bool → ℕ → List ℕ
track_file d s place n there i = cond (was_tracked s there i) s (put_tracking (retracked d s place (UntrackAbove n)) i Tracked)

abbrev pub track_found : List ℕ → List ℕ → ℕ → ℕ → Bool → Option ℕ → Areas
track_found d s place n there (Some i) = areas d (track_file d s place n there i)
track_found d s place n there None = areas d s

unfoldable pub make_tracked : Areas → ℕ → ℕ → Areas
make_tracked a place n =
    track_found (make_file a.disk place n).area a.session place n (on_disk a.disk place n) (make_file a.disk place n).answer

-- k numbers from n on
unfoldable pub covered : Areas → ℕ → ℕ → ℕ → Areas
covered a place n zero = a
covered a place n (suc k) = covered (make_tracked a place n) place (n + 1) k

-- ---- the bytes

abbrev pub write_found : List ℕ → ℕ → List ℕ → Option ℕ → List ℕ
write_found d at bs (Some i) = write_at d i at bs
write_found d at bs None = d

unfoldable pub write_piece : List ℕ → ℕ → ℕ → ℕ → List ℕ → List ℕ
write_piece d place n at bs = write_found d at bs (find_in d place n)

unfoldable pub write_pieces : List ℕ → ℕ → List Piece → List ℕ → List ℕ
write_pieces d place [] bs = d
write_pieces d place (p ∷ ps) bs = write_pieces (write_piece d place p.file p.place (take p.count bs)) place ps (drop p.count bs)

unfoldable pub write_run : List ℕ → ℕ → ℕ → ℕ → List ℕ → List ℕ
write_run d place fs o bs = write_pieces d place (pieces fs o (length bs)) bs
