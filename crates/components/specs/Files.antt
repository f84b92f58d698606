-- The numbered files of one tape: which are on the disk, which the tape tracks, which are marked, and their bytes (`src/tapes/rolling_tape.rs`). A
-- function from numbers, so that every rule of document 01, "Tape steps", is said at one number. Assumes nothing.
use Rattle.std.specs.Prelude.{Bool, true, false, cond, not, ◌&&◌, ◌||◌, List, [], ◌∷◌, ℕ, zero, suc, ◌+◌, eqb, ltb, leb, Option, Some, None, slice_get}
use Rattle.components.specs.Pieces.{file_of, place_in}
use Rattle.components.specs.FileBytes.{written}

pub record File : Type 0 where
  pub there : Bool
  pub tracked : Bool
  -- the epoch at which the file fell out of the tape's range
  pub mark : Option ℕ
  pub bytes : List ℕ

abbrev pub Files : Type 0
Files = ℕ → File

abbrev pub gone : File
gone = record { there = false; tracked = false; mark = None; bytes = [] }

-- an empty directory, to which "opening a name absent from the view" brings it
abbrev pub no_files : Files
no_files k = gone

abbrev pub with_mark : Option ℕ → File → File
with_mark m f = record { there = f.there; tracked = f.tracked; mark = m; bytes = f.bytes }

-- out of the tape's list; its bytes stay on the disk
abbrev pub untracked : File → File
untracked f = record { there = f.there; tracked = false; mark = None; bytes = f.bytes }

-- the byte that a read takes out of the files for an offset; none where the file is missing, untracked or too short
unfoldable pub byte_at : ℕ → Files → ℕ → Option ℕ
byte_at fs f o = cond ((f (file_of fs o)).tracked && (f (file_of fs o)).there) (slice_get (f (file_of fs o)).bytes (place_in fs o)) None

-- one byte written: "Making a file untracks higher numbers; their bytes stay on disk and return if the number is reached again"
unfoldable pub write_byte : ℕ → Files → ℕ → ℕ → Files
write_byte fs f o b k =
    cond (eqb k (file_of fs o))
    (record { there = true; tracked = true; mark = cond (f k).tracked (f k).mark None; bytes = written (f k).bytes (place_in fs o) (b ∷ []) })
    (cond (not (f (file_of fs o)).tracked && ltb (file_of fs o) k) (untracked (f k)) (f k))

-- a run of bytes, from an offset on
unfoldable pub write : ℕ → Files → ℕ → List ℕ → Files
write fs f o [] = f
write fs f o (b ∷ bs) = write fs (write_byte fs f o b) (o + 1) bs

-- ---- marks and removal

abbrev pub unmarked : Option ℕ → Bool
unmarked None = true
unmarked (Some e) = false

abbrev pub marked_below : ℕ → Option ℕ → Bool
marked_below oldest None = false
marked_below oldest (Some e) = ltb e oldest

-- "tracked files below start's file get the epoch at which this transaction began, if unmarked"
unfoldable pub mark_below : ℕ → ℕ → Files → Files
mark_below start_file began f k =
    cond (ltb k start_file && ((f k).tracked && unmarked (f k).mark)) (with_mark (Some began) (f k)) (f k)

-- every tracked file below k is marked below the oldest epoch
unfoldable pub ripe_below : ℕ → Files → ℕ → Bool
ripe_below oldest f zero = true
ripe_below oldest f (suc k) = (not (f k).tracked || marked_below oldest (f k).mark) && ripe_below oldest f k

-- "from the lowest number on, files marked below the oldest other transaction's epoch are removed"
abbrev pub removes : ℕ → Files → ℕ → Bool
removes oldest f k = (f k).tracked && (marked_below oldest (f k).mark && ripe_below oldest f k)

unfoldable pub remove : ℕ → Files → Files
remove oldest f k = cond (removes oldest f k) gone (f k)

-- "Truncate commit .. clears the marks from len's file upward"
unfoldable pub clear_from : ℕ → Files → Files
clear_from len_file f k = cond (leb len_file k) (with_mark None (f k)) (f k)

-- "Opening a known name tracks its files numbered up to that of len", unmarked
unfoldable pub track : ℕ → Files → Files
track len_file f k = cond (leb k len_file && (f k).there) (record { there = true; tracked = true; mark = None; bytes = (f k).bytes }) (untracked (f k))
