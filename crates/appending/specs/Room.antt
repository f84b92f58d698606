-- Rule of 15: "files on the disk, plus the (tape, file number) pairs that staged bytes after this append would cover and the disk lacks, exceed the
-- slots". Assumes nothing.
use Rattle.std.specs.Prelude.{Bool, cond, not, ◌&&◌, ◌||◌, List, ℕ, zero, suc, ◌+◌, ◌-◌, min, max, eqb, ltb, Option, Some, None}
use Rattle.components.specs.Pieces.{file_of}
use Rattle.components.specs.Slots.{lacking_from, covered}
use Rattle.layout.specs.Disk.{slots}
use Rattle.layout.specs.Session.{handle_number, file_size_of}
use Rattle.disk.specs.Steps.{files}
use Rattle.session.specs.Rows.{staged_of}
use Rattle.session.specs.declared.tape_rows.Staged.{Staged}
use Rattle.rolling_tape.specs.Room.{on_disk}
use Rattle.staging.specs.Seeing.{directory_of, touched_as}

-- the staged bytes of a tape: from where the append got it up to its length. Unwritten bytes lie between the two; where damaged memory says otherwise they
-- count too, so that every file that a write will make was counted.
abbrev pub low_of : Staged → ℕ
low_of row = min row.base (row.len - row.unwritten)

abbrev pub end_of : Staged → ℕ → ℕ
end_of row more = max (row.len + more) row.unwritten

-- how many files of the bytes from low up to end a directory lacks; one that is missing lacks all
abbrev pub lacking_in : List ℕ → ℕ → ℕ → ℕ → Option ℕ → ℕ
lacking_in d fs low end (Some place) = lacking_from (on_disk d place) (file_of fs low) (covered fs low end)
lacking_in d fs low end None = covered fs low end

-- tape p is staged: it is open, and touched or the one that is appended to
abbrev pub is_staged : List ℕ → ℕ → ℕ → Bool
is_staged s to p = not (eqb (handle_number s p) 0) && (eqb p to || (staged_of s p).touched)

-- what tape p lacks, if `more` bytes are appended to tape `to`
unfoldable pub lacking_of : List ℕ → List ℕ → ℕ → ℕ → ℕ → ℕ
lacking_of d s to more p =
    cond (is_staged s to p)
    (lacking_in d (file_size_of s p) (low_of (touched_as s p)) (end_of (touched_as s p) (cond (eqb p to) more 0)) (directory_of d s p))
    0

-- n tapes from p on
unfoldable pub lacking_all : List ℕ → List ℕ → ℕ → ℕ → ℕ → ℕ → ℕ
lacking_all d s to more zero p = 0
lacking_all d s to more (suc n) p = lacking_of d s to more p + lacking_all d s to more n (p + 1)

-- the tape that is appended to: 8 stands for none
abbrev pub place_of : Option ℕ → ℕ
place_of (Some p) = p
place_of None = 8

-- 15 is given
unfoldable pub no_room : List ℕ → List ℕ → ℕ → ℕ → Bool
no_room d s to more = ltb (slots d) (files d + lacking_all d s to more 8 0)
