-- "Append: 11, 10, 18, 15", behind 1 and 2; "16 for a missing directory, after 18". "Append returns the staged length before it", in entries. Assumes
-- nothing.
use Rattle.std.specs.Prelude.{cond, List, ℕ, ◌+◌, ◌/◌, ◌%◌, eqb, ltb, length, Option, Some, None, Ok}
use Rattle.answers.specs.Outcome.{Outcome, outcome, refused_at}
use Rattle.answers.specs.declared.Refusal.TheVariants.{Unusable, Unknown, Absent, NotWhole, TooLarge, NoSlot, Missing}
use Rattle.layout.specs.Session.{entry_size_of}
use Rattle.session.specs.Rows.{find_handle}
use Rattle.rolling_tape.specs.Removal.{Areas, areas}
use Rattle.cached_tape.specs.Putting.{put_in}
use Rattle.beginning.specs.Transactions.{usable}
use Rattle.staging.specs.Seeing.{directory_of, writes, seen_by, touched_as}
use Rattle.appending.specs.Room.{no_room}

abbrev pub done_in : ℕ → Areas → Outcome
done_in value a = outcome (Ok value) a.disk a.session

-- the bytes put, in the directory of tape p
unfoldable pub put_on : List ℕ → List ℕ → ℕ → ℕ → List ℕ → Outcome
put_on d s p place bs =
    cond (no_room d s p (length bs)) (refused_at NoSlot d s)
    (done_in ((touched_as s p).len / entry_size_of s p) (put_in (areas d s) place p (touched_as s p) bs))

abbrev pub put_where : List ℕ → List ℕ → ℕ → List ℕ → Option ℕ → Outcome
put_where d s p bs (Some place) = put_on d s p place bs
put_where d s p bs None = refused_at Missing d s

unfoldable pub append_on : List ℕ → List ℕ → ℕ → List ℕ → Outcome
append_on d s p bs =
    cond (seen_by s 16 p).listed
    (cond (eqb (length bs % entry_size_of s p) 0)
    (cond (ltb 0xffff_ffff_ffff_ffff ((seen_by s 16 p).len + length bs)) (refused_at TooLarge d s)
    (put_where d s p bs (directory_of d s p)))
    (refused_at NotWhole d s))
    (refused_at Absent d s)

abbrev pub append_in : List ℕ → List ℕ → List ℕ → Option ℕ → Outcome
append_in d s bs (Some p) = append_on d s p bs
append_in d s bs None = refused_at Unknown d s

unfoldable pub put_call : List ℕ → List ℕ → ℕ → ℕ → List ℕ → Outcome
put_call d s t h bs =
    cond (usable d s)
    (cond (writes s t) (append_in d s bs (find_handle s h)) (refused_at Unknown d s))
    (refused_at Unusable d s)
