-- "Truncate: 11, 14", behind 1 and 2. "Drop stops at 0." Assumes nothing.
use Rattle.std.specs.Prelude.{true, cond, List, ℕ, ◌*◌, ◌-◌, ◌/◌, Option, Some, None, Ok}
use Rattle.answers.specs.declared.Refusal.TheVariants.{Unusable, Unknown, Absent, LongerCut}
use Rattle.components.specs.Bounds.{up_to}
use Rattle.session.specs.Rows.{handle_of, put_staged, find_handle}
use Rattle.beginning.specs.Transactions.{After, after, refused, usable}
use Rattle.staging.specs.Seeing.{seen_by, touched_as, cuts}

unfoldable pub cut_to : List ℕ → ℕ → ℕ → List ℕ
cut_to s p len =
    put_staged s p (record { touched = true; base = (touched_as s p).base; len = len; start = (touched_as s p).start; unwritten = 0 })

unfoldable pub cut_on : List ℕ → ℕ → ℕ → After
cut_on s p i =
    cond (seen_by s 16 p).listed
    (cond (up_to (handle_of s p).entry i (seen_by s 16 p).len) (after (Ok 0) (cut_to s p (i * (handle_of s p).entry))) (refused LongerCut s))
    (refused Absent s)

-- so many entries from the end, at most all
unfoldable pub drop_on : List ℕ → ℕ → ℕ → After
drop_on s p count = cut_on s p ((seen_by s 16 p).len / (handle_of s p).entry - count)

abbrev pub cut_in : List ℕ → ℕ → Option ℕ → After
cut_in s i (Some p) = cut_on s p i
cut_in s i None = refused Unknown s

abbrev pub drop_in : List ℕ → ℕ → Option ℕ → After
drop_in s count (Some p) = drop_on s p count
drop_in s count None = refused Unknown s

unfoldable pub cut_call : List ℕ → List ℕ → ℕ → ℕ → ℕ → After
cut_call d s t h i = cond (usable d s) (cond (cuts s t) (cut_in s i (find_handle s h)) (refused Unknown s)) (refused Unusable s)

unfoldable pub drop_call : List ℕ → List ℕ → ℕ → ℕ → ℕ → After
drop_call d s t h count = cond (usable d s) (cond (cuts s t) (drop_in s count (find_handle s h)) (refused Unknown s)) (refused Unusable s)
