-- "Shift: 11, 13", behind 1 and 2. "Shift takes the larger of old and new start." Assumes nothing.
use Rattle.std.specs.Prelude.{true, cond, List, ℕ, ◌*◌, Option, Some, None, Ok}
use Rattle.answers.specs.declared.Refusal.TheVariants.{Unusable, Unknown, Absent, StartPastLength}
use Rattle.components.specs.Bounds.{up_to, shifted_start}
use Rattle.session.specs.Rows.{handle_of, put_staged, find_handle}
use Rattle.beginning.specs.Transactions.{After, after, refused, usable}
use Rattle.staging.specs.Seeing.{seen_by, touched_as, writes}

unfoldable pub shifted : List ℕ → ℕ → ℕ → List ℕ
shifted s p start =
    put_staged s p
    (record {
      touched = true;
      base = (touched_as s p).base;
      len = (touched_as s p).len;
      start = shifted_start (touched_as s p).start start;
      unwritten = (touched_as s p).unwritten;
    })

unfoldable pub shift_on : List ℕ → ℕ → ℕ → After
shift_on s p i =
    cond (seen_by s 16 p).listed
    (cond (up_to (handle_of s p).entry i (seen_by s 16 p).len) (after (Ok 0) (shifted s p (i * (handle_of s p).entry))) (refused StartPastLength s))
    (refused Absent s)

abbrev pub shift_in : List ℕ → ℕ → Option ℕ → After
shift_in s i (Some p) = shift_on s p i
shift_in s i None = refused Unknown s

unfoldable pub shift_call : List ℕ → List ℕ → ℕ → ℕ → ℕ → After
shift_call d s t h i = cond (usable d s) (cond (writes s t) (shift_in s i (find_handle s h)) (refused Unknown s)) (refused Unusable s)
