-- The last entry read and, if there is one, cut off, in a truncate. "Pop answers none for an absent or empty tape or an entry below start." Assumes nothing.
use Rattle.std.specs.Prelude.{cond, List, ℕ, ◌*◌, ◌/◌, ◌-◌, eqb, Option, Some, None, Ok, Err}
use Rattle.answers.specs.Outcome.{Popping, popping, refused_pop}
use Rattle.answers.specs.Answers.{Answer}
use Rattle.answers.specs.declared.Refusal.TheVariants.{Unusable, Unknown}
use Rattle.layout.specs.Session.{entry_size_of}
use Rattle.session.specs.Rows.{find_handle}
use Rattle.beginning.specs.Transactions.{usable}
use Rattle.staging.specs.Seeing.{cuts, seen_by}
use Rattle.staging.specs.Cutting.{cut_to}
use Rattle.entries.specs.Reads.{none_for, read_on}

-- the entry of index i was read, and is cut off
abbrev pub cut_at : List ℕ → ℕ → ℕ → List ℕ → Answer → Popping
cut_at s p i buffer (Ok n) = popping (Ok (Some i)) (cut_to s p (i * entry_size_of s p)) buffer
cut_at s p i buffer (Err why) = popping (none_for why) s buffer

unfoldable pub pop_at : List ℕ → List ℕ → ℕ → ℕ → List ℕ → Popping
pop_at d s p i out = cut_at s p i (read_on d s 16 p i 1 out).buffer (read_on d s 16 p i 1 out).answer

unfoldable pub pop_on : List ℕ → List ℕ → ℕ → List ℕ → Popping
pop_on d s p out =
    cond (seen_by s 16 p).listed
    (cond (eqb ((seen_by s 16 p).len / entry_size_of s p) 0) (popping (Ok None) s out) (pop_at d s p ((seen_by s 16 p).len / entry_size_of s p - 1) out))
    (popping (Ok None) s out)

abbrev pub pop_in : List ℕ → List ℕ → List ℕ → Option ℕ → Popping
pop_in d s out (Some p) = pop_on d s p out
pop_in d s out None = refused_pop Unknown s out

unfoldable pub pop_call : List ℕ → List ℕ → ℕ → ℕ → List ℕ → Popping
pop_call d s t h out =
    cond (usable d s) (cond (cuts s t) (pop_in d s out (find_handle s h)) (refused_pop Unknown s out)) (refused_pop Unusable s out)
