-- Whether an append sees a tape of a name: one of its view, or one that it has made. Assumes nothing.
use Rattle.std.specs.Prelude.{Bool, false, cond, ◌&&◌, List, ℕ, Option, Some, None, Ok, Err}
use Rattle.answers.specs.Answers.{Answer}
use Rattle.answers.specs.declared.Refusal.TheVariants.{Unusable, Unknown}
use Rattle.metadata.specs.Name.{name_rule}
use Rattle.layout.specs.Names.{find_name}
use Rattle.layout.specs.Session.{names_at}
use Rattle.beginning.specs.Transactions.{usable}
use Rattle.staging.specs.Seeing.{writes, seen_by}

abbrev pub listed_at : List ℕ → Option ℕ → Bool
listed_at s (Some p) = (seen_by s 16 p).listed
listed_at s None = false

-- a free place has the empty name, which no tape has
unfoldable pub sees : List ℕ → List ℕ → Bool
sees s wanted = name_rule wanted && listed_at s (find_name s names_at wanted)

unfoldable pub exists_call : List ℕ → List ℕ → ℕ → List ℕ → Answer
exists_call d s t wanted =
    cond (usable d s) (cond (writes s t) (Ok (cond (sees s wanted) 1 0)) (Err Unknown)) (Err Unusable)
