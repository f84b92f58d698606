-- Whether a commit is refused. "Commit: 18"; of damaged or mismatched areas alone "16 for a missing directory, after 18". A list that may not be stored,
-- which damaged memory alone has, is 1: no commit writes what no store would read. Assumes nothing.
use Rattle.std.specs.Prelude.{Bool, cond, not, ◌&&◌, ◌||◌, List, ℕ, ◌+◌, eqb, Ok, Err}
use Rattle.octets.specs.First.{all, count}
use Rattle.answers.specs.Answers.{Answer}
use Rattle.answers.specs.declared.Refusal.TheVariants.{Unusable, Missing, TooLarge}
use Rattle.metadata.specs.declared.list.TapeList.{TapeList}
use Rattle.metadata.specs.Struct.{storable}
use Rattle.session.specs.Rows.{head_of}
use Rattle.rolling_tape.specs.Room.{is_found}
use Rattle.staging.specs.Seeing.{directory_of}
use Rattle.ending.specs.Listing.{is_touched, published}

abbrev pub is_published : List ℕ → Bool → ℕ → Bool
is_published s cut p = (published s cut p).listed

-- each tape that was touched has its directory
abbrev pub has_directory : List ℕ → List ℕ → ℕ → Bool
has_directory d s p = not (is_touched s p) || is_found (directory_of d s p)

unfoldable pub all_there : List ℕ → List ℕ → Bool
all_there d s = all (has_directory d s) 8 0

-- the list has every tape that is published: it leaves doubles of a name, and places without one, which damaged memory alone has
unfoldable pub is_whole : List ℕ → Bool → TapeList → Bool
is_whole s cut list = eqb list.count (count (is_published s cut) 8 0)

unfoldable pub may_commit : List ℕ → List ℕ → Bool → TapeList → Answer
may_commit d s cut list =
    cond (is_whole s cut list && storable list)
    (cond (eqb (head_of s).epoch 0xffff_ffff_ffff_ffff) (Err TooLarge) (cond (all_there d s) (Ok ((head_of s).epoch + 1)) (Err Missing)))
    (Err Unusable)
