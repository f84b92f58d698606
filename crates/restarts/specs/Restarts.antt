-- After a commit and a `store` the session has the epoch and exactly the list that the commit published; no such store is refused for its list. Assumes
-- nothing.
use Rattle.std.specs.Prelude.{◌≡◌, Bool, true, List, ℕ, ◌+◌, Ok}
use Rattle.std.proofs.Common.{ap, ◌∙◌}
use Rattle.octets.specs.Number.{Bytes}
use Rattle.answers.specs.Answers.{code_of}
use Rattle.session.specs.BeginLaws.{list-started}
use Rattle.session.specs.Meaning.{session_of, list_in}
use Rattle.session.specs.Rows.{head_of}
use Rattle.beginning.specs.Sessions.{both_sound, start_with, store_call}
use Rattle.beginning.specs.StoreLaws.{store-means}
use Rattle.beginning.specs.Transactions.{After}
use Rattle.beginning.specs.Ways.{store-starts}
use Rattle.staging.specs.Seeing.{cuts}
use Rattle.ending.specs.CommitDurable.{Level, commit-durable}
use Rattle.ending.specs.Committing.{commit_call}
use Rattle.ending.specs.Listing.{next_list}
use Rattle.ending.specs.ListingLaws.{next-few}
use Rattle.ending.specs.Steps.{other_side}
use Rattle.restarts.specs.Level.{store-head}

-- a session that was begun on what a commit left: s is the session that was committed from, u the new one
pub record Restarted (s u : List ℕ) (cut : Bool) : Type 0 where
  pub epoch : (head_of u).epoch ≡ (head_of s).epoch + 1
  pub side : (head_of u).side ≡ other_side (head_of s).side
  pub list : list_in (session_of u) ≡ next_list s cut

-- a commit from areas that are level is served; area is whatever is then lent as the session
module _ (d s : List ℕ) (bytes : Bytes s) (t : ℕ) (served : code_of (commit_call d s t).answer ≡ 0) (level : Level d s) (area : List ℕ) where
  abbrev left : List ℕ
  left = (commit_call d s t).disk

  -- a store is served, if the areas keep their layout rules
  pub restart-served : both_sound left area ≡ true → (store_call left area).answer ≡ Ok ((head_of s).epoch + 1)
  restart-served ok =
      let says = (commit-durable d s bytes t served level).says in
      ap (λ (o : After). o.answer) (store-starts left area ok ∙ ap (start_with left area) says.1) ∙ ap Ok says.0

  pub restarted : Bytes left → code_of (store_call left area).answer ≡ 0 → Restarted s (store_call left area).session (cuts s t)
  restarted old stored =
      let r = commit-durable d s bytes t served level in
      let head = store-head left area old stored in
      record {
        epoch = rw head r.says.0;
        side = rw head r.next;
        list = ap list_in (store-means left area old (next_list s (cuts s t)) r.says.1 stored) ∙ list-started _ _ _ (next_list s (cuts s t)) (next-few s (cuts s t));
      }
