-- A commit: what `Checking.antt` refuses, "and 15 last"; then data, list, record, removal. Assumes nothing.
use Rattle.std.specs.Prelude.{Bool, true, false, cond, List, ℕ, ◌+◌, Ok, Err}
use Rattle.answers.specs.Outcome.{Outcome, outcome, refused_at}
use Rattle.answers.specs.Answers.{Answer}
use Rattle.answers.specs.declared.Refusal.TheVariants.{Unusable, Unknown, NoSlot}
use Rattle.metadata.specs.declared.list.TapeList.{TapeList}
use Rattle.metadata.specs.Struct.{list_of}
use Rattle.session.specs.Rows.{head_of, transaction_of}
use Rattle.rolling_tape.specs.Removal.{Areas, areas}
use Rattle.beginning.specs.Transactions.{usable}
use Rattle.staging.specs.Seeing.{writes, cuts}
use Rattle.appending.specs.Room.{no_room}
use Rattle.ending.specs.Listing.{next_list}
use Rattle.ending.specs.Checking.{may_commit}
use Rattle.ending.specs.Oldest.{oldest_of}
use Rattle.ending.specs.Steps.{flush_all, publish_all, recorded, advanced, ripen_all, cut_all, close_writer}

-- ---- list and record, of both kinds

unfoldable pub stored : List ℕ → List ℕ → Bool → TapeList → Areas
stored d s cut list = areas (recorded d (publish_all cut s) list) (advanced cut (publish_all cut s))

-- ---- an append's

-- data, list and record
unfoldable pub stored_append : List ℕ → List ℕ → TapeList → Areas
stored_append d s list = stored (flush_all (areas d s)).disk (flush_all (areas d s)).session false list

-- marks and removal: the epoch at which the append began, and the oldest reader's, both from before the commit
unfoldable pub ripened_append : List ℕ → List ℕ → TapeList → Areas
ripened_append d s list = ripen_all (transaction_of s 16).epoch (oldest_of s) (stored_append d s list)

unfoldable pub appended : List ℕ → List ℕ → TapeList → Outcome
appended d s list =
    outcome (Ok ((head_of s).epoch + 1)) (ripened_append d s list).disk (close_writer (ripened_append d s list).session)

abbrev pub appended_if : List ℕ → List ℕ → TapeList → Answer → Outcome
appended_if d s list (Ok v) = cond (no_room d s 8 0) (refused_at NoSlot d s) (appended d s list)
appended_if d s list (Err why) = refused_at why d s

unfoldable pub commit_append : List ℕ → List ℕ → Outcome
commit_append d s = appended_if d s (list_of (next_list s false)) (may_commit d s false (list_of (next_list s false)))

-- ---- a truncate's

unfoldable pub truncated_by : List ℕ → List ℕ → TapeList → Outcome
truncated_by d s list =
    outcome (Ok ((head_of s).epoch + 1)) (stored d s true list).disk
    (close_writer (cut_all (stored d s true list).disk (stored d s true list).session))

abbrev pub truncated_if : List ℕ → List ℕ → TapeList → Answer → Outcome
truncated_if d s list (Ok v) = truncated_by d s list
truncated_if d s list (Err why) = refused_at why d s

unfoldable pub commit_truncate : List ℕ → List ℕ → Outcome
commit_truncate d s = truncated_if d s (list_of (next_list s true)) (may_commit d s true (list_of (next_list s true)))

unfoldable pub commit_call : List ℕ → List ℕ → ℕ → Outcome
commit_call d s t =
    cond (usable d s)
    (cond (writes s t) (commit_append d s) (cond (cuts s t) (commit_truncate d s) (refused_at Unknown d s)))
    (refused_at Unusable d s)
