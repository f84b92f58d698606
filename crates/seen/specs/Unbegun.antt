-- Where no session was begun, every call but `format` and `store` is refused with 1 and changes no lent byte. Each law is over the whole outcome; of calls
-- that are lent an area to be read alone, the outcome does not name it. Assumes nothing.
use Rattle.std.specs.Prelude.{◌≡◌, false, List, ℕ, Some, Ok, Err}
use Rattle.std.proofs.Math.Path.{ap}
use Rattle.std.proofs.Common.{◌∙◌}
use Rattle.octets.specs.Cases.{decide}
use Rattle.answers.specs.Outcome.{Reading, refused_at, refused_read, entering, refused_pop}
use Rattle.answers.specs.declared.Refusal.TheVariants.{Unusable}
use Rattle.layout.specs.Disk as D
use Rattle.layout.specs.Session.{begun}
use Rattle.beginning.specs.Calls.{append_call, truncate_call, reader_call}
use Rattle.beginning.specs.Transactions.{refused, usable}
use Rattle.beginning.specs.Ways.{disk-unusable, by-session, append-unusable, truncate-unusable, reader-unusable}
use Rattle.staging.specs.Cutting.{cut_call, drop_call}
use Rattle.staging.specs.Seeing.{len_call, start_call}
use Rattle.staging.specs.Shifting.{shift_call}
use Rattle.staging.specs.Ways.{len-unusable, start-unusable, shift-unusable, cut-unusable}
use Rattle.staging.specs.Ways as Staging
use Rattle.appending.specs.Calls.{put_call}
use Rattle.appending.specs.CallWays.{call-unusable}
use Rattle.entries.specs.Existing.{exists_call}
use Rattle.entries.specs.Popping.{pop_call}
use Rattle.entries.specs.Reads.{one_of, read_call, entry_call}
use Rattle.entries.specs.Ways.{read-unusable, pop-unusable, exists-unusable}
use Rattle.opening.specs.Calls.{open_call}
use Rattle.opening.specs.CallWays.{open-unusable}
use Rattle.ending.specs.Committing.{commit_call}
use Rattle.ending.specs.CommitWays.{commit-unusable}
use Rattle.ending.specs.Dropping.{drop_transaction_call}
use Rattle.ending.specs.DropLaws as Dropping

module _ (d s : List ℕ) (ended : begun s ≡ false) where
  pub unusable : usable d s ≡ false
  unusable = decide (D.sound d) (λ ok. by-session d s ok ∙ ended) (λ bad. disk-unusable d s bad)

  -- ---- transactions

  pub append-unbegun : append_call d s ≡ refused Unusable s
  append-unbegun = append-unusable d s unusable

  pub truncate-unbegun : truncate_call d s ≡ refused Unusable s
  truncate-unbegun = truncate-unusable d s unusable

  pub reader-unbegun : reader_call d s ≡ refused Unusable s
  reader-unbegun = reader-unusable d s unusable

  module _ (t : ℕ) where
    pub commit-unbegun : commit_call d s t ≡ refused_at Unusable d s
    commit-unbegun = commit-unusable d s t unusable

    pub drop-transaction-unbegun : drop_transaction_call d s t ≡ refused Unusable s
    drop-transaction-unbegun = Dropping.drop-unusable d s t unusable

    pub open-unbegun : (wanted : List ℕ) (entry fs cache start : ℕ) → open_call d s t wanted entry fs cache start ≡ refused_at Unusable d s
    open-unbegun wanted entry fs cache start = open-unusable d s t wanted entry fs cache start unusable

    pub exists-unbegun : (wanted : List ℕ) → exists_call d s t wanted ≡ Err Unusable
    exists-unbegun wanted = exists-unusable d s t wanted unusable

    -- ---- calls on a handle

    module _ (h : ℕ) where
      pub put-unbegun : (bs : List ℕ) → put_call d s t h bs ≡ refused_at Unusable d s
      put-unbegun bs = call-unusable d s t h bs unusable

      pub shift-unbegun : (i : ℕ) → shift_call d s t h i ≡ refused Unusable s
      shift-unbegun i = shift-unusable d s t h i unusable

      pub cut-unbegun : (i : ℕ) → cut_call d s t h i ≡ refused Unusable s
      cut-unbegun i = cut-unusable d s t h i unusable

      pub drop-unbegun : (count : ℕ) → drop_call d s t h count ≡ refused Unusable s
      drop-unbegun count = Staging.drop-unusable d s t h count unusable

      pub len-unbegun : len_call d s t h ≡ Err Unusable
      len-unbegun = len-unusable d s t h unusable

      pub start-unbegun : start_call d s t h ≡ Err Unusable
      start-unbegun = start-unusable d s t h unusable

      pub pop-unbegun : (out : List ℕ) → pop_call d s t h out ≡ refused_pop Unusable s out
      pop-unbegun out = pop-unusable d s t h out unusable

      pub read-unbegun : (i n : ℕ) (out : List ℕ) → read_call d s t h i n out ≡ refused_read Unusable out
      read-unbegun i n out = read-unusable d s t h i n out unusable

      pub entry-unbegun : (i : ℕ) (out : List ℕ) → entry_call d s t h i out ≡ entering (Err Unusable) out
      unfolding entry_call
      entry-unbegun i out = ap (λ (r : Reading). entering (one_of i r.answer) r.buffer) (read-unbegun i 1 out)
