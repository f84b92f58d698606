-- A law for each way out of a commit, and what a commit that is not refused has found. Assumes nothing.
use Rattle.std.specs.Prelude.{◌≡◌, ◌≢◌, Bool, ◌&&◌, List, ℕ, ◌+◌, ◌<◌, ◌^◌, eqb, Ok, Err}
use Rattle.std.proofs.Common.{sym, arith}
use Rattle.std.proofs.Math.Bool.{true, false}
use Rattle.std.proofs.lemmas.Bool.{eqb-false}
use Rattle.octets.specs.Cases.{picked, and_l, and_r}
use Rattle.octets.specs.Number.{Bytes, num_at-lt}
use Rattle.answers.specs.Outcome.{outcome, refused_at}
use Rattle.answers.specs.Answers.{Answer}
use Rattle.answers.specs.declared.Refusal.{Refusal}
use Rattle.answers.specs.declared.Refusal.TheVariants.{Unusable, Unknown, NoSlot}
use Rattle.metadata.specs.declared.list.TapeList.{TapeList}
use Rattle.metadata.specs.Struct.{list_of, storable}
use Rattle.session.specs.Rows.{head_of}
use Rattle.rolling_tape.specs.Removal.{areas}
use Rattle.beginning.specs.Transactions.{usable}
use Rattle.staging.specs.Seeing.{writes, cuts}
use Rattle.appending.specs.Room.{no_room}
use Rattle.ending.specs.Listing.{next_list}
use Rattle.ending.specs.Checking.{all_there, is_whole, may_commit}
use Rattle.ending.specs.Steps.{cut_all, close_writer}
use Rattle.ending.specs.Committing.{stored, ripened_append, appended, commit_append, truncated_by, commit_truncate, commit_call}

-- ---- a list that may be committed

pub record Storing (d s : List ℕ) (cut : Bool) (list : TapeList) (v : ℕ) : Type 0 where
  pub whole : is_whole s cut list ≡ true
  pub good : storable list ≡ true
  pub more : (head_of s).epoch ≢ 0xffff_ffff_ffff_ffff
  pub there : all_there d s ≡ true
  pub epoch : v ≡ (head_of s).epoch + 1

no_answer : {why : Refusal} {v : ℕ} → Err why ≡ Ok v → ⊥
no_answer e = let z : ◌≡◌ {A = ℕ} 0 1 = cc in omega arith

pub may-done : (d s : List ℕ) (cut : Bool) (list : TapeList) (v : ℕ) → may_commit d s cut list ≡ Ok v → Storing d s cut list v
unfolding may_commit
may-done d s cut list v =
    let P : Answer → Type 0 = λ a. a ≡ Ok v → Storing d s cut list v in
    picked P (is_whole s cut list && storable list) _ _
    (λ ok.
    picked P (eqb (head_of s).epoch 0xffff_ffff_ffff_ffff) _ _ (λ last e. absurd (no_answer e))
    (λ more.
    picked P (all_there d s) _ _
    (λ there (e : Ok ((head_of s).epoch + 1) ≡ Ok v).
    let same : (head_of s).epoch + 1 ≡ v = cc in
    record {
      whole = and_l (is_whole s cut list) (storable list) ok;
      good = and_r (is_whole s cut list) (storable list) ok;
      more = eqb-false (head_of s).epoch 0xffff_ffff_ffff_ffff more;
      there = there;
      epoch = sym same;
    })
    (λ there e. absurd (no_answer e))))
    (λ ok e. absurd (no_answer e))

-- the next epoch fits a word
pub epoch-fits : (s : List ℕ) → Bytes s → (head_of s).epoch ≢ 0xffff_ffff_ffff_ffff → (head_of s).epoch + 1 < 2 ^ 64
unfolding head_of
epoch-fits s bytes more = omega (arith, num_at-lt 8 s 8 bytes, more)

-- ---- an append

module _ (d s : List ℕ) (list : TapeList) (is : list ≡ list_of (next_list s false)) where
  pub append-refused : (why : Refusal) → may_commit d s false list ≡ Err why → commit_append d s ≡ refused_at why d s
  unfolding commit_append
  append-refused why e = rw (← is, e)

  module _ (v : ℕ) (e : may_commit d s false list ≡ Ok v) where
    pub append-full : no_room d s 8 0 ≡ true → commit_append d s ≡ refused_at NoSlot d s
    unfolding commit_append
    append-full full = rw (← is, e, full)

    pub append-served : no_room d s 8 0 ≡ false → commit_append d s ≡ appended d s list
    unfolding commit_append
    append-served room = rw (← is, e, room)

    -- what the two steps leave
    pub append-made : (t u v' : List ℕ) → ripened_append d s list ≡ areas t u → v' ≡ close_writer u → appended d s list ≡ outcome (Ok v) t v'
    unfolding appended
    append-made t u v' ripened closed = rw ((may-done d s false list v e).epoch, ripened, closed)

-- ---- a truncate

module _ (d s : List ℕ) (list : TapeList) (is : list ≡ list_of (next_list s true)) where
  pub truncate-refused : (why : Refusal) → may_commit d s true list ≡ Err why → commit_truncate d s ≡ refused_at why d s
  unfolding commit_truncate
  truncate-refused why e = rw (← is, e)

  module _ (v : ℕ) (e : may_commit d s true list ≡ Ok v) where
    pub truncate-served : commit_truncate d s ≡ truncated_by d s list
    unfolding commit_truncate
    truncate-served = rw (← is, e)

    -- what the three steps leave
    pub truncate-made : (t u w x : List ℕ) → stored d s true list ≡ areas t u → w ≡ cut_all t u → x ≡ close_writer w → truncated_by d s list ≡ outcome (Ok v) t x
    unfolding truncated_by
    truncate-made t u w x store cut closed = rw ((may-done d s true list v e).epoch, store, closed, cut)

-- ---- the call

module _ (d s : List ℕ) (t : ℕ) where
  pub commit-unusable : usable d s ≡ false → commit_call d s t ≡ refused_at Unusable d s
  unfolding commit_call
  commit-unusable e = rw e

  module _ (ok : usable d s ≡ true) where
    pub commit-appends : writes s t ≡ true → commit_call d s t ≡ commit_append d s
    unfolding commit_call
    commit-appends w = rw (ok, w)

    module _ (w : writes s t ≡ false) where
      pub commit-truncates : cuts s t ≡ true → commit_call d s t ≡ commit_truncate d s
      unfolding commit_call
      commit-truncates c = rw (ok, w, c)

      pub commit-unknown : cuts s t ≡ false → commit_call d s t ≡ refused_at Unknown d s
      unfolding commit_call
      commit-unknown c = rw (ok, w, c)
