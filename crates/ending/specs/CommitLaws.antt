-- Laws of a commit: the contract leaves nothing open, a refused commit changes nothing, both areas keep their rules, lengths and bytes, and a commit
-- that is served raises the epoch by 1, answers it, and closes the writer's place. Assumes nothing.
use Rattle.std.specs.Prelude.{◌≡◌, ◌≢◌, Bool, List, ℕ, ◌+◌, ◌<◌, ◌^◌, length, Ok, Err}
use Rattle.std.proofs.Math.Path.{refl, ap}
use Rattle.std.proofs.Common.{sym, ◌∙◌, arith}
use Rattle.std.proofs.Math.Bool.{true, false}
use Rattle.octets.specs.Cases.{picked}
use Rattle.octets.specs.Number.{Bytes}
use Rattle.octets.specs.Only.{OnlyIn, only_then, only_wider}
use Rattle.answers.specs.Answers.{code_of}
use Rattle.answers.specs.Outcome.{Outcome, outcome, refused_at, Unchanged}
use Rattle.answers.specs.Answers.{Answer}
use Rattle.answers.specs.declared.Refusal.{Refusal}
use Rattle.answers.specs.declared.Refusal.TheVariants.{Unusable, Unknown, NoSlot}
use Rattle.metadata.specs.declared.list.TapeList.{TapeList}
use Rattle.metadata.specs.Struct.{list_of, storable}
use Rattle.layout.specs.Disk.{slots, Sound}
use Rattle.layout.specs.Session.{Begun}
use Rattle.session.specs.Rows.{head_of, transaction_of}
use Rattle.session.specs.RowLaws.{head-only}
use Rattle.session.specs.Meaning.{closed}
use Rattle.session.specs.declared.head.Head.{Head}
use Rattle.rolling_tape.specs.Removal.{Areas, areas}
use Rattle.beginning.specs.Laws.{both-unique, refusal-some}
use Rattle.beginning.specs.Transactions.{usable}
use Rattle.beginning.specs.Ways.{usable-begun, usable-disk, →usable}
use Rattle.staging.specs.Seeing.{writes, cuts}
use Rattle.appending.specs.Room.{no_room}
use Rattle.ending.specs.Listing.{next_list}
use Rattle.ending.specs.Checking.{may_commit}
use Rattle.ending.specs.Oldest.{oldest_of}
use Rattle.ending.specs.Steps.{flush_all, publish_all, ripen_all, cut_all, close_writer}
use Rattle.ending.specs.StepLaws.{next_head, Whole, whole-kept, kept-flush_all, head-flush_all, kept-ripen_all, only-publish_all, begun-publish_all, bytes-publish_all, head-publish_all, only-recorded, slots-recorded, sound-recorded, bytes-recorded, only-advanced, begun-advanced, bytes-advanced, head-advanced}
use Rattle.ending.specs.CutLaws.{only-cut_all, begun-cut_all, bytes-cut_all, only-close_writer, begun-close_writer, bytes-close_writer, head-close_writer, shut-close_writer}
use Rattle.ending.specs.Committing.{stored, stored_append, ripened_append, appended, appended_if, commit_append, truncated_by, truncated_if, commit_truncate, commit_call}
use Rattle.ending.specs.CommitWays.{Storing, may-done, epoch-fits}

-- ---- list and record

module _ (a : Areas) (cut : Bool) (list : TapeList) (ok : storable list ≡ true) where
  abbrev listed : List ℕ
  listed = publish_all cut a.session

  abbrev then : Areas
  then = stored a.disk a.session cut list

  pub only-stored-disk : OnlyIn 16 1312 a.disk then.disk
  unfolding stored
  only-stored-disk = only-recorded a.disk listed list ok

  pub only-stored : OnlyIn 8 3760 a.session then.session
  unfolding stored
  only-stored =
      only_then 8 3760 a.session listed _
      (only_wider _ _ 8 3760 a.session listed (omega arith) (omega arith) (only-publish_all cut a.session))
      (only_wider _ _ 8 3760 listed _ (omega arith) (omega arith) (only-advanced cut listed))

  pub slots-stored : slots then.disk ≡ slots a.disk
  unfolding stored
  slots-stored = slots-recorded a.disk listed list ok

  module _ (w : Whole a) where
    pub bytes-stored-disk : Bytes a.disk → Bytes then.disk
    unfolding stored
    bytes-stored-disk = bytes-recorded a.disk listed list ok w.sound

    listed-long : length listed ≡ length a.session
    listed-long = (only-publish_all cut a.session).long

    pub whole-stored : Whole then
    unfolding stored
    whole-stored =
        let long = w.begun.long in
        let same = listed-long in
        record {
          sound = sound-recorded a.disk listed list ok w.sound;
          begun = begun-advanced cut listed (begun-publish_all cut a.session w.begun);
          bytes = bytes-advanced cut listed (omega arith) (bytes-publish_all cut a.session long w.bytes);
        }

    pub head-stored : (head_of a.session).epoch + 1 < 2 ^ 64 → head_of then.session ≡ next_head cut (head_of a.session)
    unfolding stored
    head-stored more =
        let long = w.begun.long in
        let same = listed-long in
        let head = head-publish_all cut a.session in
        head-advanced cut listed (omega arith) (bytes-publish_all cut a.session long w.bytes) (rw head more) ∙ ap (next_head cut) head

    pub epoch-stored : (head_of a.session).epoch + 1 < 2 ^ 64 → (head_of then.session).epoch ≡ (head_of a.session).epoch + 1
    epoch-stored more = ap (λ (h : Head). h.epoch) (head-stored more)

-- ---- the areas that a served commit leaves

-- what they keep, and the epoch
pub record Committed (d s : List ℕ) (o : Outcome) : Type 0 where
  pub sound : Sound o.disk
  pub begun : Begun o.session
  pub slots_same : slots o.disk ≡ slots d
  pub long-disk : length o.disk ≡ length d
  pub long-session : length o.session ≡ length s
  pub bytes-session : Bytes o.session
  pub bytes-disk : Bytes d → Bytes o.disk
  pub answer : o.answer ≡ Ok ((head_of s).epoch + 1)
  pub epoch : (head_of o.session).epoch ≡ (head_of s).epoch + 1
  pub shut : transaction_of o.session 16 ≡ closed

module _ (d s : List ℕ) (w : Whole (areas d s)) (list : TapeList) (ok : storable list ≡ true) (more : (head_of s).epoch + 1 < 2 ^ 64) where
  abbrev start : Areas
  start = areas d s

  pub committed-append : Committed d s (appended d s list)
  unfolding appended ripened_append stored_append
  committed-append =
      let a = flush_all start in
      let k = kept-flush_all start w in
      let x = whole-kept start w a k in
      let head : head_of a.session ≡ head_of s = head-flush_all start w in
      let b = stored a.disk a.session false list in
      let y = whole-stored a false list ok x in
      let began = (transaction_of s 16).epoch in
      let r = ripen_all began (oldest_of s) b in
      let l = kept-ripen_all b y began (oldest_of s) in
      let z = whole-kept b y r l in
      let e = close_writer r.session in
      record {
        sound = z.sound;
        begun = begun-close_writer r.session z.begun;
        slots_same = l.slots_same ∙ slots-stored a false list ok ∙ k.slots_same;
        long-disk = l.long ∙ (only-stored-disk a false list ok).long ∙ k.long;
        long-session = (only-close_writer r.session).long ∙ l.only.long ∙ (only-stored a false list ok).long ∙ k.only.long;
        bytes-session = bytes-close_writer r.session z.begun.long z.bytes;
        bytes-disk = λ old. l.bytes-disk (bytes-stored-disk a false list ok x (k.bytes-disk old));
        answer = refl;
        epoch =
            ap (λ (h : Head). h.epoch) (head-close_writer r.session ∙ head-only 4936 5960 b.session r.session l.only (λ q. omega arith))
            ∙ epoch-stored a false list ok x (rw head more)
            ∙ rw head;
        shut = shut-close_writer r.session z.begun.long;
      }

  pub committed-truncate : Committed d s (truncated_by d s list)
  unfolding truncated_by
  committed-truncate =
      let b = stored d s true list in
      let y = whole-stored start true list ok w in
      let few = y.sound.head.few in
      let u = cut_all b.disk b.session in
      let only = only-cut_all b.disk few b.session in
      let begun = begun-cut_all b.disk few b.session y.begun in
      record {
        sound = y.sound;
        begun = begun-close_writer u begun;
        slots_same = slots-stored start true list ok;
        long-disk = (only-stored-disk start true list ok).long;
        long-session = (only-close_writer u).long ∙ only.long ∙ (only-stored start true list ok).long;
        bytes-session = bytes-close_writer u begun.long (bytes-cut_all b.disk few b.session y.begun.long y.bytes);
        bytes-disk = bytes-stored-disk start true list ok w;
        answer = refl;
        epoch =
            ap (λ (h : Head). h.epoch) (head-close_writer u ∙ head-only 4168 5960 b.session u only (λ q. omega arith))
            ∙ epoch-stored start true list ok w more;
        shut = shut-close_writer u begun.long;
      }

-- ---- the contract leaves nothing open

pub commit-unique : (d s : List ℕ) (t : ℕ) (r r' : Answer) (d₁ d₂ s₁ s₂ : List ℕ) → commit_call d s t ≡ outcome r d₁ s₁ → commit_call d s t ≡ outcome r' d₂ s₂
    → (r ≡ r') × ((d₁ ≡ d₂) × (s₁ ≡ s₂))
commit-unique d s t r r' d₁ d₂ s₁ s₂ e f = both-unique (sym e ∙ f)

-- ---- what holds of each way out holds of the call

-- the list that a commit publishes
abbrev pub the_list : List ℕ → Bool → TapeList
the_list s cut = list_of (next_list s cut)

module _ (P : Outcome → Type 0) (d s : List ℕ) (no : (why : Refusal) → P (refused_at why d s)) where
  append_cases : ((v : ℕ) → Storing d s false (the_list s false) v → no_room d s 8 0 ≡ false → P (appended d s (the_list s false))) → P (commit_append d s)
  unfolding commit_append
  append_cases goes = by (may_commit d s false (the_list s false)) refl
    where
      by : (a : Answer) → may_commit d s false (the_list s false) ≡ a → P (appended_if d s (the_list s false) a)
      by (Ok v) e = picked P (no_room d s 8 0) _ _ (λ full. no NoSlot) (λ room. goes v (may-done d s false _ v e) room)
      by (Err why) e = no why

  truncate-cases : ((v : ℕ) → Storing d s true (the_list s true) v → P (truncated_by d s (the_list s true))) → P (commit_truncate d s)
  unfolding commit_truncate
  truncate-cases goes = by (may_commit d s true (the_list s true)) refl
    where
      by : (a : Answer) → may_commit d s true (the_list s true) ≡ a → P (truncated_if d s (the_list s true) a)
      by (Ok v) e = goes v (may-done d s true _ v e)
      by (Err why) e = no why

  pub commit-cases : (t : ℕ) → (usable d s ≡ true → writes s t ≡ true → (v : ℕ) → Storing d s false (the_list s false) v → no_room d s 8 0 ≡ false → P (appended d s (the_list s false)))
      → (usable d s ≡ true → cuts s t ≡ true → (v : ℕ) → Storing d s true (the_list s true) v → P (truncated_by d s (the_list s true)))
      → P (commit_call d s t)
  unfolding commit_call
  commit-cases t append truncate =
      picked P (usable d s) _ _
      (λ ok.
      picked P (writes s t) _ _
      (λ w. append_cases (append ok w))
      (λ w. picked P (cuts s t) _ _ (λ c. truncate-cases (truncate ok c)) (λ c. no Unknown)))
      (λ ok. no Unusable)

-- ---- a refused commit changes no byte

module _ (d s : List ℕ) where
  appended-done : (list : TapeList) → Unchanged d s (appended d s list)
  unfolding appended
  appended-done list r = absurd (r refl)

  truncated-done : (list : TapeList) → Unchanged d s (truncated_by d s list)
  unfolding truncated_by
  truncated-done list r = absurd (r refl)

  pub commit-refused : (t : ℕ) → code_of (commit_call d s t).answer ≢ 0 → ((commit_call d s t).disk ≡ d) × ((commit_call d s t).session ≡ s)
  commit-refused t = commit-cases (Unchanged d s) d s (λ why r. (refl, refl)) t (λ ok w v g room. appended-done _) (λ ok c v g. truncated-done _)

-- ---- a served one, and what is kept by both

module _ (d s : List ℕ) (bytes : Bytes s) (t : ℕ) where
  pub at-start : usable d s ≡ true → Whole (areas d s)
  at-start ok = record { sound = usable-disk d s ok; begun = usable-begun d s ok; bytes = bytes }

  pub commit-either : (P : Outcome → Type 0) → ((why : Refusal) → P (refused_at why d s)) → ((o : Outcome) → Committed d s o → P o) → P (commit_call d s t)
  commit-either P refuses goes =
      commit-cases P d s refuses t
      (λ ok w v g room. goes _ (committed-append d s (at-start ok) _ g.good (epoch-fits s bytes g.more)))
      (λ ok c v g. goes _ (committed-truncate d s (at-start ok) _ g.good (epoch-fits s bytes g.more)))

  pub commit-served : code_of (commit_call d s t).answer ≡ 0 → Committed d s (commit_call d s t)
  commit-served =
      commit-either (λ (o : Outcome). code_of o.answer ≡ 0 → Committed d s o) (λ why e. absurd (refusal-some why e)) (λ o c e. c)

  -- "Every commit raises the epoch by 1", and answers it
  pub commit-epoch : code_of (commit_call d s t).answer ≡ 0
      → ((commit_call d s t).answer ≡ Ok ((head_of s).epoch + 1)) × ((head_of (commit_call d s t).session).epoch ≡ (head_of s).epoch + 1)
  commit-epoch e = let c = commit-served e in (c.answer, c.epoch)

  -- areas that are usable stay so
  pub commit-sound : usable d s ≡ true → usable (commit_call d s t).disk (commit_call d s t).session ≡ true
  commit-sound ok =
      commit-either (λ (o : Outcome). usable o.disk o.session ≡ true) (λ why. ok) (λ o c. →usable o.disk o.session c.sound c.begun)

  pub commit-slots : slots (commit_call d s t).disk ≡ slots d
  commit-slots = commit-either (λ (o : Outcome). slots o.disk ≡ slots d) (λ why. refl) (λ o c. c.slots_same)

  pub commit-lengths : (length (commit_call d s t).disk ≡ length d) × (length (commit_call d s t).session ≡ length s)
  commit-lengths =
      commit-either (λ (o : Outcome). (length o.disk ≡ length d) × (length o.session ≡ length s)) (λ why. (refl, refl)) (λ o c. (c.long-disk, c.long-session))

  pub commit-bytes : Bytes d → Bytes (commit_call d s t).disk × Bytes (commit_call d s t).session
  commit-bytes old =
      commit-either (λ (o : Outcome). Bytes o.disk × Bytes o.session) (λ why. (old, bytes)) (λ o c. (c.bytes-disk old, c.bytes-session))
