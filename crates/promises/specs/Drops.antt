-- A transaction dropped, in a running session: a reader, a truncate or an append. Assumes nothing.
use Rattle.std.specs.Prelude.{◌≡◌, refl, ◌⊎◌, Bool, true, false, cond, List, ℕ, ◌<◌, eqb, length, Some}
use Rattle.std.proofs.Common.{sym, ◌∙◌, inl, inr, true≢false, arith, eqb-true}
use Rattle.std.proofs.Math.Path.{ap}
use Rattle.octets.specs.Cases.{picked, order}
use Rattle.answers.specs.Answers.{code_of}
use Rattle.session.specs.MeaningLaws.{is_open}
use Rattle.session.specs.declared.transactions.Kind.{Kind}
use Rattle.session.specs.declared.transactions.Kind.TheVariants as Kinds
use Rattle.layout.specs.Session.{kind_word}
use Rattle.session.specs.Rows.{kind_for, transaction_of, find_transaction}
use Rattle.rolling_tape.specs.Removal.{areas}
use Rattle.beginning.specs.Laws.{refusal-some}
use Rattle.beginning.specs.Transactions.{After}
use Rattle.ending.specs.Dropping.{drop_transaction_call}
use Rattle.ending.specs.DropLaws.{drop-cases}
use Rattle.lives.specs.Life as L
use Rattle.lives.specs.Told.{Told}
use Rattle.lives.specs.Invariant.{Phys, Good, build}
use Rattle.seen.specs.Orderly.{Orderly}
use Rattle.seen.specs.Seen.{Seen, Handled}
use Rattle.seen.specs.Starts.{CutStarts}
use Rattle.seen.specs.Begins.{open-kind}
use Rattle.ended.specs.Closes.{drop-reader-orderly, drop-reader-handled, drop-reader-told, drop-reader-seen, drop-truncate-orderly, drop-truncate-handled, drop-truncate-told, drop-truncate-seen}
use Rattle.ended.specs.CloseStarts.{drop-reader-starts, drop-truncate-starts}
use Rattle.ended.specs.DropLeaves.{drop-append-orderly}
use Rattle.ended.specs.Drops.{drop-append-starts, drop-append-answer, drop-append-seen, drop-append-handles}
use Rattle.promises.specs.Told.{tell_as, calls}
use Rattle.promises.specs.Holds.{Holds, moved}
use Rattle.promises.specs.Standing.{Lore, Running}
use Rattle.seen.specs.Transactions.{HasPlace, found-transaction}

-- the areas have followed, of every tape; a tape that the dropped append had made has no handle any more
record Dropped (d s u : List ℕ) (k : ℕ) : Type 0 where
  orderly : Orderly d u
  starts : CutStarts u
  seen : (n : List ℕ) → 0 < length n → (t : Told) (p : Phys) → Good t p → Seen d s n (build t p) → Seen d u n (L.step (L.drop' k) (build t p)).store
  answer : (n : List ℕ) → 0 < length n → (t : Told) (p : Phys) → Good t p → Seen d s n (build t p) → (L.step (L.drop' k) (build t p)).answer ≡ L.Done 0
  handled : (n : List ℕ) → 0 < length n → (t : Told) (p : Phys) → Seen d s n (build t p) → (handle entry : ℕ) → Handled s n handle entry → Handled u n handle entry ⊎ Handled u n 0 entry

dropped-runs : (d s u : List ℕ) (k v : ℕ) (K : Lore) → Running (areas d s) K → Dropped d s u k → Running (areas d u) (λ n. tell_as (K n) v (calls (L.drop' k)))
dropped-runs d s u k v K r c = record { orderly = c.orderly; starts = c.starts; holds = λ n long. by n long (c.handled n long (K n).tape (r.holds n long).phys (r.holds n long).seen (K n).handle (K n).entry (r.holds n long).handled) }
  where
    -- its handle is then this one: as before, or none
    with-handle : (n : List ℕ) → 0 < length n → (handle : ℕ) → Handled u n handle (K n).entry → ((handle ≡ (K n).handle) × ((K n).entry ≡ (K n).entry)) ⊎ (handle ≡ 0)
        → Holds n (areas d u) (tell_as (K n) v (calls (L.drop' k)))
    with-handle n long handle its which =
        let h = r.holds n long in
        let x = K n in
        moved n (areas d s) (areas d u) x (L.drop' k) v h
        (record {
          w = 0;
          answer = c.answer n long x.tape h.phys h.good h.seen;
          seen = c.seen n long x.tape h.phys h.good h.seen;
          handle = handle;
          entry = x.entry;
          handled = its;
          which = which;
          says = refl;
          last = refl;
        })

    by : (n : List ℕ) → 0 < length n → Handled u n (K n).handle (K n).entry ⊎ Handled u n 0 (K n).entry → Holds n (areas d u) (tell_as (K n) v (calls (L.drop' k)))
    by n long (inl its) = with-handle n long (K n).handle its (inl (refl, refl))
    by n long (inr its) = with-handle n long 0 its (inr refl)

-- a kind that reads as a reader's is written as one
pub reader-word : (w : ℕ) → kind_for w ≡ Kinds.Reader → w ≡ 1
reader-word w =
    picked (λ (x : Kind). x ≡ Kinds.Reader → w ≡ 1) (eqb w 0) Kinds.Closed (cond (eqb w 1) Kinds.Reader (cond (eqb w 2) Kinds.Append Kinds.Truncate)) (λ e z. absurd (let q : ◌≡◌ {A = ℕ} 0 1 = cc in omega arith))
    (λ e.
    picked (λ (x : Kind). x ≡ Kinds.Reader → w ≡ 1) (eqb w 1) Kinds.Reader (cond (eqb w 2) Kinds.Append Kinds.Truncate) (λ q z. eqb-true w 1 q)
    (λ q.
    picked (λ (x : Kind). x ≡ Kinds.Reader → w ≡ 1) (eqb w 2) Kinds.Append Kinds.Truncate (λ a z. absurd (let q : ◌≡◌ {A = ℕ} 0 1 = cc in omega arith))
    (λ a z. absurd (let q : ◌≡◌ {A = ℕ} 0 1 = cc in omega arith))))

either : (s n : List ℕ) (b : Bool) (handle entry : ℕ) → Handled s n (cond b handle 0) entry → Handled s n handle entry ⊎ Handled s n 0 entry
either s n true handle entry h = inl h
either s n false handle entry h = inr h

module _ (d s : List ℕ) (k : ℕ) (K : Lore) (r : Running (areas d s) K) (served : code_of (drop_transaction_call d s k).answer ≡ 0) where
  abbrev u : List ℕ
  u = (drop_transaction_call d s k).session

  finds : HasPlace s k
  finds =
      drop-cases (λ (a : After). code_of a.answer ≡ 0 → HasPlace s k) d s k (λ why e. absurd (refusal-some why e)) (λ t ok found e. record { place = t; found = found }) served

  of_reader : (t : ℕ) → find_transaction s k ≡ Some t → t < 16 → Dropped d s u k
  of_reader t found low =
      let o = r.orderly in
      record {
        orderly = drop-reader-orderly d s o k t found low;
        starts = drop-reader-starts d s o k t found low r.starts;
        seen = λ n long x p good seen. drop-reader-seen d s o k t found low n (build x p) seen;
        answer = λ n long x p good seen. drop-reader-told d s o k t found low n (build x p) seen;
        handled = λ n long x p seen handle entry h. inl (drop-reader-handled d s o k t found low n handle entry h);
      }

  of-truncate : find_transaction s k ≡ Some 16 → (transaction_of s 16).kind ≡ Kinds.Truncate → Dropped d s u k
  of-truncate found kind =
      let o = r.orderly in
      record {
        orderly = drop-truncate-orderly d s o k found kind;
        starts = drop-truncate-starts d s o k found kind;
        seen = λ n long x p good seen. drop-truncate-seen d s o k found kind n x p good seen;
        answer = λ n long x p good seen. drop-truncate-told d s o k found kind n (build x p) seen;
        handled = λ n long x p seen handle entry h. inl (drop-truncate-handled d s o k found kind n handle entry h);
      }

  of-append : find_transaction s k ≡ Some 16 → (transaction_of s 16).kind ≡ Kinds.Append → Dropped d s u k
  of-append found kind =
      let o = r.orderly in
      record {
        orderly = drop-append-orderly d s o k found kind;
        starts = drop-append-starts d s o k found kind;
        seen = λ n long x p good seen. drop-append-seen d s o k found kind n long (build x p) seen;
        answer = λ n long x p good seen. drop-append-answer d s o k found kind n long (build x p) seen;
        handled = λ n long x p seen handle entry h. either u n x.listed handle entry (drop-append-handles d s o k found kind n long (build x p) seen handle entry h);
      }

  -- the writer's place has an append or a truncate, if it is open
  of-writer : find_transaction s k ≡ Some 16 → (x : Kind) → (transaction_of s 16).kind ≡ x → Dropped d s u k
  unfolding transaction_of
  of-writer found Kinds.Closed kind = absurd (true≢false (sym (found-transaction s k 16 found).opened ∙ open-kind s 16 ∙ ap is_open kind))
  of-writer found Kinds.Reader kind = absurd (r.orderly.session.writer-apart (reader-word (kind_word s 16) kind))
  of-writer found Kinds.Append kind = of-append found kind
  of-writer found Kinds.Truncate kind = of-truncate found kind

  of-place : (t : ℕ) → find_transaction s k ≡ Some t → Dropped d s u k
  of-place t found =
      order t 16
      (λ (low : t < 16). of_reader t found low)
      (λ high.
      let at : t ≡ 16 = omega (arith, (found-transaction s k t found).low) in
      of-writer (found ∙ ap Some at) (transaction_of s 16).kind refl)

  pub drop-transaction-runs : (v : ℕ) → Running (areas d u) (λ n. tell_as (K n) v (calls (L.drop' k)))
  drop-transaction-runs v = dropped-runs d s u k v K r (of-place finds.place finds.found)
