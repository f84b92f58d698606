-- An append waits for older readers here exactly where it waits for them there: 4 with their number on both sides, and what is served here is served there
-- too. Assumes nothing.
use Rattle.std.proofs.Math.Path.{◌≡◌, ap}
use Rattle.std.specs.Prelude.{refl, ◌≢◌, Bool, false, cond, ◌&&◌, List, ℕ, ◌<◌, eqb, Err}
use Rattle.std.proofs.Common.{sym, ◌∙◌, true≢false, arith, lt-ltb, eqb-true}
use Rattle.std.proofs.Math.Bool.{true}
use Rattle.std.proofs.Math.Dec.{ltb}
use Rattle.octets.specs.Cases.{decide, order, equal}
use Rattle.answers.specs.Answers.{code_of}
use Rattle.answers.specs.declared.Refusal.TheVariants.{Wait}
use Rattle.components.specs.Epochs.{older}
use Rattle.layout.specs.Session.{kind_word, Begun}
use Rattle.session.specs.declared.transactions.Kind.{Kind}
use Rattle.session.specs.declared.transactions.Kind.TheVariants.{Closed, Reader, Append, Truncate}
use Rattle.session.specs.declared.views.View.{View}
use Rattle.session.specs.MeaningLaws.{is_open}
use Rattle.session.specs.Rows.{head_of, kind_for, transaction_of}
use Rattle.beginning.specs.Transactions.{After, usable, is_open_at, begin_at}
use Rattle.beginning.specs.Calls.{waits, append_call}
use Rattle.beginning.specs.Ways.{usable-begun, numbers-out, begins-at, append-unusable, append-open, append-uncut, append-waits, append-alone}
use Rattle.lives.specs.Life.{Writer, Store, step, step_append, epochs}
use Rattle.lives.specs.Life as L
use Rattle.seen.specs.Seen.{writer_as, Seen}
use Rattle.seen.specs.Begins.{open-kind, next_done, seen-idle, seen-waiting, waiting-same}

-- ---- 4 there is 4 here

-- a transaction that begins or not: never 4
begin-other : (s : List ℕ) (t : ℕ) (k : Kind) → code_of (begin_at s t k).answer ≢ 4
begin-other s t k e =
    equal (head_of s).last_transaction 0xffff_ffff_ffff_ffff
    (λ h. let z : code_of (begin_at s t k).answer ≡ 18 = ap (λ (a : After). code_of a.answer) (numbers-out s t k h) in omega arith)
    (λ h. let z : code_of (begin_at s t k).answer ≡ 0 = ap (λ (a : After). code_of a.answer) (begins-at s t k h) in omega arith)

-- what holds where it is told to wait
record Waiting (s : List ℕ) (v : ℕ) : Type 0 where
  free : is_open_at s 16 ≡ false
  cut : (head_of s).cut ≡ true
  some : 0 < waits s
  number : waits s ≡ v

waiting : (d s : List ℕ) (v : ℕ) → (append_call d s).answer ≡ Err (Wait v) → Waiting s v
waiting d s v e =
    let clash : (a : After) → append_call d s ≡ a → code_of a.answer ≢ 4 → Waiting s v
    = λ a q other. absurd (other (ap (λ (x : After). code_of x.answer) (sym q) ∙ ap code_of e)) in
    decide (usable d s)
    (λ ok.
    decide (is_open_at s 16)
    (λ f. clash _ (append-open d s ok f) (λ z. omega arith))
    (λ f.
    decide (head_of s).cut
    (λ c.
    order 0 (waits s)
    (λ l.
    let q : (append_call d s).answer ≡ Err (Wait (waits s)) = ap (λ (x : After). x.answer) (append-waits d s ok f c l) in
    record { free = f; cut = c; some = l; number = cc })
    (λ l. clash _ (append-alone d s ok f c l) (begin-other s 16 Append)))
    (λ c. clash _ (append-uncut d s ok f c) (begin-other s 16 Append))))
    (λ bad. clash _ (append-unusable d s bad) (λ z. omega arith))

module _ (d s n : List ℕ) (st : Store) (seen : Seen d s n st) where
  pub wait-told : (v : ℕ) → (append_call d s).answer ≡ Err (Wait v) → (step L.append st).answer ≡ L.Refused 4 v
  unfolding step
  wait-told v e =
      let w = waiting d s v e in
      let yes : (st.cut && ltb 0 (older st.epoch (epochs st.readers))) ≡ true = waiting-same d s n st seen ∙ rw w.cut (lt-ltb 0 (waits s) w.some) in
      ap (λ (x : Writer). (step_append st x).answer) (seen-idle d s n st seen w.free) ∙ rw yes (ap (L.Refused 4) (seen-waiting d s n st seen ∙ w.number))

-- ---- served here is served there

-- a kind that the writer's place never has
reader-code : (w : ℕ) → kind_for w ≡ Reader → w ≡ 1
reader-code w e = decide (eqb w 1) (λ t. eqb-true w 1 t) (λ f. absurd (by (eqb w 0) (eqb w 1) (eqb w 2) f e))
  where
    by : (a b c : Bool) → b ≡ false → cond a Closed (cond b Reader (cond c Append Truncate)) ≡ Reader → ⊥
    by true b c f q = let z : ◌≡◌ {A = ℕ} 0 1 = cc in omega arith
    by false true c f q = true≢false f
    by false false true f q = let z : ◌≡◌ {A = ℕ} 0 1 = cc in omega arith
    by false false false f q = let z : ◌≡◌ {A = ℕ} 0 1 = cc in omega arith

idle-kind : (k : Kind) (number epoch : ℕ) (v : View) → writer_as k number epoch v ≡ L.idle → k ≢ Reader → is_open k ≡ false
idle-kind Closed number epoch v e d = refl
idle-kind Reader number epoch v e d = absurd (d refl)
idle-kind Append number epoch v e d = let z : ◌≡◌ {A = ℕ} 0 1 = cc in absurd (omega arith)
idle-kind Truncate number epoch v e d = let z : ◌≡◌ {A = ℕ} 0 1 = cc in absurd (omega arith)

word-kind : (s : List ℕ) → (transaction_of s 16).kind ≡ kind_for (kind_word s 16)
unfolding transaction_of
word-kind s = refl

served-idle : (st : Store) (w : Writer) (v : ℕ) → (step_append st w).answer ≡ L.Done v → w ≡ L.idle
served-idle st L.idle v e = refl
served-idle st (L.appending m b h l x) v e = let z : ◌≡◌ {A = ℕ} 0 1 = cc in absurd (omega arith)
served-idle st (L.cutting m l) v e = let z : ◌≡◌ {A = ℕ} 0 1 = cc in absurd (omega arith)

module _ (d s n : List ℕ) (st : Store) (seen : Seen d s n st) where
  -- no writer here, no writer there
  pub idle-seen : Begun s → st.writer ≡ L.idle → is_open_at s 16 ≡ false
  idle-seen begun e =
      open-kind s 16
      ∙ idle-kind (transaction_of s 16).kind _ _ _ (seen.writer ∙ e) (λ q. begun.writer-apart (reader-code (kind_word s 16) (sym (word-kind s) ∙ q)))

  pub append-serves : usable d s ≡ true → (head_of s).last_transaction ≢ 0xffff_ffff_ffff_ffff → (v : ℕ) → (step L.append st).answer ≡ L.Done v
      → (append_call d s).answer ≡ next_done s
  unfolding step
  append-serves ok more v e =
      let idle : st.writer ≡ L.idle = served-idle st st.writer v e in
      let free = idle-seen (usable-begun d s ok) idle in
      let served : (step_append st L.idle).answer ≡ L.Done v = ap (λ (w : Writer). (step_append st w).answer) (sym idle) ∙ e in
      let begins : append_call d s ≡ begin_at s 16 Append → (append_call d s).answer ≡ next_done s
      = λ q. ap (λ (x : After). x.answer) (q ∙ begins-at s 16 Append more) in
      decide (head_of s).cut
      (λ c.
      order 0 (waits s)
      (λ l.
      let yes : (st.cut && ltb 0 (older st.epoch (epochs st.readers))) ≡ true = waiting-same d s n st seen ∙ rw c (lt-ltb 0 (waits s) l) in
      let refused = rw yes at served in
      let z : ◌≡◌ {A = ℕ} 0 1 = cc in
      absurd (omega arith))
      (λ l. begins (append-alone d s ok free c l)))
      (λ c. begins (append-uncut d s ok free c))
