-- Transactions begun, in a running session. Assumes nothing.
use Rattle.std.specs.Prelude.{◌≡◌, refl, false, List, ℕ, ◌+◌}
use Rattle.std.proofs.Common.{sym, ap, ◌∙◌, inl, true≢false, arith}
use Rattle.answers.specs.Answers.{code_of, value_of}
use Rattle.session.specs.declared.tape_rows.Staged.{Staged}
use Rattle.session.specs.declared.transactions.Kind.{Kind}
use Rattle.session.specs.declared.transactions.Kind.TheVariants as K
use Rattle.session.specs.declared.transactions.Transaction.{Transaction}
use Rattle.session.specs.Rows.{head_of, transaction_of}
use Rattle.rolling_tape.specs.Removal.{areas}
use Rattle.beginning.specs.Calls.{reader_call, append_call, truncate_call}
use Rattle.beginning.specs.Laws.{refusal-some, reader-cases, truncate-cases}
use Rattle.beginning.proofs.Laws.{append_cases}
use Rattle.staging.specs.Seeing.{is_truncate}
use Rattle.lives.specs.Life as L
use Rattle.lives.specs.Invariant.{build}
use Rattle.seen.specs.Orderly.{Orderly}
use Rattle.seen.specs.Seen.{Seen, Handled}
use Rattle.seen.specs.Starts.{CutStarts}
use Rattle.seen.specs.Begins.{reader-orderly, append-orderly, truncate-orderly, reader-seen, append-seen, truncate-seen, reader-handled, append-handled, truncate-handled, reader-done, append-done, truncate-done, reader-told, append-told, truncate-told, begins-rows}
use Rattle.promises.specs.Told.{tell_as, calls}
use Rattle.promises.specs.Holds.{moved}
use Rattle.promises.specs.Standing.{Lore, Running}

-- a call for all tapes, whose own answer is the same number here and there
pub record Begun (d s u : List ℕ) (c : L.TapeCall) (v : ℕ) : Type 0 where
  pub orderly : Orderly d u
  pub starts : CutStarts u
  pub seen : (n : List ℕ) (st : L.Store) → Seen d s n st → Seen d u n (L.step c st).store
  pub answer : (n : List ℕ) (st : L.Store) → Seen d s n st → (L.step c st).answer ≡ L.Done v
  pub handled : (n : List ℕ) (handle entry : ℕ) → Handled s n handle entry → Handled u n handle entry

pub begun-runs : (d s u : List ℕ) (K : Lore) (c : L.TapeCall) (v : ℕ) → Running (areas d s) K → Begun d s u c v → Running (areas d u) (λ n. tell_as (K n) v (calls c))
begun-runs d s u K c v r b =
    record {
      orderly = b.orderly;
      starts = b.starts;
      holds = λ n long.
          let h = r.holds n long in
          let k = K n in
          let st = build k.tape h.phys in
          moved n (areas d s) (areas d u) k c v h
          (record {
            w = v;
            answer = b.answer n st h.seen;
            seen = b.seen n st h.seen;
            handle = k.handle;
            entry = k.entry;
            handled = b.handled n k.handle k.entry h.handled;
            which = inl (refl, refl);
            says = refl;
            last = refl;
          });
    }

-- ---- the start that a truncate has staged

truncate-not : (u : List ℕ) (k : Kind) → (transaction_of u 16).kind ≡ k → is_truncate k ≡ false → CutStarts u
truncate-not u k e n t p low touched = absurd (true≢false (sym t ∙ ap is_truncate e ∙ n))

module _ (d s : List ℕ) (o : Orderly d s) where
  abbrev next : ℕ
  next = (head_of s).last_transaction + 1

  reader-starts : CutStarts s → code_of (reader_call d s).answer ≡ 0 → CutStarts (reader_call d s).session
  reader-starts c =
      reader-cases (λ a. code_of a.answer ≡ 0 → CutStarts a.session) d s (λ why e. absurd (refusal-some why e))
      (λ t may low e q kind p small touched.
      let b = begins-rows s t K.Reader (omega arith) o.session o.session-bytes may.number in
      let same = b.others 16 (omega arith) (λ z. omega arith) in
      let rows = b.staged p small in
      rw (rows, b.views 16 p (omega arith) (λ z. omega arith) small) (c (rw same at kind) p small (rw rows at touched)))

  append-starts : code_of (append_call d s).answer ≡ 0 → CutStarts (append_call d s).session
  append-starts =
      append_cases (λ a. code_of a.answer ≡ 0 → CutStarts a.session) d s (λ why e. absurd (refusal-some why e))
      (λ may alone q.
      let b = begins-rows s 16 K.Append (omega arith) o.session o.session-bytes may.number in
      truncate-not _ K.Append (ap (λ (r : Transaction). r.kind) b.own) refl)

  truncate-starts : code_of (truncate_call d s).answer ≡ 0 → CutStarts (truncate_call d s).session
  truncate-starts =
      truncate-cases (λ a. code_of a.answer ≡ 0 → CutStarts a.session) d s (λ why e. absurd (refusal-some why e))
      (λ may q kind p small touched.
      let b = begins-rows s 16 K.Truncate (omega arith) o.session o.session-bytes may.number in
      absurd (true≢false (sym touched ∙ ap (λ (x : Staged). x.touched) (b.staged p small) ∙ o.idle-untouched may.free p small)))

module _ (d s : List ℕ) (K : Lore) (r : Running (areas d s) K) where
  pub reader-runs : code_of (reader_call d s).answer ≡ 0 → Running (areas d (reader_call d s).session) (λ n. tell_as (K n) (value_of (reader_call d s).answer) (calls L.reader))
  reader-runs served =
      let o = r.orderly in
      let v : value_of (reader_call d s).answer ≡ next d s o = ap value_of (reader-done d s served) in
      begun-runs d s _ K L.reader _ r
      (record {
        orderly = reader-orderly d s o served;
        starts = reader-starts d s o r.starts served;
        seen = λ n st seen. reader-seen d s o n st seen served;
        answer = λ n st seen. reader-told d s n st seen ∙ ap L.Done (sym v);
        handled = λ n handle entry h. reader-handled d s o n handle entry h;
      })

  pub append-runs : code_of (append_call d s).answer ≡ 0 → Running (areas d (append_call d s).session) (λ n. tell_as (K n) (value_of (append_call d s).answer) (calls L.append))
  append-runs served =
      let o = r.orderly in
      let v : value_of (append_call d s).answer ≡ next d s o = ap value_of (append-done d s served) in
      begun-runs d s _ K L.append _ r
      (record {
        orderly = append-orderly d s o served;
        starts = append-starts d s o served;
        seen = λ n st seen. append-seen d s o n st seen served;
        answer = λ n st seen. append-told d s n st seen served ∙ ap L.Done (sym v);
        handled = λ n handle entry h. append-handled d s o n handle entry h;
      })

  pub truncate-runs : code_of (truncate_call d s).answer ≡ 0 → Running (areas d (truncate_call d s).session) (λ n. tell_as (K n) (value_of (truncate_call d s).answer) (calls L.truncate))
  truncate-runs served =
      let o = r.orderly in
      let v : value_of (truncate_call d s).answer ≡ next d s o = ap value_of (truncate-done d s served) in
      begun-runs d s _ K L.truncate _ r
      (record {
        orderly = truncate-orderly d s o served;
        starts = truncate-starts d s o served;
        seen = λ n st seen. truncate-seen d s o n st seen served;
        answer = λ n st seen. truncate-told d s n st seen served ∙ ap L.Done (sym v);
        handled = λ n handle entry h. truncate-handled d s o n handle entry h;
      })
