-- What a drop means. "Dropping a truncate changes nothing": the writer's place is closed and nothing is staged any more; a reader's place is closed, and
-- that is all. Assumes nothing.
use Rattle.std.specs.Prelude.{◌≡◌, refl, ◌≢◌, true, List, ℕ, ◌≤◌, ◌<◌, Some}
use Rattle.std.proofs.Common.{sym, ap, ◌∙◌, arith, ne_eqb}
use Rattle.std.proofs.Math.Path.{fun_ext}
use Rattle.octets.specs.Cases.{order, equal}
use Rattle.octets.specs.Sweep.{sweep, sweep-keeps, Rowwise, sweep-row}
use Rattle.octets.specs.Words.{table-out}
use Rattle.session.specs.Rows.{transaction_of, staged_of, find_transaction}
use Rattle.session.specs.RowLaws.{TransactionFits, only-put_staged, staged-same, staged-only}
use Rattle.session.specs.KeepLaws.{begun-ready}
use Rattle.session.specs.Meaning.{Session, session_of, with_staged, with_transaction, closed, untouched}
use Rattle.session.specs.MeaningLaws.{Ready, staged-at, ready-put_staged, session-put_staged, session-put_transaction}
use Rattle.session.specs.declared.tape_rows.Staged.{Staged}
use Rattle.session.specs.declared.transactions.Transaction.{Transaction}
use Rattle.session.specs.declared.transactions.Kind.TheVariants.{Truncate}
use Rattle.beginning.specs.Transactions.{After, usable}
use Rattle.beginning.specs.Ways.{usable-begun}
use Rattle.staging.specs.Ways.{transaction-low}
use Rattle.ending.specs.Steps.{unstage, close_writer}
use Rattle.ending.specs.Dropping.{drop_at, drop_transaction_call}
use Rattle.ending.specs.DropLaws.{drop-served, drop-cases}
use Rattle.ending.specs.CutLaws.{untouched-fits}

-- ---- the writer's place closed

-- nothing staged, and the writer's place closed; all else as it was
abbrev pub with_stageds : Session → (ℕ → Staged) → Session
with_stageds m rows =
    record { head = m.head; name = m.name; view = m.view; transaction = m.transaction; handle = m.handle; ring = m.ring; cache = m.cache; staged = rows; tracking = m.tracking }

abbrev pub writer_closed : Session → Session
writer_closed m = with_transaction (with_stageds m (λ p. untouched)) 16 closed

-- a session of which only staged records differ
record Unstaged (s u : List ℕ) : Type 0 where
  ready : Ready u
  same : session_of u ≡ with_stageds (session_of s) (session_of u).staged

fits-closed : TransactionFits closed
fits-closed = record { number = omega arith; epoch = omega arith }

session-unstage : (p : ℕ) (s : List ℕ) → Ready s → p < 8 → session_of (unstage p s) ≡ with_staged (session_of s) p untouched
unfolding unstage
session-unstage p s ready low = session-put_staged s p untouched ready low untouched-fits

ready-unstage : (p : ℕ) (s : List ℕ) → Ready s → p < 8 → Ready (unstage p s)
unfolding unstage
ready-unstage p s ready low = ready-put_staged s p untouched ready low

unstaged-more : (s u : List ℕ) (p : ℕ) → p < 8 → Unstaged s u → Unstaged s (unstage p u)
unstaged-more s u p low h =
    let e = session-unstage p u h.ready low in
    record {
      ready = ready-unstage p u h.ready low;
      same = e
          ∙ ap (λ (m : Session). with_stageds m (with_staged (session_of u) p untouched).staged) h.same
          ∙ ap (λ (m : Session). with_stageds (session_of s) m.staged) (sym e);
    }

all-unstaged : (s : List ℕ) → Ready s → Unstaged s (sweep unstage 8 0 s)
all-unstaged s ready = sweep-keeps (λ (u : List ℕ). Unstaged s u) unstage 8 0 s (λ j u l m h. unstaged-more s u j (omega arith) h) (record { ready = ready; same = refl })

-- the rows, one by one
unstages : Rowwise Ready staged_of unstage (λ p r. untouched) 8
unfolding unstage
unstages =
    record {
      keeps = λ i s l r. ready-unstage i s r l;
      own = λ i s l r. staged-same s i untouched (omega (arith, r.long)) untouched-fits;
      other = λ i j s l m d r. staged-only _ _ s _ (only-put_staged s i untouched) j (λ q. omega arith);
    }

beyond : (s : List ℕ) (p : ℕ) → 8 ≤ p → (session_of s).staged p ≡ untouched
unfolding session_of
beyond s p l = table-out 8 untouched (staged_of s) p l

none-staged : (s : List ℕ) → Ready s → (session_of (sweep unstage 8 0 s)).staged ≡ λ p. untouched
none-staged s ready =
    let u = sweep unstage 8 0 s in
    fun_ext
    (λ (p : ℕ).
    order p 8
    (λ (l : p < 8). staged-at u p l ∙ sweep-row Ready staged_of unstage (λ q r. untouched) 8 unstages 8 0 s p (omega arith) ready (omega arith) (omega arith))
    (λ (l : 8 ≤ p). beyond u p l))

pub session-close_writer : (s : List ℕ) → Ready s → session_of (close_writer s) ≡ writer_closed (session_of s)
unfolding close_writer
session-close_writer s ready =
    let u = sweep unstage 8 0 s in
    let h = all-unstaged s ready in
    session-put_transaction u 16 closed h.ready (omega arith) fits-closed
    ∙ ap (λ (m : Session). with_transaction m 16 closed) h.same
    ∙ ap (λ (rows : ℕ → Staged). with_transaction (with_stageds (session_of s) rows) 16 closed) (none-staged s ready)

-- ---- a place given up

module _ (d s : List ℕ) where
  truncate-at : (transaction_of s 16).kind ≡ Truncate → drop_at d s 16 ≡ close_writer s
  unfolding drop_at
  truncate-at e = rw e

  reader_at : (t : ℕ) → Ready s → t < 17 → t ≢ 16 → session_of (drop_at d s t) ≡ with_transaction (session_of s) t closed
  unfolding drop_at
  reader_at t ready low apart = rw (ne_eqb t 16 apart) (session-put_transaction s t closed ready low fits-closed)

-- what may differ are staged records and places of transactions: the session's own fields, names, views with the list, handles, rings with their bytes, and
-- tracking are the same
pub record LeftAlone (m k : Session) : Type 0 where
  pub head : k.head ≡ m.head
  pub name : k.name ≡ m.name
  pub view : k.view ≡ m.view
  pub handle : k.handle ≡ m.handle
  pub ring : k.ring ≡ m.ring
  pub cache : k.cache ≡ m.cache
  pub tracking : k.tracking ≡ m.tracking

alone : {m k n : Session} → k ≡ n → LeftAlone m n → LeftAlone m k
alone e h = rw e h

-- a session with other staged records and other places
left_alone : (m : Session) (rows : ℕ → Staged) (places : ℕ → Transaction)
    → LeftAlone m (record { head = m.head; name = m.name; view = m.view; transaction = places; handle = m.handle; ring = m.ring; cache = m.cache; staged = rows; tracking = m.tracking })
left_alone m rows places = record { head = refl; name = refl; view = refl; handle = refl; ring = refl; cache = refl; tracking = refl }

module _ (d s : List ℕ) (n : ℕ) where
  -- a served drop, exactly
  pub drop-truncate-means : usable d s ≡ true → find_transaction s n ≡ Some 16 → (transaction_of s 16).kind ≡ Truncate
      → session_of (drop_transaction_call d s n).session ≡ writer_closed (session_of s)
  drop-truncate-means ok found kind =
      ap (λ (o : After). session_of o.session) (drop-served d s n ok 16 found refl)
      ∙ ap session_of (truncate-at d s kind)
      ∙ session-close_writer s (begun-ready s (usable-begun d s ok))

  pub drop-reader-means : (t : ℕ) → usable d s ≡ true → find_transaction s n ≡ Some t → t ≢ 16
      → session_of (drop_transaction_call d s n).session ≡ with_transaction (session_of s) t closed
  drop-reader-means t ok found apart =
      ap (λ (o : After). session_of o.session) (drop-served d s n ok t found refl)
      ∙ reader_at d s t (begun-ready s (usable-begun d s ok)) (transaction-low s n t found) apart

  -- "Dropping a truncate changes nothing", whatever number the call has
  pub drop-truncate : (transaction_of s 16).kind ≡ Truncate → LeftAlone (session_of s) (session_of (drop_transaction_call d s n).session)
  drop-truncate kind =
      let m = session_of s in
      drop-cases (λ o. LeftAlone (session_of s) (session_of o.session)) d s n
      (λ why. left_alone m m.staged m.transaction)
      (λ t ok found.
      let ready = begun-ready s (usable-begun d s ok) in
      equal t 16
      (λ (e : t ≡ 16).
      alone (ap (λ (x : ℕ). session_of (drop_at d s x)) e ∙ ap session_of (truncate-at d s kind) ∙ session-close_writer s ready)
      (left_alone m (λ p. untouched) (writer_closed m).transaction))
      (λ (apart : t ≢ 16).
      alone (reader_at d s t ready (transaction-low s n t found) apart) (left_alone m m.staged (with_transaction m t closed).transaction)))
