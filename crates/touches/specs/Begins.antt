-- What the calls that begin something touch: `format` a disk, `store` a session, `append`, `reader` and `truncate` a transaction. Assumes nothing.
use Rattle.std.specs.Prelude.{◌≡◌, ◌≢◌, true, List, [], ◌∷◌, ℕ, ◌+◌, ◌≤◌, ◌<◌, length, Some}
use Rattle.std.proofs.Common.{arith}
use Rattle.octets.specs.Only.{OnlyIn, only_none, only-put_num, only_then, only_wider}
use Rattle.metadata.specs.Tapes.{Tape, good_after, good_list}
use Rattle.metadata.specs.Rules.{fits-true, good-first, good_others, good-few, good-tapes}
use Rattle.metadata.specs.declared.choice.Side.{Side}
use Rattle.layout.specs.Names.{put_name}
use Rattle.layout.specs.NamesLaws.{only-put_name}
use Rattle.layout.specs.Session.{session_bytes, names_at}
use Rattle.layout.specs.SessionLaws.{sound-long}
use Rattle.disk.specs.StepLaws.{only-formatted}
use Rattle.session.specs.declared.views.View.{View}
use Rattle.session.specs.declared.transactions.Kind.{Kind}
use Rattle.session.specs.declared.transactions.Kind.TheVariants.{Reader, Append, Truncate}
use Rattle.session.specs.declared.transactions.Transaction.{Transaction}
use Rattle.session.specs.Rows.{head_of, put_view, copy_view, put_transaction, free_reader}
use Rattle.session.specs.RowLaws.{only-put_head, only-put_view, only-copy_view, only-put_transaction}
use Rattle.session.specs.Begin.{ended, cleared, listed, listed_from, begin_session}
use Rattle.session.specs.BeginLaws.{only-cleared}
use Rattle.areas.specs.Format as A
use Rattle.areas.specs.FormatLaws.{format-cases}
use Rattle.beginning.specs.Disks.{format_call}
use Rattle.beginning.specs.Transactions.{begun_at}
use Rattle.beginning.specs.Calls.{append_call, truncate_call, reader_call}
use Rattle.beginning.specs.Sessions.{the_record, store_call}
use Rattle.beginning.specs.Ways.{both-session, free-low}
use Rattle.beginning.specs.Laws.{next_head, truncate-cases, reader-cases, may-long}
use Rattle.beginning.proofs.Laws.{append_cases}
use Rattle.beginning.specs.StoreLaws.{store-cases, list-good}
use Rattle.touches.specs.Parts.{Part, Inside, Outside, Touches, Stays, mark, head, names, view_of, transaction_of, tapes, tracking, rings, below_rings, tables, found, stays, touches_none, touches-then, touches-only, one-touches}

-- ---- a transaction in place t: the session's own fields, its place and its view

abbrev pub begun_parts : ℕ → List Part
begun_parts t = head ∷ transaction_of t ∷ view_of t ∷ []

pub touches-begun_at : (s : List ℕ) (t : ℕ) (k : Kind) → session_bytes ≤ length s → t < 17 → Touches (begun_parts t) s (begun_at s t k)
unfolding begun_at
touches-begun_at s t k long low =
    let r : Transaction = record { kind = k; number = (head_of s).last_transaction + 1; epoch = (head_of s).epoch } in
    let a = put_transaction s t r in
    let first = only-put_transaction s t r in
    let la : length a ≡ length s = first.long in
    let b = copy_view a 17 t in
    let second = only-copy_view a 17 t (omega arith) in
    let third = only-put_head b (next_head (head_of s)) in
    touches-then (begun_parts t) s b _
    (touches-then (begun_parts t) s a b
    (touches-only (begun_parts t) _ _ s a first (λ i o l. o.1.0 l))
    (touches-only (begun_parts t) _ _ a b second (λ i o l. o.1.1.0 l)))
    (touches-only (begun_parts t) _ _ b _ third (λ i o l. o.0 l))

module _ (d s : List ℕ) where
  pub append-touches : Touches (begun_parts 16) s (append_call d s).session
  append-touches =
      append_cases (λ o. Touches (begun_parts 16) s o.session) d s (λ why. touches_none (begun_parts 16) s)
      (λ may alone. touches-begun_at s 16 Append (may-long d s may) (omega arith))

  pub truncate-touches : Touches (begun_parts 16) s (truncate_call d s).session
  truncate-touches =
      truncate-cases (λ o. Touches (begun_parts 16) s o.session) d s (λ why. touches_none (begun_parts 16) s)
      (λ may. touches-begun_at s 16 Truncate (may-long d s may) (omega arith))

  -- the first free place, if there is one
  pub reader-touches : Touches (found begun_parts (free_reader s)) s (reader_call d s).session
  reader-touches =
      reader-cases (λ o. Touches (found begun_parts (free_reader s)) s o.session) d s (λ why. touches_none (found begun_parts (free_reader s)) s)
      (λ t may low e. rw e (touches-begun_at s t Reader (may-long d s may) (omega arith)))

-- and what it leaves: names, tapes, tracking, caches, and every other transaction with its view
pub record BeginLeaves (t : ℕ) (s u : List ℕ) : Type 0 where
  pub names-stay : Stays names s u
  pub views-stay : (w : ℕ) → w < 18 → w ≢ t → Stays (view_of w) s u
  pub transactions-stay : (x : ℕ) → x < 17 → x ≢ t → Stays (transaction_of x) s u
  pub tapes-stay : Stays tapes s u
  pub tracking-stays : Stays tracking s u
  pub rings-stay : Stays rings s u

pub begin-leaves : (t : ℕ) (s u : List ℕ) → t < 17 → Touches (begun_parts t) s u → BeginLeaves t s u
begin-leaves t s u low a =
    let rest : (q : Part) → ((i : ℕ) → Inside i q → Outside i (begun_parts t)) → Stays q s u = λ q h. stays (begun_parts t) q s u a h in
    record {
      names-stay = rest names (λ i h. search arith);
      views-stay = λ w small d. rest (view_of w) (λ i h. search arith);
      transactions-stay = λ x small d. rest (transaction_of x) (λ i h. search arith);
      tapes-stay = rest tapes (λ i h. search arith);
      tracking-stays = rest tracking (λ i h. search arith);
      rings-stay = rest rings (λ i h. search arith);
    }

module _ (d s : List ℕ) where
  pub append-leaves : BeginLeaves 16 s (append_call d s).session
  append-leaves = begin-leaves 16 s _ (omega arith) (append-touches d s)

  pub truncate-leaves : BeginLeaves 16 s (truncate_call d s).session
  truncate-leaves = begin-leaves 16 s _ (omega arith) (truncate-touches d s)

  pub reader-leaves : (t : ℕ) → free_reader s ≡ Some t → BeginLeaves t s (reader_call d s).session
  reader-leaves t e =
      let low = free-low s t e in
      begin-leaves t s _ (omega arith) (rw e at (reader-touches d s))

-- ---- a session: everything below the rings

only-listed_from : (s : List ℕ) (p : ℕ) (before : List ℕ) (ts : List Tape) → p + length ts ≤ 8 → good_after before ts ≡ true → OnlyIn 0 5960 s (listed_from s p ts)
unfolding listed_from listed
only-listed_from s p before [] few good = only_none 0 5960 s
only-listed_from s p before (t ∷ ts) few good =
    let f = fits-true before t (good-first before t ts good) in
    let v : View = record { listed = true; len = t.len; start = t.start } in
    let named = put_name s names_at p t.name in
    let u = put_view named 17 p v in
    only_then 0 5960 s u _
    (only_then 0 5960 s named u
    (only_wider _ _ 0 5960 s named (omega arith) (omega arith) (only-put_name s names_at p t.name f.short))
    (only_wider _ _ 0 5960 named u (omega arith) (omega arith) (only-put_view named 17 p v)))
    (only-listed_from u (p + 1) t.name ts (omega arith) (good_others before t ts good))

only-begin : (s : List ℕ) (epoch : ℕ) (side : Side) (ts : List Tape) → session_bytes ≤ length s → good_list ts ≡ true → OnlyIn 0 5960 s (begin_session s epoch side ts)
unfolding begin_session
only-begin s epoch side ts long good =
    only_then 0 5960 s (cleared s epoch side) _ (only-cleared s long epoch side)
    (only-listed_from (cleared s epoch side) 0 [] ts (omega (arith, good-few ts good)) (good-tapes ts good))

pub store-touches : (d s : List ℕ) → Touches (below_rings ∷ []) s (store_call d s).session
store-touches d s =
    store-cases (λ o. Touches (below_rings ∷ []) s o.session) d s (λ why. touches_none (below_rings ∷ []) s)
    (λ ts ok list. one-touches 0 5960 s _ (only-begin s _ _ ts (sound-long s (both-session d s ok)) (list-good (the_record d) ts list)))

-- so the caches' bytes are left, and all that lies behind the session
pub store-rings : (d s : List ℕ) → Stays rings s (store_call d s).session
store-rings d s = stays (below_rings ∷ []) rings s _ (store-touches d s) (λ i h. search arith)

-- ---- a disk: everything below the slots, and the session's mark

module _ (d s : List ℕ) (n : ℕ) where
  pub format-touches-disk : Touches (tables ∷ []) d (format_call d s n).disk
  unfolding format_call
  format-touches-disk =
      format-cases (λ (o : A.Outcome). Touches (tables ∷ []) d o.disk) d s n (touches_none (tables ∷ []) d) (touches_none (tables ∷ []) d)
      (λ some few room long. one-touches 0 2848 d _ (only-formatted d n))

  pub format-touches-session : Touches (mark ∷ []) s (format_call d s n).session
  unfolding format_call ended
  format-touches-session =
      format-cases (λ (o : A.Outcome). Touches (mark ∷ []) s o.session) d s n (touches_none (mark ∷ []) s) (touches_none (mark ∷ []) s)
      (λ some few room long. one-touches 0 8 s _ (only-put_num 8 s 0 0))
