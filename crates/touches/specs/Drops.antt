-- What `drop_transaction` touches; the disk is not even lent to be written. Of a reader its own place alone; of a truncate that and the staged records; of
-- an append also the tapes' rows, the names of tapes that it created, and tracking. Assumes nothing.
use Prim.{tt}
use Rattle.std.specs.Prelude.{◌≡◌, ◌≢◌, true, false, cond, ℕ, ◌+◌, ◌*◌, ◌≤◌, ◌<◌, eqb, Option, Some, None}
use Rattle.std.proofs.Common.{ap, ◌∙◌, arith, ne_eqb, eqb-true}
use mathlib.Core.List.{List, [], ◌∷◌}
use Rattle.octets.specs.Cases.{picked, decide}
use Rattle.octets.specs.Only.{OnlyIn}
use Rattle.octets.specs.Sweep.{sweep, sweep-keeps}
use Rattle.layout.specs.Disk.{slots}
use Rattle.layout.specs.NamesLaws.{only-put_name}
use Rattle.layout.specs.Session.{names_at, tape_at}
use Rattle.session.specs.Rows.{view_of, transaction_of, put_handle, put_ring, find_transaction}
use Rattle.session.specs.RowLaws.{only-put_transaction, only-put_handle, only-put_ring, only-put_staged}
use Rattle.session.specs.Meaning.{closed, no_handle, no_ring, untouched}
use Rattle.rolling_tape.specs.TrackingLaws.{only-retracked}
use Rattle.rolling_tape.specs.declared.tracking.Change.TheVariants.{UntrackAll}
use Rattle.beginning.specs.Transactions.{After, usable}
use Rattle.beginning.specs.Ways.{usable-disk}
use Rattle.staging.specs.Seeing.{directory_of, is_append}
use Rattle.staging.specs.Ways.{transaction-low}
use Rattle.ending.specs.Listing.{is_touched}
use Rattle.ending.specs.Steps.{unstage, close_writer}
use Rattle.ending.specs.Dropping.{reverted, untrack_in, forgotten, take_back, drop_append, drop_at, drop_found, drop_transaction_call}
use Rattle.touches.specs.Parts.{Part, Inside, Outside, Touches, Stays, mark, head, names, views, tapes, stageds, tracking, rings, found, stays-found, touches_none, touches-then, touches-only, touches-more}
use Rattle.touches.specs.Parts as P

-- ---- the writer's place closed

abbrev pub close_parts : List Part
close_parts = P.transaction_of 16 ∷ stageds ∷ []

pub touches-close_writer : (s : List ℕ) → Touches close_parts s (close_writer s)
unfolding close_writer unstage
touches-close_writer s =
    let u = sweep unstage 8 0 s in
    touches-then close_parts s u _
    (sweep-keeps (λ (t : List ℕ). Touches close_parts s t) unstage 8 0 s
    (λ j t l h a. touches-then close_parts s t _ a (touches-only close_parts _ _ t _ (only-put_staged t j untouched) (λ i o m. omega (arith, o.1.0 j (omega arith) (omega arith)))))
    (touches_none close_parts s))
    (touches-only close_parts _ _ u _ (only-put_transaction u 16 closed) (λ i o l. o.0 l))

-- ---- an append taken back

abbrev pub take_back_parts : List Part
take_back_parts = P.transaction_of 16 ∷ names ∷ tapes ∷ tracking ∷ []

-- a step inside the tapes' rows
in-tapes : (low high : ℕ) (s t : List ℕ) → tape_at 0 ≤ low → high ≤ 4936 → OnlyIn low high s t → Touches take_back_parts s t
in-tapes low high s t l h only = touches-only take_back_parts low high s t only (λ i o m. omega (arith, o.1.1.0 (omega arith)))

module _ (d : List ℕ) (few : slots d ≤ 64) (p : ℕ) (low : p < 8) (s : List ℕ) where
  touches-unstage : Touches take_back_parts s (unstage p s)
  unfolding unstage
  touches-unstage = in-tapes _ _ s _ (omega arith) (omega arith) (only-put_staged s p untouched)

  touches-reverted : Touches take_back_parts s (reverted p s)
  unfolding reverted
  touches-reverted =
      touches-then take_back_parts s (unstage p s) _ touches-unstage
      (in-tapes _ _ (unstage p s) _ (omega arith) (omega arith) (only-put_ring (unstage p s) p _))

  touches-untrack : (f : Option ℕ) → Touches take_back_parts s (untrack_in d s f)
  touches-untrack (Some place) = touches-only take_back_parts _ _ s _ (only-retracked d s place UntrackAll few) (λ i o l. o.1.1.1.0 l)
  touches-untrack None = touches_none take_back_parts s

touches-forgotten : (d : List ℕ) → slots d ≤ 64 → (p : ℕ) → p < 8 → (s : List ℕ) → Touches take_back_parts s (forgotten d p s)
unfolding forgotten
touches-forgotten d few p low s =
    let a = unstage p s in
    let b = untrack_in d a (directory_of d s p) in
    let c = put_handle b p no_handle in
    let e = put_ring c p no_ring in
    touches-then take_back_parts s a _ (touches-unstage d few p low s)
    (touches-then take_back_parts a b _ (touches-untrack d few p low a (directory_of d s p))
    (touches-then take_back_parts b c _ (in-tapes _ _ b c (omega arith) (omega arith) (only-put_handle b p no_handle))
    (touches-then take_back_parts c e _ (in-tapes _ _ c e (omega arith) (omega arith) (only-put_ring c p no_ring))
    (touches-only take_back_parts _ _ e _ (only-put_name e names_at p [] (omega arith)) (λ i o l. omega (arith, o.1.0 (omega arith)))))))

touches-take_back : (d : List ℕ) → slots d ≤ 64 → (p : ℕ) → p < 8 → (s : List ℕ) → Touches take_back_parts s (take_back d p s)
unfolding take_back
touches-take_back d few p low s =
    picked (λ (t : List ℕ). Touches take_back_parts s t) (is_touched s p) _ _
    (λ e. picked (λ (t : List ℕ). Touches take_back_parts s t) (view_of s 16 p).listed _ _ (λ q. touches-reverted d few p low s) (λ q. touches-forgotten d few p low s))
    (λ e. touches_none take_back_parts s)

touches-drop_append : (d s : List ℕ) → slots d ≤ 64 → Touches take_back_parts s (drop_append d s)
unfolding drop_append
touches-drop_append d s few =
    let u = sweep (take_back d) 8 0 s in
    touches-then take_back_parts s u _
    (sweep-keeps (λ (t : List ℕ). Touches take_back_parts s t) (take_back d) 8 0 s
    (λ j t l h a. touches-then take_back_parts s t _ a (touches-take_back d few j (omega arith) t)) (touches_none take_back_parts s))
    (touches-more close_parts take_back_parts u _ (λ i o. (o.0, ((λ k l m. omega (arith, o.1.1.0 (omega arith))), tt))) (touches-close_writer u))

-- ---- the call

-- of the transaction in place t
abbrev pub drop_parts : List ℕ → ℕ → List Part
drop_parts s t = cond (eqb t 16) (cond (is_append (transaction_of s 16).kind) take_back_parts close_parts) (P.transaction_of t ∷ [])

touches-drop_at : (d s : List ℕ) (t : ℕ) → slots d ≤ 64 → Touches (drop_parts s t) s (drop_at d s t)
unfolding drop_at
touches-drop_at d s t few =
    decide (eqb t 16)
    (λ (e : eqb t 16 ≡ true).
    rw e
    (decide (is_append (transaction_of s 16).kind)
    (λ (k : is_append (transaction_of s 16).kind ≡ true). rw k (touches-drop_append d s few))
    (λ (k : is_append (transaction_of s 16).kind ≡ false). rw k (touches-close_writer s))))
    (λ (e : eqb t 16 ≡ false). rw e (touches-only (P.transaction_of t ∷ []) _ _ s _ (only-put_transaction s t closed) (λ i o l. o.0 l)))

module _ (d s : List ℕ) (n : ℕ) where
  pub drop-transaction-touches : Touches (found (drop_parts s) (find_transaction s n)) s (drop_transaction_call d s n).session
  unfolding drop_transaction_call
  drop-transaction-touches =
      picked (λ (o : After). Touches (found (drop_parts s) (find_transaction s n)) s o.session) (usable d s) _ _
      (λ ok. by (usable-disk d s ok).head.few (find_transaction s n))
      (λ ok. touches_none (found (drop_parts s) (find_transaction s n)) s)
    where
      by : slots d ≤ 64 → (f : Option ℕ) → Touches (found (drop_parts s) f) s (drop_found d s f).session
      by few (Some t) = touches-drop_at d s t few
      by few None = touches_none [] s

  -- a dropped reader: its place alone
  pub drop-reader-touches : (t : ℕ) → find_transaction s n ≡ Some t → t ≢ 16 → Touches (P.transaction_of t ∷ []) s (drop_transaction_call d s n).session
  drop-reader-touches t e apart = rw (e, ne_eqb t 16 apart) at drop-transaction-touches

  -- a dropped truncate: its place, and what was staged
  pub drop-truncate-touches : find_transaction s n ≡ Some 16 → is_append (transaction_of s 16).kind ≡ false → Touches close_parts s (drop_transaction_call d s n).session
  drop-truncate-touches e kind = rw (e, kind) at drop-transaction-touches

-- ---- what it leaves

-- mark, head, views and caches; and every other transaction's place
pub record DropLeaves (place : Option ℕ) (s u : List ℕ) : Type 0 where
  pub mark-stays : Stays mark s u
  pub head-stays : Stays head s u
  pub views-stay : Stays views s u
  pub transactions-stay : (x : ℕ) → x < 17 → place ≢ Some x → Stays (P.transaction_of x) s u
  pub rings-stay : Stays rings s u

-- of whatever kind
abbrev pub any_parts : ℕ → List Part
any_parts t = P.transaction_of t ∷ names ∷ tapes ∷ tracking ∷ []

pub outside-any : (s : List ℕ) (t i : ℕ) → Outside i (any_parts t) → Outside i (drop_parts s t)
outside-any s t i o =
    decide (eqb t 16)
    (λ (e : eqb t 16 ≡ true).
    let same : t ≡ 16 = eqb-true t 16 e in
    let its : 3760 + 16 * 24 ≤ i → 3760 + 16 * 24 + 24 ≤ i = λ l. omega (arith, o.0 (omega arith)) in
    rw e
    (decide (is_append (transaction_of s 16).kind)
    (λ (k : is_append (transaction_of s 16).kind ≡ true). rw k (its, o.1))
    (λ (k : is_append (transaction_of s 16).kind ≡ false). rw k (its, ((λ j l m. omega (arith, o.1.1.0 (omega arith))), tt)))))
    (λ (e : eqb t 16 ≡ false). rw e (o.0, tt))

drop-leaves : (place : Option ℕ) (s u : List ℕ) → ((t : ℕ) → place ≡ Some t → t < 17) → Touches (found (drop_parts s) place) s u → DropLeaves place s u
drop-leaves place s u low a =
    let rest : (q : Part) → ((t : ℕ) → t < 17 → place ≡ Some t → (i : ℕ) → Inside i q → Outside i (any_parts t)) → Stays q s u
    = λ q h. stays-found (drop_parts s) place q s u a (λ t e i k. outside-any s t i (h t (low t e) e i k)) in
    record {
      mark-stays = rest mark (λ t small e i h. search arith);
      head-stays = rest head (λ t small e i h. search arith);
      views-stay = rest views (λ t small e i h. search arith);
      transactions-stay = λ x l d. rest (P.transaction_of x) (λ t small e i h. let n : t ≢ x = λ z. d (e ∙ ap Some z) in search arith);
      rings-stay = rest rings (λ t small e i h. search arith);
    }

pub drop-transaction-leaves : (d s : List ℕ) (n : ℕ) → DropLeaves (find_transaction s n) s (drop_transaction_call d s n).session
drop-transaction-leaves d s n = drop-leaves (find_transaction s n) s _ (λ t e. transaction-low s n t e) (drop-transaction-touches d s n)
