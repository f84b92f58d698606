-- The ways out of each function, in the code's order: a law for each. Assumes nothing.
use Rattle.std.specs.Prelude.{◌≡◌, refl, ◌≢◌, Bool, true, false, not, cond, List, ℕ, ◌*◌, ◌-◌, ◌/◌, ◌<◌, eqb, Some, None, Ok, Err}
use Rattle.std.proofs.Common.{sym, ap, ◌∙◌, true≢false}
use Rattle.std.proofs.Math.Bool.{and-false}
use native.Mathlib.Omega.{arith}
use borrow.Author.Tests.{eq-eqb, ne_eqb, eqb-true}
use Rattle.octets.specs.Cases.{and_l, and_r}
use Rattle.octets.specs.First.{first-hits}
use Rattle.answers.specs.declared.Refusal.TheVariants.{Unusable, Unknown, Absent, StartPastLength, LongerCut}
use Rattle.components.specs.Bounds.{up_to, shifted_start}
use Rattle.layout.specs.Session.{handle_number, entry_size_of, Begun}
use Rattle.session.specs.RowLaws.{handle-entry}
use Rattle.session.specs.Rows.{view_of, staged_of, handle_of, put_staged, transaction_of, is_open_as, find_transaction, is_handle, find_handle}
use Rattle.session.specs.declared.views.View.{View}
use Rattle.session.specs.declared.tape_rows.Handle.{Handle}
use Rattle.session.specs.declared.tape_rows.Staged.{Staged}
use Rattle.session.specs.declared.transactions.Transaction.{Transaction}
use Rattle.session.specs.declared.transactions.Kind.{Kind}
use Rattle.session.specs.declared.transactions.Kind.TheVariants.{Closed, Reader, Append, Truncate}
use Rattle.beginning.specs.Transactions.{after, refused, usable}
use Rattle.staging.specs.Seeing.{is_append, is_truncate, writes, cuts, seen_by, touched_as, in_entries, len_on, start_on, len_call, start_call}
use Rattle.staging.specs.Guards.{listed_by}
use Rattle.staging.specs.Shifting.{shifted, shift_on, shift_call}
use Rattle.staging.specs.Cutting.{cut_to, cut_on, drop_on, cut_call, drop_call}

-- ---- what a search that found says

pub record Held (s : List ℕ) (p : ℕ) : Type 0 where
  pub low : p < 8
  pub held : handle_number s p ≢ 0

pub handle-found : (s : List ℕ) (h p : ℕ) → find_handle s h ≡ Some p → Held s p
unfolding find_handle
handle-found s h p e =
    let hit = first-hits (is_handle s h) 8 0 p e in
    let same : handle_number s p ≡ h = eqb-true (handle_number s p) h (and_r (not (eqb h 0)) _ hit.holds) in
    let some : not (eqb h 0) ≡ true = and_l (not (eqb h 0)) _ hit.holds in
    record { low = omega (arith, hit.high); held = λ z. true≢false (sym some ∙ ap not (eq-eqb h 0 (sym same ∙ z))) }

pub transaction-low : (s : List ℕ) (n t : ℕ) → find_transaction s n ≡ Some t → t < 17
unfolding find_transaction
transaction-low s n t e = omega (arith, (first-hits (is_open_as s n) 17 0 t e).high)

-- an open tape's entry size is no 0
pub entry-some : (s : List ℕ) (p : ℕ) → Begun s → p < 8 → handle_number s p ≢ 0 → 0 < (handle_of s p).entry
unfolding handle_of
entry-some s p b low held = (b.tapes p low held).entry-some

pub held_entry : (s : List ℕ) (p : ℕ) → Begun s → Held s p → 0 < (handle_of s p).entry
held_entry s p b h = entry-some s p b h.low h.held

pub entry_size : (s : List ℕ) (p : ℕ) → (handle_of s p).entry ≡ entry_size_of s p
entry_size s p = handle-entry s p (handle_of s p) refl

-- ---- what is seen, by the rows that the code reads

module _ (s : List ℕ) (p : ℕ) (r : Staged) (row : r ≡ staged_of s p) where
  pub seen-staged : (t : ℕ) → t ≡ 16 → r.touched ≡ true → record { listed = true; len = r.len; start = r.start } ≡ seen_by s t p
  unfolding seen_by
  seen-staged t e h = rw (← row, eq-eqb t 16 e, h)

  pub seen-untouched : (t : ℕ) → r.touched ≡ false → view_of s t p ≡ seen_by s t p
  unfolding seen_by
  seen-untouched t h = rw (← row, h, and-false (eqb t 16))

  pub touched-before : r.touched ≡ true → r ≡ touched_as s p
  unfolding touched_as
  touched-before h = rw (← row, h)

  pub touched-now : (v : View) → v ≡ view_of s 16 p → r.touched ≡ false
      → record { touched = true; base = v.len; len = v.len; start = v.start; unwritten = 0 } ≡ touched_as s p
  unfolding touched_as
  touched-now v e h = rw (← row, h, ← e)

-- a tape that is listed is what is seen of it
by_flag : (v w : View) (b : Bool) → w.listed ≡ b → cond b (Ok w) (Err Absent) ≡ Ok v → (v ≡ w) × (v.listed ≡ true)
by_flag v w true l e = (cc, cc)
by_flag v w false l e = absurd (cc)

pub listed-seen : (s : List ℕ) (t p : ℕ) (v : View) → listed_by s t p ≡ Ok v → (v ≡ seen_by s t p) × (v.listed ≡ true)
unfolding listed_by
listed-seen s t p v e = by_flag v (seen_by s t p) (seen_by s t p).listed refl e

pub seen-view : (s : List ℕ) (t p : ℕ) → t ≢ 16 → view_of s t p ≡ seen_by s t p
unfolding seen_by
seen-view s t p e = rw (ne_eqb t 16 e)

-- ---- the open writer

module _ (s : List ℕ) (n : ℕ) (r : Transaction) (row : r ≡ transaction_of s 16) where
  pub writes-not : is_append r.kind ≡ false → writes s n ≡ false
  unfolding writes
  writes-not h = rw (← row, h)

  pub writes-number : is_append r.kind ≡ true → writes s n ≡ eqb r.number n
  unfolding writes
  writes-number h = rw (← row, h)

  pub cuts-not : is_truncate r.kind ≡ false → cuts s n ≡ false
  unfolding cuts
  cuts-not h = rw (← row, h)

  pub cuts-number : is_truncate r.kind ≡ true → cuts s n ≡ eqb r.number n
  unfolding cuts
  cuts-number h = rw (← row, h)

-- a truncate is no append
pub cuts-alone : (s : List ℕ) (n : ℕ) → cuts s n ≡ true → writes s n ≡ false
unfolding cuts
cuts-alone s n c = writes-not s n (transaction_of s 16) refl (by (transaction_of s 16).kind (and_l (is_truncate (transaction_of s 16).kind) _ c))
  where
    by : (k : Kind) → is_truncate k ≡ true → is_append k ≡ false
    by Closed e = refl
    by Reader e = refl
    by Append e = absurd (true≢false (sym e))
    by Truncate e = refl

-- ---- on a tape, by what the code sees and the handle's row

module _ (s : List ℕ) (t p : ℕ) (v : View) (seen : v ≡ seen_by s t p) where
  pub len-absent : v.listed ≡ false → len_on s t p ≡ Err Absent
  unfolding len_on
  len-absent h = rw (← seen, h)

  pub len-listed : v.listed ≡ true → len_on s t p ≡ Ok (in_entries s p v.len)
  unfolding len_on
  len-listed h = rw (← seen, h)

  pub start-absent : v.listed ≡ false → start_on s t p ≡ Err Absent
  unfolding start_on
  start-absent h = rw (← seen, h)

  pub start-listed : v.listed ≡ true → start_on s t p ≡ Ok (in_entries s p v.start)
  unfolding start_on
  start-listed h = rw (← seen, h)

module _ (s : List ℕ) (p i : ℕ) (v : View) (seen : v ≡ seen_by s 16 p) where
  pub shift-absent : v.listed ≡ false → shift_on s p i ≡ refused Absent s
  unfolding shift_on
  shift-absent h = rw (← seen, h)

  pub cut-absent : v.listed ≡ false → cut_on s p i ≡ refused Absent s
  unfolding cut_on
  cut-absent h = rw (← seen, h)

  module _ (r : Handle) (row : r ≡ handle_of s p) where
    -- a difference stops at 0
    pub drop_all : v.len / r.entry < i → drop_on s p i ≡ cut_on s p 0
    unfolding drop_on
    drop_all h =
        let none : v.len / r.entry - i ≡ 0 = omega arith in
        rw (← seen, ← row, none)

    pub drop-some : drop_on s p i ≡ cut_on s p (v.len / r.entry - i)
    unfolding drop_on
    drop-some = rw (← seen, ← row)

    module _ (listed : v.listed ≡ true) where
      pub shift_past : up_to r.entry i v.len ≡ false → shift_on s p i ≡ refused StartPastLength s
      unfolding shift_on
      shift_past h = rw (← seen, ← row, listed, h)

      pub shift-served : up_to r.entry i v.len ≡ true → shift_on s p i ≡ after (Ok 0) (shifted s p (i * r.entry))
      unfolding shift_on
      shift-served h = rw (← seen, ← row, listed, h)

      pub cut-longer : up_to r.entry i v.len ≡ false → cut_on s p i ≡ refused LongerCut s
      unfolding cut_on
      cut-longer h = rw (← seen, ← row, listed, h)

      pub cut-served : up_to r.entry i v.len ≡ true → cut_on s p i ≡ after (Ok 0) (cut_to s p (i * r.entry))
      unfolding cut_on
      cut-served h = rw (← seen, ← row, listed, h)

-- ---- what is staged, by the record that the code makes

module _ (s : List ℕ) (p : ℕ) (r : Staged) (row : r ≡ touched_as s p) where
  pub shift-staged : (start : ℕ) → put_staged s p (record { touched = true; base = r.base; len = r.len; start = shifted_start r.start start; unwritten = r.unwritten }) ≡ shifted s p start
  unfolding shifted
  shift-staged start = rw row

  pub cut-staged : (len : ℕ) → put_staged s p (record { touched = true; base = r.base; len = len; start = r.start; unwritten = 0 }) ≡ cut_to s p len
  unfolding cut_to
  cut-staged len = rw row

-- ---- the calls

module _ (d s : List ℕ) (t h : ℕ) where
  pub len-unusable : usable d s ≡ false → len_call d s t h ≡ Err Unusable
  unfolding len_call
  len-unusable e = rw e

  pub start-unusable : usable d s ≡ false → start_call d s t h ≡ Err Unusable
  unfolding start_call
  start-unusable e = rw e

  module _ (ok : usable d s ≡ true) where
    pub len-no-transaction : find_transaction s t ≡ None → len_call d s t h ≡ Err Unknown
    unfolding len_call
    len-no-transaction e = rw (ok, e)

    pub start-no-transaction : find_transaction s t ≡ None → start_call d s t h ≡ Err Unknown
    unfolding start_call
    start-no-transaction e = rw (ok, e)

    module _ (x : ℕ) (there : find_transaction s t ≡ Some x) where
      pub len-no-handle : find_handle s h ≡ None → len_call d s t h ≡ Err Unknown
      unfolding len_call
      len-no-handle e = rw (ok, there, e)

      pub len-goes : (p : ℕ) → find_handle s h ≡ Some p → len_call d s t h ≡ len_on s x p
      unfolding len_call
      len-goes p e = rw (ok, there, e)

      pub start-no-handle : find_handle s h ≡ None → start_call d s t h ≡ Err Unknown
      unfolding start_call
      start-no-handle e = rw (ok, there, e)

      pub start-goes : (p : ℕ) → find_handle s h ≡ Some p → start_call d s t h ≡ start_on s x p
      unfolding start_call
      start-goes p e = rw (ok, there, e)

module _ (d s : List ℕ) (t h i : ℕ) where
  pub shift-unusable : usable d s ≡ false → shift_call d s t h i ≡ refused Unusable s
  unfolding shift_call
  shift-unusable e = rw e

  pub cut-unusable : usable d s ≡ false → cut_call d s t h i ≡ refused Unusable s
  unfolding cut_call
  cut-unusable e = rw e

  pub drop-unusable : usable d s ≡ false → drop_call d s t h i ≡ refused Unusable s
  unfolding drop_call
  drop-unusable e = rw e

  module _ (ok : usable d s ≡ true) where
    pub shift-no-append : writes s t ≡ false → shift_call d s t h i ≡ refused Unknown s
    unfolding shift_call
    shift-no-append e = rw (ok, e)

    pub cut-no-truncate : cuts s t ≡ false → cut_call d s t h i ≡ refused Unknown s
    unfolding cut_call
    cut-no-truncate e = rw (ok, e)

    pub drop-no-truncate : cuts s t ≡ false → drop_call d s t h i ≡ refused Unknown s
    unfolding drop_call
    drop-no-truncate e = rw (ok, e)

    module _ (there : writes s t ≡ true) where
      pub shift-no-handle : find_handle s h ≡ None → shift_call d s t h i ≡ refused Unknown s
      unfolding shift_call
      shift-no-handle e = rw (ok, there, e)

      pub shift-goes : (p : ℕ) → find_handle s h ≡ Some p → shift_call d s t h i ≡ shift_on s p i
      unfolding shift_call
      shift-goes p e = rw (ok, there, e)

    module _ (there : cuts s t ≡ true) where
      pub cut-no-handle : find_handle s h ≡ None → cut_call d s t h i ≡ refused Unknown s
      unfolding cut_call
      cut-no-handle e = rw (ok, there, e)

      pub cut-goes : (p : ℕ) → find_handle s h ≡ Some p → cut_call d s t h i ≡ cut_on s p i
      unfolding cut_call
      cut-goes p e = rw (ok, there, e)

      pub drop-no-handle : find_handle s h ≡ None → drop_call d s t h i ≡ refused Unknown s
      unfolding drop_call
      drop-no-handle e = rw (ok, there, e)

      pub drop-goes : (p : ℕ) → find_handle s h ≡ Some p → drop_call d s t h i ≡ drop_on s p i
      unfolding drop_call
      drop-goes p e = rw (ok, there, e)
