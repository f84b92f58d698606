-- What is read of a row is as before where the row is: a handle's numbers, whether a transaction is open, and what is seen of a tape in its place. Assumes
-- nothing.
use Rattle.std.specs.Prelude.{◌≡◌, refl, ◌≢◌, Bool, true, false, ◌&&◌, List, ℕ, ◌≤◌, ◌<◌, length, Option, Some, None}
use Rattle.std.proofs.Common.{sym, ap, ◌∙◌, true≢false, arith, eq-eqb, ne_eqb}
use Rattle.octets.specs.Cases.{order, equal}
use Rattle.octets.specs.First.{count_same}
use Rattle.layout.specs.Names.{name}
use Rattle.layout.specs.NamesLaws.{name-low}
use Rattle.layout.specs.Session.{names_at, handle_number, entry_size_of, file_size_of}
use Rattle.session.specs.declared.tape_rows.Staged.{Staged}
use Rattle.session.specs.Meaning.{closed}
use Rattle.session.specs.Rows.{head_of, view_of, transaction_of, handle_of, staged_of}
use Rattle.session.specs.RowLaws.{handle-numbered, handle-entry, handle-size}
use Rattle.beginning.specs.Transactions.{is_open_at}
use Rattle.staging.specs.Seeing.{seen_by, touched_as}
use Rattle.ending.specs.Listing.{is_touched}
use Rattle.lives.specs.Life.{Reader, Store}
use Rattle.seen.specs.Seen.{place_of, shown, view_in, staged_in, reader_in, touched_in, is_open_tape, handle_in, entry_in, count_open, Seen, Handled}
use Rattle.seen.specs.Orderly.{Orderly}

-- ---- a handle's row

pub number-row : (s u : List ℕ) (p : ℕ) → handle_of u p ≡ handle_of s p → handle_number u p ≡ handle_number s p
number-row s u p e = sym (handle-numbered u p (handle_of s p) (sym e)) ∙ handle-numbered s p (handle_of s p) refl

pub entry_row : (s u : List ℕ) (p : ℕ) → handle_of u p ≡ handle_of s p → entry_size_of u p ≡ entry_size_of s p
entry_row s u p e = sym (handle-entry u p (handle_of s p) (sym e)) ∙ handle-entry s p (handle_of s p) refl

pub size-row : (s u : List ℕ) (p : ℕ) → handle_of u p ≡ handle_of s p → file_size_of u p ≡ file_size_of s p
size-row s u p e = sym (handle-size u p (handle_of s p) (sym e)) ∙ handle-size s p (handle_of s p) refl

-- ---- a transaction's row

pub open_row : (s u : List ℕ) (t : ℕ) → transaction_of u t ≡ transaction_of s t → is_open_at u t ≡ is_open_at s t
unfolding is_open_at
open_row s u t e = rw e

pub shut_row : (u : List ℕ) (t : ℕ) → transaction_of u t ≡ closed → is_open_at u t ≡ false
unfolding is_open_at
shut_row u t e = rw e

-- where no writer is open, who is open is a reader
pub reader-low : (u : List ℕ) → is_open_at u 16 ≡ false → (t : ℕ) → t < 17 → is_open_at u t ≡ true → t < 16
reader-low u shut t low is_open =
    order t 16 (λ l. l)
    (λ (l : 16 ≤ t).
    let last : t ≡ 16 = omega arith in
    absurd (true≢false (sym is_open ∙ ap (is_open_at u) last ∙ shut)))

-- where the writer has ended and the readers are as before, no number is given twice, and none is above the last
module _ (d s u : List ℕ) (o : Orderly d s) (shut : is_open_at u 16 ≡ false) (readers : (t : ℕ) → t < 16 → transaction_of u t ≡ transaction_of s t) where
  pub was-open : (t : ℕ) → t < 16 → is_open_at u t ≡ true → is_open_at s t ≡ true
  was-open t low is_open = sym (open_row s u t (readers t low)) ∙ is_open

  pub readers-once : (t v : ℕ) → t < 17 → v < 17 → is_open_at u t ≡ true → is_open_at u v ≡ true → (transaction_of u t).number ≡ (transaction_of u v).number → t ≡ v
  readers-once t v l m open-t open-v same =
      let a = reader-low u shut t l open-t in
      let b = reader-low u shut v m open-v in
      o.numbers t v l m (was-open t a open-t) (was-open v b open-v) (rw (readers t a, readers v b) at same)

  pub readers-given : (head_of u).last_transaction ≡ (head_of s).last_transaction → (t : ℕ) → t < 17 → is_open_at u t ≡ true
      → (transaction_of u t).number ≤ (head_of u).last_transaction
  readers-given last t l open-t =
      let a = reader-low u shut t l open-t in
      rw (readers t a, last) (o.number-given t l (was-open t a open-t))

-- the open readers, where each sees of the tape what it saw
pub count-rows : (s u : List ℕ) (was now : Option ℕ) → ((t : ℕ) → t < 16 → transaction_of u t ≡ transaction_of s t) → ((t : ℕ) → t < 16 → view_in u t now ≡ view_in s t was)
    → (has : Reader → Bool) → count_open has u now ≡ count_open has s was
unfolding count_open
count-rows s u was now rows views has =
    count_same (λ t. is_open_at u t && has (reader_in u now t)) (λ t. is_open_at s t && has (reader_in s was t)) 16 0
    (λ t a b. rw (open_row s u t (rows t (omega arith)), rows t (omega arith), views t (omega arith)))

-- ---- a staged record

pub untouched-unwritten : (s : List ℕ) (p : ℕ) → (staged_of s p).touched ≡ false → (touched_as s p).unwritten ≡ 0
unfolding touched_as
untouched-unwritten s p e = rw e

module _ (s u : List ℕ) (p : ℕ) (staged : staged_of u p ≡ staged_of s p) (view : view_of u 16 p ≡ view_of s 16 p) where
  pub seen_as : seen_by u 16 p ≡ seen_by s 16 p
  unfolding seen_by
  seen_as = rw (staged, view)

  pub touched-as : touched_as u p ≡ touched_as s p
  unfolding touched_as
  touched-as = rw (staged, view)

-- ---- the tape of a name, in its place

pub untouched-rows : (u : List ℕ) (tape : Option ℕ) → ((p : ℕ) → tape ≡ Some p → (staged_of u p).touched ≡ false) → touched_in u tape ≡ false
untouched-rows u (Some p) rows = rows p refl
untouched-rows u None rows = refl

pub view_in_lem : (s u : List ℕ) (tape : Option ℕ) (w : ℕ) → ((p : ℕ) → tape ≡ Some p → view_of u w p ≡ view_of s w p) → view_in u w tape ≡ view_in s w tape
view_in_lem s u (Some p) w rows = ap shown (rows p refl)
view_in_lem s u None w rows = refl

pub touched-in : (s u : List ℕ) (tape : Option ℕ) → ((p : ℕ) → tape ≡ Some p → staged_of u p ≡ staged_of s p) → touched_in u tape ≡ touched_in s tape
touched-in s u (Some p) rows = ap (λ (r : Staged). r.touched) (rows p refl)
touched-in s u None rows = refl

pub staged-in : (s u : List ℕ) (tape : Option ℕ) → ((p : ℕ) → tape ≡ Some p → staged_of u p ≡ staged_of s p) → ((p : ℕ) → tape ≡ Some p → view_of u 16 p ≡ view_of s 16 p)
    → staged_in u tape ≡ staged_in s tape
staged-in s u (Some p) rows views = ap shown (seen_as s u p (rows p refl) (views p refl))
staged-in s u None rows views = refl

live_in : (s u : List ℕ) (tape : Option ℕ) → ((p : ℕ) → tape ≡ Some p → handle_of u p ≡ handle_of s p) → is_open_tape u tape ≡ is_open_tape s tape
live_in s u (Some p) rows = rw (number-row s u p (rows p refl))
live_in s u None rows = refl

handle-in : (s u : List ℕ) (tape : Option ℕ) → ((p : ℕ) → tape ≡ Some p → handle_of u p ≡ handle_of s p) → handle_in u tape ≡ handle_in s tape
handle-in s u (Some p) rows = number-row s u p (rows p refl)
handle-in s u None rows = refl

entry_in_lem : (s u : List ℕ) (tape : Option ℕ) → ((p : ℕ) → tape ≡ Some p → handle_of u p ≡ handle_of s p) → entry_in u tape ≡ entry_in s tape
entry_in_lem s u (Some p) rows = entry_row s u p (rows p refl)
entry_in_lem s u None rows = refl

module _ (s u n : List ℕ) (place : place_of u n ≡ place_of s n) where
  pub view-rows : (w : ℕ) → ((p : ℕ) → place_of s n ≡ Some p → view_of u w p ≡ view_of s w p) → view_in u w (place_of u n) ≡ view_in s w (place_of s n)
  view-rows w rows = ap (view_in u w) place ∙ view_in_lem s u (place_of s n) w rows

  module _ (rows : (p : ℕ) → place_of s n ≡ Some p → handle_of u p ≡ handle_of s p) where
    pub live-rows : is_open_tape u (place_of u n) ≡ is_open_tape s (place_of s n)
    live-rows = ap (is_open_tape u) place ∙ live_in s u (place_of s n) rows

    pub handled-rows : (handle entry : ℕ) → Handled s n handle entry → Handled u n handle entry
    handled-rows handle entry its =
        record {
          number = ap (handle_in u) place ∙ handle-in s u (place_of s n) rows ∙ its.number;
          size = λ some. ap (entry_in u) place ∙ entry_in_lem s u (place_of s n) rows ∙ its.size some;
        }

-- ---- rows of areas in order

module _ (d s : List ℕ) (o : Orderly d s) (p : ℕ) (low : p < 8) where
  -- an open tape has a name
  pub open-named : handle_number s p ≢ 0 → 0 < length (name s names_at p)
  open-named held = order 0 (length (name s names_at p)) (λ l. l) (λ (l : length (name s names_at p) ≤ 0). absurd (held (o.free-shut p low (omega arith))))

  -- what is staged is staged of an open tape
  pub touched-staged : is_touched s p ≡ (staged_of s p).touched
  unfolding is_touched
  touched-staged =
      equal (handle_number s p) 0
      (λ (e : handle_number s p ≡ 0). rw (eq-eqb (handle_number s p) 0 e, o.shut-untouched p low e))
      (λ (apart : handle_number s p ≢ 0). rw (ne_eqb (handle_number s p) 0 apart))

-- ---- what is seen of the tape in a place

module _ (d s n : List ℕ) (st : Store) (seen : Seen d s n st) (p : ℕ) (found : place_of s n ≡ Some p) where
  pub list_at : shown (view_of s 17 p) ≡ record { listed = st.listed; len = st.len; start = st.start }
  list_at = sym (ap (view_in s 17) found) ∙ seen.list

  pub touched-at : Orderly d s → is_touched s p ≡ st.touched
  touched-at o = touched-staged d s o p (name-low s names_at n p found) ∙ sym (ap (touched_in s) found) ∙ seen.touched
