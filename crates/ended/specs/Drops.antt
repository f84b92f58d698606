-- The drop of an append, as what is seen of each tape: it makes the model's step `drop'`. A tape that the append made loses its handle; the others keep
-- theirs. Assumes nothing.
use Rattle.std.specs.Prelude.{◌≡◌, refl, ◌≢◌, Bool, cond, not, ◌&&◌, List, ℕ, ◌-◌, ◌<◌, eqb, length, Option, Some, None}
use Rattle.std.proofs.Math.Path.{sym, ap}
use Rattle.std.proofs.Common.{◌∙◌, true≢false}
use Rattle.std.proofs.Math.Bool.{true, false, and-false}
use Rattle.std.proofs.lemmas.Bool.{false≢true}
use native.Mathlib.Omega.{arith}
use borrow.Author.Tests.{eq-eqb, ne_eqb}
use Rattle.octets.specs.Cases.{picked, decide, equal, and_l}
use Rattle.octets.specs.First.{count_same}
use Rattle.layout.specs.NamesLaws.{name-low}
use Rattle.layout.specs.Session.{names_at, handle_number}
use Rattle.session.specs.declared.head.Head.{Head}
use Rattle.session.specs.declared.tape_rows.Staged.{Staged}
use Rattle.session.specs.declared.transactions.Kind.TheVariants as K
use Rattle.session.specs.declared.views.View.{View}
use Rattle.session.specs.Rows.{view_of, transaction_of, ring_of, ring_bytes, staged_of, find_transaction}
use Rattle.beginning.specs.Transactions.{is_open_at}
use Rattle.staging.specs.Seeing.{seen_by, touched_as}
use Rattle.ending.specs.Dropping.{drop_transaction_call}
use Rattle.ending.specs.Listing.{is_touched}
use Rattle.held.specs.Held.{Held, taken_back}
use Rattle.lives.specs.Life.{Reader, idle, appending, Store, After, Done, step, drop', then, asleep}
use Rattle.seen.specs.Seen.{place_of, view_in, staged_in, reader_in, touched_in, is_open_tape, handle_in, entry_in, files_for, count_open, Seen, Handled}
use Rattle.seen.specs.Orderly.{Orderly}
use Rattle.seen.specs.Places.{found_name, not_found}
use Rattle.seen.specs.Rows.{entry_row, size-row, open_row, list_at, touched-at, untouched-unwritten, untouched-rows, touched-staged}
use Rattle.seen.specs.Shown.{shown-keeps}
use Rattle.ended.specs.Turns.{no_place}
use Rattle.ended.specs.Ends.{Row, is-touched-row}
use Rattle.seen.specs.Starts.{CutStarts}
use Rattle.ended.specs.DropLeaves.{row_then, DropLeft, Stays, unstaged, seen-listed, fate, stays-handle, stays-number, stays-listed, place_none, place-stays, place-gone, view-same, drop-left}

module _ (d s : List ℕ) (o : Orderly d s) (k : ℕ) (u : List ℕ) (c : DropLeft d s k u) (n : List ℕ) (some : 0 < length n) where
  abbrev tape : Option ℕ
  tape = place_of s n

  abbrev staged-len : ℕ
  staged-len = (staged_in s tape).len

  -- ---- where the tape is, and whether it stays

  -- one of three: it is nowhere, it stays, or it is gone
  cases : (P : Type 0) → (tape ≡ None → P) → ((p : ℕ) → tape ≡ Some p → p < 8 → Stays s p → P)
      → ((p : ℕ) → tape ≡ Some p → p < 8 → is_touched s p ≡ true → (view_of s 17 p).listed ≡ false → P) → P
  cases P none stays gone = by tape refl
    where
      by : (f : Option ℕ) → tape ≡ f → P
      by (Some p) found =
          let l = name-low s names_at n p found in
          fate d s o k u c p l (λ is unlisted. gone p found l is unlisted) (λ st. stays p found l st)
      by None found = none found

  module _ (st : Store) (seen : Seen d s n st) where
    -- ---- the model's step

    its-writer : st.writer ≡ appending k (transaction_of s 16).epoch (staged_in s tape).listed staged-len (staged_in s tape).start
    its-writer = sym seen.writer ∙ rw (c.kind, c.number)

    abbrev held_now : Held
    held_now = cond st.touched (cond st.listed (taken_back (staged-len - st.len) st.held) (asleep st.held)) st.held

    stepped : step (drop' k) st ≡ then (Done 0) st.last st st.readers idle false (st.live && st.listed) held_now
    unfolding step
    stepped = rw (its-writer, eq-eqb k k refl)

    -- ---- what the tape was

    module _ (p : ℕ) (found : tape ≡ Some p) (low : p < 8) where
      its-listed : (view_of s 17 p).listed ≡ st.listed
      its-listed = sym (shown-keeps (view_of s 17 p)) ∙ ap (λ (v : View). v.listed) (list_at d s n st seen p found)

      -- the length that was staged
      touched-len : is_touched s p ≡ true → staged-len ≡ (staged_of s p).len
      unfolding seen_by
      touched-len is = ap (λ (f : Option ℕ). (staged_in s f).len) found ∙ rw (sym (touched-staged d s o p low) ∙ is)

    -- ---- what it is now

    files-now : files_for d u n ≡ held_now.files
    unfolding taken_back
    files-now =
        cases (files_for d u n ≡ held_now.files)
        (λ found.
        let idle-now : st.touched ≡ false = sym seen.touched ∙ ap (touched_in s) found in
        c.apart n (λ i l touched. not_found s names_at n found i l) ∙ rw (idle-now, seen.files))
        (λ p found l stays.
        let all = rw (found_name s names_at n p found) at (c.files p l) in
        decide (is_touched s p)
        (λ (is : is_touched s p ≡ true).
        let now : st.touched ≡ true = sym (touched-at d s n st seen p found o) ∙ is in
        let yes : st.listed ≡ true = sym (its-listed p found l) ∙ stays is in
        all ∙ rw (sym (is-touched-row s p) ∙ is, seen-listed d s o k u c p l ∙ stays is, now, yes, seen.files))
        (λ (is : is_touched s p ≡ false).
        let now : st.touched ≡ false = sym (touched-at d s n st seen p found o) ∙ is in
        all ∙ rw (sym (is-touched-row s p) ∙ is, now, seen.files)))
        (λ p found l is unlisted.
        let all = rw (found_name s names_at n p found) at (c.files p l) in
        let now : st.touched ≡ true = sym (touched-at d s n st seen p found o) ∙ is in
        let none : st.listed ≡ false = sym (its-listed p found l) ∙ unlisted in
        all ∙ rw (sym (is-touched-row s p) ∙ is, seen-listed d s o k u c p l ∙ unlisted, now, none, seen.files))

    live_now : is_open_tape u (place_of u n) ≡ (st.live && st.listed)
    live_now =
        cases (is_open_tape u (place_of u n) ≡ (st.live && st.listed))
        (λ found. ap (is_open_tape u) (place_none d s o k u c n some found) ∙ rw (sym seen.live ∙ ap (is_open_tape s) found))
        (λ p found l stays.
        let live : st.live ≡ not (eqb (handle_number s p) 0) = sym seen.live ∙ ap (is_open_tape s) found in
        ap (is_open_tape u) (place-stays d s o k u c n some p found stays)
        ∙ rw (stays-number d s o k u c p l stays, live)
        (equal (handle_number s p) 0
        (λ (e : handle_number s p ≡ 0). rw (eq-eqb (handle_number s p) 0 e))
        (λ (held : handle_number s p ≢ 0).
        rw (ne_eqb (handle_number s p) 0 held) (sym (sym (its-listed p found l) ∙ stays-listed d s o k u c p l stays held)))))
        (λ p found l is unlisted.
        ap (is_open_tape u) (place-gone d s o k u c n some p found is unlisted) ∙ sym (ap (λ (b : Bool). st.live && b) (sym (its-listed p found l) ∙ unlisted) ∙ and-false st.live))

    readers-same : (has : Reader → Bool) → count_open has u (place_of u n) ≡ count_open has s tape
    unfolding count_open
    readers-same has =
        count_same (λ t. is_open_at u t && has (reader_in u (place_of u n) t)) (λ t. is_open_at s t && has (reader_in s tape t)) 16 0
        (λ t a b.
        let l : t < 16 = omega arith in
        decide (is_open_at s t)
        (λ (is : is_open_at s t ≡ true).
        rw (open_row s u t (c.readers t l), is, c.readers t l, view-same d s o k u c n some t (omega arith) (o.views t l is)))
        (λ (is : is_open_at s t ≡ false). rw (open_row s u t (c.readers t l), is)))

    -- the tape is open now: so it was, in this place, and stays
    module _ (p : ℕ) (now : place_of u n ≡ Some p) where
      was : (tape ≡ Some p) × Stays s p
      was =
          cases ((tape ≡ Some p) × Stays s p)
          (λ found. absurd (no_place (sym (place_none d s o k u c n some found) ∙ now)))
          (λ q found l stays.
          let there : Some q ≡ Some p = sym (place-stays d s o k u c n some q found stays) ∙ now in
          let same : q ≡ p = cc in
          rw (← same) (found, stays))
          (λ q found l is unlisted. absurd (no_place (sym (place-gone d s o k u c n some q found is unlisted) ∙ now)))

      low : p < 8
      low = name-low u names_at n p now

      ring-now : st.live ≡ true → (ring_of u p ≡ held_now.ring) × (ring_bytes u p ≡ held_now.cache) × (0 ≡ held_now.unwritten)
      unfolding taken_back touched_as
      ring-now live =
          let found = was.0 in
          let stays = was.1 in
          let o₁ = seen.opened p found live in
          let ring : ring_of u p ≡ (row_then s p).ring = ap (λ (r : Row). r.ring) (c.rows p low) in
          decide (is_touched s p)
          (λ (is : is_touched s p ≡ true).
          let yes : st.listed ≡ true = sym (its-listed p found low) ∙ stays is in
          let its : st.touched ≡ true = sym (touched-at d s n st seen p found o) ∙ is in
          let touched : (staged_of s p).touched ≡ true = sym (touched-staged d s o p low) ∙ is in (
            ring ∙ rw (sym (is-touched-row s p) ∙ is, seen-listed d s o k u c p low ∙ stays is, its, yes, touched-len p found low is, o₁.base touched yes, o₁.ring),
            c.caches p low ∙ rw (its, yes, o₁.cache),
            rw (its, yes),
          ))
          (λ (is : is_touched s p ≡ false).
          let its : st.touched ≡ false = sym (touched-at d s n st seen p found o) ∙ is in
          let untouched-row : (staged_of s p).touched ≡ false = sym (touched-staged d s o p low) ∙ is in (
            ring ∙ rw (sym (is-touched-row s p) ∙ is, its, o₁.ring),
            c.caches p low ∙ rw (its, o₁.cache),
            rw (its, ← o₁.unwritten, untouched-row),
          ))

    untouched-now : (p : ℕ) → p < 8 → (staged_of u p).touched ≡ false
    untouched-now p l = ap (λ (r : Staged). r.touched) (unstaged d s o k u c p l)

    drop-seen : Seen d u n (step (drop' k) st).store
    drop-seen =
        rw stepped
        (record {
          epoch = ap (λ (h : Head). h.epoch) c.head ∙ seen.epoch;
          cut = ap (λ (h : Head). h.cut) c.head ∙ seen.cut;
          last = ap (λ (h : Head). h.last_transaction) c.head ∙ seen.last;
          list = view-same d s o k u c n some 17 (omega arith) (λ p l e. e) ∙ seen.list;
          readers = λ has. readers-same has ∙ seen.readers has;
          writer = rw c.shut;
          touched = untouched-rows u (place_of u n) (λ p now. untouched-now p (low p now));
          live = live_now;
          files = files-now;
          opened = λ p now live.
              let was-live : st.live ≡ true = and_l st.live st.listed live in
              let r = ring-now p now was-live in
              record {
                ring = r.0;
                cache = r.1;
                size = size-row s u p (stays-handle d s o k u c p (low p now) (was p now).1) ∙ (seen.opened p (was p now).0 was-live).size;
                unwritten = untouched-unwritten u p (untouched-now p (low p now)) ∙ r.2;
                base = λ touched. absurd (true≢false (sym touched ∙ untouched-now p (low p now)));
              };
        })

  -- ---- handles: 0 where the tape is not listed, as before where it is

  abbrev handle_then : ℕ → ℕ
  handle_then handle = cond (view_in s 17 tape).listed handle 0

  module _ (handle entry : ℕ) (its : Handled s n handle entry) where
    number-then : handle_in u (place_of u n) ≡ handle_then handle
    number-then =
        cases (handle_in u (place_of u n) ≡ handle_then handle)
        (λ found. ap (handle_in u) (place_none d s o k u c n some found) ∙ sym (ap (λ (f : Option ℕ). cond (view_in s 17 f).listed handle 0) found))
        (λ p found l stays.
        let number : handle_number s p ≡ handle = sym (ap (handle_in s) found) ∙ its.number in
        ap (handle_in u) (place-stays d s o k u c n some p found stays)
        ∙ stays-number d s o k u c p l stays
        ∙ sym (ap (λ (f : Option ℕ). cond (view_in s 17 f).listed handle 0) found ∙ rw (shown-keeps (view_of s 17 p))
        (equal (handle_number s p) 0
        (λ (e : handle_number s p ≡ 0). rw (e, ← number) (picked (λ (x : ℕ). x ≡ 0) (view_of s 17 p).listed (handle_number s p) 0 (λ yes. e) (λ none. refl)))
        (λ (held : handle_number s p ≢ 0). rw (stays-listed d s o k u c p l stays held) (sym number)))))
        (λ p found l is unlisted.
        ap (handle_in u) (place-gone d s o k u c n some p found is unlisted)
        ∙ sym (ap (λ (f : Option ℕ). cond (view_in s 17 f).listed handle 0) found ∙ rw (shown-keeps (view_of s 17 p), unlisted)))

    handled-then : Handled u n (handle_then handle) entry
    handled-then =
        record {
          number = number-then;
          size = λ open-now.
              cases (entry_in u (place_of u n) ≡ entry)
              (λ found. absurd (open-now (ap (λ (f : Option ℕ). cond (view_in s 17 f).listed handle 0) found)))
              (λ p found l stays.
              let open-before : handle ≢ 0 = λ z. open-now (rw z (picked (λ (x : ℕ). x ≡ 0) (view_in s 17 tape).listed 0 0 (λ yes. refl) (λ none. refl))) in
              ap (entry_in u) (place-stays d s o k u c n some p found stays)
              ∙ entry_row s u p (stays-handle d s o k u c p l stays)
              ∙ sym (ap (entry_in s) found)
              ∙ its.size open-before)
              (λ p found l is unlisted.
              absurd (open-now (ap (λ (f : Option ℕ). cond (view_in s 17 f).listed handle 0) found ∙ rw (shown-keeps (view_of s 17 p), unlisted))));
        }

-- ---- the laws

module _ (d s : List ℕ) (o : Orderly d s) (k : ℕ) (found : find_transaction s k ≡ Some 16) (kind : (transaction_of s 16).kind ≡ K.Append) where
  abbrev u : List ℕ
  u = (drop_transaction_call d s k).session

  abbrev c : DropLeft d s k u
  c = drop-left d s o k found kind

  pub drop-append-starts : CutStarts u
  drop-append-starts = rw c.shut (λ truncates. absurd (false≢true truncates))

  module _ (n : List ℕ) (some : 0 < length n) where
    pub drop-append-answer : (st : Store) → Seen d s n st → (step (drop' k) st).answer ≡ Done 0
    drop-append-answer st seen = ap (λ (a : After). a.answer) (stepped d s o k u c n some st seen)

    pub drop-append-seen : (st : Store) → Seen d s n st → Seen d u n (step (drop' k) st).store
    drop-append-seen = drop-seen d s o k u c n some

    -- 0 for a tape that is not listed, so for one that the append made; else as before
    pub drop-append-handled : (handle entry : ℕ) → Handled s n handle entry → Handled u n (cond (view_in s 17 (place_of s n)).listed handle 0) entry
    drop-append-handled = handled-then d s o k u c n some

    -- the same, by the model
    pub drop-append-handles : (st : Store) → Seen d s n st → (handle entry : ℕ) → Handled s n handle entry → Handled u n (cond st.listed handle 0) entry
    drop-append-handles st seen handle entry its =
        rw (ap (λ (v : View). v.listed) seen.list) at (drop-append-handled handle entry its)
