-- What the drop of an append leaves, row by row, of areas in order: head, views, caches and readers stay, nothing is staged any more, a tape that the append
-- made is gone, and the others keep their names and handles. So the areas are in order again. Assumes nothing.
use Rattle.std.specs.Prelude.{◌≡◌, refl, ◌≢◌, true, false, not, List, [], ℕ, ◌<◌, length, Option, Some, None, Ok}
use Rattle.std.proofs.Common.{sym, ◌∙◌, true≢false}
use Rattle.std.proofs.Math.Path.{ap}
use native.Mathlib.Omega.{arith}
use borrow.Author.Tests.{eqb-true}
use Rattle.octets.specs.Cases.{decide, and_r}
use Rattle.octets.specs.Compare.{same_bytes, same_true}
use Rattle.octets.specs.First.{first-hits, first-never}
use Rattle.octets.specs.Sweep.{sweep, sweep-keeps}
use Rattle.layout.specs.Names.{name, find_name}
use Rattle.layout.specs.NamesLaws.{name-low}
use Rattle.layout.specs.Session.{names_at, handle_number, Begun}
use Rattle.session.specs.declared.head.Head.{Head}
use Rattle.session.specs.declared.tape_rows.Staged.{Staged}
use Rattle.session.specs.declared.transactions.Kind.TheVariants as K
use Rattle.session.specs.declared.views.View.{View}
use Rattle.session.specs.Meaning.{no_handle, closed, untouched}
use Rattle.session.specs.Rows.{head_of, view_of, transaction_of, handle_of, ring_bytes, staged_of, is_closed, is_open_as, find_transaction}
use Rattle.session.specs.RowLaws.{handle-numbered}
use Rattle.beginning.specs.Transactions.{After, after, is_open_at}
use Rattle.beginning.specs.Ways.{→usable}
use Rattle.ending.specs.CutLaws.{shut-close_writer}
use Rattle.ending.specs.DropLaws.{length-drop_transaction, begun-take_back, begun-drop_append, bytes-drop_transaction, drop-served}
use Rattle.ending.specs.Dropping.{take_back, drop_append, drop_at, drop_transaction_call}
use Rattle.ending.specs.Listing.{is_touched}
use Rattle.restarts.specs.Kept.{drop-transaction-level}
use Rattle.touches.specs.Drops.{DropLeaves, drop-transaction-leaves}
use Rattle.touches.specs.Rows.{head-stays, view-stays, transaction-stays, cache-stays}
use Rattle.seen.specs.Seen.{place_of, shown, view_in, files_for}
use Rattle.seen.specs.Orderly.{Orderly}
use Rattle.seen.specs.Places.{found_name, not_found, found_at}
use Rattle.seen.specs.Rows.{number-row, shut_row, was-open, readers-once, readers-given, touched-staged}
use Rattle.seen.specs.Lists.{recorded-same}
use Rattle.ended.specs.Ends.{Row, row_of, is-touched-row, touched-apart, closed-row, closed-files}
use Rattle.ended.specs.DropRows.{row_after_drop, files_after_drop, drop-rows, drop-files, drop-apart}

-- tape p after it
abbrev pub row_then : List ℕ → ℕ → Row
row_then s p = row_after_drop (view_of s 16 p).listed (row_of s p)

-- from s, where k is the append's number, to u
pub record DropLeft (d s : List ℕ) (k : ℕ) (u : List ℕ) : Type 0 where
  pub kind : (transaction_of s 16).kind ≡ K.Append
  pub number : (transaction_of s 16).number ≡ k
  pub begun : Begun u
  pub head : head_of u ≡ head_of s
  pub views : (w p : ℕ) → w < 18 → p < 8 → view_of u w p ≡ view_of s w p
  pub readers : (t : ℕ) → t < 16 → transaction_of u t ≡ transaction_of s t
  pub shut : transaction_of u 16 ≡ closed
  pub caches : (p : ℕ) → p < 8 → ring_bytes u p ≡ ring_bytes s p
  pub rows : (p : ℕ) → p < 8 → row_of u p ≡ record { handle = (row_then s p).handle; name = (row_then s p).name; ring = (row_then s p).ring; staged = untouched }
  pub files : (p : ℕ) → p < 8 → files_for d u (name s names_at p) ≡ files_after_drop (view_of s 16 p).listed (row_of s p) (files_for d s (name s names_at p))
  pub apart : (n : List ℕ) → ((i : ℕ) → i < 8 → is_touched s i ≡ true → name s names_at i ≢ n) → files_for d u n ≡ files_for d s n

-- ---- which tapes stay

-- it was not touched, or it is listed
abbrev pub Stays : List ℕ → ℕ → Type 0
Stays s p = is_touched s p ≡ true → (view_of s 17 p).listed ≡ true

module _ (d s : List ℕ) (o : Orderly d s) (k : ℕ) (u : List ℕ) (c : DropLeft d s k u) where
  pub writer-open : is_open_at s 16 ≡ true
  unfolding is_open_at
  writer-open = rw c.kind

  pub unstaged : (p : ℕ) → p < 8 → staged_of u p ≡ untouched
  unstaged p low = ap (λ (r : Row). r.staged) (c.rows p low)

  module _ (p : ℕ) (low : p < 8) where
    pub seen-listed : (view_of s 16 p).listed ≡ (view_of s 17 p).listed
    seen-listed = ap (λ (v : View). v.listed) (o.writer-view writer-open p low)

    -- what does not stay is gone
    pub fate : {X : Type 0} → (is_touched s p ≡ true → (view_of s 17 p).listed ≡ false → X) → (Stays s p → X) → X
    fate {X} gone stays =
        decide (is_touched s p)
        (λ (is : is_touched s p ≡ true). decide (view_of s 17 p).listed (λ yes. stays (λ e. yes)) (λ none. gone is none))
        (λ (is : is_touched s p ≡ false). stays (λ e. absurd (true≢false (sym e ∙ is))))

    module _ (stays : Stays s p) where
      same_row : ((row_then s p).handle ≡ handle_of s p) × ((row_then s p).name ≡ name s names_at p)
      same_row =
          decide (is_touched s p)
          (λ (is : is_touched s p ≡ true). rw (sym (is-touched-row s p) ∙ is, seen-listed ∙ stays is) (refl, refl))
          (λ (is : is_touched s p ≡ false). rw (sym (is-touched-row s p) ∙ is) (refl, refl))

      pub stays-handle : handle_of u p ≡ handle_of s p
      stays-handle = ap (λ (r : Row). r.handle) (c.rows p low) ∙ same_row.0

      pub stays-number : handle_number u p ≡ handle_number s p
      stays-number = number-row s u p stays-handle

      pub stays-name : name u names_at p ≡ name s names_at p
      stays-name = ap (λ (r : Row). r.name) (c.rows p low) ∙ same_row.1

      -- an open tape that stays is listed
      pub stays-listed : handle_number s p ≢ 0 → (view_of s 17 p).listed ≡ true
      stays-listed held =
          decide (view_of s 17 p).listed (λ yes. yes) (λ none. stays (touched-staged d s o p low ∙ o.made-touched p low held none))

    module _ (is : is_touched s p ≡ true) (none : (view_of s 17 p).listed ≡ false) where
      gone-row : ((row_then s p).handle ≡ no_handle) × ((row_then s p).name ≡ [])
      gone-row = rw (sym (is-touched-row s p) ∙ is, seen-listed ∙ none) (refl, refl)

      pub gone-number : handle_number u p ≡ 0
      gone-number = sym (handle-numbered u p no_handle (sym (ap (λ (r : Row). r.handle) (c.rows p low) ∙ gone-row.0)))

      pub gone-name : name u names_at p ≡ []
      gone-name = ap (λ (r : Row). r.name) (c.rows p low) ∙ gone-row.1

    pub open_stays : handle_number u p ≢ 0 → Stays s p
    open_stays held = fate (λ is none. absurd (held (gone-number is none))) (λ stays. stays)

    pub named-stays : 0 < length (name u names_at p) → Stays s p
    named-stays some =
        fate
        (λ is none.
        let e = ap length (gone-name is none) in
        absurd (omega arith))
        (λ stays. stays)

  -- ---- places

  module _ (n : List ℕ) (some : 0 < length n) where
    -- a name that is there was there
    was-named : (q : ℕ) → q < 8 → name u names_at q ≡ n → name s names_at q ≡ n
    was-named q l same =
        let e = ap length same in
        sym (stays-name q l (named-stays q l (omega arith))) ∙ same

    nowhere : ((q : ℕ) → q < 8 → name s names_at q ≡ n → name u names_at q ≡ n → ⊥) → place_of u n ≡ None
    unfolding find_name
    nowhere none =
        first-never (λ i. same_bytes (name u names_at i) n) 8 0
        (λ q a b.
        let l : q < 8 = omega arith in
        decide (same_bytes (name u names_at q) n)
        (λ (is : same_bytes (name u names_at q) n ≡ true).
        let same = same_true (name u names_at q) n is in
        absurd (none q l (was-named q l same) same))
        (λ e. e))

    pub place_none : place_of s n ≡ None → place_of u n ≡ None
    place_none found = nowhere (λ q l same now. not_found s names_at n found q l same)

    module _ (p : ℕ) (found : place_of s n ≡ Some p) where
      low : p < 8
      low = name-low s names_at n p found

      -- no other place has the name
      alone : (q : ℕ) → q < 8 → name s names_at q ≡ n → q ≡ p
      alone q l same =
          let named = found_name s names_at n p found in
          let e = ap length same in
          o.names q p l low (omega arith) (same ∙ sym named)

      pub place-stays : Stays s p → place_of u n ≡ Some p
      place-stays stays =
          found_at u names_at n p low (stays-name p low stays ∙ found_name s names_at n p found) (λ q l same. alone q l (was-named q l same))

      pub place-gone : is_touched s p ≡ true → (view_of s 17 p).listed ≡ false → place_of u n ≡ None
      place-gone is none =
          nowhere
          (λ q l same now.
          let here : name u names_at p ≡ n = ap (name u names_at) (sym (alone q l same)) ∙ now in
          let e = ap length (sym here ∙ gone-name p low is none) in
          absurd (omega arith))

    -- what a view that lists no more than the list shows
    pub view-same : (w : ℕ) → w < 18 → ((p : ℕ) → p < 8 → (view_of s w p).listed ≡ true → (view_of s 17 p).listed ≡ true)
        → view_in u w (place_of u n) ≡ view_in s w (place_of s n)
    view-same w l less = by (place_of s n) refl
      where
        by : (f : Option ℕ) → place_of s n ≡ f → view_in u w (place_of u n) ≡ view_in s w f
        by (Some p) found =
            let q = low p found in
            fate p q
            (λ is none.
            let hidden : (view_of s w p).listed ≡ false = decide (view_of s w p).listed (λ yes. absurd (true≢false (sym (less p q yes) ∙ none))) (λ e. e) in
            ap (view_in u w) (place-gone p found is none) ∙ rw hidden)
            (λ stays. ap (view_in u w) (place-stays p found stays) ∙ ap shown (c.views w p l q))
        by None found = ap (view_in u w) (place_none found)

-- ---- the call

module _ (d s : List ℕ) (o : Orderly d s) (k : ℕ) (found : find_transaction s k ≡ Some 16) (kind : (transaction_of s 16).kind ≡ K.Append) where
  abbrev u : List ℕ
  u = (drop_transaction_call d s k).session

  its-number : (transaction_of s 16).number ≡ k
  unfolding find_transaction transaction_of
  its-number = eqb-true _ k (and_r (not (is_closed s 16)) _ (first-hits (is_open_as s k) 17 0 16 found).holds)

  pub drop-is : drop_transaction_call d s k ≡ after (Ok 0) (drop_append d s)
  unfolding drop_at
  drop-is = drop-served d s k (→usable d s o.disk o.session) 16 found (rw kind)

  session-is : u ≡ drop_append d s
  session-is = ap (λ (a : After). a.session) drop-is

  abbrev back : List ℕ
  back = sweep (take_back d) 8 0 s

  back-begun : Begun back
  back-begun = sweep-keeps Begun (take_back d) 8 0 s (λ j t l m b. begun-take_back d t o.disk b j (omega arith)) o.session

  left : DropLeaves (Some 16) s u
  left = rw found at (drop-transaction-leaves d s k)

  pub drop-left : DropLeft d s k u
  unfolding drop_append
  drop-left =
      let apart = touched-apart d s o in
      let sound = o.disk in
      let begun = o.session in
      let bytes = o.session-bytes in
      let long = length-drop_transaction d s k in
      record {
        kind = kind;
        number = its-number;
        begun = rw session-is (begun-drop_append d s sound begun);
        head = head-stays _ _ s u left.head-stays (omega arith) (omega arith);
        views = λ w p l m. view-stays _ _ s u left.views-stay w p (omega arith) (omega arith);
        readers = λ t l.
            let other : Some 16 ≢ Some t = λ e. let same : 16 ≡ t = cc in omega arith in
            transaction-stays _ _ s u (left.transactions-stay t (omega arith) other) t (omega arith) (omega arith);
        shut = rw session-is (shut-close_writer back back-begun.long);
        caches = λ p l. cache-stays _ _ s u left.rings-stay long p (omega arith) (omega arith);
        rows = λ p l.
            rw session-is
            (closed-row back back-begun p l
            ∙ ap (λ (r : Row). record { handle = r.handle; name = r.name; ring = r.ring; staged = untouched }) (drop-rows d s sound begun bytes apart p l));
        files = λ p l. rw session-is (closed-files back back-begun d (name s names_at p) ∙ drop-files d s sound begun bytes apart p l);
        apart = λ n none. rw session-is (closed-files back back-begun d n ∙ drop-apart d s sound begun bytes apart n none);
      }

  -- ---- in order again

  abbrev c : DropLeft d s k u
  c = drop-left

  writer-shut : is_open_at u 16 ≡ false
  writer-shut = shut_row u 16 c.shut

  listed_same : (w p : ℕ) → w < 18 → p < 8 → (view_of u w p).listed ≡ (view_of s w p).listed
  listed_same w p l m = ap (λ (v : View). v.listed) (c.views w p l m)

  -- an open tape is listed
  none_made : (p : ℕ) → p < 8 → handle_number u p ≢ 0 → (view_of u 17 p).listed ≡ false → ⊥
  none_made p l held none =
      let stays = open_stays d s o k u c p l held in
      let listed = stays-listed d s o k u c p l stays (λ z. held (stays-number d s o k u c p l stays ∙ z)) in
      true≢false (sym listed ∙ sym (listed_same 17 p (omega arith) l) ∙ none)

  pub drop-append-orderly : Orderly d u
  drop-append-orderly =
      let stays-of = named-stays d s o k u c in
      let named = stays-name d s o k u c in
      let numbered = stays-number d s o k u c in
      let untouched-all : (p : ℕ) → p < 8 → (staged_of u p).touched ≡ false = λ p l. ap (λ (r : Staged). r.touched) (unstaged d s o k u c p l) in
      record {
        disk = o.disk;
        session = c.begun;
        disk-bytes = o.disk-bytes;
        session-bytes = bytes-drop_transaction d s k o.session-bytes;
        once = o.once;
        names = λ p q l m some same.
            let e = ap length same in
            let a = named p l (stays-of p l some) in
            let b = named q m (stays-of q m (omega arith)) in
            o.names p q l m (rw a at some) (sym a ∙ same ∙ b);
        folders = o.folders;
        handles = λ p q l m some same.
            let a = numbered p l (open_stays d s o k u c p l some) in
            let b = numbered q m (open_stays d s o k u c q m (rw same at some)) in
            o.handles p q l m (rw a at some) (sym a ∙ same ∙ b);
        handle-given = λ p l.
            fate d s o k u c p l
            (λ is none. rw (gone-number d s o k u c p l is none) (omega arith))
            (λ stays. rw (numbered p l stays, c.head) (o.handle-given p l));
        numbers = readers-once d s u o writer-shut c.readers;
        number-given = readers-given d s u o writer-shut c.readers (ap (λ (h : Head). h.last_transaction) c.head);
        free-shut = λ p l none.
            fate d s o k u c p l
            (λ is gone. gone-number d s o k u c p l is gone)
            (λ stays. numbered p l stays ∙ o.free-shut p l (rw (named p l stays) at none));
        free-unlisted = λ p l none.
            fate d s o k u c p l
            (λ is gone. listed_same 17 p (omega arith) l ∙ gone)
            (λ stays. listed_same 17 p (omega arith) l ∙ o.free-unlisted p l (rw (named p l stays) at none));
        shut-untouched = λ p l none. untouched-all p l;
        idle-untouched = λ none p l. untouched-all p l;
        views = λ t l open-t p m listed.
            listed_same 17 p (omega arith) m
            ∙ o.views t l (was-open d s u o writer-shut c.readers t l open-t) p m (sym (listed_same t p (omega arith) m) ∙ listed);
        writer-view = λ is_open. absurd (true≢false (sym is_open ∙ writer-shut));
        writer-epoch = λ is_open. absurd (true≢false (sym is_open ∙ writer-shut));
        made-append = λ p l held none. absurd (none_made p l held none);
        made-touched = λ p l held none. absurd (none_made p l held none);
        folder = λ p l held.
            let stays = open_stays d s o k u c p l held in
            rw (named p l stays) (o.folder p l (rw (numbered p l stays) at held));
        recorded =
            recorded-same d s d u (λ side. refl) (ap (λ (h : Head). h.epoch) c.head)
            (λ n some. view-same d s o k u c n some 17 (omega arith) (λ p l e. e)) o.recorded;
        level = drop-transaction-level d s o.level k;
      }
