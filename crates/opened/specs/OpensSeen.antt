-- What is seen of a tape that is opened: what the store of `lives` has after its open. Assumes nothing.
use Rattle.std.specs.Prelude.{◌≡◌, Bool, true, ◌&&◌, List, ltb, length, Option, Some, None}
use Rattle.std.proofs.Math.Path.{refl, sym, ap, subst}
use Rattle.std.proofs.Common.{◌∙◌, true≢false}
use Rattle.std.proofs.Math.Bool.{false, cond}
use Prim.Native.Nat.{ℕ, ◌-◌, max}
use native.Mathlib.Omega.{arith}
use borrow.Author.Tests.{eq-eqb, ne_eqb, eqb-true, le-leb, lt-ltb}
use Rattle.std.proofs.Math.Dec.{eqb}
use Rattle.octets.specs.Cases.{decide}
use Rattle.components.specs.Files.{Files, no_files}
use Rattle.held.specs.Held.{filled, load, taken}
use Rattle.layout.specs.Disk.{directories}
use Rattle.layout.specs.Names.{find_name}
use Rattle.layout.specs.NamesLaws.{name-low}
use Rattle.layout.specs.Session.{names_at, handle_number, file_size_of}
use Rattle.session.specs.declared.head.Head.{Head}
use Rattle.session.specs.declared.tape_rows.Handle.{Handle}
use Rattle.session.specs.declared.tape_rows.Staged.{Staged}
use Rattle.session.specs.declared.views.View.{View}
use Rattle.session.specs.Meaning.{no_view}
use Rattle.session.specs.Rows.{view_of, transaction_of, handle_of, ring_bytes}
use Rattle.session.specs.RowLaws.{length-ring_bytes}
use Rattle.rolling_tape.specs.Reading.{can_read, read_run}
use Rattle.beginning.specs.Transactions.{is_open_at}
use Rattle.staging.specs.Seeing.{seen_by, touched_as}
use Rattle.opening.specs.declared.shape.Opening.{Opening}
use Rattle.opening.specs.Shape.{opening_of}
use Rattle.opening.specs.NamesLeft.{is_nothing}
use Rattle.opening.specs.Calls.{cached_from, cached_count, cached_bytes, next_handle, view_found, is_open_tape, opened}
use Rattle.joins.specs.Fetches.{given, load-reads}
use Rattle.lives.specs.Life.{appending, Store, After, Done, open', step, step_open, capacity_fits, then, open_new}
use Rattle.seen.specs.Seen.{place_of, shown, view_in, staged_in, writer_as, writer_in, touched_in, files_in, SeenOpen, Seen, Handled, handle_in, entry_in}
use Rattle.seen.specs.Orderly.{Orderly}
use Rattle.opened.specs.OpensFolders.{opened_files}
use Rattle.opened.specs.OpensPlaces.{place-either, own-place, own-list, own-readers}
use Rattle.opened.specs.OpensServed.{ServedOpen}
use Rattle.opened.specs.OpensOrder.{own-number}

-- ---- the step, in each of its two ways

module _ (st : Store) (t began fs cache start : ℕ) (memory : List ℕ) (fits : (capacity_fits cache memory && ltb 0 fs) ≡ true) (shut : st.live ≡ false) where
  step-new : (l f : ℕ) → st.writer ≡ appending t began false l f → step (open' t fs cache start memory) st ≡ open_new st t began fs cache start memory
  unfolding step
  step-new l f w = ap (step_open st t fs cache start memory) w ∙ rw (eq-eqb t t refl, fits, shut)

  step-known : (l f : ℕ) (bs : List ℕ) → st.writer ≡ appending t began true l f → fs ≡ st.size
      → load fs st.held.files (max (l - cache) f) (l - max (l - cache) f) ≡ Some bs
      → step (open' t fs cache start memory) st
      ≡ then (Done 1) st.last st st.readers (appending t began true l f) true true
      (filled cache (max (l - cache) f) memory bs (taken st.size began l f st.held.files))
  unfolding step
  step-known l f bs w size loaded =
      ap (step_open st t fs cache start memory) w ∙ rw (eq-eqb t t refl, fits, shut, eq-eqb fs st.size size, loaded)

-- the length of a view that is shown as listed
listed-len : (other : ℕ) (x : View) (li : Bool) (l f : ℕ) → shown x ≡ record { listed = li; len = l; start = f } → li ≡ true → cond x.listed x.len other ≡ l
listed-len other x li l f e listed =
    decide x.listed
    (λ (y : x.listed ≡ true). ap (λ (b : Bool). cond b x.len other) y ∙ ap (λ (z : View). z.len) (sym (ap (λ (b : Bool). cond b x no_view) y) ∙ e))
    (λ (y : x.listed ≡ false). absurd (true≢false (sym listed ∙ sym (ap (λ (z : View). z.listed) (sym (ap (λ (b : Bool). cond b x no_view) y) ∙ e)))))

-- ---- the tape as it was

module _ (d s : List ℕ) (t : ℕ) (wanted : List ℕ) (entry fs cache start : ℕ) (e u : List ℕ) (orderly : Orderly d s) (sv : ServedOpen d s t wanted entry fs cache start e u) where
  open sv use {place as p, rows}

  abbrev o : Opening
  o = opened s wanted entry fs cache start

  abbrev bs : List ℕ
  bs = cached_bytes d wanted o

  abbrev began : ℕ
  began = (transaction_of s 16).epoch

  abbrev v : View
  v = view_found s (place_of s wanted)

  -- nothing was staged of it
  staged-was : staged_in s (place_of s wanted) ≡ shown v
  unfolding seen_by
  staged-was = by (place_of s wanted) refl sv.opens.shut
    where
      by : (f : Option ℕ) → place_of s wanted ≡ f → is_open_tape s f ≡ false → staged_in s f ≡ shown (view_found s f)
      by (Some q) at shut =
          let none : handle_number s q ≡ 0
          = decide (eqb (handle_number s q) 0) (λ z. eqb-true _ _ z) (λ (z : eqb (handle_number s q) 0 ≡ false). absurd (true≢false (rw z at shut))) in
          rw (orderly.shut-untouched q (name-low s names_at wanted q at) none)
      by None at shut = refl

  module _ (st : Store) (seen : Seen d s wanted st) where
    writer-was : st.writer ≡ appending t began (shown v).listed (shown v).len (shown v).start
    writer-was =
        sym seen.writer
        ∙ ap (λ (x : View). writer_as (transaction_of s 16).kind (transaction_of s 16).number began x) staged-was
        ∙ rw (sv.kind, sv.number)

    shut-was : st.live ≡ false
    shut-was = sym seen.live ∙ sv.opens.shut

    memory-fits : (capacity_fits cache (ring_bytes s p) && ltb 0 fs) ≡ true
    unfolding opening_of
    memory-fits =
        let shaped = sv.shaped in
        let low = sv.low in
        let long = length-ring_bytes s p (omega (arith, orderly.session.long)) in
        rw (
          le-leb 1 cache shaped.cache-some,
          le-leb cache 4096 shaped.cache-small,
          le-leb cache (length (ring_bytes s p)) (omega (arith, shaped.cache-small)),
          lt-ltb 0 fs (omega (arith, shaped.file-some)),
        )

    -- ---- the step that the store of `lives` makes

    -- what it becomes: the same in both ways, since `o` has the length and the start that the tape has then
    abbrev store_as : ℕ → Files → Store
    store_as size files =
        record {
          size = size;
          last = st.last;
          epoch = st.epoch;
          cut = st.cut;
          listed = st.listed;
          len = st.len;
          start = st.start;
          readers = st.readers;
          writer = appending t began true o.len o.start;
          touched = true;
          live = true;
          held = filled cache (cached_from o) (ring_bytes s p) bs files;
        }

    abbrev pub store_after : Store
    store_after = store_as fs (opened_files o began st.held.files)

    abbrev pub step_opened : After
    step_opened = record { answer = Done 1; store = store_after }

    goes-new : v.listed ≡ false → step (open' t fs cache start (ring_bytes s p)) st ≡ step_opened
    unfolding opening_of read_run
    goes-new new =
        let at-start : max (start - cache) start ≡ start = omega arith in
        step-new st t began fs cache start (ring_bytes s p) memory-fits shut-was 0 0 (writer-was ∙ rw new)
        ∙ rw (new, at-start)

    module _ (known : v.listed ≡ true) where
      count-known : cached_count o ≡ o.len - cached_from o
      unfolding opening_of
      count-known = ap (λ (b : Bool). cond b (o.len - cached_from o) 0) known

      writer-known : st.writer ≡ appending t began true o.len o.start
      unfolding opening_of
      writer-known =
          let as-listed : shown v ≡ v = ap (λ (b : Bool). cond b v no_view) known in
          let len_is : v.len ≡ o.len = sym (ap (λ (b : Bool). cond b v.len start) known) in
          let start_is : v.start ≡ o.start = sym (ap (λ (b : Bool). cond b v.start start) known) in
          writer-was ∙ ap (λ (x : View). appending t began x.listed x.len x.start) as-listed ∙ (λ i. appending t began (known i) (len_is i) (start_is i))

      -- its files have what its cache is filled with
      loads : load fs st.held.files (cached_from o) (o.len - cached_from o) ≡ Some bs
      unfolding opening_of
      loads = by (find_name d directories wanted) refl sv.opens.there
        where
          by : (f : Option ℕ) → find_name d directories wanted ≡ f → (o.listed && is_nothing f) ≡ false → load fs st.held.files (cached_from o) (o.len - cached_from o) ≡ Some bs
          by (Some place) there some-there =
              ap (λ (f : Files). load fs f (cached_from o) (o.len - cached_from o)) (sym seen.files ∙ ap (files_in d s) there)
              ∙ load-reads d s orderly.disk wanted place there fs (cached_from o) (o.len - cached_from o)
              ∙ ap (λ (n : ℕ). given (can_read d s false wanted fs (cached_from o) n) (read_run d wanted fs (cached_from o) n)) (sym count-known)
              ∙ ap (λ (b : Bool). given b bs) sv.opens.fill
          by None there some-there = absurd (true≢false (rw known at some-there))

      goes-known : fs ≡ st.size → step (open' t fs cache start (ring_bytes s p)) st ≡ step_opened
      unfolding opening_of
      goes-known size =
          let files : taken st.size began o.len o.start st.held.files ≡ opened_files o began st.held.files
          = ap (λ (n : ℕ). taken n began o.len o.start st.held.files) (sym size)
          ∙ sym (ap (λ (b : Bool). cond b (taken fs began o.len o.start st.held.files) no_files) known) in
          step-known st t began fs cache start (ring_bytes s p) memory-fits shut-was o.len o.start bs writer-known size loads
          ∙ (λ i. record { answer = Done 1; store = store_as (sym size i) (files i) })

    pub open-goes : (v.listed ≡ true → fs ≡ st.size) → step (open' t fs cache start (ring_bytes s p)) st ≡ step_opened
    open-goes same = decide v.listed (λ known. goes-known known (same known)) goes-new

    -- ---- what is seen then

    size_is : file_size_of u p ≡ fs
    unfolding handle_of opening_of
    size_is = ap (λ (h : Handle). h.file_size) rows.own-handle

    writer-is : writer_in u (place_of u wanted) ≡ appending t began true o.len o.start
    unfolding seen_by
    writer-is =
        ap (writer_in u) (own-place d s u p wanted o bs orderly sv.low sv.shaped.name-some sv.opens.place rows)
        ∙ rw (rows.transactions 16 (omega arith), sv.kind, sv.number, rows.own-staged)

    unwritten-is : (touched_as u p).unwritten ≡ 0
    unfolding touched_as
    unwritten-is = rw rows.own-staged

    -- a listed tape is opened with its committed length
    base-is : st.listed ≡ true → o.len ≡ st.len
    unfolding opening_of is_open_at
    base-is listed =
        place-either s wanted p sv.opens.place
        (λ found.
        let list : shown (view_of s 17 p) ≡ record { listed = st.listed; len = st.len; start = st.start } = ap (view_in s 17) (sym found) ∙ seen.list in
        let same : view_of s 16 p ≡ view_of s 17 p = orderly.writer-view (rw sv.kind) p sv.low in
        ap (λ (f : Option ℕ). cond (view_found s f).listed (view_found s f).len start) found
        ∙ ap (λ (x : View). cond x.listed x.len start) same
        ∙ listed-len start (view_of s 17 p) st.listed st.len st.start list listed)
        (λ missing free. absurd (true≢false (sym listed ∙ sym (ap (λ (x : View). x.listed) (ap (view_in s 17) (sym missing) ∙ seen.list)))))

    pub own-seen : Seen e u wanted store_after
    unfolding filled opening_of
    own-seen =
        let here = own-place d s u p wanted o bs orderly sv.low sv.shaped.name-some sv.opens.place rows in
        record {
          epoch = ap (λ (h : Head). h.epoch) rows.head ∙ seen.epoch;
          cut = ap (λ (h : Head). h.cut) rows.head ∙ seen.cut;
          last = ap (λ (h : Head). h.last_transaction) rows.head ∙ seen.last;
          list = own-list d s u p wanted o bs orderly sv.low sv.shaped.name-some sv.opens.place rows ∙ seen.list;
          readers = λ has. own-readers d s u p wanted o bs orderly sv.low sv.shaped.name-some sv.opens.place rows has ∙ seen.readers has;
          writer = writer-is;
          touched = ap (touched_in u) here ∙ ap (λ (x : Staged). x.touched) rows.own-staged;
          live = ap (is_open_tape u) here ∙ rw (own-number d s t wanted entry fs cache start e u orderly sv, ne_eqb (next_handle s) 0 (λ z. omega arith));
          files = ap (files_in e u) sv.readied.found ∙ sv.readied.changed.own ∙ ap (opened_files o began) seen.files;
          opened = λ q found live.
              let same : q ≡ p = cc in
              subst (λ (i : ℕ). SeenOpen u i store_after) (sym same)
              (record {
                ring = rows.own-ring;
                cache = rows.own-cache;
                size = size_is;
                unwritten = unwritten-is;
                base = λ touched listed. ap (λ (x : Staged). x.base) rows.own-staged ∙ base-is listed;
              });
        }

  -- ---- its handle

  pub own-handled : Handled u wanted (next_handle s) entry
  unfolding handle_of opening_of
  own-handled =
      let here = own-place d s u p wanted o bs orderly sv.low sv.shaped.name-some sv.opens.place rows in
      record {
        number = ap (handle_in u) here ∙ ap (λ (h : Handle). h.number) rows.own-handle;
        size = λ Some. ap (entry_in u) here ∙ ap (λ (h : Handle). h.entry) rows.own-handle;
      }
