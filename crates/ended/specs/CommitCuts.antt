-- The commit of a truncate, as what is seen of each tape: it makes the model's step `commit`, and its handle stays. Assumes nothing.
use Rattle.std.specs.Prelude.{◌≡◌, ◌≢◌, Bool, cond, List, ℕ, ◌+◌, ◌≤◌, ◌<◌, min, Option, Some, None}
use Rattle.std.proofs.Math.Path.{refl, sym}
use Rattle.std.proofs.Common.{ap, ◌∙◌, true≢false, arith}
use Rattle.std.proofs.Math.Bool.{true, false}
use Rattle.std.proofs.lemmas.Bool.{false≢true}
use borrow.Author.Tests.{eq-eqb}
use Rattle.octets.specs.Cases.{decide}
use Rattle.answers.specs.Answers.{code_of}
use Rattle.layout.specs.Names.{name}
use Rattle.layout.specs.NamesLaws.{name-low}
use Rattle.layout.specs.Session.{names_at, handle_number}
use Rattle.session.specs.declared.head.Head.{Head}
use Rattle.session.specs.declared.tape_rows.Staged.{Staged}
use Rattle.session.specs.declared.views.View.{View}
use Rattle.session.specs.Rows.{head_of, view_of, handle_of, ring_of, ring_bytes, staged_of}
use Rattle.session.specs.RowLaws.{handle-size}
use Rattle.staging.specs.Seeing.{is_truncate, writes, seen_by}
use Rattle.ending.specs.Committing.{commit_call}
use Rattle.ending.specs.Listing.{is_touched}
use Rattle.ending.specs.StepLaws.{touched-held}
use Rattle.held.specs.Held.{Held, trimmed}
use Rattle.lives.specs.Invariant.{Phys, build, Good}
use Rattle.lives.specs.Life.{Reader, cutting, Store, After, Done, step, commit, committed}
use Rattle.lives.specs.Told.{Told}
use Rattle.seen.specs.Seen.{place_of, shown, view_in, staged_in, touched_in, files_for, count_open, Seen, Handled}
use Rattle.seen.specs.Orderly.{Orderly}
use Rattle.seen.specs.Places.{found_name, not_found, find-same}
use Rattle.seen.specs.Rows.{size-row, list_at, touched-at, untouched-unwritten, untouched-rows, view-rows, live-rows, count-rows, handled-rows, touched-staged}
use Rattle.seen.specs.GoodTapes.{good-bounded, all-written}
use Rattle.seen.specs.Touching.{its-rows}
use Rattle.ended.specs.Ends.{is-touched-row}
use Rattle.ended.specs.CutLeaves.{CutLeft, cut_left}
use Rattle.seen.specs.Starts.{CutStarts}
use Rattle.seen.specs.Kinds.{cuts-kind, cuts-as, cuts-open}

-- ---- what is seen of a tape

module _ (d s e u : List ℕ) (o : Orderly d s) (k : ℕ) (c : CutLeft d s k e u) where
  place_same : (n : List ℕ) → place_of u n ≡ place_of s n
  place_same n = find-same s u names_at names_at n c.names

  abbrev staged-len : List ℕ → ℕ
  staged-len n = (staged_in s (place_of s n)).len

  module _ (n : List ℕ) (st : Store) (seen : Seen d s n st) where
    its-writer : st.writer ≡ cutting k (staged-len n)
    its-writer = sym seen.writer ∙ rw (cuts-kind s k c.is, cuts-as s k c.is)

    -- the model's step
    stepped : step (commit k) st ≡ committed st true st.listed (staged-len n) (min st.start (staged-len n)) (cond st.touched (trimmed st.size (staged-len n) st.held) st.held)
    unfolding step
    stepped = rw (its-writer, eq-eqb k k refl)

    -- a tape in place p
    module _ (p : ℕ) (found : place_of s n ≡ Some p) where
      low : p < 8
      low = name-low s names_at n p found

      its-len : staged-len n ≡ (shown (seen_by s 16 p)).len
      its-len = ap (λ (f : Option ℕ). (staged_in s f).len) found

      module _ (touched : is_touched s p ≡ true) where
        held : handle_number s p ≢ 0
        held = touched-held s p touched

        touched-list : view_of s 17 p ≡ record { listed = st.listed; len = st.len; start = st.start }
        touched-list = sym (rw (c.open-listed p low held)) ∙ list_at d s n st seen p found

        touched-len : staged-len n ≡ (staged_of s p).len
        unfolding seen_by
        touched-len = its-len ∙ rw (sym (touched-staged d s o p low) ∙ touched)

      module _ (untouched : is_touched s p ≡ false) where
        untouched-len : staged-len n ≡ st.len
        unfolding seen_by
        untouched-len = its-len ∙ rw (sym (touched-staged d s o p low) ∙ untouched, o.writer-view (cuts-open s k c.is) p low) (ap (λ (v : View). v.len) (list_at d s n st seen p found))

    module _ (starts : CutStarts s) (bounded : st.start ≤ st.len) where
      abbrev listed_now : View
      listed_now = record { listed = st.listed; len = staged-len n; start = min st.start (staged-len n) }

      -- where the length stays, so does the start
      listed-still : staged-len n ≡ st.len → ◌≡◌ {A = View} (record { listed = st.listed; len = st.len; start = st.start }) listed_now
      listed-still e =
          let same : st.start ≡ min st.start st.len = omega arith in
          rw e (λ i. record { listed = st.listed; len = st.len; start = same i })

      list-place : (p : ℕ) → place_of s n ≡ Some p → shown (view_of u 17 p) ≡ listed_now
      list-place p found =
          decide (is_touched s p)
          (λ (touched : is_touched s p ≡ true).
          let l = low p found in
          let e = touched-list p found touched in
          let start : (staged_of s p).start ≡ st.start
          = starts (ap is_truncate (cuts-kind s k c.is)) p l (sym (touched-staged d s o p l) ∙ touched)
          ∙ ap (λ (v : View). v.start) (o.writer-view (cuts-open s k c.is) p l ∙ e) in
          let yes : st.listed ≡ true = sym (ap (λ (v : View). v.listed) e) ∙ c.open-listed p l (held p found touched) in
          rw (c.list-touched p l touched, touched-len p found touched, start, yes))
          (λ (untouched : is_touched s p ≡ false).
          rw (c.list-other p (low p found) untouched) (list_at d s n st seen p found ∙ listed-still (untouched-len p found untouched)))

      list-now : view_in u 17 (place_of u n) ≡ listed_now
      list-now = ap (view_in u 17) (place_same n) ∙ by (place_of s n) refl
        where
          by : (f : Option ℕ) → place_of s n ≡ f → view_in u 17 f ≡ listed_now
          by (Some p) found = list-place p found
          by None found =
              let e = sym (ap (view_in s 17) found) ∙ seen.list in
              let none : staged-len n ≡ st.len = ap (λ (f : Option ℕ). (staged_in s f).len) found ∙ ap (λ (v : View). v.len) e in
              e ∙ listed-still none

    -- the cache and the files of an open tape
    abbrev held_now : Held
    held_now = cond st.touched (trimmed st.size (staged-len n) st.held) st.held

    files-place : (p : ℕ) → place_of s n ≡ Some p → files_for e u n ≡ held_now.files
    unfolding trimmed
    files-place p found =
        let l = low p found in
        let named : name s names_at p ≡ n = found_name s names_at n p found in
        let all = rw named at (c.ends.files p l) in
        decide (is_touched s p)
        (λ (touched : is_touched s p ≡ true).
        let o₁ = its-rows d s n o p found (touched-held s p touched) st seen in
        let now : st.touched ≡ true = sym (touched-at d s n st seen p found o) ∙ touched in
        all ∙ rw (sym (is-touched-row s p) ∙ touched, now, touched-len p found touched, handle-size s p (handle_of s p) refl, o₁.size, seen.files))
        (λ (untouched : is_touched s p ≡ false).
        let now : st.touched ≡ false = sym (touched-at d s n st seen p found o) ∙ untouched in
        all ∙ rw (sym (is-touched-row s p) ∙ untouched, now, seen.files))

    files-now : files_for e u n ≡ held_now.files
    files-now = by (place_of s n) refl
      where
        by : (f : Option ℕ) → place_of s n ≡ f → files_for e u n ≡ held_now.files
        by (Some p) found = files-place p found
        by None found =
            let now : st.touched ≡ false = sym seen.touched ∙ ap (touched_in s) found in
            c.ends.apart n (λ i l touched. not_found s names_at n found i l) ∙ rw (now, seen.files)

    open-now : (p : ℕ) → place_of s n ≡ Some p → st.live ≡ true → st.held.unwritten ≡ 0
        → (ring_of u p ≡ held_now.ring) × (ring_bytes u p ≡ held_now.cache) × (0 ≡ held_now.unwritten)
    unfolding trimmed
    open-now p found live written =
        let l = low p found in
        let o₁ = seen.opened p found live in
        decide (is_touched s p)
        (λ (touched : is_touched s p ≡ true).
        let now : st.touched ≡ true = sym (touched-at d s n st seen p found o) ∙ touched in
        (c.ends.ring p l ∙ rw (sym (is-touched-row s p) ∙ touched, now, touched-len p found touched, o₁.ring), c.caches p l ∙ rw (now, o₁.cache), rw (now, written)))
        (λ (untouched : is_touched s p ≡ false).
        let now : st.touched ≡ false = sym (touched-at d s n st seen p found o) ∙ untouched in
        (c.ends.ring p l ∙ rw (sym (is-touched-row s p) ∙ untouched, now, o₁.ring), c.caches p l ∙ rw (now, o₁.cache), rw (now, written)))

    view-same : (t : ℕ) → t < 16 → view_in u t (place_of u n) ≡ view_in s t (place_of s n)
    view-same t l = view-rows s u n (place_same n) t (λ p found. c.views t p (omega arith) (low p found))

    readers-same : (has : Reader → Bool) → count_open has u (place_of u n) ≡ count_open has s (place_of s n)
    readers-same = count-rows s u (place_of s n) (place_of u n) c.readers view-same

    untouched-now : (p : ℕ) → p < 8 → (staged_of u p).touched ≡ false
    untouched-now p l = ap (λ (r : Staged). r.touched) (c.unstaged p l)

    cut-seen : CutStarts s → st.start ≤ st.len → (st.live ≡ true → st.held.unwritten ≡ 0) → Seen e u n (step (commit k) st).store
    cut-seen starts bounded written =
        rw stepped
        (record {
          epoch = ap (λ (h : Head). h.epoch) c.head ∙ ap (λ (x : ℕ). x + 1) seen.epoch;
          cut = ap (λ (h : Head). h.cut) c.head;
          last = ap (λ (h : Head). h.last_transaction) c.head ∙ seen.last;
          list = list-now starts bounded;
          readers = λ has. readers-same has ∙ seen.readers has;
          writer = rw c.shut;
          touched = untouched-rows u (place_of u n) (λ p found. untouched-now p (name-low u names_at n p found));
          live = live-rows s u n (place_same n) (λ p found. c.handles p (low p found)) ∙ seen.live;
          files = files-now;
          opened = λ p found live.
              let q : place_of s n ≡ Some p = sym (place_same n) ∙ found in
              let l = low p q in
              let now = open-now p q live (written live) in
              record {
                ring = now.0;
                cache = now.1;
                size = size-row s u p (c.handles p l) ∙ (seen.opened p q live).size;
                unwritten = untouched-unwritten u p (untouched-now p l) ∙ now.2;
                base = λ touched. absurd (true≢false (sym touched ∙ untouched-now p l));
              };
        })

-- ---- the laws

module _ (d s : List ℕ) (o : Orderly d s) (k : ℕ) (served : code_of (commit_call d s k).answer ≡ 0) (other : writes s k ≡ false) where
  abbrev disk : List ℕ
  disk = (commit_call d s k).disk

  abbrev session : List ℕ
  session = (commit_call d s k).session

  abbrev c : CutLeft d s k disk session
  c = cut_left d s o k served other

  pub commit-cut-starts : CutStarts session
  commit-cut-starts = rw c.shut (λ truncates. absurd (false≢true truncates))

  module _ (n : List ℕ) where
    pub commit-cut-answer : (st : Store) → Seen d s n st → (step (commit k) st).answer ≡ Done ((head_of s).epoch + 1)
    commit-cut-answer st seen =
        ap (λ (a : After). a.answer) (stepped d s disk session o k c n st seen) ∙ ap (λ (x : ℕ). Done (x + 1)) (sym seen.epoch)

    pub commit-cut-seen : CutStarts s → (t : Told) (p : Phys) → Good t p → Seen d s n (build t p) → Seen disk session n (step (commit k) (build t p)).store
    commit-cut-seen starts t p good seen =
        cut-seen d s disk session o k c n (build t p) seen starts (good-bounded t p good) (all-written t p good k _ (its-writer d s disk session o k c n (build t p) seen))

    pub commit-cut-handled : (handle entry : ℕ) → Handled s n handle entry → Handled session n handle entry
    commit-cut-handled = handled-rows s session n (place_same d s disk session o k c n) (λ p found. c.handles p (name-low s names_at n p found))
