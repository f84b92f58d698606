-- An append's commit that is served does to what is seen of every name what `lives` says of a commit: of a tape that it touched the staged view is
-- published and its files are settled, of every other one the view is published as it was. Assumes nothing.
use Rattle.std.specs.Prelude.{◌≡◌, refl, Bool, false, cond, List, ℕ, ◌+◌, ◌≤◌, ◌<◌, length, Option, Some, None}
use Rattle.std.proofs.Common.{sym, subst, ◌∙◌, true≢false, arith}
use Rattle.std.proofs.Math.Path.{ap}
use Rattle.std.proofs.Math.Bool.{true}
use Rattle.std.proofs.lemmas.Bool.{false≢true}
use borrow.Author.Tests.{eq-eqb}
use Rattle.std.proofs.Math.Dec.{eqb}
use Rattle.octets.specs.Cases.{decide}
use Rattle.answers.specs.Answers.{code_of}
use Rattle.answers.specs.Outcome.{Outcome}
use Rattle.components.specs.Epochs.{oldest_other}
use Rattle.layout.specs.Disk.{directories}
use Rattle.layout.specs.Names.{name, find_name}
use Rattle.layout.specs.NamesLaws.{name-low}
use Rattle.layout.specs.Session.{names_at, file_size_of}
use Rattle.session.specs.declared.head.Head.{Head}
use Rattle.session.specs.declared.tape_rows.Staged.{Staged}
use Rattle.session.specs.declared.views.View.{View}
use Rattle.session.specs.Rows.{transaction_of, staged_of}
use Rattle.rolling_tape.specs.Removal.{areas}
use Rattle.rolling_tape.specs.Room.{is_found}
use Rattle.staging.specs.Seeing.{writes, seen_by, directory_of}
use Rattle.ending.specs.Committing.{commit_call}
use Rattle.ending.specs.Listing.{is_touched, published}
use Rattle.ending.specs.Oldest.{oldest_of}
use Rattle.ending.specs.StepLaws.{touched-held}
use Rattle.held.specs.Held.{Held, settled}
use Rattle.lives.specs.Life.{Writer, Store, After, Done, commit, epochs, committed, step_commit, step}
use Rattle.lives.specs.Told.{Staging, Told}
use Rattle.lives.specs.Invariant.{Phys, erase_w, build, top, Live, GoodIf, Good}
use Rattle.joins.specs.FilesAt.{files_at, held_at}
use Rattle.seen.specs.Seen.{place_of, shown, view_in, staged_in, writer_in, touched_in, files_in, files_for, SeenOpen, Seen}
use Rattle.seen.specs.Orderly.{Orderly}
use Rattle.seen.specs.Places.{found_name, found_at}
use Rattle.seen.specs.Rows.{size-row, untouched-unwritten, untouched-rows, view-rows, live-rows, count-rows, touched-staged}
use Rattle.seen.specs.Counts.{seen-oldest}
use Rattle.seen.specs.Handles.{live_at}
use Rattle.ended.specs.Turns.{touched_place, place-touched, place-directory, touched-place, touched-its-row, touched-named, no_place}
use Rattle.ended.specs.Flushes.{Inside}
use Rattle.ended.specs.AppendFiles.{settled-own, settled-other}
use Rattle.ended.specs.AppendOrder.{commit-appends, left, same-handle, same-ring, same-cache, same_place, same-directory}
use Rattle.seen.specs.Kinds.{writes-kind, writes_as}

-- ---- the model's step

module _ (s : List ℕ) (k : ℕ) (w : writes s k ≡ true) where
  -- what the tape holds then
  abbrev held_then : View → Store → Held
  held_then v st =
      cond st.touched (settled st.size (transaction_of s 16).epoch (oldest_other st.epoch (epochs st.readers)) v.len v.start st.held) st.held

  abbrev store_then : View → Store → After
  store_then v st = committed st false v.listed v.len v.start (held_then v st)

  step_is : (tape : Option ℕ) (st : Store) → writer_in s tape ≡ st.writer → step (commit k) st ≡ store_then (staged_in s tape) st
  unfolding step
  step_is tape st writer =
      let number : eqb k (transaction_of s 16).number ≡ true = eq-eqb k (transaction_of s 16).number (sym (writes_as s k w)) in
      ap (step_commit st k) (sym writer) ∙ rw (writes-kind s k w, number)

-- ---- what `settled` leaves

module _ (b : Bool) (fs began oldest len start : ℕ) (h : Held) where
  settled-ring : (cond b (settled fs began oldest len start h) h).ring ≡ h.ring
  unfolding settled
  settled-ring = decide b (λ (e : b ≡ true). rw e) (λ (e : b ≡ false). rw e)

  settled-cache : (cond b (settled fs began oldest len start h) h).cache ≡ h.cache
  unfolding settled
  settled-cache = decide b (λ (e : b ≡ true). rw e) (λ (e : b ≡ false). rw e)

  settled-unwritten : (b ≡ false → h.unwritten ≡ 0) → (cond b (settled fs began oldest len start h) h).unwritten ≡ 0
  unfolding settled
  settled-unwritten none = decide b (λ (e : b ≡ true). rw e) (λ (e : b ≡ false). rw e (none e))

-- ---- what is seen

pub touched-view : (s : List ℕ) (p : ℕ) → is_touched s p ≡ true → staged_in s (Some p) ≡ record { listed = true; len = (staged_of s p).len; start = (staged_of s p).start }
unfolding seen_by
touched-view s p t = rw (touched-its-row s p t).0

module _ (d s : List ℕ) (o : Orderly d s) (k : ℕ) (w : writes s k ≡ true) (served : code_of (commit_call d s k).answer ≡ 0) where
  abbrev e : List ℕ
  e = (commit_call d s k).disk

  abbrev u : List ℕ
  u = (commit_call d s k).session

  published-seen : (p : ℕ) → p < 8 → published s false p ≡ seen_by s 16 p
  unfolding published seen_by
  published-seen p low = rw (touched-staged d s o p low)

  -- ---- rows of the tape of a name, where it stands

  module _ (n : List ℕ) where
    list-after : (tape : Option ℕ) → place_of s n ≡ tape → view_in u 17 tape ≡ staged_in s tape
    list-after (Some p) at = let low = name-low s names_at n p at in ap shown ((left d s o k w served).list p low ∙ published-seen p low)
    list-after None at = refl

  writer-after : (tape : Option ℕ) → writer_in u tape ≡ Writer.idle
  writer-after tape = rw (left d s o k w served).shut

  -- ---- its files

  module _ (inside : Inside s) (n : List ℕ) (st : Store) (seen : Seen d s n st) where
    abbrev v : View
    v = staged_in s (place_of s n)

    -- no tape of the name was touched
    files-apart : ((p : ℕ) → place_of s n ≡ Some p → is_touched s p ≡ false) → files_for e u n ≡ files_for d s n
    files-apart none = ap (files_in e u) (same-directory d s o k w served n) ∙ by (find_name d directories n) refl
      where
        by : (f : Option ℕ) → find_name d directories n ≡ f → files_in e u f ≡ files_in d s f
        by (Some q) there =
            let a = commit-appends d s o.session-bytes k w served in
            subst (λ (x : Outcome). files_at (areas x.disk x.session) q ≡ files_at (areas d s) q) (sym a.is)
            (settled-other d s o a.more a.good inside a.room q
            (λ p low own.
            let touched = place-touched d s p q own in
            let named : name s names_at p ≡ n
            = sym (found_name d directories (name s names_at p) q (place-directory d s p q own)) ∙ found_name d directories n q there in
            let at : place_of s n ≡ Some p
            = found_at s names_at n p low named (λ x l same. sym (o.names p x low l (touched-named d s o p low touched) (named ∙ sym same))) in
            true≢false (sym touched ∙ none p at)))
        by None there = refl

    module _ (p : ℕ) (at : place_of s n ≡ Some p) (touched : is_touched s p ≡ true) where
      low : p < 8
      low = name-low s names_at n p at

      live : st.live ≡ true
      live = sym seen.live ∙ live_at s n p at (touched-held s p touched)

      -- a touched tape's
      files-settled : files_for e u n ≡ (settled st.size (transaction_of s 16).epoch (oldest_other st.epoch (epochs st.readers)) v.len v.start st.held).files
      files-settled = by (directory_of d s p) refl
        where
          by : (f : Option ℕ) → directory_of d s p ≡ f
              → files_for e u n ≡ (settled st.size (transaction_of s 16).epoch (oldest_other st.epoch (epochs st.readers)) v.len v.start st.held).files
          by (Some q) there =
              let a = commit-appends d s o.session-bytes k w served in
              let row = staged_of s p in
              let began = (transaction_of s 16).epoch in
              let dir : find_name d directories n ≡ Some q = ap (find_name d directories) (sym (found_name s names_at n p at)) ∙ there in
              let own : touched_place d s p ≡ Some q = touched-place d s p touched ∙ there in
              let opened = seen.opened p at live in
              let lacked : row.unwritten ≡ st.held.unwritten = ap (λ (r : Staged). r.unwritten) (sym (touched-its-row s p touched).1) ∙ opened.unwritten in
              let here : files_at (areas d s) q ≡ st.held.files = ap (files_in d s) (sym dir) ∙ seen.files in
              let held : held_at (areas d s) q p row.unwritten ≡ st.held
              = λ i. record { ring = opened.ring i; cache = opened.cache i; files = here i; unwritten = lacked i } in
              let oldest : oldest_of s ≡ oldest_other st.epoch (epochs st.readers)
              = seen-oldest d s n st seen ∙ ap (λ (x : ℕ). oldest_other x (epochs st.readers)) seen.epoch in
              let view : v ≡ record { listed = true; len = row.len; start = row.start } = ap (staged_in s) at ∙ touched-view s p touched in
              ap (files_in e u) (same-directory d s o k w served n ∙ dir)
              ∙ subst
              (λ (x : Outcome).
              files_at (areas x.disk x.session) q ≡ (settled (file_size_of s p) began (oldest_of s) row.len row.start (held_at (areas d s) q p row.unwritten)).files)
              (sym a.is) (settled-own d s o a.more a.good inside a.room p q low own)
              ∙ ap (λ (x : ℕ). (settled x began (oldest_of s) row.len row.start (held_at (areas d s) q p row.unwritten)).files) opened.size
              ∙ ap (λ (x : ℕ). (settled st.size began x row.len row.start (held_at (areas d s) q p row.unwritten)).files) oldest
              ∙ ap (λ (x : View). (settled st.size began (oldest_other st.epoch (epochs st.readers)) x.len x.start (held_at (areas d s) q p row.unwritten)).files)
              (sym view)
              ∙ ap (λ (x : Held). (settled st.size began (oldest_other st.epoch (epochs st.readers)) v.len v.start x).files) held
          by None there = absurd (false≢true (ap is_found (sym there) ∙ o.folder p low (touched-held s p touched)))

    files-after : files_for e u n ≡ (held_then s k w v st).files
    files-after = by (place_of s n) refl
      where
        apart : ((p : ℕ) → place_of s n ≡ Some p → is_touched s p ≡ false) → st.touched ≡ false → files_for e u n ≡ (held_then s k w v st).files
        apart none idle = rw idle (files-apart none ∙ seen.files)

        by : (f : Option ℕ) → place_of s n ≡ f → files_for e u n ≡ (held_then s k w v st).files
        by (Some p) at =
            let staged : is_touched s p ≡ st.touched
            = touched-staged d s o p (name-low s names_at n p at) ∙ ap (touched_in s) (sym at) ∙ seen.touched in
            decide (is_touched s p)
            (λ (t : is_touched s p ≡ true). let own : st.touched ≡ true = sym staged ∙ t in rw own (files-settled p at t))
            (λ (t : is_touched s p ≡ false).
            apart (λ q there. let same : p ≡ q = let z : Some p ≡ Some q = sym at ∙ there in cc in ap (is_touched s) (sym same) ∙ t) (sym staged ∙ t))
        by None at = apart (λ q there. absurd (no_place (sym at ∙ there))) (sym seen.touched ∙ ap (touched_in s) at)

    -- ---- an open tape

    opened_after : (p : ℕ) → place_of u n ≡ Some p → st.live ≡ true → SeenOpen u p (store_then s k w v st).store
    opened_after p there live =
        let at : place_of s n ≡ Some p = sym (same_place d s o k w served n) ∙ there in
        let low = name-low s names_at n p at in
        let old = seen.opened p at live in
        let was-held = st.held in
        let size = st.size in
        let began = (transaction_of s 16).epoch in
        let oldest = oldest_other st.epoch (epochs st.readers) in
        let blank : (staged_of u p).touched ≡ false = ap (λ (r : Staged). r.touched) ((left d s o k w served).unstaged p low) in
        let was : (staged_of s p).touched ≡ st.touched = ap (touched_in s) (sym at) ∙ seen.touched in
        record {
          ring = same-ring d s o k w served p low ∙ old.ring ∙ sym (settled-ring st.touched size began oldest v.len v.start was-held);
          cache = same-cache d s o k w served p low ∙ old.cache ∙ sym (settled-cache st.touched size began oldest v.len v.start was-held);
          size = size-row s u p (same-handle d s o k w served p low) ∙ old.size;
          unwritten =
              untouched-unwritten u p blank
              ∙ sym
              (settled-unwritten st.touched size began oldest v.len v.start was-held
              (λ idle. sym old.unwritten ∙ untouched-unwritten s p (was ∙ idle)));
          base = λ t listed. absurd (true≢false (sym t ∙ blank));
        }

    -- ---- all of it

    pub commit-append-answer : (step (commit k) st).answer ≡ Done (st.epoch + 1)
    commit-append-answer = ap (λ (a : After). a.answer) (step_is s k w (place_of s n) st seen.writer)

    pub commit-append-seen : Seen e u n (step (commit k) st).store
    commit-append-seen =
        let tape = place_of s n in
        let place = same_place d s o k w served n in
        let head = (left d s o k w served).head in
        let view-after : (t : ℕ) → t < 16 → view_in u t (place_of u n) ≡ view_in s t tape
        = λ t l. view-rows s u n place t (λ p at. (left d s o k w served).views t p (omega arith) (name-low s names_at n p at)) in
        subst (λ (a : After). Seen e u n a.store) (sym (step_is s k w tape st seen.writer))
        (record {
          epoch = ap (λ (h : Head). h.epoch) head ∙ ap (λ (x : ℕ). x + 1) seen.epoch;
          cut = ap (λ (h : Head). h.cut) head;
          last = ap (λ (h : Head). h.last_transaction) head ∙ seen.last;
          list = ap (view_in u 17) place ∙ list-after n tape refl;
          readers = λ has. count-rows s u tape (place_of u n) (left d s o k w served).readers view-after has ∙ seen.readers has;
          writer = writer-after (place_of u n);
          touched =
              untouched-rows u (place_of u n)
              (λ p at. ap (λ (r : Staged). r.touched) ((left d s o k w served).unstaged p (name-low u names_at n p at)));
          live = live-rows s u n place (λ p at. same-handle d s o k w served p (name-low s names_at n p at)) ∙ seen.live;
          files = files-after;
          opened = opened_after;
        })

-- ---- what it asks for, where every tape is as `lives` says

-- the staged length is that of the staged bytes
staged-length : (epoch number began len start : ℕ) (here : Bool) (content : List ℕ) (x : Staging) → Writer.appending number began here len start ≡ erase_w epoch x → len ≡ length (top content x)
staged-length epoch number began len start here content Staging.idle e = let z : ◌≡◌ {A = ℕ} 0 1 = cc in absurd (omega arith)
staged-length epoch number began len start here content (Staging.appending m h c st) e = cc
staged-length epoch number began len start here content (Staging.cutting m c) e = let z : ◌≡◌ {A = ℕ} 0 1 = cc in absurd (omega arith)

module _ (d s : List ℕ) (k : ℕ) (w : writes s k ≡ true) where
  -- of one tape
  pub inside-tape : (n : List ℕ) (t : Told) (h : Phys) → Good t h → Seen d s n (build t h) → (p : ℕ) → place_of s n ≡ Some p → is_touched s p ≡ true
      → (staged_of s p).unwritten ≤ (staged_of s p).len
  inside-tape n t h good seen p at touched =
      let live : t.live ≡ true = sym seen.live ∙ live_at s n p at (touched-held s p touched) in
      let awake : Live t h = subst (λ (b : Bool). GoodIf b t h) live good in
      let lacked : (staged_of s p).unwritten ≡ h.held.unwritten
      = ap (λ (r : Staged). r.unwritten) (sym (touched-its-row s p touched).1) ∙ (seen.opened p at live).unwritten in
      let view : (staged_in s (place_of s n)).len ≡ (staged_of s p).len = ap (λ (v : View). v.len) (ap (staged_in s) at ∙ touched-view s p touched) in
      let long : (staged_in s (place_of s n)).len ≡ length (top t.content t.writer)
      = staged-length t.epoch _ _ _ _ _ t.content t.writer (rw (writes-kind s k w) at seen.writer) in
      omega (arith, awake.sound.new)

  -- of all of them
  pub inside-all : Orderly d s → ((n : List ℕ) → 0 < length n → (t : Told) × ((h : Phys) × (Good t h × Seen d s n (build t h)))) → Inside s
  inside-all o each p low touched =
      let n = name s names_at p in
      let some = touched-named d s o p low touched in
      let at : place_of s n ≡ Some p = found_at s names_at n p low refl (λ q l same. sym (o.names p q low l some (sym same))) in
      let x = each n some in
      inside-tape n x.0 x.1.0 x.1.1.0 x.1.1.1 p at touched
