-- Reads, from what is seen to the call: inside the page that a transaction was told of they are served, with that page's bytes; and the numbers that are
-- answered are that page's, in entries. Assumes nothing.
use Rattle.octets.specs.Cases.{some-injective}
use Rattle.std.specs.Prelude.{◌≡◌, ◌≢◌, Bool, false, ◌&&◌, List, ℕ, ◌+◌, ◌*◌, ◌-◌, ◌/◌, ◌≤◌, ◌<◌, eqb, length, take, drop, Option, Some, None, Ok}
use Rattle.std.proofs.Math.Path.{refl, ap}
use Rattle.std.proofs.Common.{sym, ◌∙◌, subst, true≢false, one-mul, add-mul, div-mul-le_self, arith, eq-eqb, eqb-true}
use Rattle.std.proofs.Math.Bool.{true}
use Rattle.octets.specs.Cases.{picked, decide, and_l, and_r, and_both}
use Rattle.octets.specs.Bytes.{put}
use Rattle.answers.specs.Outcome.{Outcome, reading, entering, popping}
use Rattle.components.specs.BoundsLaws.{→in-bounds}
use Rattle.layout.specs.Disk.{directories}
use Rattle.layout.specs.Names.{find_name}
use Rattle.layout.specs.NamesLaws.{name-low}
use Rattle.layout.specs.Session.{names_at, handle_number, entry_size_of}
use Rattle.session.specs.MeaningLaws.{is_open}
use Rattle.session.specs.Rows.{view_of, transaction_of, handle_of, staged_of, find_transaction, find_handle}
use Rattle.session.specs.declared.transactions.Kind.{Kind}
use Rattle.session.specs.declared.transactions.Kind.TheVariants as K
use Rattle.session.specs.declared.views.View.{View}
use Rattle.session.specs.RowLaws.{handle-entry}
use Rattle.rolling_tape.specs.Removal.{areas}
use Rattle.rolling_tape.specs.Room.{is_found}
use Rattle.cached_tape.specs.Serving.{can_serve, served}
use Rattle.beginning.specs.Transactions.{is_open_at, usable}
use Rattle.beginning.specs.Ways.{→usable}
use Rattle.staging.specs.Seeing.{directory_of, is_append, is_truncate, writes, cuts, seen_by, touched_as, len_call, start_call}
use Rattle.staging.specs.Cutting.{cut_to}
use Rattle.staging.specs.Ways.{seen-view, len-listed, start-listed, len-goes, start-goes}
use Rattle.appending.specs.Calls.{put_call}
use Rattle.appending.specs.CallWays.{seen-touched}
use Rattle.appending.specs.Laws.{put-cases}
use Rattle.entries.specs.Laws.{Inside, filled, read_done, pop-done}
use Rattle.entries.specs.Popping.{pop_call}
use Rattle.entries.specs.Reads.{read_call, entry_call}
use Rattle.entries.specs.Ways.{entry_read}
use Rattle.held.specs.Held.{Held, fetch}
use Rattle.joins.specs.FilesAt.{files_at, held_at}
use Rattle.joins.specs.Fetches.{fetch-served}
use Rattle.lives.specs.Life.{Reader, Writer, Store}
use Rattle.lives.specs.Told.{Window, Staging, idle, appending, cutting, Told, Page, page_w, page_in, page_of, page}
use Rattle.lives.specs.Invariant.{Phys, erase, erase_w, build, is_append as is_appending, GoodIf, Good}
use Rattle.lives.specs.Reads.{reads_held}
use Rattle.seen.specs.Seen.{place_of, shown, view_in, reader_in, writer_as, writer_in, count_in, files_in, Seen, Handled}
use Rattle.seen.specs.Orderly.{Orderly}
use Rattle.seen.specs.Counts.{page-counted, open-some}
use Rattle.seen.specs.Shown.{shown-listed}
use Rattle.seen.specs.Handles.{Placed, handle-place, live_at}
use Rattle.seen.specs.Starts.{CutStarts}
use Rattle.seen.specs.Transactions.{find-transaction}

-- ---- what the writer's row says

pub record Appends (k : Kind) (number : ℕ) (v : View) (m : ℕ) (h : Bool) (l st : ℕ) : Type 0 where
  pub kind : is_append k ≡ true
  pub runs : is_open k ≡ true
  pub own : number ≡ m
  pub view : v ≡ record { listed = h; len = l; start = st }

pub record Cuts (k : Kind) (number : ℕ) (v : View) (m l : ℕ) : Type 0 where
  pub kind : is_truncate k ≡ true
  pub runs : is_open k ≡ true
  pub own : number ≡ m
  pub len : v.len ≡ l

pub writer-appends : (k : Kind) (number epoch : ℕ) (v : View) (m e : ℕ) (h : Bool) (l st : ℕ) → writer_as k number epoch v ≡ Writer.appending m e h l st → Appends k number v m h l st
writer-appends K.Closed number epoch v m e h l st is = let z : ◌≡◌ {A = ℕ} 0 1 = cc in absurd (omega arith)
writer-appends K.Reader number epoch v m e h l st is = let z : ◌≡◌ {A = ℕ} 0 1 = cc in absurd (omega arith)
writer-appends K.Append number epoch v m e h l st is =
    let a : v.listed ≡ h = cc in
    let b : v.len ≡ l = cc in
    let c : v.start ≡ st = cc in
    record { kind = refl; runs = refl; own = cc; view = λ i. record { listed = a i; len = b i; start = c i } }
writer-appends K.Truncate number epoch v m e h l st is = let z : ◌≡◌ {A = ℕ} 0 1 = cc in absurd (omega arith)

pub writer-cuts : (k : Kind) (number epoch : ℕ) (v : View) (m l : ℕ) → writer_as k number epoch v ≡ Writer.cutting m l → Cuts k number v m l
writer-cuts K.Closed number epoch v m l is = let z : ◌≡◌ {A = ℕ} 0 1 = cc in absurd (omega arith)
writer-cuts K.Reader number epoch v m l is = let z : ◌≡◌ {A = ℕ} 0 1 = cc in absurd (omega arith)
writer-cuts K.Append number epoch v m l is = let z : ◌≡◌ {A = ℕ} 0 1 = cc in absurd (omega arith)
writer-cuts K.Truncate number epoch v m l is = record { kind = refl; runs = refl; own = cc; len = cc }

-- so the append, or the truncate, that is seen is the open one
module _ (d s n : List ℕ) (st : Store) (seen : Seen d s n st) (m : ℕ) where
  pub seen-writes : (e : ℕ) (h : Bool) (l b : ℕ) → st.writer ≡ Writer.appending m e h l b → writes s m ≡ true
  unfolding writes
  seen-writes e h l b is =
      let a = writer-appends (transaction_of s 16).kind (transaction_of s 16).number (transaction_of s 16).epoch _ m e h l b (seen.writer ∙ is) in
      and_both (is_append (transaction_of s 16).kind) (eqb (transaction_of s 16).number m) a.kind (eq-eqb (transaction_of s 16).number m a.own)

  pub seen-cuts : (l : ℕ) → st.writer ≡ Writer.cutting m l → cuts s m ≡ true
  unfolding cuts
  seen-cuts l is =
      let a = writer-cuts (transaction_of s 16).kind (transaction_of s 16).number (transaction_of s 16).epoch _ m l (seen.writer ∙ is) in
      and_both (is_truncate (transaction_of s 16).kind) (eqb (transaction_of s 16).number m) a.kind (eq-eqb (transaction_of s 16).number m a.own)

-- ---- what a transaction sees of the tape is its page

-- a page that is here, as a view
abbrev pub view_p : Page → View
view_p q = record { listed = true; len = length q.content; start = q.start }

-- transaction k is in a place and sees tape p so
pub record Sight (s : List ℕ) (k p : ℕ) (v : View) : Type 0 where
  pub place : ℕ
  pub found : find_transaction s k ≡ Some place
  pub view : seen_by s place p ≡ v

-- the open truncate does
record CutSight (s : List ℕ) (k p : ℕ) (v : View) : Type 0 where
  found : find_transaction s k ≡ Some 16
  writer : cuts s k ≡ true
  view : seen_by s 16 p ≡ v

-- a view that is shown as listed is shown as it is
shown-as : (v : View) (len start : ℕ) → shown v ≡ record { listed = true; len = len; start = start } → v ≡ record { listed = true; len = len; start = start }
shown-as v len start e = (shown-listed v _ e refl).1

-- a reader whose page it is
abbrev is_page : ℕ → Page → Reader → Bool
is_page k q r = eqb r.number k && (r.here && (eqb r.len (length q.content) && eqb r.start q.start))

is-page : (k : ℕ) (q : Page) → q.here ≡ true → (w : Window) → eqb k w.number ≡ true → page_w w ≡ q → is_page k q (erase w) ≡ true
is-page k q here w m own =
    let listed : w.here ≡ true = ap (λ (x : Page). x.here) own ∙ here in
    let long = eq-eqb (length w.content) (length q.content) (ap (λ (x : Page). length x.content) own) in
    let from = eq-eqb w.start q.start (ap (λ (x : Page). x.start) own) in
    rw (eq-eqb w.number k (sym (eqb-true k w.number m)), listed, long, from)

module _ (d s n : List ℕ) (o : Orderly d s) (st : Store) (seen : Seen d s n st) (p : ℕ) (at : place_of s n ≡ Some p) where
  -- a reader's, by its number, bounds and length
  reader-sight : (k : ℕ) (q : Page) → 0 < count_in (is_page k q) st.readers → Sight s k p (view_p q)
  reader-sight k q there =
      let a = open-some (is_page k q) s (place_of s n) (omega (arith, seen.readers (is_page k q))) in
      let x = a.place in
      let v = shown (view_of s x p) in
      let is : is_page k q (reader_in s (Some p) x) ≡ true = subst (λ (f : Option ℕ). is_page k q (reader_in s f x) ≡ true) at a.holds in
      let bounds = and_r (eqb (transaction_of s x).number k) _ is in
      let more = and_r v.listed _ bounds in
      let len : v.len ≡ length q.content = eqb-true v.len (length q.content) (and_l (eqb v.len (length q.content)) _ more) in
      let start : v.start ≡ q.start = eqb-true v.start q.start (and_r (eqb v.len (length q.content)) _ more) in
      let whole : v ≡ view_p q = λ i. record { listed = and_l v.listed _ bounds i; len = len i; start = start i } in
      record {
        place = x;
        found = find-transaction d s o k x (record { low = omega (arith, a.low); opened = a.opened; number = (eqb-true (transaction_of s x).number k (and_l (eqb (transaction_of s x).number k) _ is)) });
        view = sym (seen-view s x p (λ e. omega (arith, a.low))) ∙ shown-as (view_of s x p) (length q.content) q.start whole;
      }

  own : writer_as (transaction_of s 16).kind (transaction_of s 16).number (transaction_of s 16).epoch (shown (seen_by s 16 p)) ≡ st.writer
  own = ap (writer_in s) (sym at) ∙ seen.writer

  append-row : (k e : ℕ) (h : Bool) (len start : ℕ) → st.writer ≡ Writer.appending k e h len start
      → Appends (transaction_of s 16).kind (transaction_of s 16).number (shown (seen_by s 16 p)) k h len start
  append-row k e h len start is = writer-appends (transaction_of s 16).kind (transaction_of s 16).number (transaction_of s 16).epoch _ k e h len start (own ∙ is)

  append-sight : (k e len start : ℕ) → st.writer ≡ Writer.appending k e true len start → Sight s k p (record { listed = true; len = len; start = start })
  unfolding is_open_at
  append-sight k e len start is =
      let a = append-row k e true len start is in
      record { place = 16; found = find-transaction d s o k 16 (record { low = omega arith; opened = a.runs; number = a.own }); view = shown-as (seen_by s 16 p) len start a.view }

  module _ (starts : CutStarts s) where
    -- the list's start
    cut-seen : is_truncate (transaction_of s 16).kind ≡ true → (view_of s 16 p).listed ≡ true → ((seen_by s 16 p).listed ≡ true) × ((seen_by s 16 p).start ≡ (view_of s 16 p).start)
    unfolding seen_by
    cut-seen kind listed =
        decide (staged_of s p).touched
        (λ (t : (staged_of s p).touched ≡ true). rw t (refl, starts kind p (name-low s names_at n p at) t))
        (λ (t : (staged_of s p).touched ≡ false). rw t (listed, refl))

    cut-sight : (k len : ℕ) → st.listed ≡ true → st.writer ≡ Writer.cutting k len → CutSight s k p (record { listed = true; len = len; start = st.start })
    unfolding is_open_at
    cut-sight k len listed is =
        let a = writer-cuts (transaction_of s 16).kind (transaction_of s 16).number (transaction_of s 16).epoch _ k len (own ∙ is) in
        let list : shown (view_of s 17 p) ≡ record { listed = st.listed; len = st.len; start = st.start } = ap (view_in s 17) (sym at) ∙ seen.list in
        let whole : view_of s 17 p ≡ shown (view_of s 17 p) = (shown-listed (view_of s 17 p) (shown (view_of s 17 p)) refl (ap (λ (x : View). x.listed) list ∙ listed)).1 in
        let began : view_of s 16 p ≡ record { listed = st.listed; len = st.len; start = st.start } = o.writer-view a.runs p (name-low s names_at n p at) ∙ whole ∙ list in
        let (here, start) = cut-seen a.kind (ap (λ (x : View). x.listed) began ∙ listed) in
        let first : (seen_by s 16 p).start ≡ st.start = start ∙ ap (λ (x : View). x.start) began in
        let long : (seen_by s 16 p).len ≡ len = ap (λ (x : View). x.len) (shown-listed (seen_by s 16 p) (shown (seen_by s 16 p)) refl (rw here)).1 ∙ a.len in
        record {
          found = find-transaction d s o k 16 (record { low = omega arith; opened = a.runs; number = a.own });
          writer = seen-cuts d s n st seen k len is;
          view = λ i. record { listed = here i; len = long i; start = first i };
        }

-- whatever the transaction is
module _ (d s n : List ℕ) (o : Orderly d s) (starts : CutStarts s) (t : Told) (p : Phys) (seen : Seen d s n (build t p)) (a : ℕ) (at : place_of s n ≡ Some a) where
  pub sight : (k : ℕ) (q : Page) → page k t ≡ Some q → q.here ≡ true → Sight s k a (view_p q)
  sight k q is here = by t.writer refl is
    where
      window : page_in k t.windows ≡ Some q → Sight s k a (view_p q)
      window e = reader-sight d s n o (build t p) seen a at k q (page-counted (is_page k q) k q (is-page k q here) t.windows e)

      by : (w : Staging) → t.writer ≡ w → page_of k t w ≡ Some q → Sight s k a (view_p q)
      by idle e = window
      by (appending m h c b) e =
          picked (λ (x : Option Page). x ≡ Some q → Sight s k a (view_p q)) (eqb k m) (Some (record { here = h; start = b; content = c })) (page_in k t.windows)
          (λ r f.
          let same : record { here = h; start = b; content = c } ≡ q = some-injective _ _ f in
          let listed : h ≡ true = ap (λ (x : Page). x.here) same ∙ here in
          let writer : erase_w t.epoch t.writer ≡ Writer.appending k t.epoch true (length c) b = rw (e, listed, eqb-true k m r) in
          subst (λ (x : Page). Sight s k a (view_p x)) same (append-sight d s n o (build t p) seen a at k t.epoch (length c) b writer))
          (λ r f. window f)
      by (cutting m c) e =
          picked (λ (x : Option Page). x ≡ Some q → Sight s k a (view_p q)) (eqb k m) (Some (record { here = t.listed; start = t.start; content = c })) (page_in k t.windows)
          (λ r f.
          let same : record { here = t.listed; start = t.start; content = c } ≡ q = some-injective _ _ f in
          let listed : t.listed ≡ true = ap (λ (x : Page). x.here) same ∙ here in
          let writer : erase_w t.epoch t.writer ≡ Writer.cutting k (length c) = rw (e, eqb-true k m r) in
          let its = cut-sight d s n o (build t p) seen a at starts k (length c) listed writer in
          subst (λ (x : Page). Sight s k a (view_p x)) same (record { place = 16; found = its.found; view = its.view }))
          (λ r f. window f)

-- ---- what is held is served

found-there : (f : Option ℕ) → is_found f ≡ true → (i : ℕ) × (f ≡ Some i)
found-there (Some i) e = (i, refl)
found-there None e = absurd (true≢false (sym e))

-- what is found, is found in one place
pub one_place : (f : Option ℕ) (i j : ℕ) → f ≡ Some i → f ≡ Some j → i ≡ j
one_place f i j e g = cc

module _ (d s n : List ℕ) (letters : 0 < length n) (o : Orderly d s) (t : Told) (p : Phys) (good : Good t p)
    (seen : Seen d s n (build t p)) (h entry : ℕ) (its : Handled s n h entry) (given : h ≢ 0) where
  tape : Placed s n h entry
  tape = handle-place d s o n h entry its given

  ok : usable d s ≡ true
  ok = →usable d s o.disk o.session

  given_at : handle_number s tape.place ≢ 0
  given_at z = given (sym tape.number ∙ z)

  live : t.live ≡ true
  live = sym seen.live ∙ live_at s n tape.place tape.at given_at

  -- the areas hold what the store holds
  held-at : (place : ℕ) → directory_of d s tape.place ≡ Some place → held_at (areas d s) place tape.place p.held.unwritten ≡ p.held
  held-at place named =
      let opened = seen.opened tape.place tape.at live in
      let in-it : find_name d directories n ≡ Some place = ap (find_name d directories) (sym tape.named) ∙ named in
      let files : files_at (areas d s) place ≡ p.held.files = ap (files_in d s) (sym in-it) ∙ seen.files in
      λ i. record { ring = opened.ring i; cache = opened.cache i; files = files i; unwritten = p.held.unwritten }

  -- what a page has is served
  page-served : (k from count : ℕ) (q : Page) → page k t ≡ Some q → q.start ≤ from → from + count ≤ length q.content
      → (can_serve d s tape.place from count ≡ true) × (served d s tape.place from count ≡ take count (drop from q.content))
  page-served k from count q is low high =
      let a = tape.place in
      let bs = take count (drop from q.content) in
      let (place, named) = found-there (directory_of d s a) (o.folder a tape.low given_at) in
      fetch-served d s o.disk a place p.held.unwritten named from count bs
      (ap (λ (x : ℕ). fetch x (held_at (areas d s) place a p.held.unwritten) from count) (seen.opened a tape.at live).size
      ∙ ap (λ (x : Held). fetch t.size x from count) (held-at place named)
      ∙ reads_held t p good live k from count q is low high)

  inside : (k x i count : ℕ) (q : Page) → seen_by s x tape.place ≡ view_p q → page k t ≡ Some q → q.start ≤ i * entry → i * entry + count * entry ≤ length q.content
      → (out : List ℕ) → count * entry ≤ length out → Inside d s x tape.place i count out
  inside k x i count q view is low high out room =
      let e = tape.entry-size in
      record {
        listed = ap (λ (v : View). v.listed) view;
        within = rw (e, view) (→in-bounds entry q.start (length q.content) i count low high);
        room = rw e room;
        there = rw e (page-served k (i * entry) (count * entry) q is low high).0;
      }

  filled-with : (k i count : ℕ) (q : Page) → page k t ≡ Some q → q.start ≤ i * entry → i * entry + count * entry ≤ length q.content
      → (out : List ℕ) → filled d s tape.place i count out ≡ put out 0 (take (count * entry) (drop (i * entry) q.content))
  filled-with k i count q is low high out = rw tape.entry-size (ap (put out 0) (page-served k (i * entry) (count * entry) q is low high).1)

  entry_at_lem : (handle_of s tape.place).entry ≡ entry
  entry_at_lem = handle-entry s tape.place (handle_of s tape.place) refl ∙ tape.entry-size

  -- an append is told where it begins
  pub put-answer : (k : ℕ) (here : Bool) (c : List ℕ) (start : ℕ) → t.writer ≡ appending k here c start → (bs : List ℕ) (v : ℕ) → (put_call d s k h bs).answer ≡ Ok v
      → v ≡ length c / entry
  put-answer k here c start writer bs v =
      let w = tape.place in
      let row = append-row d s n o (build t p) seen w tape.at k t.epoch here (length c) start (ap (erase_w t.epoch) writer) in
      put-cases (λ (x : Outcome). x.answer ≡ Ok v → v ≡ length c / entry) d s bs
      (λ why e. let z : ◌≡◌ {A = ℕ} 0 1 = cc in absurd (omega arith))
      k h
      (λ a place g e.
      let same : a ≡ w = one_place (find_handle s h) a w g.found tape.found in
      let seen-so : (seen_by s 16 w).listed ≡ true = subst (λ (x : ℕ). (seen_by s 16 x).listed ≡ true) same g.on.listed in
      let whole : seen_by s 16 w ≡ shown (seen_by s 16 w) = (shown-listed (seen_by s 16 w) (shown (seen_by s 16 w)) refl (rw seen-so)).1 in
      let len : (touched_as s w).len ≡ length c = sym (seen-touched s w) ∙ ap (λ (x : View). x.len) (whole ∙ row.view) in
      (cc) ∙ ap (λ (x : ℕ). (touched_as s x).len / entry_size_of s x) same ∙ rw (len, tape.entry-size))

  module _ (starts : CutStarts s) where
    sees : (k : ℕ) (q : Page) → page k t ≡ Some q → q.here ≡ true → Sight s k tape.place (view_p q)
    sees = sight d s n o starts t p seen tape.place tape.at

    pub read-served : (k i count : ℕ) (q : Page) → page k t ≡ Some q → q.here ≡ true → q.start ≤ i * entry → i * entry + count * entry ≤ length q.content
        → (out : List ℕ) → count * entry ≤ length out
        → read_call d s k h i count out ≡ reading (Ok count) (put out 0 (take (count * entry) (drop (i * entry) q.content)))
    read-served k i count q is here low high out room =
        let x = sees k q is here in
        read_done d s k h i count out x.place tape.place
        (record { sound = ok; transaction = x.found; found = tape.found; inside = inside k x.place i count q x.view is low high out room })
        ∙ ap (reading (Ok count)) (filled-with k i count q is low high out)

    pub entry-served : (k i : ℕ) (q : Page) → page k t ≡ Some q → q.here ≡ true → q.start ≤ i * entry → i * entry + entry ≤ length q.content
        → (out : List ℕ) → entry ≤ length out
        → entry_call d s k h i out ≡ entering (Ok (Some i)) (put out 0 (take entry (drop (i * entry) q.content)))
    entry-served k i q is here low high out room =
        let one : 1 * entry ≡ entry = one-mul entry in
        entry_read d s k h i out (Ok 1) (put out 0 (take entry (drop (i * entry) q.content))) (Ok (Some i))
        (read-served k i 1 q is here low (rw one high) out (rw one room) ∙ ap (λ (m : ℕ). reading (Ok 1) (put out 0 (take m (drop (i * entry) q.content)))) one)
        refl

    pub len-served : (k : ℕ) (q : Page) → page k t ≡ Some q → q.here ≡ true → len_call d s k h ≡ Ok (length q.content / entry)
    len-served k q is here =
        let x = sees k q is here in
        len-goes d s k h ok x.place x.found tape.place tape.found
        ∙ len-listed s x.place tape.place (view_p q) (sym x.view) refl
        ∙ ap (λ (m : ℕ). Ok (length q.content / m)) entry_at_lem

    pub start-served : (k : ℕ) (q : Page) → page k t ≡ Some q → q.here ≡ true → start_call d s k h ≡ Ok (q.start / entry)
    start-served k q is here =
        let x = sees k q is here in
        start-goes d s k h ok x.place x.found tape.place tape.found
        ∙ start-listed s x.place tape.place (view_p q) (sym x.view) refl
        ∙ ap (λ (m : ℕ). Ok (q.start / m)) entry_at_lem

    -- the last entry, and the rest staged
    module _ (k : ℕ) (c : List ℕ) (writer : t.writer ≡ cutting k c) where
      abbrev last : ℕ
      last = length c / entry - 1

      abbrev cut_page : Page
      cut_page = record { here = true; start = t.start; content = c }

      listed : t.listed ≡ true
      listed = (subst (λ (b : Bool). GoodIf b t p) live good).shown (ap is_appending writer)

      cut-sees : CutSight s k tape.place (view_p cut_page)
      cut-sees = cut-sight d s n o (build t p) seen tape.place tape.at starts k (length c) listed (ap (erase_w t.epoch) writer)

      pub pop-served : 0 < length c / entry → t.start ≤ last * entry → (out : List ℕ) → entry ≤ length out → (a : ℕ) → place_of s n ≡ Some a
          → pop_call d s k h out ≡ popping (Ok (Some last)) (cut_to s a (last * entry)) (put out 0 (take entry (drop (last * entry) c)))
      pop-served there low out room a at =
          let w = tape.place in
          let is : page k t ≡ Some cut_page = rw (writer, eq-eqb k k refl, listed) in
          let one : 1 * entry ≡ entry = one-mul entry in
          let same : (seen_by s 16 w).len / entry_size_of s w ≡ length c / entry = rw (cut-sees.view, tape.entry-size) in
          let up : (last + 1) * entry ≡ length c / entry * entry = ap (λ (m : ℕ). m * entry) (omega arith) in
          let high : last * entry + 1 * entry ≤ length c = omega (arith, up, add-mul last 1 entry, div-mul-le_self (length c) entry) in
          let its-last : (seen_by s 16 w).len / entry_size_of s w - 1 ≡ last = ap (λ (m : ℕ). m - 1) same in
          let on : Inside d s 16 w last 1 out = inside k 16 last 1 cut_page cut-sees.view is low high out (rw one room) in
          let bytes-are = filled-with k last 1 cut_page is low high out ∙ ap (λ (m : ℕ). put out 0 (take m (drop (last * entry) c))) one in
          pop-done d s k h out w
          (record {
            sound = ok;
            writer = cut-sees.writer;
            found = tape.found;
            some = λ z. omega arith;
            inside = subst (λ (m : ℕ). Inside d s 16 w m 1 out) (sym its-last) on;
          })
          ∙ ap (λ (m : ℕ). popping (Ok (Some m)) (cut_to s w (m * entry_size_of s w)) (filled d s w m 1 out)) its-last
          ∙ ap (λ (b : List ℕ). popping (Ok (Some last)) (cut_to s w (last * entry_size_of s w)) b) bytes-are
          ∙ rw (tape.entry-size, one_place (place_of s n) w a tape.at at)
