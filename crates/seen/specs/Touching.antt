-- The tape that the writer stages: what the model's writer is, and what is seen of the tape once its staged record is another one. Assumes nothing.
use Rattle.std.specs.Prelude.{◌≡◌, refl, ◌≢◌, Bool, true, cond, List, ℕ, ◌<◌, Some}
use Rattle.std.proofs.Common.{sym, ap, ◌∙◌, subst, true≢false, arith}
use Rattle.octets.specs.Cases.{decide}
use Rattle.layout.specs.NamesLaws.{name-low}
use Rattle.layout.specs.Session.{names_at, handle_number}
use Rattle.session.specs.declared.head.Head.{Head}
use Rattle.session.specs.declared.tape_rows.Staged.{Staged}
use Rattle.session.specs.declared.views.View.{View}
use Rattle.session.specs.Meaning.{no_view}
use Rattle.session.specs.Rows.{view_of, transaction_of, ring_of, ring_bytes, staged_of}
use Rattle.beginning.specs.Transactions.{is_open_at}
use Rattle.staging.specs.Seeing.{seen_by, touched_as, is_append, writes, cuts}
use Rattle.staging.specs.Ways.{touched-now}
use Rattle.appending.specs.CallWays.{seen-touched}
use Rattle.held.specs.Held.{Held}
use Rattle.joins.specs.Caches.{AsBefore}
use Rattle.lives.specs.Life.{Writer, idle, appending, cutting, Store, After, Done, then}
use Rattle.seen.specs.Seen.{place_of, writer_as, writer_in, touched_in, files_for, SeenOpen, Seen, Handled}
use Rattle.seen.specs.Orderly.{Orderly}
use Rattle.seen.specs.Same.{seen_same}
use Rattle.seen.specs.Rows.{size-row, list_at}
use Rattle.seen.specs.Frames.{Frame, frame-place, frame-view, frame-live, frame-readers}
use Rattle.seen.specs.Handles.{handle-apart, live_at}
use Rattle.seen.specs.Kinds.{writes-kind, writes_as, cuts-kind, cuts-as}
use Rattle.seen.specs.Shown.{shown-listed}

-- ---- what is shown of a call on a handle

-- of the areas, of every tape but the handle's, and of all handles; d and s are the areas before it, e and u those behind
pub record OnHandle (d s e u : List ℕ) (h : ℕ) : Type 0 where
  pub orderly : Orderly e u
  -- head, names, views, transactions and handles are as they were, and on the disk directories, left and right
  pub frame : Frame d s e u
  pub others : (n : List ℕ) (h' entry : ℕ) → Handled s n h' entry → h' ≢ h → (st : Store) → Seen d s n st → Seen e u n st
  pub handled : (n : List ℕ) (h' entry : ℕ) → Handled s n h' entry → Handled u n h' entry

-- of the handle's tape: the model's step is served, with this value, and what it leaves is seen
pub record Leads (e u n : List ℕ) (a : After) (value : ℕ) : Type 0 where
  pub answer : a.answer ≡ Done value
  pub seen : Seen e u n a.store

-- the length that a writer has staged
abbrev pub staged_len : Writer → ℕ
staged_len idle = 0
staged_len (appending m b here len start) = len
staged_len (cutting m len) = len

-- ---- rows that the writer sees

pub seen_start : (s : List ℕ) (p : ℕ) → (seen_by s 16 p).start ≡ (touched_as s p).start
unfolding seen_by touched_as
seen_start s p = decide (staged_of s p).touched (λ e. rw e) (λ e. rw e)

pub touched-row : (s : List ℕ) (p : ℕ) → (staged_of s p).touched ≡ true → touched_as s p ≡ staged_of s p
unfolding touched_as
touched-row s p e = rw e

pub seen-row : (s : List ℕ) (p : ℕ) → (staged_of s p).touched ≡ true → seen_by s 16 p ≡ record { listed = true; len = (staged_of s p).len; start = (staged_of s p).start }
unfolding seen_by
seen-row s p e = rw e

-- ---- the tape of a name, open in place p

module _ (d s n : List ℕ) (o : Orderly d s) (p : ℕ) (at : place_of s n ≡ Some p) (held : handle_number s p ≢ 0) (st : Store) (seen : Seen d s n st) where
  pub its-live : st.live ≡ true
  its-live = sym seen.live ∙ live_at s n p at held

  pub its-rows : SeenOpen s p st
  its-rows = seen.opened p at its-live

  pub append-writer : (k : ℕ) → writes s k ≡ true → (seen_by s 16 p).listed ≡ true
      → st.writer ≡ appending k (transaction_of s 16).epoch true (touched_as s p).len (touched_as s p).start
  append-writer k w listed =
      sym seen.writer ∙ ap (writer_in s) at ∙ rw (listed, writes-kind s k w, writes_as s k w, seen-touched s p, seen_start s p)

  pub cut-writer : (k : ℕ) → cuts s k ≡ true → (seen_by s 16 p).listed ≡ true → st.writer ≡ cutting k (touched_as s p).len
  cut-writer k w listed = sym seen.writer ∙ ap (writer_in s) at ∙ rw (listed, cuts-kind s k w, cuts-as s k w, seen-touched s p)

  -- in a truncate every open tape is listed
  pub cut-listed : (k : ℕ) → cuts s k ≡ true → st.listed ≡ true
  cut-listed k w =
      let there : (view_of s 17 p).listed ≡ true
      = decide (view_of s 17 p).listed (λ e. e)
      (λ e. absurd (true≢false (sym (o.made-append p (name-low s names_at n p at) held e) ∙ ap is_append (cuts-kind s k w)))) in
      sym (ap (λ (v : View). v.listed) (sym (ap (λ (b : Bool). cond b (view_of s 17 p) no_view) there) ∙ list_at d s n st seen p at)) ∙ there

  pub its-base : is_open_at s 16 ≡ true → st.listed ≡ true → (touched_as s p).base ≡ st.len
  its-base writer listed =
      decide (staged_of s p).touched
      (λ e. ap (λ (r : Staged). r.base) (touched-row s p e) ∙ its-rows.base e listed)
      (λ e.
      sym (ap (λ (r : Staged). r.base) (touched-now s p (staged_of s p) refl (view_of s 16 p) refl e))
      ∙ ap (λ (v : View). v.len) (o.writer-view writer p (name-low s names_at n p at) ∙ (shown-listed (view_of s 17 p) _ (list_at d s n st seen p at) listed).1))

-- ---- once the staged record is another one

pub record Touching (d s e u n : List ℕ) (p : ℕ) (row : Staged) (h : Held) : Type 0 where
  pub frame : Frame d s e u
  pub at : place_of s n ≡ Some p
  pub ring : ring_of u p ≡ h.ring
  pub cache : ring_bytes u p ≡ h.cache
  pub files : files_for e u n ≡ h.files
  pub staged : staged_of u p ≡ row
  pub touched : row.touched ≡ true
  pub unwritten : row.unwritten ≡ h.unwritten

-- the model's store with this staged of the tape
abbrev pub staged : Store → Writer → Held → Store
staged st w h = (then (Done 0) st.last st st.readers w true st.live h).store

abbrev pub writer_with : List ℕ → Staged → Writer
writer_with s row =
    writer_as (transaction_of s 16).kind (transaction_of s 16).number (transaction_of s 16).epoch (record { listed = true; len = row.len; start = row.start })

module _ (d s e u n : List ℕ) (p : ℕ) (row : Staged) (h : Held) (c : Touching d s e u n p row h) where
  place-now : place_of u n ≡ Some p
  place-now = frame-place d s e u c.frame n ∙ c.at

  touched-there : (staged_of u p).touched ≡ true
  touched-there = rw c.staged c.touched

  writer-now : writer_in u (place_of u n) ≡ writer_with s row
  writer-now = ap (writer_in u) place-now ∙ rw (seen-row u p touched-there, c.frame.transactions 16 (omega arith), c.staged)

  pub seen-touching : (st : Store) → (st.listed ≡ true → row.base ≡ st.len) → Seen d s n st → Seen e u n (staged st (writer_with s row) h)
  seen-touching st base seen =
      let f = c.frame in
      record {
        epoch = ap (λ (x : Head). x.epoch) f.head ∙ seen.epoch;
        cut = ap (λ (x : Head). x.cut) f.head ∙ seen.cut;
        last = ap (λ (x : Head). x.last_transaction) f.head ∙ seen.last;
        list = frame-view d s e u f 17 (omega arith) n ∙ seen.list;
        readers = λ has. frame-readers d s e u f has n ∙ seen.readers has;
        writer = writer-now;
        touched = ap (touched_in u) place-now ∙ touched-there;
        live = frame-live d s e u f n ∙ seen.live;
        files = c.files;
        opened = λ q found live.
            let same : p ≡ q = cc place-now in
            subst (λ (x : ℕ). SeenOpen u x (staged st (writer_with s row) h)) same
            (record {
              ring = c.ring;
              cache = c.cache;
              size = size-row s u p (f.handles p (name-low s names_at n p c.at)) ∙ (seen.opened p c.at live).size;
              unwritten = ap (λ (x : Staged). x.unwritten) (touched-row u p touched-there ∙ c.staged) ∙ c.unwritten;
              base = λ t listed. ap (λ (x : Staged). x.base) c.staged ∙ base listed;
            });
      }

-- ---- every other tape, where its rows and its files are as they were

pub seen-others : (d s e u : List ℕ) (h p : ℕ) → Frame d s e u → handle_number s p ≡ h → ((q : ℕ) → q < 8 → q ≢ p → AsBefore s u q)
    → (n : List ℕ) → files_for e u n ≡ files_for d s n → (h' entry : ℕ) → Handled s n h' entry → h' ≢ h → (st : Store) → Seen d s n st → Seen e u n st
seen-others d s e u h p f is others n files h' entry its apart st =
    seen_same d s e u n st
    (record {
      epoch = ap (λ (x : Head). x.epoch) f.head;
      cut = ap (λ (x : Head). x.cut) f.head;
      last = ap (λ (x : Head). x.last_transaction) f.head;
      place = frame-place d s e u f n;
      transactions = f.transactions;
      tape = λ q at.
          let low = name-low s names_at n q at in
          let before = others q low (handle-apart s n h h' entry p q its apart is at) in
          record { view = λ w l. f.views w q l low; handle = f.handles q low; ring = before.ring; cache = before.cache; staged = before.staged };
      files = files;
    })
