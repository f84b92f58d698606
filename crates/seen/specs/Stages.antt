-- A staged record put in the row of a handle's tape, which is all that `shift_start`, `truncate_tape`, `drop_entries` and `pop_entry` do to the areas
-- (`Cuts.antt` has the last three); and that `shift_start` is the model's `shift`. Assumes nothing.
use Rattle.std.specs.Prelude.{◌≡◌, refl, ◌≢◌, Bool, List, ℕ, ◌+◌, ◌*◌, ◌≤◌, ◌<◌, max, Option, Some, None}
use Rattle.std.proofs.Common.{sym, ap, ◌∙◌, arith, eq-eqb, le-leb}
use Rattle.std.proofs.Math.Path.{subst}
use Rattle.std.proofs.Math.Bool.{true}
use Rattle.octets.specs.Only.{OnlyIn}
use Rattle.answers.specs.Answers.{code_of}
use Rattle.components.specs.BoundsLaws.{up_to-true}
use Rattle.layout.specs.Disk.{directories}
use Rattle.layout.specs.Names.{find_name}
use Rattle.layout.specs.Session.{tape_at, entry_size_of, Begun}
use Rattle.session.specs.declared.tape_rows.Staged.{Staged}
use Rattle.session.specs.Rows.{transaction_of, handle_of, ring_of, ring_bytes, put_staged, find_handle}
use Rattle.session.specs.RowLaws.{StagedFits, only-put_staged, handle-entry}
use Rattle.session.specs.KeepLaws.{begun-ready, bytes-put_staged}
use Rattle.disk.specs.Meaning.{disk_of}
use Rattle.rolling_tape.specs.Files.{files_of}
use Rattle.beginning.specs.Laws.{refusal-some}
use Rattle.beginning.specs.Transactions.{is_open_at}
use Rattle.beginning.specs.Transactions as Real
use Rattle.staging.specs.Seeing.{seen_by, touched_as, writes}
use Rattle.staging.specs.Shifting.{shifted, shift_call}
use Rattle.staging.specs.Ways.{handle-found}
use Rattle.staging.specs.Laws.{Goes, shift-cases, shift-done, begun-shifted, touched-fits}
use Rattle.appending.specs.CallWays.{seen-touched}
use Rattle.touches.specs.Parts.{Stays, below_tapes, handles}
use Rattle.joins.specs.Caches.{Becomes, staged-becomes}
use Rattle.lives.specs.Life.{Writer, appending, Store, After, Done, shift, step, then}
use Rattle.seen.specs.Seen.{place_of, files_in, files_for, Seen, Handled}
use Rattle.seen.specs.Orderly.{Orderly}
use Rattle.seen.specs.Frames.{Frame, one-staged, orderly-frame, frame-handled, frame-stays}
use Rattle.seen.specs.Handles.{handle-number, handle-own, live_at}
use Rattle.seen.specs.Touching.{OnHandle, Leads, append-writer, its-live, its-rows, its-base, staged, writer_with, seen-touching, seen-others}
use Rattle.seen.specs.Kinds.{writes-kind, writes_as, writes-open}

-- ---- a staged record put in the row of the handle's tape

-- what is known of it
pub record PutRow (s : List ℕ) (h p : ℕ) (row : Staged) : Type 0 where
  pub found : find_handle s h ≡ Some p
  pub writer : is_open_at s 16 ≡ true
  pub fits : StagedFits row
  pub touched : row.touched ≡ true
  pub begun : Begun (put_staged s p row)

module _ (d s : List ℕ) (o : Orderly d s) (h p : ℕ) (row : Staged) (put : PutRow s h p row) where
  abbrev u : List ℕ
  u = put_staged s p row

  low : p < 8
  low = (handle-found s h p put.found).low

  pub row_put : Becomes s (put_staged s p row) p (ring_of s p) (ring_bytes s p) row
  row_put = staged-becomes s (begun-ready s o.session) p low row put.fits

  put-frame : Frame d s d u
  put-frame =
      let only : OnlyIn (tape_at p + 56) (tape_at p + 56 + 40) s u = only-put_staged s p row in
      let small = low in
      let tables : Stays below_tapes s u = λ i h. only.same i (λ l. omega arith) in
      let rows : Stays handles s u = λ i h. only.same i (λ l. omega arith) in
      frame-stays d s d u o.disk o.session only.long tables rows refl (λ i h. refl)

  put-orderly : Orderly d u
  put-orderly =
      orderly-frame d s d u put-frame
      (record {
        disk = o.disk;
        session = put.begun;
        disk-bytes = o.disk-bytes;
        session-bytes = bytes-put_staged s o.session-bytes p row (omega (arith, low, o.session.long));
        once = o.once;
      })
      (one-staged d s u p o (handle-found s h p put.found).held put.writer (rw row_put.staged put.touched) (λ q l apart. (row_put.others q l apart).staged))
      o

  put-files : (n : List ℕ) → files_for d u n ≡ files_for d s n
  put-files n = by (find_name d directories n)
    where
      by : (found : Option ℕ) → files_in d u found ≡ files_in d s found
      by (Some place) = ap (λ t. files_of (disk_of d) t place) row_put.tracking
      by None = refl

  put-others : (n : List ℕ) (h' entry : ℕ) → Handled s n h' entry → h' ≢ h → (st : Store) → Seen d s n st → Seen d u n st
  put-others n = seen-others d s d u h p put-frame (handle-number s h p put.found) row_put.others n (put-files n)

  pub on-handle : OnHandle d s d u h
  on-handle = record { orderly = put-orderly; frame = put-frame; others = put-others; handled = frame-handled d s d u put-frame }

  -- its own tape
  pub put-row-own : (n : List ℕ) → place_of s n ≡ Some p → (st : Store) → row.unwritten ≡ st.held.unwritten → (st.listed ≡ true → row.base ≡ st.len) → Seen d s n st
      → Seen d u n (staged st (writer_with s row) st.held)
  put-row-own n at st unwritten base seen =
      let rows = seen.opened p at (sym seen.live ∙ live_at s n p at (handle-found s h p put.found).held) in
      seen-touching d s d u n p row st.held
      (record {
        frame = put-frame;
        at = at;
        ring = row_put.ring ∙ rows.ring;
        cache = row_put.cache ∙ rows.cache;
        files = put-files n ∙ seen.files;
        staged = row_put.staged;
        touched = put.touched;
        unwritten = unwritten;
      })
      st base seen

-- what a call that was served has found
pub record Finds (d s : List ℕ) (w : Bool) (h i : ℕ) : Type 0 where
  pub place : ℕ
  pub goes : Goes d s w h place i

-- ---- a shift

model-shift : (st : Store) (k began len start to : ℕ) → st.writer ≡ appending k began true len start → st.live ≡ true → to ≤ len
    → step (shift k to) st ≡ then (Done 0) st.last st st.readers (appending k began true len (max start to)) true st.live st.held
unfolding step
model-shift st k began len start to writer live within = rw (writer, eq-eqb k k refl, live, le-leb to len within)

abbrev pub shifted_row : List ℕ → ℕ → ℕ → Staged
shifted_row s p to =
    record {
      touched = true;
      base = (touched_as s p).base;
      len = (touched_as s p).len;
      start = max (touched_as s p).start to;
      unwritten = (touched_as s p).unwritten;
    }

module _ (d s : List ℕ) (o : Orderly d s) (k h p to : ℕ) (found : find_handle s h ≡ Some p) (writer : writes s k ≡ true) (listed : (seen_by s 16 p).listed ≡ true)
    (within : to ≤ (touched_as s p).len) where
  shift-put : PutRow s h p (shifted_row s p to)
  unfolding shifted
  shift-put =
      let fits = touched-fits s o.session-bytes p in
      record {
        found = found;
        writer = writes-open s k writer;
        fits = record { base = fits.base; len = fits.len; start = omega (arith, fits.len, fits.start); unwritten = fits.unwritten };
        touched = refl;
        begun = begun-shifted s o.session p (handle-found s h p found).low to;
      }

  shifted-becomes : Becomes s (shifted s p to) p (ring_of s p) (ring_bytes s p) (shifted_row s p to)
  unfolding shifted
  shifted-becomes = row_put d s o h p (shifted_row s p to) shift-put

  shifted-on : OnHandle d s d (shifted s p to) h
  unfolding shifted
  shifted-on = on-handle d s o h p (shifted_row s p to) shift-put

  shifted-own : (n : List ℕ) → place_of s n ≡ Some p → (st : Store) → Seen d s n st → Leads d (shifted s p to) n (step (shift k to) st) 0
  unfolding shifted
  shifted-own n at st seen =
      let held = (handle-found s h p found).held in
      let row = shifted_row s p to in
      let rows = its-rows d s n o p at held st seen in
      let began = (transaction_of s 16).epoch in
      let goes = model-shift st k began (touched_as s p).len (touched_as s p).start to (append-writer d s n o p at held st seen k writer listed) (its-live d s n o p at held st seen) within in
      let is : writer_with s row ≡ appending k began true row.len row.start = rw (writes-kind s k writer, writes_as s k writer) in
      subst (λ (a : After). Leads d (put_staged s p row) n a 0) (sym goes)
      (record {
        answer = refl;
        seen = subst (λ (w : Writer). Seen d (put_staged s p row) n (staged st w st.held)) is
            (put-row-own d s o h p row shift-put n at st rows.unwritten (its-base d s n o p at held st seen (writes-open s k writer)) seen);
      })

module _ (d s : List ℕ) (k h i : ℕ) (o : Orderly d s) (served : code_of (shift_call d s k h i).answer ≡ 0) where
  pub shift-found : Finds d s (writes s k) h i
  shift-found =
      shift-cases (λ (a : Real.After). code_of a.answer ≡ 0 → Finds d s (writes s k) h i) d s k h i (λ why e. absurd (refusal-some why e))
      (λ p g e. record { place = p; goes = g }) served

  shift_is : (shift_call d s k h i).session ≡ shifted s shift-found.place (i * entry_size_of s shift-found.place)
  shift_is =
      ap (λ (a : Real.After). a.session) (shift-done d s k h shift-found.place i shift-found.goes)
      ∙ ap (λ (e : ℕ). shifted s shift-found.place (i * e)) (handle-entry s shift-found.place (handle_of s shift-found.place) refl)

  shift-within : i * entry_size_of s shift-found.place ≤ (touched_as s shift-found.place).len
  shift-within =
      let p = shift-found.place in
      rw (← handle-entry s p (handle_of s p) refl, ← seen-touched s p) (up_to-true (handle_of s p).entry i (seen_by s 16 p).len shift-found.goes.within)

  pub shift-becomes : Becomes s (shift_call d s k h i).session shift-found.place (ring_of s shift-found.place) (ring_bytes s shift-found.place)
      (shifted_row s shift-found.place (i * entry_size_of s shift-found.place))
  shift-becomes =
      let p = shift-found.place in
      let g = shift-found.goes in
      rw shift_is (shifted-becomes d s o k h p (i * entry_size_of s p) g.found g.writer g.listed shift-within)

  pub shift-on : OnHandle d s d (shift_call d s k h i).session h
  shift-on =
      let p = shift-found.place in
      let g = shift-found.goes in
      rw shift_is (shifted-on d s o k h p (i * entry_size_of s p) g.found g.writer g.listed shift-within)

  pub shift-own : (n : List ℕ) (entry : ℕ) → Handled s n h entry → (st : Store) → Seen d s n st
      → Leads d (shift_call d s k h i).session n (step (shift k (i * entry)) st) 0
  shift-own n entry its st seen =
      let p = shift-found.place in
      let g = shift-found.goes in
      let own = handle-own d s o n h p entry its g.found in
      rw (shift_is, ← own.1) (shifted-own d s o k h p (i * entry_size_of s p) g.found g.writer g.listed shift-within n own.0 st seen)
