-- `append_entries` is the model's `put`: of the handle's tape the staged record, the cache and the files change as the model says, and of every other tape
-- nothing is seen to change. Assumes nothing.
use Rattle.std.specs.Prelude.{◌≡◌, ◌≢◌, Bool, true, List, ℕ, ◌+◌, ◌/◌, ◌≤◌, ◌<◌, ◌^◌, Option, Some, None, Ok}
use Rattle.std.proofs.Math.Path.{refl}
use Rattle.std.proofs.Common.{sym, ap, ◌∙◌, subst}
use native.Mathlib.Omega.{arith}
use borrow.Author.Tests.{eq-eqb, ne_eqb, le-ltb}
use Rattle.std.proofs.Math.ListN.{length}
use Rattle.octets.specs.Number.{Bytes}
use Rattle.answers.specs.Answers.{code_of}
use Rattle.answers.specs.Outcome.{Outcome}
use Rattle.components.specs.Pieces.{file_of}
use Rattle.components.specs.Slots.{lacking_from, covered}
use Rattle.layout.specs.Names.{name, find_name}
use Rattle.layout.specs.Disk.{directories}
use Rattle.layout.specs.Session.{names_at, handle_number, entry_size_of, file_size_of, ring_len}
use Rattle.disk.specs.StepLaws.{directory-low}
use Rattle.session.specs.declared.tape_rows.Staged.{Staged}
use Rattle.session.specs.Rows.{transaction_of, ring_of}
use Rattle.rolling_tape.specs.Removal.{Areas, areas}
use Rattle.rolling_tape.specs.Room.{on_disk}
use Rattle.cached_tape.specs.Flushing.{unwritten_from}
use Rattle.cached_tape.specs.Putting.{sent_to, grown, put_in}
use Rattle.cached_tape.specs.PutLaws.{sound-put_in, begun-put_in, bytes-put_in-disk, bytes-put_in-session}
use Rattle.beginning.specs.Laws.{refusal-some}
use Rattle.staging.specs.Seeing.{touched_as}
use Rattle.staging.specs.Ways.{handle-found}
use Rattle.staging.specs.Laws.{touched-fits, unwritten-held}
use Rattle.appending.specs.Room.{low_of, end_of, lacking_of}
use Rattle.appending.specs.Calls.{done_in, put_call}
use Rattle.appending.specs.CallWays.{seen-touched}
use Rattle.appending.specs.Laws.{Goes, served, put-cases, put-done, put-lengths}
use Rattle.touches.specs.Puts.{put-leaves-session, put-leaves-disk}
use Rattle.held.specs.Held.{Held, put_held}
use Rattle.joins.specs.FilesAt.{files_at, held_at}
use Rattle.joins.specs.Writes.{Grown}
use Rattle.joins.specs.Sends.{Lacks}
use Rattle.joins.proofs.Sends.{sent-files}
use Rattle.joins.specs.Caches.{PutsIn, puts-in}
use Rattle.lives.specs.Life.{Writer, appending, Store, After, Done, put, step, then}
use Rattle.lives.specs.Told.{Told, Staging}
use Rattle.lives.specs.Told as T
use Rattle.lives.specs.Invariant.{Phys, Live, GoodIf, Good, build, erase_w, top}
use Rattle.seen.specs.Seen.{place_of, files_in, files_for, handle_in, Seen, Handled}
use Rattle.seen.specs.Orderly.{Orderly}
use Rattle.seen.specs.Places.{found_name, find-same}
use Rattle.seen.specs.Frames.{Frame, one-staged, orderly-frame, frame-handled, frame-stays}
use Rattle.seen.specs.Handles.{handle-number, handle-own, handle-at}
use Rattle.seen.specs.Touching.{OnHandle, Leads, staged_len, append-writer, its-live, its-rows, its-base, Touching, staged, writer_with, seen-touching, seen-others}
use Rattle.seen.specs.Lacking.{lacking-each, room-left}
use Rattle.seen.specs.Kinds.{writes-kind, writes_as, writes-open}
use Rattle.joins.proofs.Ranges.{lacking-last}

-- ---- the model's

model-put : (st : Store) (k began len start : ℕ) (bs : List ℕ) → st.writer ≡ appending k began true len start → st.live ≡ true → len + length bs ≤ 0xffff_ffff_ffff_ffff
    → step (put k bs) st ≡ then (Done len) st.last st st.readers (appending k began true (len + length bs) start) true st.live (put_held st.size len st.held bs)
unfolding step
model-put st k began len start bs writer live fits = rw (writer, eq-eqb k k refl, live, le-ltb 0xffff_ffff_ffff_ffff (len + length bs) fits)

-- what the files lack is part of the tape
pub less-unwritten : (t : Told) (x : Phys) → Live t x → (k began len start : ℕ) → erase_w t.epoch t.writer ≡ appending k began true len start → x.held.unwritten ≤ len
less-unwritten t x live k began len start = by t.writer refl
  where
    by : (w : Staging) → t.writer ≡ w → erase_w t.epoch w ≡ appending k began true len start → x.held.unwritten ≤ len
    by T.idle e is = let z : ◌≡◌ {A = ℕ} 0 1 = cc in absurd (omega arith)
    by (T.cutting m c) e is = let z : ◌≡◌ {A = ℕ} 0 1 = cc in absurd (omega arith)
    by (T.appending m b c s) e is =
        let long : length c ≡ len = cc in
        omega (arith, subst (λ (w : Staging). x.base + x.held.unwritten ≤ length (top t.content w)) e live.sound.new)

-- ---- the put, of a call that has found all

module _ (d s : List ℕ) (o : Orderly d s) (k h : ℕ) (bs : List ℕ) (bytes : Bytes bs) (p place : ℕ) (g : Goes d s k h bs p place)
    (inside : (touched_as s p).unwritten ≤ (touched_as s p).len) where
  abbrev row : Staged
  row = touched_as s p

  abbrev before : Areas
  before = areas d s

  abbrev behind : Areas
  behind = put_in before place p (touched_as s p) bs

  open handle-found s h p g.found use {low, held}

  there : place < 8
  there = directory-low d (name s names_at p) place g.on.there

  pending : row.unwritten ≤ ring_len s p
  pending = unwritten-held s p o.session low held

  fits : row.len + length bs < 2 ^ 64
  fits = omega (arith, seen-touched s p, g.on.fits)

  -- what the rule of 15 counts of the tape
  pub counted : lacking_of d s p (length bs) p
      ≡ lacking_from (on_disk d place) (file_of (file_size_of s p) (low_of (touched_as s p))) (covered (file_size_of s p) (low_of (touched_as s p)) ((touched_as s p).len + length bs))
  unfolding lacking_of
  counted =
      let end : end_of row (length bs) ≡ row.len + length bs = omega arith in
      rw (ne_eqb (handle_number s p) 0 held, eq-eqb p p refl, g.on.there, end)

  lacks : Lacks before place p row (row.len + length bs)
  lacks =
      let some = (o.session.tapes p low held).file-some in
      record {
        clean = record { sound = o.disk; begun = o.session; bytes = o.session-bytes; once = o.once };
        directory = there;
        tape = low;
        held = held;
        pending = pending;
        inside = inside;
        fits = fits;
        room = omega (
          arith,
          counted,
          lacking-each d s p (length bs) p low,
          room-left d s p (length bs) g.on.room,
          lacking-last (file_size_of s p) some (on_disk d place) (low_of row) (unwritten_from row) (row.len + length bs) (omega arith) (omega arith),
        );
      }

  pub sent : Grown before (sent_to before place p (touched_as s p) bs) place (file_of (file_size_of s p) (unwritten_from (touched_as s p)))
      (covered (file_size_of s p) (unwritten_from (touched_as s p)) ((touched_as s p).len + length bs))
      (put_held (file_size_of s p) (touched_as s p).len (held_at before place p (touched_as s p).unwritten) bs).files
  sent = sent-files before place p row bs lacks

  pub put-rows : PutsIn (areas d s) place p (touched_as s p) bs
  put-rows =
      let small = touched-fits s o.session-bytes p in
      puts-in before place p row bs o.disk o.session there low held pending fits (omega (arith, small.base)) (omega (arith, small.start))

  pub put-frame : Frame d s (put_in (areas d s) place p (touched_as s p) bs).disk (put_in (areas d s) place p (touched_as s p) bs).session
  put-frame =
      let is = put-done d s k h bs p place g in
      let leaves = put-leaves-session d s k h bs in
      let long = put-lengths d s k h bs in
      rw is at (frame-stays d s (put_call d s k h bs).disk (put_call d s k h bs).session o.disk o.session long.1 leaves.tables-stay leaves.handles-stay long.0 (put-leaves-disk d s k h bs))

  put-orderly : Orderly behind.disk behind.session
  put-orderly =
      orderly-frame d s behind.disk behind.session put-frame
      (record {
        disk = sound-put_in before place p row o.disk o.session there low held pending bs fits;
        session = begun-put_in before place p row o.disk o.session there low held pending bs fits;
        disk-bytes = bytes-put_in-disk before place p row o.disk o.session there low held pending bs fits o.disk-bytes o.session-bytes bytes;
        session-bytes = bytes-put_in-session before place p row o.disk o.session there low held pending bs fits o.session-bytes bytes;
        once = rw put-rows.disk sent.once;
      })
      (one-staged d s behind.session p o held (writes-open s k g.writer) (ap (λ (r : Staged). r.touched) put-rows.staged) (λ q l apart. (put-rows.others q l apart).staged))
      o

  -- the directories are where they were
  put-folder : (n : List ℕ) → find_name behind.disk directories n ≡ find_name d directories n
  put-folder n = find-same d behind.disk directories directories n put-frame.folders

  -- the tape of another handle has another directory
  folder-apart : (n : List ℕ) (h' entry q : ℕ) → Handled s n h' entry → h' ≢ h → find_name d directories n ≡ Some q → q ≢ place
  folder-apart n h' entry q its apart at e =
      let mine : name d directories place ≡ name s names_at p = found_name d directories (name s names_at p) place g.on.there in
      let same : name s names_at p ≡ n = sym mine ∙ ap (name d directories) (sym e) ∙ found_name d directories n q at in
      let found : place_of s n ≡ Some p = subst (λ (m : List ℕ). place_of s m ≡ Some p) same (handle-at d s o h p g.found) in
      apart (sym its.number ∙ ap (handle_in s) found ∙ handle-number s h p g.found)

  other-files : (n : List ℕ) (h' entry : ℕ) → Handled s n h' entry → h' ≢ h → files_for behind.disk behind.session n ≡ files_for d s n
  other-files n h' entry its apart = ap (files_in behind.disk behind.session) (put-folder n) ∙ by (find_name d directories n) refl
    where
      by : (found : Option ℕ) → find_name d directories n ≡ found → files_in behind.disk behind.session found ≡ files_in d s found
      by (Some q) at = put-rows.files q ∙ sent.other q (folder-apart n h' entry q its apart at)
      by None at = refl

  put-others : (n : List ℕ) (h' entry : ℕ) → Handled s n h' entry → h' ≢ h → (st : Store) → Seen d s n st → Seen behind.disk behind.session n st
  put-others n h' entry its apart =
      seen-others d s behind.disk behind.session h p put-frame (handle-number s h p g.found) put-rows.others n (other-files n h' entry its apart) h' entry its apart

  put_in-on : OnHandle d s behind.disk behind.session h
  put_in-on = record { orderly = put-orderly; frame = put-frame; others = put-others; handled = frame-handled d s behind.disk behind.session put-frame }

  -- ---- its own tape

  module _ (n : List ℕ) (at : place_of s n ≡ Some p) (st : Store) (seen : Seen d s n st) where
    own-folder : find_name d directories n ≡ Some place
    own-folder = subst (λ (m : List ℕ). find_name d directories m ≡ Some place) (found_name s names_at n p at) g.on.there

    own-files : files_for behind.disk behind.session n ≡ (put_held (file_size_of s p) row.len (held_at before place p row.unwritten) bs).files
    own-files = ap (files_in behind.disk behind.session) (put-folder n ∙ own-folder) ∙ put-rows.files place ∙ sent.own

    -- what the areas hold of it is what the model holds
    same-held : held_at before place p row.unwritten ≡ st.held
    same-held =
        let rows = its-rows d s n o p at held st seen in
        let its-files : files_at before place ≡ st.held.files = ap (files_in d s) (sym own-folder) ∙ seen.files in
        λ i. record { ring = rows.ring i; cache = rows.cache i; files = its-files i; unwritten = rows.unwritten i }

    touching : Touching d s behind.disk behind.session n p (grown row (ring_of s p) (length bs)) (put_held (file_size_of s p) row.len (held_at before place p row.unwritten) bs)
    unfolding put_held
    touching =
        record {
          frame = put-frame;
          at = at;
          ring = put-rows.ring;
          cache = put-rows.cache;
          files = own-files;
          staged = put-rows.staged;
          touched = refl;
          unwritten = refl;
        }

    put_in-own : Leads behind.disk behind.session n (step (put k bs) st) (staged_len st.writer)
    put_in-own =
        let e = behind.disk in
        let u = behind.session in
        let began = (transaction_of s 16).epoch in
        let new = grown row (ring_of s p) (length bs) in
        let is-writer = append-writer d s n o p at held st seen k g.writer g.on.listed in
        let goes = model-put st k began row.len row.start bs is-writer (its-live d s n o p at held st seen) (omega (arith, fits)) in
        let is : writer_with s new ≡ appending k began true (row.len + length bs) row.start = rw (writes-kind s k g.writer, writes_as s k g.writer) in
        let holds : put_held (file_size_of s p) row.len (held_at before place p row.unwritten) bs ≡ put_held st.size row.len st.held bs
        = rw ((its-rows d s n o p at held st seen).size, same-held) in
        subst (λ (a : After). Leads e u n a (staged_len st.writer)) (sym goes)
        (record {
          answer = sym (ap (λ (w : Writer). Done (staged_len w)) is-writer);
          seen = subst (λ (w : Writer). Seen e u n (staged st w (put_held st.size row.len st.held bs))) is
              (subst (λ (x : Held). Seen e u n (staged st (writer_with s new) x)) holds
              (seen-touching d s e u n p new (put_held (file_size_of s p) row.len (held_at before place p row.unwritten) bs) touching st
              (its-base d s n o p at held st seen (writes-open s k g.writer)) seen));
        })

-- ---- the call

-- what it has found
pub record PutFinds (d s : List ℕ) (k h : ℕ) (bs : List ℕ) : Type 0 where
  pub tape : ℕ
  pub place : ℕ
  pub goes : Goes d s k h bs tape place

pub put-found : (d s : List ℕ) (k h : ℕ) (bs : List ℕ) → code_of (put_call d s k h bs).answer ≡ 0 → PutFinds d s k h bs
put-found d s k h bs =
    put-cases (λ (a : Outcome). code_of a.answer ≡ 0 → PutFinds d s k h bs) d s bs (λ why e. absurd (refusal-some why e)) k h
    (λ p place g e. record { tape = p; place = place; goes = g })

-- n is the name of the handle's tape
module _ (d s : List ℕ) (o : Orderly d s) (k h : ℕ) (bs : List ℕ) (bytes : Bytes bs) (served : code_of (put_call d s k h bs).answer ≡ 0)
    (n : List ℕ) (entry : ℕ) (its : Handled s n h entry) (t : Told) (x : Phys) (good : Good t x) (seen : Seen d s n (build t x)) where
  abbrev found : PutFinds d s k h bs
  found = put-found d s k h bs served

  own : (place_of s n ≡ Some found.tape) × (entry_size_of s found.tape ≡ entry)
  own = handle-own d s o n h found.tape entry its found.goes.found

  held-there : handle_number s found.tape ≢ 0
  held-there = (handle-found s h found.tape found.goes.found).held

  its-writer : (build t x).writer ≡ appending k (transaction_of s 16).epoch true (touched_as s found.tape).len (touched_as s found.tape).start
  its-writer = append-writer d s n o found.tape own.0 held-there (build t x) seen k found.goes.writer found.goes.on.listed

  pub put-inside : (touched_as s found.tape).unwritten ≤ (touched_as s found.tape).len
  put-inside =
      let p = found.tape in
      let live = subst (λ (b : Bool). GoodIf b t x) (its-live d s n o p own.0 held-there (build t x) seen) good in
      omega (arith, (its-rows d s n o p own.0 held-there (build t x) seen).unwritten, less-unwritten t x live k _ _ _ its-writer)

  pub put_is : put_call d s k h bs ≡ done_in ((touched_as s found.tape).len / entry_size_of s found.tape) (put_in (areas d s) found.place found.tape (touched_as s found.tape) bs)
  put_is = put-done d s k h bs found.tape found.place found.goes

  pub put_on_lem : OnHandle d s (put_call d s k h bs).disk (put_call d s k h bs).session h
  put_on_lem = rw put_is (put_in-on d s o k h bs bytes found.tape found.place found.goes put-inside)

  pub put-own : Leads (put_call d s k h bs).disk (put_call d s k h bs).session n (step (put k bs) (build t x)) (staged_len (build t x).writer)
  put-own = rw put_is (put_in-own d s o k h bs bytes found.tape found.place found.goes put-inside n own.0 (build t x) seen)

  -- "Append returns the staged length before it", in entries
  pub put-value : (put_call d s k h bs).answer ≡ Ok (staged_len (build t x).writer / entry)
  put-value = ap (λ (a : Outcome). a.answer) put_is ∙ rw (ap staged_len its-writer, own.1)
