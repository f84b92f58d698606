-- What the commit of a truncate does to the tapes: of each that was touched the ring is cut and the marks from the new length's file on are cleared; the
-- others' rows and files are as before. Assumes nothing.
use Rattle.std.specs.Prelude.{◌≡◌, ◌≢◌, false, cond, not, ℕ, ◌+◌, ◌<◌, eqb, Option, Some, None}
use Rattle.std.proofs.Math.Path.{refl, ap, fun_ext}
use Rattle.std.proofs.Common.{sym, ◌∙◌, true≢false, arith}
use Rattle.std.proofs.Math.Bool.{true, and-false}
use mathlib.Core.List.{List}
use Rattle.octets.specs.Cases.{decide, picked}
use Rattle.octets.specs.Number.{Bytes}
use Rattle.octets.specs.Only.{OnlyIn, num_at-only}
use Rattle.answers.specs.Answers.{code_of}
use Rattle.answers.specs.Outcome.{Outcome}
use Rattle.components.specs.FileBytes.{written}
use Rattle.components.specs.Files.{Files, clear_from}
use Rattle.components.specs.Pieces.{file_of}
use Rattle.layout.specs.Disk.{entry_at, directories, slots, owner, number, Sound}
use Rattle.layout.specs.Names.{name, find_name}
use Rattle.layout.specs.Session.{names_at, file_size_of, Begun}
use Rattle.metadata.specs.Record.{encode_record}
use Rattle.metadata.specs.RecordLaws.{record-most}
use Rattle.metadata.specs.Struct.{tapes_of, storable}
use Rattle.metadata.specs.Tapes.{encode_list}
use Rattle.metadata.specs.declared.choice.Side.{Side}
use Rattle.metadata.specs.declared.choice.Side.TheVariants.{Left, Right}
use Rattle.metadata.specs.declared.list.TapeList.{TapeList}
use Rattle.disk.specs.Meaning.{Disk, disk_of, with_side, slot_with, directory_named}
use Rattle.disk.specs.MeaningLaws.{disk-write_side, find-directory}
use Rattle.disk.specs.Steps.{side_bytes}
use Rattle.ring_buffer.specs.Ring.{truncated}
use Rattle.session.specs.KeepLaws.{begun-ready}
use Rattle.session.specs.declared.tracking.Tracking.{Tracking}
use Rattle.session.specs.Meaning.{untouched, session_of}
use Rattle.session.specs.MeaningLaws.{trackings-only}
use Rattle.session.specs.Rows.{head_of, handle_of, ring_of, ring_bytes, staged_of}
use Rattle.rolling_tape.specs.Files.{file_at, files_of}
use Rattle.rolling_tape.specs.Removal.{areas}
use Rattle.rolling_tape.specs.Room.{is_found}
use Rattle.rolling_tape.specs.Tracking.{retracked}
use Rattle.rolling_tape.specs.TrackingLaws.{only-retracked}
use Rattle.rolling_tape.specs.declared.tracking.Change.TheVariants.{ClearFrom}
use Rattle.beginning.specs.Laws.{refusal-some}
use Rattle.staging.specs.Seeing.{directory_of, writes}
use Rattle.ending.specs.CutLaws.{begun-cut_tape, bytes-cut_tape, begun-cut_ring, begun-cut_all, bytes-cut_ring}
use Rattle.ending.specs.Listing.{is_touched}
use Rattle.ending.specs.CommitLaws.{the_list, commit-cases, only-stored-disk, only-stored, slots-stored, whole-stored}
use Rattle.ending.specs.Committing.{stored, truncated_by, commit_call}
use Rattle.ending.specs.StepLaws.{Whole, only-publish_all, begun-publish_all, only-advanced}
use Rattle.ending.specs.Steps.{publish_all, recorded, cut_ring, clear_in, cut_tape, cut_all}
use Rattle.joins.specs.Caches.{Becomes, cut-becomes}
use Rattle.joins.specs.FilesAt.{Once}
use Rattle.joins.specs.Tracks.{own-retracked, other-retracked}
use Rattle.seen.specs.Seen.{files_in, files_for}
use Rattle.seen.specs.Orderly.{Orderly}
use Rattle.ended.specs.Ends.{Row, row_of, touched_row, is-touched-row, rows-only, row-becomes, others-become, files-found, files-tracking, files-apart, TouchedApart, touched-apart, Turn, swept-row, swept-files, swept-apart, closed-row, closed-files}

abbrev pub cut_row : Row → Row
cut_row r = record { handle = r.handle; name = r.name; ring = truncated r.ring r.staged.len; staged = untouched }

abbrev pub cut_files : Row → Files → Files
cut_files r f = clear_from (file_of r.handle.file_size r.staged.len) f

-- ---- one tape

module _ (d t : List ℕ) (sound : Sound d) (begun : Begun t) (bytes : Bytes t) (i : ℕ) (low : i < 8) where
  abbrev ringed : List ℕ
  ringed = cut_ring i t

  ring-step : Becomes t ringed i (truncated (ring_of t i) (staged_of t i).len) (ring_bytes t i) untouched
  ring-step = cut-becomes t (begun-ready t begun) i low bytes

  ring-bytes : Bytes ringed
  ring-bytes = bytes-cut_ring i t low begun.long bytes

  ring-whole : Whole (areas d ringed)
  ring-whole = record { sound = sound; begun = begun-cut_ring i t low begun; bytes = ring-bytes }

  module _ (is : is_touched t i ≡ true) (place : ℕ) (found : directory_of d t i ≡ Some place) (n : ℕ) where
    abbrev cleared : List ℕ
    cleared = retracked d ringed place (ClearFrom n)

    rows-cleared : (q : ℕ) → q < 8 → row_of cleared q ≡ row_of ringed q
    rows-cleared = rows-only 4936 5960 ringed cleared (only-retracked d ringed place (ClearFrom n) sound.head.few) (λ q. omega arith) (λ q. omega arith) ring-whole.begun

    cleared-turn : Turn d t cleared i (name t names_at i) (cut_row (row_of t i)) (clear_from n (files_for d t (name t names_at i)))
    cleared-turn =
        let wanted = name t names_at i in
        let same : (m : List ℕ) → files_for d ringed m ≡ files_for d t m = files-tracking d t ringed ring-step.tracking in
        record {
          own = rows-cleared i low ∙ row-becomes t ringed i _ _ _ ring-step low;
          files = files-found d cleared wanted place found
              ∙ own-retracked (areas d ringed) place (ClearFrom n) ring-whole (record { epoch = omega arith })
              ∙ ap (clear_from n) (sym (files-found d ringed wanted place found) ∙ same wanted);
          others = λ q l apart. rows-cleared q l ∙ others-become t ringed i _ _ _ ring-step q l apart;
          apart = λ m touched.
              files-apart d ringed cleared wanted place found (other-retracked (areas d ringed) place (ClearFrom n) ring-whole (record { epoch = omega arith })) m
              (touched (sym (is-touched-row t i) ∙ is))
              ∙ same m;
        }

-- the step
abbrev pub row_after_cut : Row → Row
row_after_cut r = cond (touched_row r) (cut_row r) r

abbrev pub files_after_cut : Row → Files → Files
files_after_cut r f = cond (touched_row r) (cut_files r f) f

module _ (d t : List ℕ) (sound : Sound d) (begun : Begun t) (bytes : Bytes t) (i : ℕ) (low : i < 8) where
  cut-touched : is_touched t i ≡ true → is_found (directory_of d t i) ≡ true
      → Turn d t (cut_tape d i t) i (name t names_at i) (cut_row (row_of t i)) (cut_files (row_of t i) (files_for d t (name t names_at i)))
  unfolding cut_tape handle_of
  cut-touched is folder = rw is (by (directory_of d t i) refl)
    where
      by : (f : Option ℕ) → directory_of d t i ≡ f
          → Turn d t (clear_in d (cut_ring i t) (file_size_of t i) (staged_of t i).len f) i (name t names_at i) (cut_row (row_of t i)) (cut_files (row_of t i) (files_for d t (name t names_at i)))
      by (Some place) found = cleared-turn d t sound begun bytes i low is place found (file_of (file_size_of t i) (staged_of t i).len)
      by None found = absurd (true≢false (sym folder ∙ ap is_found found))

  cut-untouched : is_touched t i ≡ false → (wanted : List ℕ) → Turn d t (cut_tape d i t) i wanted (row_of t i) (files_for d t wanted)
  unfolding cut_tape
  cut-untouched is wanted = rw is (record { own = refl; files = refl; others = λ q l apart. refl; apart = λ m touched. refl })

  -- of a tape whose directory is there, if it was touched
  pub cut-turn : (wanted : List ℕ) → (touched_row (row_of t i) ≡ true → name t names_at i ≡ wanted) → (is_touched t i ≡ true → is_found (directory_of d t i) ≡ true)
      → Turn d t (cut_tape d i t) i wanted (row_after_cut (row_of t i)) (files_after_cut (row_of t i) (files_for d t wanted))
  cut-turn wanted named folder =
      decide (is_touched t i)
      (λ (is : is_touched t i ≡ true).
      let e = sym (is-touched-row t i) ∙ is in
      rw (e, ← named e) (cut-touched is (folder is)))
      (λ (is : is_touched t i ≡ false). rw (sym (is-touched-row t i) ∙ is) (cut-untouched is wanted))

-- ---- all of them

cut-calm : (i : ℕ) (r : Row) → touched_row (row_after_cut r) ≡ false
cut-calm i r = picked (λ (x : Row). touched_row x ≡ false) (touched_row r) (cut_row r) r (λ e. and-false (not (eqb r.handle.number 0))) (λ e. e)

module _ (d s : List ℕ) (sound : Sound d) (begun : Begun s) (bytes : Bytes s) (apart : TouchedApart d s) where
  abbrev Q : List ℕ → Type 0
  Q t = Begun t × Bytes t

  cut_keeps : (i : ℕ) (t : List ℕ) → i < 8 → Q t → (touched_row (row_of t i) ≡ true → row_of t i ≡ row_of s i) → Q (cut_tape d i t)
  cut_keeps i t l k first = (begun-cut_tape d sound.head.few i t l k.0, bytes-cut_tape d sound.head.few i t l k.0.long k.1)

  turn : (i : ℕ) (t : List ℕ) → i < 8 → Q t → (touched_row (row_of t i) ≡ true → row_of t i ≡ row_of s i)
      → Turn d t (cut_tape d i t) i (name s names_at i) (row_after_cut (row_of t i)) (files_after_cut (row_of t i) (files_for d t (name s names_at i)))
  turn i t l k first =
      let named : touched_row (row_of t i) ≡ true → name t names_at i ≡ name s names_at i = λ e. ap (λ (r : Row). r.name) (first e) in
      cut-turn d t sound k.0 k.1 i l (name s names_at i) named
      (λ is.
      let e = sym (is-touched-row t i) ∙ is in
      rw (named e) (apart.folder i l (is-touched-row s i ∙ sym (ap touched_row (first e)) ∙ e)))

  pub cut-rows : (p : ℕ) → p < 8 → row_of (cut_all d s) p ≡ row_after_cut (row_of s p)
  cut-rows = swept-row d s (cut_tape d) (λ i. row_after_cut) (λ i. files_after_cut) Q cut_keeps turn cut-calm apart.distinct (begun, bytes)

  pub cut-files : (p : ℕ) → p < 8 → files_for d (cut_all d s) (name s names_at p) ≡ files_after_cut (row_of s p) (files_for d s (name s names_at p))
  cut-files = swept-files d s (cut_tape d) (λ i. row_after_cut) (λ i. files_after_cut) Q cut_keeps turn cut-calm apart.distinct (begun, bytes)

  pub cut_apart : (n : List ℕ) → ((i : ℕ) → i < 8 → is_touched s i ≡ true → name s names_at i ≢ n) → files_for d (cut_all d s) n ≡ files_for d s n
  cut_apart = swept-apart d s (cut_tape d) (λ i. row_after_cut) (λ i. files_after_cut) Q cut_keeps turn cut-calm apart.distinct (begun, bytes)

-- ---- list and record: the rows stay, and of the disk everything but left and right

side-file : (m : Disk) (side : Side) (bs : List ℕ) (f : ℕ → Tracking) (found : Option ℕ) → file_at (with_side m side bs) f found ≡ file_at m f found
side-file m Left bs f (Some i) = refl
side-file m Right bs f (Some i) = refl
side-file m side bs f None = refl

side-slot : (m : Disk) (side : Side) (bs : List ℕ) (place k : ℕ) → slot_with (with_side m side bs) place k ≡ slot_with m place k
side-slot m Left bs place k = refl
side-slot m Right bs place k = refl

side-files : (m : Disk) (side : Side) (bs : List ℕ) (f : ℕ → Tracking) (place : ℕ) → files_of (with_side m side bs) f place ≡ files_of m f place
unfolding files_of
side-files m side bs f place =
    fun_ext
    (λ (k : ℕ).
    ap (file_at (with_side m side bs) f) (side-slot m side bs place k) ∙ side-file m side bs f (slot_with m place k))

side-directory : (m : Disk) (side : Side) (bs n : List ℕ) → directory_named (with_side m side bs) n ≡ directory_named m n
side-directory m Left bs n = refl
side-directory m Right bs n = refl

module _ (d s : List ℕ) (sound : Sound d) (begun : Begun s) (list : TapeList) (ok : storable list ≡ true) where
  abbrev e : List ℕ
  e = (stored d s true list).disk

  abbrev b : List ℕ
  b = (stored d s true list).session

  stored-rows : (p : ℕ) → p < 8 → row_of b p ≡ row_of s p
  unfolding stored
  stored-rows p low =
      let t = publish_all true s in
      rows-only 8 48 t _ (only-advanced true t) (λ q. omega arith) (λ q. omega arith) (begun-publish_all true s begun) p low
      ∙ rows-only 3568 3760 s t (only-publish_all true s) (λ q. omega arith) (λ q. omega arith) begun p low

  stored-tracking : (session_of b).tracking ≡ (session_of s).tracking
  unfolding session_of
  stored-tracking = trackings-only 8 3760 s b (only-stored (areas d s) true list ok) (λ q. omega arith)

  -- the record that is written
  abbrev wrote : List ℕ
  wrote = encode_record ((head_of (publish_all true s)).epoch + 1) (encode_list (tapes_of list))

  abbrev side : Side
  side = (head_of (publish_all true s)).side

  stored-disk : disk_of e ≡ with_side (disk_of d) side (written (side_bytes d side) 0 wrote)
  unfolding stored recorded
  stored-disk = disk-write_side d sound side wrote (omega (arith, record-most ((head_of (publish_all true s)).epoch + 1) list ok))

  pub stored-known : (n : List ℕ) → find_name e directories n ≡ find_name d directories n
  stored-known n =
      find-directory e n
      ∙ ap (λ (m : Disk). directory_named m n) stored-disk
      ∙ side-directory (disk_of d) side _ n
      ∙ sym (find-directory d n)

  stored-files : (n : List ℕ) → files_for e b n ≡ files_for d s n
  stored-files n = ap (files_in e b) (stored-known n) ∙ by (find_name d directories n)
    where
      by : (found : Option ℕ) → files_in e b found ≡ files_in d s found
      by (Some q) =
          ap (λ (m : Disk). files_of m (session_of b).tracking q) stored-disk
          ∙ side-files (disk_of d) side _ (session_of b).tracking q
          ∙ ap (λ (f : ℕ → Tracking). files_of (disk_of d) f q) stored-tracking
      by None = refl

-- ---- the call

-- the rings, and the files by name, from d and s to e and u; handles, names and caches stay (`touches`)
pub record CutEnd (d s e u : List ℕ) : Type 0 where
  pub ring : (p : ℕ) → p < 8 → ring_of u p ≡ (row_after_cut (row_of s p)).ring
  pub files : (p : ℕ) → p < 8 → files_for e u (name s names_at p) ≡ files_after_cut (row_of s p) (files_for d s (name s names_at p))
  pub apart : (n : List ℕ) → ((i : ℕ) → i < 8 → is_touched s i ≡ true → name s names_at i ≢ n) → files_for e u n ≡ files_for d s n
  pub known : (n : List ℕ) → find_name e directories n ≡ find_name d directories n
  pub once : Once e

-- a step in front of the file table
once-stored : (d e : List ℕ) → OnlyIn 16 1312 d e → slots e ≡ slots d → Once d → Once e
once-stored d e only same once =
    let owns : (i : ℕ) → owner e i ≡ owner d i = λ i. num_at-only 16 1312 d e only 8 (entry_at i) (λ q. omega arith) in
    let counts : (i : ℕ) → number e i ≡ number d i = λ i. num_at-only 16 1312 d e only 8 (entry_at i + 8) (λ q. omega arith) in
    record {
      once = λ i j l m some own number.
          once.once i j (omega arith) (omega arith) (rw (owns i) at some) (sym (owns i) ∙ own ∙ owns j) (sym (counts i) ∙ number ∙ counts j);
    }

module _ (d s : List ℕ) (o : Orderly d s) (list : TapeList) (ok : storable list ≡ true) where
  abbrev w : Whole (areas d s)
  w = record { sound = o.disk; begun = o.session; bytes = o.session-bytes }

  abbrev e₁ : List ℕ
  e₁ = (stored d s true list).disk

  abbrev s₁ : List ℕ
  s₁ = (stored d s true list).session

  rows₁ : (p : ℕ) → p < 8 → row_of s₁ p ≡ row_of s p
  rows₁ = stored-rows d s o.disk o.session list ok

  name₁ : (p : ℕ) → p < 8 → name s₁ names_at p ≡ name s names_at p
  name₁ p low = ap (λ (r : Row). r.name) (rows₁ p low)

  touched₁ : (p : ℕ) → p < 8 → is_touched s₁ p ≡ is_touched s p
  touched₁ p low = is-touched-row s₁ p ∙ ap touched_row (rows₁ p low) ∙ sym (is-touched-row s p)

  whole₁ : Whole (areas e₁ s₁)
  whole₁ = whole-stored (areas d s) true list ok w

  apart₁ : TouchedApart e₁ s₁
  apart₁ =
      let a = touched-apart d s o in
      record {
        distinct = λ i j l m is apart.
            rw (name₁ i l, name₁ j m) (a.distinct i j l m (sym (touched₁ i l) ∙ is) apart);
        folder = λ i l is.
            rw (name₁ i l, stored-known d s o.disk o.session list ok (name s names_at i)) (a.folder i l (sym (touched₁ i l) ∙ is));
      }

  pub cut-end : CutEnd d s (truncated_by d s list).disk (truncated_by d s list).session
  unfolding truncated_by
  cut-end =
      let c = cut_all e₁ s₁ in
      let begun = begun-cut_all e₁ whole₁.sound.head.few s₁ whole₁.begun in
      let rows = cut-rows e₁ s₁ whole₁.sound whole₁.begun whole₁.bytes apart₁ in
      let files = cut-files e₁ s₁ whole₁.sound whole₁.begun whole₁.bytes apart₁ in
      let others = cut_apart e₁ s₁ whole₁.sound whole₁.begun whole₁.bytes apart₁ in
      let before = stored-files d s o.disk o.session list ok in
      record {
        ring = λ p low.
            ap (λ (r : Row). r.ring) (closed-row c begun p low) ∙ ap (λ (r : Row). r.ring) (rows p low) ∙ ap (λ (r : Row). (row_after_cut r).ring) (rows₁ p low);
        files = λ p low.
            let n = name s names_at p in
            closed-files c begun e₁ n
            ∙ ap (λ (m : List ℕ). files_for e₁ c m) (sym (name₁ p low))
            ∙ files p low
            ∙ ap (λ (m : List ℕ). files_after_cut (row_of s₁ p) (files_for e₁ s₁ m)) (name₁ p low)
            ∙ ap (files_after_cut (row_of s₁ p)) (before n)
            ∙ ap (λ (r : Row). files_after_cut r (files_for d s n)) (rows₁ p low);
        apart = λ n none. closed-files c begun e₁ n ∙ others n (λ i l is. rw (name₁ i l) (none i l (sym (touched₁ i l) ∙ is))) ∙ before n;
        known = stored-known d s o.disk o.session list ok;
        once = once-stored d e₁ (only-stored-disk (areas d s) true list ok) (slots-stored (areas d s) true list ok) o.once;
      }

pub commit-cut-end : (d s : List ℕ) → Orderly d s → (k : ℕ) → code_of (commit_call d s k).answer ≡ 0 → writes s k ≡ false
    → CutEnd d s (commit_call d s k).disk (commit_call d s k).session
commit-cut-end d s o k =
    commit-cases (λ (a : Outcome). code_of a.answer ≡ 0 → writes s k ≡ false → CutEnd d s a.disk a.session) d s
    (λ why e no. absurd (refusal-some why e)) k
    (λ ok yes v g room e no. absurd (true≢false (sym yes ∙ no)))
    (λ ok c v g e no. cut-end d s o (the_list s true) g.good)
