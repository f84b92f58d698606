-- What an open and a commit do to a directory's files: emptied, made new, taken over, or marked and removed; and where the directories' names then stand.
-- Assumes nothing.
use Rattle.std.specs.Prelude.{◌≡◌, ◌≢◌, Bool, true, false, cond, eqb, length, Option, Some, None}
use Rattle.std.proofs.Math.Path.{refl, sym, ap, fun_ext}
use Rattle.std.proofs.Common.{subst, ◌∙◌}
use mathlib.Core.List.{List, []}
use Prim.Native.Nat.{ℕ, ◌+◌, ◌≤◌, ◌<◌, ◌^◌}
use native.Mathlib.Omega.{arith}
use borrow.Author.Tests.{eqb-true, eq-eqb, ne_eqb}
use Rattle.octets.specs.Only.{OnlyIn}
use Rattle.octets.specs.Compare.{same_bytes, same_true, same_refl, same-lengths}
use Rattle.octets.specs.First.{first, first-same, first-at, first-hits, first-misses}
use Rattle.octets.specs.Cases.{decide, equal}
use Rattle.components.specs.Pieces.{file_of}
use Rattle.components.specs.Files.{no_files, mark_below, remove}
use Rattle.held.specs.Held.{taken}
use Rattle.layout.specs.Names.{find_name}
use Rattle.layout.specs.NamesLaws.{find-names, names-only}
use Rattle.layout.specs.Disk.{directories, owner, Sound}
use Rattle.layout.specs.Session.{file_size_of}
use Rattle.disk.specs.Steps.{add_at, add_directory}
use Rattle.disk.specs.StepLaws.{directory-low}
use Rattle.disk.specs.SoundLaws.{sound-empty_directory}
use Rattle.disk.specs.Meaning.{Disk, disk_of, slot_with, directory_named, file_count, with_directory}
use Rattle.disk.specs.Meaning as Meaning
use Rattle.disk.specs.FileLaws.{with-is}
use Rattle.disk.specs.MeaningLaws.{owner-in, find-directory, find-slot, files-count, disk-put_name, disk-empty_directory}
use Rattle.session.specs.Rows.{view_of}
use Rattle.session.specs.Meaning.{session_of}
use Rattle.session.specs.declared.tracking.Tracking.{Tracking}
use Rattle.rolling_tape.specs.Room.{is_found, on_disk}
use Rattle.rolling_tape.specs.Removal.{Areas, remove_ripe}
use Rattle.rolling_tape.specs.RemovalLaws.{only-entries}
use Rattle.rolling_tape.specs.Files.{file_at, files_of, file-out}
use Rattle.rolling_tape.specs.declared.tracking.Change.TheVariants.{TrackUpTo, MarkBelow, UntrackAll}
use Rattle.opening.specs.declared.shape.Opening.{Opening}
use Rattle.opening.specs.Directory.{taken_files, emptied, added}
use Rattle.ending.specs.Steps.{ripened_at}
use Rattle.ending.specs.StepLaws.{Whole}
use Rattle.joins.specs.FilesAt.{files_at, Once}
use Rattle.joins.specs.Tracks.{Changed, changed_then, retracked_at, trackings-retracked, whole-retracked, changed-track, changed-mark}
use Rattle.joins.specs.Freed.{Single, once-single, single-once, slot-left, slot-never, Thinned, changed-thinned}
use Rattle.joins.proofs.Removes.{changed-removed}

-- ---- names that stay

-- a step above the table of names
names-above : (low high : ℕ) (d e : List ℕ) → OnlyIn low high d e → 288 ≤ low → Sound d → (n : List ℕ) → find_name e directories n ≡ find_name d directories n
names-above low high d e only above sound n =
    find-names e directories n
    ∙ ap (λ (table : ℕ → List ℕ). first (λ i. same_bytes (table i) n) 8 0) (names-only low high d e directories only (λ q. absurd (omega arith)) sound.names)
    ∙ sym (find-names d directories n)

pub names-removed : (a : Areas) (place oldest : ℕ) → Sound a.disk → (n : List ℕ) → find_name (remove_ripe a place oldest).disk directories n ≡ find_name a.disk directories n
names-removed a place oldest sound n = names-above _ _ a.disk _ (only-entries a place oldest) (omega arith) sound n

-- ---- an emptied directory

module _ (a : Areas) (place : ℕ) (sound : Sound a.disk) where
  disk-emptied : disk_of (emptied a place).disk ≡ Meaning.emptied (disk_of a.disk) place
  unfolding emptied
  disk-emptied = disk-empty_directory a.disk sound place

  pub names-emptied : (n : List ℕ) → find_name (emptied a place).disk directories n ≡ find_name a.disk directories n
  names-emptied n =
      find-directory (emptied a place).disk n ∙ ap (λ (m : Disk). directory_named m n) disk-emptied ∙ sym (find-directory a.disk n)

module _ (a : Areas) (place : ℕ) (whole : Whole a) where
  abbrev ours : ℕ → Bool
  ours i = eqb ((disk_of a.disk).slot i).owner (place + 1)

  thinned-emptied : Thinned a (emptied a place) place ours
  unfolding emptied
  thinned-emptied =
      let gone = disk-emptied a place whole.sound in
      record {
        freed = record {
          same = ap (λ (m : Disk). m.slots) gone;
          slot = λ i l. ap (λ (m : Disk). m.slot i) gone;
          mine = λ i l e. eqb-true _ _ e;
        };
        rest = λ i l away.
            ap (λ (t : ℕ → Tracking). t i) (trackings-retracked a place UntrackAll whole (record { epoch = omega arith }))
            ∙ (rw (owner-in a.disk i l, ne_eqb (owner a.disk i) (place + 1) away));
      }

  pub whole-emptied : Whole (emptied a place)
  unfolding emptied
  whole-emptied =
      let tracking = whole-retracked a place UntrackAll whole (record { epoch = omega arith }) in
      record { sound = sound-empty_directory a.disk whole.sound place; begun = tracking.begun; bytes = tracking.bytes }

  module _ (once : Once a.disk) where
    own-emptied : files_at (emptied a place) place ≡ no_files
    own-emptied = fun_ext (λ (k : ℕ). by k (slot_with (disk_of a.disk) place k) refl)
      where
        out : (k : ℕ) → slot_with (disk_of (emptied a place).disk) place k ≡ None → files_at (emptied a place) place k ≡ no_files k
        out k e = file-out (disk_of (emptied a place).disk) (session_of (emptied a place).session).tracking place k e

        by : (k : ℕ) (f : Option ℕ) → slot_with (disk_of a.disk) place k ≡ f → files_at (emptied a place) place k ≡ no_files k
        by k (Some i) e =
            out k
            (slot-left (disk_of a.disk) (disk_of (emptied a place).disk) place ours thinned-emptied.freed k (once-single a.disk once) i e
            (eq-eqb ((disk_of a.disk).slot i).owner (place + 1) (with-is (disk_of a.disk) place k i e).0))
        by k None e = out k (slot-never (disk_of a.disk) (disk_of (emptied a place).disk) place ours thinned-emptied.freed k e)

    pub changed-emptied : Changed a (emptied a place) place no_files
    changed-emptied = changed-thinned a (emptied a place) place ours no_files once thinned-emptied own-emptied

-- ---- a directory's name changed: no file's business

module _ (b c : Areas) (place : ℕ) (wanted : List ℕ) (renamed : disk_of c.disk ≡ with_directory (disk_of b.disk) place wanted) (still : c.session ≡ b.session) where
  files-renamed : (q : ℕ) → files_at c q ≡ files_at b q
  unfolding files_of
  files-renamed q =
      fun_ext
      (λ (k : ℕ).
      ap (λ (m : Disk). file_at m (session_of c.session).tracking (slot_with m q k)) renamed
      ∙ ap (λ (s : List ℕ). file_at (with_directory (disk_of b.disk) place wanted) (session_of s).tracking (slot_with (disk_of b.disk) q k)) still
      ∙ by (slot_with (disk_of b.disk) q k))
    where
      by : (f : Option ℕ) → file_at (with_directory (disk_of b.disk) place wanted) (session_of b.session).tracking f ≡ file_at (disk_of b.disk) (session_of b.session).tracking f
      by (Some i) = refl
      by None = refl

  changed-renamed : Once b.disk → Changed b c place (files_at b place)
  unfolding on_disk
  changed-renamed once =
      let old = disk_of b.disk in
      let count : file_count (disk_of c.disk) ≡ file_count old = ap file_count renamed in
      record {
        own = files-renamed place;
        other = λ q d. files-renamed q;
        once = single-once c.disk (subst Single (sym renamed) (record { single = (once-single b.disk once).single }));
        fewer = rw (files-count c.disk, files-count b.disk) (omega arith);
        there = λ q d j. ap is_found (find-slot c.disk q j ∙ ap (λ (m : Disk). slot_with m q j) renamed ∙ sym (find-slot b.disk q j));
      }

-- ---- a new directory, at the first free place

module _ (a : Areas) (wanted : List ℕ) (place : ℕ) (whole : Whole a) (empty : find_name a.disk directories [] ≡ Some place) (small : length wanted ≤ 24) where
  disk-added : disk_of (added a wanted (Some place)).disk ≡ with_directory (disk_of (emptied a place).disk) place wanted
  unfolding add_directory
  disk-added =
      let e = (emptied a place).disk in
      let found : find_name e directories [] ≡ Some place = names-emptied a place whole.sound [] ∙ empty in
      ap (λ (f : Option ℕ). disk_of (add_at e wanted f).area) found
      ∙ disk-put_name e (whole-emptied a place whole).sound place wanted (directory-low a.disk [] place empty) small

  pub changed-added : Once a.disk → Changed a (added a wanted (Some place)) place no_files
  changed-added once =
      let first = changed-emptied a place whole once in
      let new = added a wanted (Some place) in
      changed_then a (emptied a place) new place no_files (λ f. f) first
      (changed-renamed (emptied a place) new place wanted disk-added refl first.once)

  -- the directories' names: those of the old disk, and the new one
  find-added : (n : List ℕ) → find_name (added a wanted (Some place)).disk directories n ≡ first (λ i. same_bytes (cond (eqb i place) wanted ((disk_of a.disk).directory i)) n) 8 0
  find-added n =
      find-directory (added a wanted (Some place)).disk n
      ∙ ap (λ (m : Disk). directory_named m n) disk-added
      ∙ ap (λ (m : Disk). first (λ i. same_bytes (cond (eqb i place) wanted (m.directory i)) n) 8 0) (disk-emptied a place whole.sound)

  pub found-added : find_name a.disk directories wanted ≡ None → find_name (added a wanted (Some place)).disk directories wanted ≡ Some place
  found-added missing =
      let none = sym (find-directory a.disk wanted) ∙ missing in
      let low = directory-low a.disk [] place empty in
      find-added wanted
      ∙ first-at _ 8 0 place
      (record {
        low = omega arith;
        high = omega arith;
        holds = rw (eq-eqb place place refl) (same_refl wanted);
        before = λ i l u. rw (ne_eqb i place (λ z. omega arith)) (first-misses _ 8 0 none i l (omega arith));
      })

  pub others-added : (n : List ℕ) → n ≢ wanted → 0 < length n → find_name (added a wanted (Some place)).disk directories n ≡ find_name a.disk directories n
  others-added n apart more =
      find-added n
      ∙ first-same _ (λ i. same_bytes ((disk_of a.disk).directory i) n) 8 0
      (λ i l u.
      equal i place
      (λ (e : i ≡ place). rw (e, eq-eqb place place refl) (differs ∙ sym (was_free)))
      (λ (d : i ≢ place). rw (ne_eqb i place d)))
      ∙ sym (find-directory a.disk n)
    where
      differs : same_bytes wanted n ≡ false
      differs = decide (same_bytes wanted n) (λ e. absurd (apart (sym (same_true wanted n e)))) (λ e. e)

      was_free : same_bytes ((disk_of a.disk).directory place) n ≡ false
      was_free =
          let here : same_bytes ((disk_of a.disk).directory place) [] ≡ true
          = (first-hits (λ i. same_bytes ((disk_of a.disk).directory i) []) 8 0 place (sym (find-directory a.disk []) ∙ empty)).holds in
          let none = same_true ((disk_of a.disk).directory place) [] here in
          rw none (same-lengths [] n (λ z. omega arith))

-- ---- a known tape's files taken over, by an open

module _ (a : Areas) (place : ℕ) (o : Opening) (began : ℕ) (whole : Whole a) (fits : began < 2 ^ 64) where
  abbrev last : ℕ
  last = file_of o.file_size o.len

  abbrev first_kept : ℕ
  first_kept = file_of o.file_size o.start

  abbrev tracked : Areas
  tracked = retracked_at a place (TrackUpTo last)

  abbrev marked : Areas
  marked = retracked_at tracked place (MarkBelow first_kept began)

  whole-tracked : Whole tracked
  whole-tracked = whole-retracked a place (TrackUpTo last) whole (record { epoch = omega arith })

  whole-marked : Whole marked
  whole-marked = whole-retracked tracked place (MarkBelow first_kept began) whole-tracked (record { epoch = fits })

  pub changed-taken : Once a.disk → Changed a (taken_files a place o began) place (taken o.file_size began o.len o.start (files_at a place))
  unfolding taken_files taken
  changed-taken once =
      let limit : ℕ = 0xffff_ffff_ffff_ffff in
      let one = changed-track a place whole once last in
      let two = changed_then a tracked marked place _ (mark_below first_kept began) one (changed-mark tracked place whole-tracked once first_kept began fits) in
      changed_then a marked _ place _ (remove limit) two (changed-removed marked place limit whole-marked once)

  pub names-taken : (n : List ℕ) → find_name (taken_files a place o began).disk directories n ≡ find_name a.disk directories n
  unfolding taken_files
  names-taken n = names-removed marked place 0xffff_ffff_ffff_ffff whole.sound n

-- ---- marks and removal, by a commit

module _ (a : Areas) (began oldest p place : ℕ) (whole : Whole a) (fits : began < 2 ^ 64) where
  abbrev lowest : ℕ
  lowest = file_of (file_size_of a.session p) (view_of a.session 17 p).start

  abbrev below : Areas
  below = retracked_at a place (MarkBelow lowest began)

  whole_below : Whole below
  whole_below = whole-retracked a place (MarkBelow lowest began) whole (record { epoch = fits })

  pub changed-ripened : Once a.disk
      → Changed a (ripened_at a began oldest p place) place
      (remove oldest (mark_below (file_of (file_size_of a.session p) (view_of a.session 17 p).start) began (files_at a place)))
  unfolding ripened_at
  changed-ripened once =
      changed_then a below _ place _ (remove oldest) (changed-mark a place whole once lowest began fits) (changed-removed below place oldest whole_below once)
