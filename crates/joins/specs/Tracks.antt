-- What a step in one directory does, as its callers see it; and the first of these steps, a change of tracking, which is document 01's at every number of
-- that directory. Assumes nothing.
use Rattle.std.specs.Prelude.{◌≡◌, refl, ◌≢◌, ℕ, ◌≤◌, ◌<◌, ◌^◌}
use Rattle.std.proofs.Common.{ap, ◌∙◌, arith}
use Rattle.std.proofs.Math.Path.{fun_ext}
use Rattle.components.specs.Files.{Files, track, mark_below}
use Rattle.disk.specs.Steps.{files}
use Rattle.disk.specs.Meaning.{disk_of}
use Rattle.session.specs.Meaning.{Session, session_of}
use Rattle.session.specs.KeepLaws.{begun-ready}
use Rattle.session.specs.declared.tracking.Tracking.{Tracking}
use Rattle.rolling_tape.specs.Room.{on_disk}
use Rattle.rolling_tape.specs.Removal.{Areas, areas}
use Rattle.rolling_tape.specs.Tracking.{retracked}
use Rattle.rolling_tape.specs.TrackingLaws.{ChangeFits, begun-retracked, bytes-retracked, session-retracked}
use Rattle.rolling_tape.specs.Files.{files_of, changed_in, changed_file, files-changed, files-unchanged}
use Rattle.rolling_tape.specs.declared.tracking.Change.{Change}
use Rattle.rolling_tape.specs.declared.tracking.Change.TheVariants.{TrackUpTo, MarkBelow}
use Rattle.ending.specs.StepLaws.{Whole}
use Rattle.joins.specs.FilesAt.{files_at, Once}
use Rattle.joins.specs.Slots.{retracks-in}

-- ---- a step in the files of one directory

-- the directory in the place has these files; every other directory has its own; no file is made
pub record Changed (a b : Areas) (place : ℕ) (f : Files) : Type 0 where
  pub own : files_at b place ≡ f
  pub other : (q : ℕ) → q ≢ place → files_at b q ≡ files_at a q
  pub once : Once b.disk
  pub fewer : files b.disk ≤ files a.disk
  pub there : (q : ℕ) → q ≢ place → (j : ℕ) → on_disk b.disk q j ≡ on_disk a.disk q j

-- two steps, where the second says its files in the words of the first's
pub changed_then : (a b c : Areas) (place : ℕ) (f : Files) (g : Files → Files) → Changed a b place f → Changed b c place (g (files_at b place))
    → Changed a c place (g f)
changed_then a b c place f g p q =
    let less = p.fewer in
    let more = q.fewer in
    record {
      own = q.own ∙ ap g p.own;
      other = λ n d. q.other n d ∙ p.other n d;
      once = q.once;
      fewer = omega arith;
      there = λ n d j. q.there n d j ∙ p.there n d j;
    }

-- ---- a change of tracking

-- both areas, after it
abbrev pub retracked_at : Areas → ℕ → Change → Areas
retracked_at a place c = areas a.disk (retracked a.disk a.session place c)

module _ (a : Areas) (place : ℕ) (c : Change) (whole : Whole a) (fits : ChangeFits c) where
  -- the rows of tracking, of the meaning
  pub trackings-retracked : (session_of (retracked_at a place c).session).tracking ≡ changed_in (disk_of a.disk) place c (session_of a.session).tracking
  trackings-retracked =
      ap (λ (m : Session). m.tracking) (session-retracked a.disk a.session place c whole.sound.head.few (begun-ready _ whole.begun) whole.bytes fits)
      ∙ retracks-in a.disk place c (session_of a.session).tracking

  pub own-retracked : files_at (retracked_at a place c) place ≡ λ k. changed_file c k (files_at a place)
  own-retracked =
      ap (λ (t : ℕ → Tracking). files_of (disk_of a.disk) t place) trackings-retracked
      ∙ fun_ext (λ (k : ℕ). files-changed (disk_of a.disk) (session_of a.session).tracking place c k)

  pub other-retracked : (q : ℕ) → q ≢ place → files_at (retracked_at a place c) q ≡ files_at a q
  other-retracked q apart =
      ap (λ (t : ℕ → Tracking). files_of (disk_of a.disk) t q) trackings-retracked
      ∙ fun_ext (λ (k : ℕ). files-unchanged (disk_of a.disk) (session_of a.session).tracking place q c k apart)

  pub whole-retracked : Whole (retracked_at a place c)
  whole-retracked =
      let few = whole.sound.head.few in
      record {
        sound = whole.sound;
        begun = begun-retracked a.disk a.session place c few whole.begun;
        bytes = bytes-retracked a.disk a.session place c few whole.begun.long whole.bytes;
      }

  pub changed-retracked : Once a.disk → Changed a (retracked_at a place c) place (λ k. changed_file c k (files_at a place))
  changed-retracked once =
      record { own = own-retracked; other = other-retracked; once = once; fewer = omega arith; there = λ q d j. refl }

-- ---- each change by its name

module _ (a : Areas) (place : ℕ) (whole : Whole a) (once : Once a.disk) where
  pub changed-track : (n : ℕ) → Changed a (retracked_at a place (TrackUpTo n)) place (track n (files_at a place))
  changed-track n = changed-retracked a place (TrackUpTo n) whole (record { epoch = omega arith }) once

  pub changed-mark : (n e : ℕ) → e < 2 ^ 64 → Changed a (retracked_at a place (MarkBelow n e)) place (mark_below n e (files_at a place))
  changed-mark n e small = changed-retracked a place (MarkBelow n e) whole (record { epoch = small }) once
