-- The files of a tape, as `components/specs/Files.antt` has them, from what the two areas mean: a number's file is the first slot of the directory that has
-- it. Each change of tracking is the rule of document 01 that is said there. Assumes nothing.
use Rattle.std.specs.Prelude.{◌≡◌, refl, ◌≢◌, true, false, cond, ◌&&◌, List, ℕ, ◌+◌, eqb, ltb, leb, Option, Some, None}
use Rattle.std.proofs.Common.{sym, ◌∙◌, arith, ne_eqb, eqb-true}
use Rattle.std.proofs.Math.Path.{ap}
use Rattle.octets.specs.Cases.{decide, and_l, and_r}
use Rattle.octets.specs.First.{first-hits}
use Rattle.components.specs.Files.{File, Files, gone, untracked, mark_below, clear_from, track}
use Rattle.disk.specs.Meaning.{Disk, slot_with}
use Rattle.session.specs.declared.tracking.Tracking.{Tracking}
use Rattle.session.specs.declared.tracking.Tracking.TheVariants.{Untracked, Tracked, Marked}
use Rattle.rolling_tape.specs.declared.tracking.Change.{Change}
use Rattle.rolling_tape.specs.declared.tracking.Change.TheVariants.{UntrackAbove, TrackUpTo, MarkBelow, ClearFrom, UntrackAll}
use Rattle.rolling_tape.specs.Tracking.{is_tracked, changed}

abbrev pub mark_of : Tracking → Option ℕ
mark_of Untracked = None
mark_of Tracked = None
mark_of (Marked e) = Some e

-- a file on the disk, with its slot's tracking
abbrev pub file_with : List ℕ → Tracking → File
file_with bytes t = record { there = true; tracked = is_tracked t; mark = mark_of t; bytes = bytes }

abbrev pub file_at : Disk → (ℕ → Tracking) → Option ℕ → File
file_at m t (Some i) = file_with (m.slot i).bytes (t i)
file_at m t None = gone

unfoldable pub files_of : Disk → (ℕ → Tracking) → ℕ → Files
files_of m t place k = file_at m t (slot_with m place k)

-- ---- the changes of tracking

-- the tracking of a directory's slots, changed
abbrev pub changed_in : Disk → ℕ → Change → (ℕ → Tracking) → ℕ → Tracking
changed_in m place c t i = cond (eqb (m.slot i).owner (place + 1)) (changed c (m.slot i).number (t i)) (t i)

-- what a change makes of the file of number k
abbrev pub changed_file : Change → ℕ → Files → File
changed_file (UntrackAbove n) k f = cond (ltb n k) (untracked (f k)) (f k)
changed_file (TrackUpTo n) k f = track n f k
changed_file (MarkBelow n e) k f = mark_below n e f k
changed_file (ClearFrom n) k f = clear_from n f k
changed_file UntrackAll k f = untracked (f k)

-- on one file that is there
one-file : (c : Change) (k : ℕ) (f : Files) (bytes : List ℕ) (t : Tracking) → f k ≡ file_with bytes t → file_with bytes (changed c k t) ≡ changed_file c k f
unfolding track mark_below clear_from
one-file (UntrackAbove n) k f bytes t e = rw e (decide (ltb n k) (λ b. rw b) (λ b. rw b))
one-file (TrackUpTo n) k f bytes t e = rw e (decide (leb k n) (λ b. rw b) (λ b. rw b))
one-file (MarkBelow n d) k f bytes Untracked e = rw e (decide (ltb k n) (λ b. rw b) (λ b. rw b))
one-file (MarkBelow n d) k f bytes Tracked e = rw e (decide (ltb k n) (λ b. rw b) (λ b. rw b))
one-file (MarkBelow n d) k f bytes (Marked x) e = rw e (decide (ltb k n) (λ b. rw b) (λ b. rw b))
one-file (ClearFrom n) k f bytes Untracked e = rw e (decide (leb n k) (λ b. rw b) (λ b. rw b))
one-file (ClearFrom n) k f bytes Tracked e = rw e (decide (leb n k) (λ b. rw b) (λ b. rw b))
one-file (ClearFrom n) k f bytes (Marked x) e = rw e (decide (leb n k) (λ b. rw b) (λ b. rw b))
one-file UntrackAll k f bytes t e = rw e

-- and on one that is not
no-file : (c : Change) (k : ℕ) (f : Files) → f k ≡ gone → gone ≡ changed_file c k f
unfolding track mark_below clear_from
no-file (UntrackAbove n) k f e = rw e (decide (ltb n k) (λ b. rw b) (λ b. rw b))
no-file (TrackUpTo n) k f e = rw e (decide (leb k n) (λ b. rw b) (λ b. rw b))
no-file (MarkBelow n d) k f e = rw e (decide (ltb k n) (λ b. rw b) (λ b. rw b))
no-file (ClearFrom n) k f e = rw e (decide (leb n k) (λ b. rw b) (λ b. rw b))
no-file UntrackAll k f e = rw e

-- the file of a number whose slot is known, or that has none
module _ (m : Disk) (t : ℕ → Tracking) (place k : ℕ) where
  pub file-in : (i : ℕ) → slot_with m place k ≡ Some i → files_of m t place k ≡ file_with (m.slot i).bytes (t i)
  unfolding files_of
  file-in i e = ap (file_at m t) e

  pub file-out : slot_with m place k ≡ None → files_of m t place k ≡ gone
  unfolding files_of
  file-out e = ap (file_at m t) e

-- a change of a directory's tracking is document 01's, at every number
pub files-changed : (m : Disk) (t : ℕ → Tracking) (place : ℕ) (c : Change) (k : ℕ) → files_of m (changed_in m place c t) place k ≡ changed_file c k (files_of m t place)
files-changed m t place c k = by (slot_with m place k) refl
  where
    by : (found : Option ℕ) → slot_with m place k ≡ found → files_of m (changed_in m place c t) place k ≡ changed_file c k (files_of m t place)
    by (Some i) e =
        let hit = (first-hits (λ j. eqb (m.slot j).owner (place + 1) && eqb (m.slot j).number k) m.slots 0 i e).holds in
        let own : eqb (m.slot i).owner (place + 1) ≡ true = and_l _ _ hit in
        let same : (m.slot i).number ≡ k = eqb-true _ _ (and_r (eqb (m.slot i).owner (place + 1)) _ hit) in
        let here : changed_in m place c t i ≡ changed c k (t i) = rw (own, same) in
        file-in m (changed_in m place c t) place k i e
        ∙ ap (file_with (m.slot i).bytes) here
        ∙ one-file c k (files_of m t place) (m.slot i).bytes (t i) (file-in m t place k i e)
    by None e = file-out m (changed_in m place c t) place k e ∙ no-file c k (files_of m t place) (file-out m t place k e)

-- and every other directory's files are as they were
pub files-unchanged : (m : Disk) (t : ℕ → Tracking) (place other : ℕ) (c : Change) (k : ℕ) → other ≢ place → files_of m (changed_in m place c t) other k ≡ files_of m t other k
files-unchanged m t place other c k apart = by (slot_with m other k) refl
  where
    by : (found : Option ℕ) → slot_with m other k ≡ found → files_of m (changed_in m place c t) other k ≡ files_of m t other k
    by (Some i) e =
        let hit = (first-hits (λ j. eqb (m.slot j).owner (other + 1) && eqb (m.slot j).number k) m.slots 0 i e).holds in
        let own : (m.slot i).owner ≡ other + 1 = eqb-true _ _ (and_l _ _ hit) in
        let not_own : eqb (m.slot i).owner (place + 1) ≡ false = ne_eqb (m.slot i).owner (place + 1) (λ (q : (m.slot i).owner ≡ place + 1). apart (omega arith)) in
        let here : changed_in m place c t i ≡ t i = rw not_own in
        file-in m (changed_in m place c t) other k i e ∙ ap (file_with (m.slot i).bytes) here ∙ sym (file-in m t other k i e)
    by None e = file-out m (changed_in m place c t) other k e ∙ sym (file-out m t other k e)
