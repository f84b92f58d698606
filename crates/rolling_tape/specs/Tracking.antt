-- Which files of a directory are tracked, and their marks, in the session's area by slot. Each change is said at one file's number, as in
-- `components/specs/Files.antt`. Assumes nothing.
use Rattle.std.specs.Prelude.{Bool, true, false, cond, List, ℕ, ◌+◌, eqb, ltb, leb}
use Rattle.octets.specs.Sweep.{sweep}
use Rattle.layout.specs.Disk.{slots, owner, number}
use Rattle.session.specs.Rows.{tracking_of, put_tracking}
use Rattle.session.specs.declared.tracking.Tracking.{Tracking}
use Rattle.session.specs.declared.tracking.Tracking.TheVariants.{Untracked, Tracked, Marked}
use Rattle.rolling_tape.specs.declared.tracking.Change.{Change}
use Rattle.rolling_tape.specs.declared.tracking.Change.TheVariants.{UntrackAbove, TrackUpTo, MarkBelow, ClearFrom, UntrackAll}

abbrev pub is_tracked : Tracking → Bool
is_tracked Untracked = false
is_tracked Tracked = true
is_tracked (Marked e) = true

-- marked below an epoch
abbrev pub is_ripe : ℕ → Tracking → Bool
is_ripe oldest Untracked = false
is_ripe oldest Tracked = false
is_ripe oldest (Marked e) = ltb e oldest

-- a mark, if there is none yet
abbrev pub marked : ℕ → Tracking → Tracking
marked e Untracked = Untracked
marked e Tracked = Marked e
marked e (Marked d) = Marked d

abbrev pub cleared : Tracking → Tracking
cleared Untracked = Untracked
cleared Tracked = Tracked
cleared (Marked e) = Tracked

-- what a change makes of the file of number k
abbrev pub changed : Change → ℕ → Tracking → Tracking
changed (UntrackAbove n) k t = cond (ltb n k) Untracked t
changed (TrackUpTo n) k t = cond (leb k n) Tracked Untracked
changed (MarkBelow n e) k t = cond (ltb k n) (marked e t) t
changed (ClearFrom n) k t = cond (leb n k) (cleared t) t
changed UntrackAll k t = Untracked

-- slot i has a file of the directory
abbrev pub is_of : List ℕ → ℕ → ℕ → Bool
is_of d place i = eqb (owner d i) (place + 1)

unfoldable pub retrack_slot : List ℕ → ℕ → Change → ℕ → List ℕ → List ℕ
retrack_slot d place c i s = cond (is_of d place i) (put_tracking s i (changed c (number d i) (tracking_of s i))) s

-- every file of a directory
unfoldable pub retracked : List ℕ → List ℕ → ℕ → Change → List ℕ
retracked d s place c = sweep (retrack_slot d place c) (slots d) 0 s
