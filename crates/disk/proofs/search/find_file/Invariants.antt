-- `find_file` answers `find_file`. Invariants: the directories that are left give the whole answer; in the named one, so do its slots. Assumes nothing.
use Rattle.std.proofs.Common.{◌≡◌, ◌-◌, ◌≤◌}
use Rattle.octets.specs.First.{first}
use Rattle.disk.specs.Steps.{is_file, find_file, within}
use Rattle.disk.specs.Ways.{named}
use Rattle.disk.proofs.search.find_file.Given as goal

abbrev pub invariant-loop-slot : goal.invariant-loop-slot
invariant-loop-slot l = (l.slot ≤ l.count) × (first (is_file l.disk l.place l.number) (l.count - l.slot) l.slot ≡ find_file l.disk l.name l.number)

abbrev pub invariant-loop-place : goal.invariant-loop-place
invariant-loop-place l = (l.place ≤ 8) × (within l.disk l.number (first (named l.disk l.name) (8 - l.place) l.place) ≡ find_file l.disk l.name l.number)
