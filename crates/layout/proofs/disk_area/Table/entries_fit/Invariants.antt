-- `entries_fit` answers `all` of `entry_fits`. The loop's invariant: testing the slots that are left is testing all. Assumes nothing.
use Rattle.std.proofs.Common.{◌≡◌, ◌-◌, ◌*◌}
use Rattle.octets.specs.First.{all}
use Rattle.layout.specs.Disk.{slots, entry_fits}
use Rattle.layout.proofs.disk_area.Table.entries_fit.Given as goal

abbrev pub invariant-loop-i : goal.invariant-loop-i
invariant-loop-i l = all (entry_fits l.self.disk.now) (l.count - 8 * l.i) (8 * l.i) ≡ all (entry_fits l.self.disk.now) (slots l.self.disk.now) 0
