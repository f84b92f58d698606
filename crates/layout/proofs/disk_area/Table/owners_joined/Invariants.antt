-- The loop's invariant: what was joined so far is the join of the slots passed. Assumes nothing.
use Rattle.std.proofs.Common.{◌≡◌, ℕ, ◌+◌}
use Rattle.layout.specs.Disk.{owner}
use Rattle.layout.specs.Joined.{joined}
use Rattle.layout.proofs.disk_area.Table.owners_joined.Given as goal

abbrev pub invariant-loop-i : goal.invariant-loop-i
invariant-loop-i l = l.joined ≡ joined (λ (k : ℕ). owner l.self.disk.now (l.slot + k)) l.i
