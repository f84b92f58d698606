use Rattle.std.proofs.Common.{ℕ, ◌+◌, rules}
use Rattle.layout.specs.Disk.{owner}
use Rattle.layout.specs.Joined.{joined, joined-more}
use Rattle.layout.proofs.disk_area.Table.owners_joined.Goals as goal

pub loop-i-init : goal.loop-i-init
unfolding joined
loop-i-init c = search rules

pub loop-i-preserved : goal.loop-i-preserved
loop-i-preserved c =
    let owners : ℕ → ℕ = λ k. owner c.args.self.now.disk.now (c.args.slot + k) in
    joined-more owners c.loop-i.i c.loop-i.joined c.owner-joined.result c.loop-i.invariant c.owner-joined.ensures
