-- `push_lent` leaves `pushed`. Assumes nothing.
use Rattle.std.proofs.Math.Nat.{mod-add-mod}
use Rattle.ring_buffer.specs.Ring.{pushed}
use Rattle.ring_buffer.proofs.bookkeeping.RingBuffer.push_lent.Goals as goal

pub returns : goal.returns
unfolding pushed
returns c =
    let over = c.saturating_sub-over.ensures in
    let len = c.min-self.ensures in
    rw (over, len, mod-add-mod)
