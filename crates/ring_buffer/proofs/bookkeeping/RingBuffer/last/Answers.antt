-- `last` gives `last_held`: the bytes before the last n are passed over. Assumes nothing.
use Rattle.std.proofs.Common.{refl}
use Rattle.ring_buffer.specs.Ring.{last_held}
use Rattle.ring_buffer.proofs.bookkeeping.RingBuffer.last.Goals as goal

pub returns : goal.returns
unfolding last_held
returns c = refl
