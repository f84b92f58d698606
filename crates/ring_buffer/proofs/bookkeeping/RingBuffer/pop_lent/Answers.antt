-- `pop_lent` leaves `popped`: its differences stop at 0, as those of the definition. Assumes nothing.
use Rattle.ring_buffer.specs.Ring.{popped}
use Rattle.ring_buffer.proofs.bookkeeping.RingBuffer.pop_lent.Goals as goal

pub returns : goal.returns
unfolding popped
returns c = cc
