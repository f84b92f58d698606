-- `truncate_lent` leaves `truncated`. Assumes nothing.
use Rattle.ring_buffer.specs.Ring.{truncated}
use Rattle.ring_buffer.proofs.bookkeeping.RingBuffer.truncate_lent.Goals as goal

pub returns : goal.returns
unfolding truncated
returns c = cc
