-- `prepare_lent` leaves `prepared`, by whether the ring is empty. Assumes nothing.
use Rattle.std.proofs.Common.{eq-eqb}
use Rattle.ring_buffer.specs.Ring.{prepared}
use Rattle.ring_buffer.specs.Ways.{prepared-kept}
use Rattle.ring_buffer.proofs.bookkeeping.RingBuffer.prepare_lent.Goals as goal

pub returns-then-self-eq0 : goal.returns-then-self-eq0
unfolding prepared
returns-then-self-eq0 c = rw (eq-eqb c.args.self.now.len 0 c.if-self-eq0.true)

pub returns-else-self-eq0 : goal.returns-else-self-eq0
returns-else-self-eq0 c = prepared-kept c.args.self.now c.args.tape_len c.if-self-eq0.false
