-- `second_part` is `second_part`: what the first part leaves of the length. Assumes nothing.
use Rattle.std.proofs.Common.{arith, sym, ap, take, length-take-le, ℕ}
use Rattle.ring_buffer.specs.Ring.{second_part}
use Rattle.ring_buffer.proofs.bytes.second_part.Goals as goal

pub slice_bounds-result-end : goal.slice_bounds-result-end
slice_bounds-result-end c = sym (length-take-le c.saturating_sub.result c.args.bytes.now (omega arith))

pub returns : goal.returns
unfolding second_part
returns c = ap (λ (k : ℕ). take k c.args.bytes.now) c.saturating_sub.ensures
