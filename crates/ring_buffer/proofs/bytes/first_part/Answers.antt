-- `first_part` is `first_part`: its length is the smaller of two. Assumes nothing.
use Rattle.std.proofs.Common.{◌≡◌, ℕ, ◌+◌, ◌-◌, min, take, drop, ap, ◌∙◌, arith}
use Rattle.ring_buffer.specs.Ring.{first_part}
use Rattle.ring_buffer.proofs.bytes.first_part.Goals as goal

pub returns : goal.returns
unfolding first_part
returns c =
    let n : c.min-n.result ≡ min c.args.ring.len (c.args.ring.capacity - c.args.ring.start) = c.min-n.ensures in
    let e : c.args.ring.start + c.min-n.result - c.args.ring.start ≡ c.min-n.result = omega arith in
    ap (λ (k : ℕ). take k (drop c.args.ring.start c.args.bytes.now)) (e ∙ n)
