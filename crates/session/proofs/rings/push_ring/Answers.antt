-- `push_ring` lends the ring's part: put back, it is the bytes that `push_bytes` leaves there. Assumes nothing.
use Rattle.std.proofs.Common.{◌≡◌, sym, ap, ◌∙◌, List, ◌++◌, ℕ, ◌+◌, ◌-◌, arith, length, take, drop}
use Rattle.octets.specs.Bytes.{put, length_part, put-lent}
use Rattle.layout.specs.Session.{ring_at}
use Rattle.ring_buffer.specs.Ring.{around}
use Rattle.ring_buffer.specs.Around.{length-around}
use Rattle.session.specs.Rows.{ring_bytes, push_ring}
use Rattle.session.proofs.rings.push_ring.Goals as goal

pub returns : goal.returns
unfolding ring_bytes push_ring
returns c =
    let s = c.args.session.now in
    let at = ring_at c.args.tape in
    let ring = c.args.ring in
    let part = c.push_bytes.new.bytes in
    let size : at + 4096 - at ≡ 4096 = omega arith in
    let new : part ≡ around ring.capacity (take 4096 (drop at s)) (ring.start + ring.len) c.args.src.now
    = c.push_bytes.ensures ∙ ap (λ (k : ℕ). around ring.capacity (take k (drop at s)) (ring.start + ring.len) c.args.src.now) size in
    let long : length part ≡ 4096 = ap length new ∙ length-around _ _ _ _ ∙ length_part 4096 s at (omega arith) in
    ap (λ (k : ℕ). take at s ++ (part ++ drop k (drop at s))) (size ∙ sym long)
    ∙ put-lent s at part (omega arith)
    ∙ ap (λ (l : List ℕ). put s at l) new
