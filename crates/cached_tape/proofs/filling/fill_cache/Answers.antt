-- `fill_cache` leaves `filled_with`: the bytes, and then the row of a new ring. Assumes nothing.
use Rattle.std.proofs.Common.{length, ◌≡◌, ap, ◌∙◌, List, ℕ}
use Rattle.ring_buffer.specs.Ring.{fresh, reset_to}
use Rattle.ring_buffer.specs.declared.bookkeeping.RingBuffer.{RingBuffer}
use Rattle.session.specs.Rows.{put_ring, fill_ring}
use Rattle.cached_tape.specs.Filling.{filled_with}
use Rattle.cached_tape.proofs.filling.fill_cache.Goals as goal

pub returns : goal.returns
unfolding filled_with
returns c =
    let n = length c.args.src.now in
    let row : c.reset-ring.result ≡ reset_to (fresh c.args.capacity c.args.first) n c.args.first = c.reset-ring.ensures ∙ ap (λ (r : RingBuffer). reset_to r n c.args.first) c.new.ensures in
    let filled : c.fill_ring.new.session ≡ fill_ring c.args.session.now c.args.tape 0 c.args.src.now = c.fill_ring.ensures in
    c.put_ring.ensures
    ∙ ap (λ (s : List ℕ). put_ring s c.args.tape c.reset-ring.result) filled
    ∙ ap (put_ring (fill_ring c.args.session.now c.args.tape 0 c.args.src.now) c.args.tape) row
