-- `cache` leaves `cached_in`: the ring is prepared, gets the last bytes of the put, and then its row. Assumes nothing.
use Rattle.std.proofs.Common.{length, ◌≡◌, ap, ◌∙◌, ◌-◌, min, arith, take, drop, length-take, length-drop, take_all}
use Rattle.ring_buffer.specs.Ring.{prepared, pushed, Sound}
use Rattle.ring_buffer.specs.RingLaws.{sound-prepared}
use Rattle.ring_buffer.specs.declared.bookkeeping.RingBuffer.{RingBuffer}
use Rattle.session.specs.Rows.{ring_of, put_ring, push_ring}
use Rattle.session.specs.KeepLaws.{ring-sound}
use Rattle.cached_tape.specs.PutLaws.{cached-as}
use Rattle.cached_tape.proofs.putting.cache.Goals as goal

pub push_ring-requires : goal.push_ring-requires
push_ring-requires c =
    let s = c.args.session.now in
    let begun = c.requires.0 in
    let ring : c.prepare_write-ring.result ≡ prepared (ring_of s c.args.tape) c.args.len = c.prepare_write-ring.ensures ∙ ap (λ (r : RingBuffer). prepared r c.args.len) c.get_ring.ensures in
    let sound : Sound c.prepare_write-ring.result 4096 = rw ring (sound-prepared (ring_of s c.args.tape) 4096 (ring-sound s begun c.args.tape c.requires.1.0 c.requires.1.1) c.args.len) in
    let count = c.min-n.ensures in
    ((begun.long, c.requires.1.0), (sound, simp (length-take, length-drop) (omega arith)))

pub push-requires : goal.push-requires
push-requires c =
    let s = c.args.session.now in
    let ring : c.prepare_write-ring.result ≡ prepared (ring_of s c.args.tape) c.args.len = c.prepare_write-ring.ensures ∙ ap (λ (r : RingBuffer). prepared r c.args.len) c.get_ring.ensures in
    let sound : Sound c.prepare_write-ring.result 4096 = rw ring (sound-prepared (ring_of s c.args.tape) 4096 (ring-sound s c.requires.0 c.args.tape c.requires.1.0 c.requires.1.1) c.args.len) in
    let count = c.min-n.ensures in
    (record { inside = sound.inside; short = sound.short; small = sound.small; room = omega arith }, omega arith)

pub returns : goal.returns
returns c =
    let s = c.args.session.now in
    let p = c.args.tape in
    let src = c.args.src.now in
    let ring : c.prepare_write-ring.result ≡ prepared (ring_of s p) c.args.len = c.prepare_write-ring.ensures ∙ ap (λ (r : RingBuffer). prepared r c.args.len) c.get_ring.ensures in
    let n = c.min-n.result in
    let count : n ≡ min (length src) (prepared (ring_of s p) c.args.len).capacity = c.min-n.ensures ∙ ap (λ (r : RingBuffer). min (length src) r.capacity) ring in
    let by = length src - n in
    let part : take (length src - by) (drop by src) ≡ drop by src = take_all (length src - by) (drop by src) (simp length-drop (omega arith)) in
    let first : c.push_ring.new.session ≡ push_ring s p c.prepare_write-ring.result (take (length src - by) (drop by src)) = c.push_ring.ensures in
    let then : c.put_ring.new.session ≡ put_ring c.push_ring.new.session p c.push.result = c.put_ring.ensures in
    let row : c.push.result ≡ pushed c.prepare_write-ring.result n by = c.push.ensures in
    then ∙ rw (first, row, part, ring) (cached-as s p c.args.len src n count)
