-- `push_bytes` leaves `around`: one copy where the data ends before the capacity, else two. Assumes nothing.
-- the place behind the held bytes
use Rattle.std.proofs.Common.{ℕ, ◌+◌, ◌%◌, ◌<◌, ◌≤◌, length, sym, ◌∙◌, mod-lt, arith}
use Rattle.ring_buffer.specs.declared.bookkeeping.RingBuffer.{RingBuffer}
use Rattle.ring_buffer.specs.Ring.{Sound}
use Rattle.ring_buffer.specs.Around.{around-straight, around-two}
use Rattle.ring_buffer.proofs.bytes.push_bytes.Goals as goal

end-inside : {r : RingBuffer} {n : ℕ} → Sound r n → (r.start + r.len) % r.capacity < r.capacity
end-inside {r} sound = mod-lt (r.start + r.len) (omega arith)

pub overflow_sub-room : goal.overflow_sub-room
overflow_sub-room c =
    let low = end-inside c.requires.0 in
    omega arith

pub copy_in-requires : goal.copy_in-requires
copy_in-requires c =
    let low = end-inside c.requires.0 in
    omega arith

pub returns-then-data-room : goal.returns-then-data-room
returns-then-data-room c =
    let ring = c.args.ring in
    let e = (ring.start + ring.len) % ring.capacity in
    let low = end-inside c.requires.0 in
    let near : e + length c.args.«data».now ≤ ring.capacity = omega arith in
    c.copy_in.ensures ∙ sym (around-straight ring.capacity c.args.bytes.now (ring.start + ring.len) c.args.«data».now near)

pub copy_in-requires-2 : goal.copy_in-requires-2
copy_in-requires-2 c =
    let low = end-inside c.requires.0 in
    let ahead = c.split_at.ensures.front_len in
    omega arith

pub returns : goal.returns
returns c =
    let ring = c.args.ring in
    let low = end-inside c.requires.0 in
    let second = c.copy_in-3.ensures in
    let first = c.copy_in-2.ensures in
    let front = c.split_at.ensures.front in
    let back = c.split_at.ensures.back in
    rw (second, first, front, back) (sym (around-two ring.capacity c.args.bytes.now (ring.start + ring.len) c.args.«data».now (omega arith) (omega arith) (omega arith)))
