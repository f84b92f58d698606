-- `lines::hexadecimal::put_bytes` leaves `put`. The loop's invariant: the bytes of the pairs that are left, put into the present bytes, are the whole put.
-- Assumes nothing.
use Rattle.std.proofs.Common.{◌≡◌, ◌+◌, ◌/◌, ◌≤◌, length}
use Rattle.octets.specs.Bytes.{put}
use Rattle.lines.specs.Hex.{hex_bytes}
use Rattle.lines.proofs.hexadecimal.put_bytes.Given as goal

abbrev pub invariant-loop-i : goal.invariant-loop-i
invariant-loop-i l =
    (l.i-iterator.iter.size ≡ 2)
    × (l.i-iterator.count + length l.i-iterator.iter.rest.now / 2 ≤ length l.out)
    × (put l.out l.i-iterator.count (hex_bytes l.i-iterator.iter.rest.now) ≡ put l.initial.out 0 (hex_bytes l.s))
