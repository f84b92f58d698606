-- `lines::hexadecimal::put_hex` leaves `put`. The loop's invariant: the hex of the bytes that are left, put into the present bytes, is the whole put.
-- Assumes nothing.
use Rattle.std.proofs.Common.{◌≡◌, ◌+◌, ◌*◌, drop}
use Rattle.octets.specs.Bytes.{put}
use Rattle.lines.specs.Hex.{hex_of}
use Rattle.lines.proofs.hexadecimal.put_hex.Given as goal

abbrev pub invariant-loop-i : goal.invariant-loop-i
invariant-loop-i l = put l.out (l.at + l.i * 2) (hex_of (drop l.i l.bytes)) ≡ put l.initial.out l.at (hex_of l.bytes)
