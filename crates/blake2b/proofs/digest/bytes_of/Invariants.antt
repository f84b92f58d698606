-- `digest::bytes_of` is `bytes_of`. The loop's invariant: the words that are left, put behind those written, are the whole. Assumes nothing.
use Rattle.std.proofs.Common.{◌≡◌, ◌*◌, length, drop}
use Rattle.octets.specs.Bytes.{put}
use Rattle.blake2b.specs.Blake2b.{bytes_of}
use Rattle.blake2b.proofs.digest.bytes_of.Given as goal

abbrev pub invariant-loop-i : goal.invariant-loop-i
invariant-loop-i l = (length l.bytes ≡ 64) × (put l.bytes (8 * l.i) (bytes_of (drop l.i l.h)) ≡ bytes_of l.h)
