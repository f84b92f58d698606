-- `digest::absorb` is `finished`. The loop's invariant: i blocks are taken up. Assumes nothing.
use Rattle.std.proofs.Common.{◌≡◌, length}
use Rattle.blake2b.specs.Blake2b.{absorbed, start as first}
use Rattle.blake2b.specs.Message.{all_of}
use Rattle.blake2b.proofs.digest.absorb.Given as goal

abbrev pub invariant-loop-i : goal.invariant-loop-i
invariant-loop-i l = l.h ≡ absorbed (first (length l.input.key.now) l.nn) (all_of l.input.key.now l.input.head.now l.input.tail.now) l.i
