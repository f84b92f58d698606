-- `compression::fold` leaves `fold_from`. The loop's invariant: the words before i as they are, with those from i on folded, are the whole. Assumes nothing.
use Rattle.std.proofs.Common.{◌≡◌, ◌++◌, length, take, drop}
use Rattle.blake2b.specs.Blake2b.{fold_from}
use Rattle.blake2b.proofs.compression.fold.Given as goal

abbrev pub invariant-loop-i : goal.invariant-loop-i
invariant-loop-i l = (length l.h ≡ 8) × (take l.i l.h ++ fold_from l.i (drop l.i l.h) l.v ≡ fold_from 0 l.initial.h l.v)
