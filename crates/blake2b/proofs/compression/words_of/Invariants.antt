-- `compression::words_of` is `words_from`. The loop's invariant: the first j words are the block's. Assumes nothing.
use Rattle.std.proofs.Common.{◌≡◌, take}
use Rattle.blake2b.specs.Blake2b.{words_from}
use Rattle.blake2b.proofs.compression.words_of.Given as goal

abbrev pub invariant-loop-j : goal.invariant-loop-j
invariant-loop-j l = take l.j l.word-items ≡ words_from l.j l.block 0
