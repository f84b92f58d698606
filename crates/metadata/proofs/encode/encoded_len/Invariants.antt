-- `metadata::encode::encoded_len`: after each turn the sum is the length of the encoding so far, and no more than the whole's. Assumes nothing.
use Rattle.std.proofs.Common.{◌≡◌, ◌+◌, length, take}
use Rattle.metadata.proofs.Turns.{firsts}
use Rattle.metadata.proofs.encode.encoded_len.Given as goal

abbrev pub invariant-loop-t : goal.invariant-loop-t
invariant-loop-t l = l.n ≡ 4 + length (firsts (take l.fn.list.count l.fn.list.tapes) l.t-index)
