-- `metadata::encode::is_storable`: what is left of the test, behind the name before, is the whole test. Assumes nothing.
use Rattle.std.proofs.Common.{◌≡◌, [], take, drop}
use Rattle.metadata.specs.Struct.{storable_after}
use Rattle.metadata.proofs.encode.is_storable.Given as goal

abbrev pub invariant-loop-t : goal.invariant-loop-t
invariant-loop-t l =
    storable_after l.before (drop l.t-index (take l.fn.list.count l.fn.list.tapes)) ≡ storable_after [] (take l.fn.list.count l.fn.list.tapes)
