-- The bytes behind those that are filled are those of the digests that are left.
use Rattle.std.proofs.Common.{◌≡◌, ◌+◌, ◌*◌, drop, sum}
use Rattle.vectors.proofs.appendix_e.Given as goal

abbrev pub invariant-loop-nn : goal.invariant-loop-nn
invariant-loop-nn g l = l.done + 12 * sum (drop l.nn-index l.nn-items) ≡ 1968
