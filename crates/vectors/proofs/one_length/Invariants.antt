-- So many digests' bytes are filled as the turns that were taken.
use Rattle.std.proofs.Common.{◌≡◌, ◌*◌}
use Rattle.vectors.proofs.one_length.Given as goal

abbrev pub invariant-loop-n : goal.invariant-loop-n
invariant-loop-n g l = l.done ≡ l.n-index * (2 * l.nn)
