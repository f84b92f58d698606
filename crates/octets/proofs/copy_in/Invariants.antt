-- What is left to copy, put into the present bytes, is the whole put.
use Rattle.std.proofs.Common.{◌≡◌, ◌+◌, drop}
use Rattle.octets.specs.Bytes.{put}
use Rattle.octets.proofs.copy_in.Given as goal

abbrev pub invariant-loop-j : goal.invariant-loop-j
invariant-loop-j l = put l.s (l.at + l.j) (drop l.j l.src) ≡ put l.initial.s l.at l.src
