-- `mixing::twelve_rounds` leaves `rounds`. The loop's invariant: the vector has gone through the first i rounds. Assumes nothing.
use Rattle.std.proofs.Common.{◌≡◌}
use Rattle.blake2b.specs.Blake2b.{rounds}
use Rattle.blake2b.proofs.mixing.twelve_rounds.Given as goal

abbrev pub invariant-loop-i : goal.invariant-loop-i
invariant-loop-i l = l.v ≡ rounds l.m l.i l.initial.v
