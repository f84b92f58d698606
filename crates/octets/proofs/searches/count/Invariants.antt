-- What is left to look at decides as the whole does. Assumes nothing.
use Rattle.std.proofs.Common.{◌≡◌, ◌+◌, ◌-◌, ◌≤◌, ℕ, Bool}
use Rattle.octets.specs.First.{count}
use Rattle.octets.specs.Tests.{Computes}
use Rattle.octets.proofs.searches.count.Given as goal

abbrev pub invariant-loop-i : goal.invariant-loop-i
invariant-loop-i g l = (l.found ≤ l.i) × ((p : ℕ → Bool) → Computes l.from l.to (goal.F-post g l.test) p → l.found + count p (l.to - l.i) l.i ≡ count p (l.to - l.from) l.from)
