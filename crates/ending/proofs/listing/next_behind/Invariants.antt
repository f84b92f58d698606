-- `next_behind` is `next_behind`: the search over the tapes that are left, from the best so far, is the whole search. Assumes nothing.
use Rattle.std.specs.Prelude.{Some}
use Rattle.std.proofs.Common.{◌≡◌, ℕ, ◌-◌, ◌≤◌, ◌<◌}
use Rattle.octets.specs.Sweep.{sweep}
use Rattle.ending.specs.Listing.{better, next_behind}
use Rattle.ending.proofs.listing.next_behind.Given as goal

abbrev pub invariant-loop-tape : goal.invariant-loop-tape
invariant-loop-tape l = (l.tape ≤ 8) × (((p : ℕ) → l.best ≡ Some p → p < 8) × (sweep (better l.session l.cut l.before) (8 - l.tape) l.tape l.best ≡ next_behind l.session l.cut l.before))
