-- The loop's invariant: what was joined so far is the join of the places passed. Assumes nothing.
use Rattle.std.proofs.Common.{◌≡◌}
use Rattle.layout.specs.Session.{kind_word}
use Rattle.layout.specs.Joined.{joined}
use Rattle.layout.proofs.session_area.readers_joined.Given as goal

abbrev pub invariant-loop-i : goal.invariant-loop-i
invariant-loop-i l = l.joined ≡ joined (kind_word l.session) l.i
