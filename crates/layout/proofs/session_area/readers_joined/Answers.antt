use Rattle.std.proofs.Common.{rules}
use Rattle.layout.specs.Session.{kind_word}
use Rattle.layout.specs.Joined.{joined, joined-more}
use Rattle.layout.proofs.session_area.readers_joined.Goals as goal

pub loop-i-init : goal.loop-i-init
unfolding joined
loop-i-init c = search rules

pub loop-i-preserved : goal.loop-i-preserved
loop-i-preserved c =
    joined-more (kind_word c.args.session.now) c.loop-i.i c.loop-i.joined c.u64_at-joined.result c.loop-i.invariant c.u64_at-joined.ensures
