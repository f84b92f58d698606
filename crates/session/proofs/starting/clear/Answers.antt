-- `clear` is `cleared`: the zeros, the mark, the session's own fields. Assumes nothing.
use Rattle.std.proofs.Common.{◌∙◌}
use Rattle.session.specs.Begin.{cleared}
use Rattle.session.proofs.starting.clear.Goals as goal

pub returns : goal.returns
unfolding cleared
returns c =
    c.put_head.ensures ∙ rw (c.put_u64.ensures, c.fill_zero.ensures)
