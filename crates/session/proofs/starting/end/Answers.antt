-- `end` takes the mark away. Assumes nothing.
use Rattle.session.specs.Begin.{ended}
use Rattle.session.proofs.starting.end.Goals as goal

pub returns : goal.returns
unfolding ended
returns c =
    c.put_u64.ensures
