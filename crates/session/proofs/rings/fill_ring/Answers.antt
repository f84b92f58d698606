-- `fill_ring` is one copy. Assumes nothing.
use Rattle.session.specs.Rows.{fill_ring}
use Rattle.session.proofs.rings.fill_ring.Goals as goal

pub returns : goal.returns
unfolding fill_ring
returns c =
    c.copy_in.ensures
