-- `get_view` is the record of the words that it reads. Assumes nothing.
use Rattle.session.specs.Rows.{view_of}
use Rattle.session.proofs.views.get_view.Goals as goal

pub returns : goal.returns
unfolding view_of
returns c =
    rw (c.u64_at.ensures, c.u64_at-2.ensures, c.u64_at-3.ensures)
