-- `get_head` is the record of the words that it reads. Assumes nothing.
use Rattle.session.specs.Rows.{head_of}
use Rattle.session.proofs.head.get_head.Goals as goal

pub returns : goal.returns
unfolding head_of
returns c =
    rw (c.side_for.ensures, c.u64_at.ensures, c.u64_at-2.ensures, c.u64_at-3.ensures, c.u64_at-4.ensures, c.u64_at-5.ensures)
