-- `get_handle` is the record of the words that it reads. Assumes nothing.
use Rattle.session.specs.Rows.{handle_of}
use Rattle.session.proofs.tape_rows.get_handle.Goals as goal

pub returns : goal.returns
unfolding handle_of
returns c =
    rw (c.u64_at.ensures, c.u64_at-2.ensures, c.u64_at-3.ensures)
