-- `get_tracking` is the record of the words that it reads. Assumes nothing.
use Rattle.session.specs.Rows.{tracking_of}
use Rattle.session.proofs.tracking.get_tracking.Goals as goal

pub returns : goal.returns
unfolding tracking_of
returns c =
    rw (c.from_words.ensures, c.u64_at-2.ensures, c.u64_at.ensures)
