-- `get_staged` is the record of the words that it reads. Assumes nothing.
use Rattle.std.proofs.Common.{add_assoc}
use Rattle.session.specs.Rows.{staged_of}
use Rattle.session.proofs.tape_rows.get_staged.Goals as goal

pub returns : goal.returns
unfolding staged_of
returns c =
    rw (c.u64_at.ensures, c.u64_at-2.ensures, c.u64_at-3.ensures, c.u64_at-4.ensures, c.u64_at-5.ensures) (simp add_assoc)
