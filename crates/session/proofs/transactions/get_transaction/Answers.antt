-- `get_transaction` is the record of the words that it reads. Assumes nothing.
use Rattle.session.specs.Rows.{transaction_of}
use Rattle.session.proofs.transactions.get_transaction.Goals as goal

pub returns : goal.returns
unfolding transaction_of
returns c =
    rw (c.from.ensures, c.u64_at.ensures, c.u64_at-2.ensures, c.u64_at-3.ensures)
