use Rattle.std.proofs.Common.{rules}
use Rattle.session.specs.Rows.{is_open_as, find_transaction}
use Rattle.session.proofs.transactions.find_transaction.Goals as goal

pub returns : goal.returns
unfolding find_transaction
returns c = c.first.ensures (is_open_as c.args.session.now c.args.number) (search rules)
