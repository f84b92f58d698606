use Rattle.std.proofs.Common.{rules}
use Rattle.session.specs.Rows.{is_closed, free_reader}
use Rattle.session.proofs.transactions.free_reader.Goals as goal

pub returns : goal.returns
unfolding free_reader
returns c = c.first.ensures (is_closed c.args.session.now) (search rules)
