use Rattle.std.proofs.Common.{rules}
use Rattle.session.specs.Rows.{is_handle, find_handle}
use Rattle.session.proofs.tape_rows.find_handle.Goals as goal

pub returns : goal.returns
unfolding find_handle
returns c = c.first.ensures (is_handle c.args.session.now c.args.number) (search rules)
