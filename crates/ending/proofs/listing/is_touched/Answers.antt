-- `is_touched` is `is_touched`: the handle's number is the one in its row. Assumes nothing.
use Rattle.std.proofs.Common.{rules}
use Rattle.session.specs.RowLaws.{handle-numbered}
use Rattle.ending.specs.Listing.{is_touched}
use Rattle.ending.proofs.listing.is_touched.Goals as goal

pub returns-then-get_handle-ne0 : goal.returns-then-get_handle-ne0
unfolding is_touched
returns-then-get_handle-ne0 c =
    rw (← handle-numbered c.args.session.now c.args.tape c.get_handle.result c.get_handle.ensures) (search rules)

pub returns-else-get_handle-ne0 : goal.returns-else-get_handle-ne0
unfolding is_touched
returns-else-get_handle-ne0 c =
    rw (← handle-numbered c.args.session.now c.args.tape c.get_handle.result c.get_handle.ensures) (search rules)
