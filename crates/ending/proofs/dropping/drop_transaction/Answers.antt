-- `drop_transaction` does `drop_transaction_call`: a transaction that was found has a place. Assumes nothing.
use Rattle.std.proofs.Common.{sym, ◌∙◌}
use Rattle.staging.specs.Ways.{transaction-low}
use Rattle.ending.proofs.dropping.drop_transaction.Goals as goal

pub drop_at-requires : goal.drop_at-requires
drop_at-requires c =
    (c.in_ok-check_usable.ensures.served, transaction-low c.args.session.now c.args.transaction c.in_ok-place.place (sym c.find_transaction.ensures ∙ c.in_ok-place.ensures.ok_part))
