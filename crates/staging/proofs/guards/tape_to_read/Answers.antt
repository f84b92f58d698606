-- What is found is a transaction place, and an open tape. Assumes nothing.
use Rattle.std.proofs.Common.{arith}
use Rattle.staging.specs.Ways.{handle-found, transaction-low}
use Rattle.staging.proofs.guards.tape_to_read.Goals as goal

pub returns-clause-served : goal.returns-clause-served
returns-clause-served c =
    (c.in_ok-check_usable.ensures.served, (transaction-low c.args.session.now c.args.transaction c.in_ok-place.place (grind arith), handle-found c.args.session.now c.args.handle c.in_ok-tape.tape (grind arith)))
