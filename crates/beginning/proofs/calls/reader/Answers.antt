-- A free reader's place is a transaction place. Assumes nothing.
use Rattle.std.proofs.Common.{arith}
use Rattle.beginning.specs.Ways.{free-low}
use Rattle.beginning.proofs.calls.reader.Goals as goal

pub begin_at-requires : goal.begin_at-requires
begin_at-requires c =
    let low = free-low c.args.session.now c.in_ok-place.place (grind arith) in
    (c.in_ok-check_usable.ensures.served.1.long, omega arith)
