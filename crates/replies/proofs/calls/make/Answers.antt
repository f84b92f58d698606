-- `replies::calls::make`: a put's bytes fit the space, since no field is longer than its line. Assumes nothing.
use Rattle.std.proofs.Common.{arith}
use Rattle.replies.specs.ReplyLaws.{field-length}
use Rattle.replies.proofs.calls.make.Goals as goal

pub append-requires-in-Put : goal.append-requires-in-Put
append-requires-in-Put c =
    let short = field-length c.args.line.now 3 in
    rw c.field-in-Put.ensures (omega arith)
