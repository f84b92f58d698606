-- `message::key_room` is the padded key's length. Assumes nothing.
use Rattle.std.proofs.Common.{sym, arith}
use Rattle.blake2b.specs.Message.{length-keyed-none, length-keyed}
use Rattle.blake2b.proofs.message.key_room.Goals as goal

pub returns-then-is_empty-clause-room : goal.returns-then-is_empty-clause-room
returns-then-is_empty-clause-room c =
    sym (length-keyed-none c.args.key.now (grind (arith, c.is_empty.ensures, c.if-is_empty.true)))

pub returns-else-is_empty-clause-room : goal.returns-else-is_empty-clause-room
returns-else-is_empty-clause-room c =
    sym (length-keyed c.args.key.now (grind (arith, c.is_empty.ensures, c.if-is_empty.false)) (omega arith))
