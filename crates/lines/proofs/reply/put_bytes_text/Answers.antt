-- `lines::reply::put_bytes_text`: `-` for no bytes, else what `put_hex` leaves. Assumes nothing.
use Rattle.std.proofs.Common.{arith}
use Rattle.lines.specs.Written.{written_byte}
use Rattle.lines.specs.ReplyLaws.{text-none, text-some}
use Rattle.lines.proofs.reply.put_bytes_text.Goals as goal

pub returns-then-is_empty : goal.returns-then-is_empty
returns-then-is_empty c =
    rw (text-none c.args.bytes.now (grind (arith, c.if-is_empty.ensures))) (written_byte 45 c.args.out.now c.args.at)

pub returns : goal.returns
returns c =
    rw (text-some c.args.bytes.now (grind (arith, c.if-is_empty.ensures))) c.put_hex.ensures
