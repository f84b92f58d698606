-- `lines::reply::put_reply`: the parts, put one behind the other, are the reply; each part's greatest length leaves room for the next. Assumes nothing.
use Rattle.lines.specs.ReplyLaws.{written-reply}
use Rattle.lines.proofs.reply.put_reply.Goals as goal

pub returns : goal.returns
returns c =
    written-reply c.args.number c.args.code c.args.value c.args.bytes.now
    c.args.out.now c.put_tabbed-after_number.new.out c.put_tabbed-after_code.new.out c.put_tabbed-after_value.new.out c.put_bytes_text-end.new.out
    c.put_tabbed-after_number.result c.put_tabbed-after_code.result c.put_tabbed-after_value.result c.put_bytes_text-end.result
    c.put_tabbed-after_number.ensures c.put_tabbed-after_code.ensures c.put_tabbed-after_value.ensures c.put_bytes_text-end.ensures
