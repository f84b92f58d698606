-- `lines::reply::put_unreadable_reply`: the number, and the fixed bytes behind it. Assumes nothing.
use Rattle.lines.specs.ReplyLaws.{written-unreadable}
use Rattle.lines.proofs.reply.put_unreadable_reply.Goals as goal

pub returns : goal.returns
returns c =
    written-unreadable c.args.number c.args.out.now c.put_tabbed-end.new.out c.copy_in.new.s c.put_tabbed-end.result c.put_tabbed-end.ensures c.copy_in.ensures
