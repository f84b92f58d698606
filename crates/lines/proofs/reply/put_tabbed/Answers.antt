-- `lines::reply::put_tabbed`: the digits, and the tab behind them. Assumes nothing.
use Rattle.lines.specs.ReplyLaws.{written-tabbed}
use Rattle.lines.proofs.reply.put_tabbed.Goals as goal

pub returns : goal.returns
returns c =
    written-tabbed c.args.n c.args.out.now c.put_decimal-end.new.out c.args.at c.put_decimal-end.result c.put_decimal-end.ensures
