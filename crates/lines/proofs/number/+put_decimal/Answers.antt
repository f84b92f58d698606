use Rattle.std.proofs.Common.{◌≡◌, arith, length}
use Rattle.lines.specs.NumberLaws.{printed-last, printed-more, printed-room}
use Rattle.lines.proofs.number.+put_decimal.Goals as goal

pub returns-then-n-lt10 : goal.returns-then-n-lt10
returns-then-n-lt10 t c = printed-last c.args.n c.args.out.now c.args.at (omega arith)

pub bounds-out-end : goal.bounds-out-end
bounds-out-end t c =
    let room = printed-room c.args.n c.args.out.now c.args.at c.put_decimal-end.result c.put_decimal-end.new.out (omega arith) (omega arith) c.put_decimal-end.ensures in
    let long : length c.put_decimal-end.new.out ≡ length c.args.out.now = c.put_decimal-end.auto.out in
    omega arith

pub overflow_add-result-2 : goal.overflow_add-result-2
overflow_add-result-2 t c =
    let room = printed-room c.args.n c.args.out.now c.args.at c.put_decimal-end.result c.put_decimal-end.new.out (omega arith) (omega arith) c.put_decimal-end.ensures in
    let long : length c.put_decimal-end.new.out ≡ length c.args.out.now = c.put_decimal-end.auto.out in
    omega arith

pub returns : goal.returns
returns t c =
    printed-more c.args.n c.args.out.now c.args.at c.put_decimal-end.result c.put_decimal-end.new.out (omega arith) (omega arith) c.put_decimal-end.ensures
