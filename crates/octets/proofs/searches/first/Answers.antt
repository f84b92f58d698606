use Rattle.std.proofs.Common.{sym, ◌∙◌, arith}
use Rattle.octets.specs.First.{first-hit, first-miss, first-none}
use Rattle.octets.proofs.searches.first.Goals as goal

pub returns-then-test : goal.returns-then-test
returns-then-test g c p is =
    let here = is c.loop-i.i c.test.result (omega arith) (omega arith) c.test.ensures in
    sym (first-hit p c.args.to c.loop-i.i (omega arith) (sym here ∙ c.if-test.true)) ∙ c.loop-i.invariant p is

pub loop-i-preserved : goal.loop-i-preserved
loop-i-preserved g c p is =
    let here = is c.loop-i.i c.test.result (omega arith) (omega arith) c.test.ensures in
    sym (first-miss p c.args.to c.loop-i.i (omega arith) (sym here ∙ c.if-test.false)) ∙ c.loop-i.invariant p is

pub returns : goal.returns
returns g c p is = sym (first-none p c.args.to c.loop-i.i (omega arith)) ∙ c.loop-i.invariant p is
