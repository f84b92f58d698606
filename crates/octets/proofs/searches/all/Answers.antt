use Rattle.std.proofs.Common.{sym, ◌∙◌, arith}
use Rattle.octets.specs.First.{all-hit, all-miss, all_none}
use Rattle.octets.proofs.searches.all.Goals as goal

pub returns-then-not-test : goal.returns-then-not-test
returns-then-not-test g c p is =
    let here = is c.loop-i.i c.test.result (omega arith) (omega arith) c.test.ensures in
    sym (all-miss p c.args.to c.loop-i.i (omega arith) (sym here ∙ c.if-not-test.true)) ∙ c.loop-i.invariant p is

pub loop-i-preserved : goal.loop-i-preserved
loop-i-preserved g c p is =
    let here = is c.loop-i.i c.test.result (omega arith) (omega arith) c.test.ensures in
    sym (all-hit p c.args.to c.loop-i.i (omega arith) (sym here ∙ c.if-not-test.false)) ∙ c.loop-i.invariant p is

pub returns : goal.returns
returns g c p is = sym (all_none p c.args.to c.loop-i.i (omega arith)) ∙ c.loop-i.invariant p is
