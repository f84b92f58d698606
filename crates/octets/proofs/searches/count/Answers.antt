use Rattle.std.proofs.Common.{sym, ◌∙◌, arith}
use Rattle.octets.specs.First.{count-hit, count-miss, count_none}
use Rattle.octets.proofs.searches.count.Goals as goal
use Rattle.octets.proofs.searches.count.Goals.{then-test, else-test}

pub loop-i-preserved : goal.loop-i-preserved
loop-i-preserved g c =
    let found = c.loop-i.invariant.0 in
    elim c.if-test.branch [
      | then-test w ↦ (
        let now = w.found-is in omega arith,
        λ p is.
            let here = is c.loop-i.i c.test.result (omega arith) (omega arith) c.test.ensures in
            let turn = count-hit p c.args.to c.loop-i.i (omega arith) (sym here ∙ w.if-test.true) in
            let rest = c.loop-i.invariant.1 p is in
            let now = w.found-is in
            omega arith,
      )
      | else-test w ↦ (
        let now = w.found-is in omega arith,
        λ p is.
            let here = is c.loop-i.i c.test.result (omega arith) (omega arith) c.test.ensures in
            let turn = count-miss p c.args.to c.loop-i.i (omega arith) (sym here ∙ w.if-test.false) in
            let rest = c.loop-i.invariant.1 p is in
            let now = w.found-is in
            omega arith,
      )
    ]

pub returns : goal.returns
returns g c p is =
    let none = count_none p c.args.to c.loop-i.i (omega arith) in
    let rest = c.loop-i.invariant.1 p is in
    omega arith
