-- The readers' places fit just where their join does; then the writer's decides.
use Rattle.std.proofs.Common.{sym, ◌∙◌, arith}
use Rattle.layout.specs.SessionLaws.{kind-mixed, kind-writer, kinds-bad, kinds-good}
use Rattle.layout.proofs.session_area.kinds_fit.Goals as goal

pub returns-then-readers_joined-gt1 : goal.returns-then-readers_joined-gt1
returns-then-readers_joined-gt1 c = sym (kinds-bad c.args.session.now (omega arith))

pub returns-then-kind-ne1 : goal.returns-then-kind-ne1
returns-then-kind-ne1 c =
    let s = c.args.session.now in
    rw c.u64_at-kind.ensures (sym (kinds-good s (omega arith) ∙ kind-writer s 16 (omega arith) (omega arith)))

pub returns-else-kind-ne1 : goal.returns-else-kind-ne1
returns-else-kind-ne1 c =
    let s = c.args.session.now in
    rw c.if-kind-ne1.false (sym (kinds-good s (omega arith) ∙ kind-mixed s 16 (omega arith) (omega arith)))
