-- `unwritten_after` answers `unwritten_after`: each way out is a law of its own. Assumes nothing.
use Rattle.std.proofs.Common.{sym, arith}
use Rattle.cached_tape.specs.PutLaws.{after-fills, after-out, after_kept}
use Rattle.cached_tape.proofs.putting.unwritten_after.Goals as goal

pub returns-then-ring-n : goal.returns-then-ring-n
returns-then-ring-n c =
    sym (after-fills c.args.ring c.args.unwritten c.args.n c.if-ring-n.true)

pub returns-then-ring-n-2 : goal.returns-then-ring-n-2
returns-then-ring-n-2 c =
    sym (after-out c.args.ring c.args.unwritten c.args.n (omega arith) (omega arith))

pub returns : goal.returns
returns c =
    sym (after_kept c.args.ring c.args.unwritten c.args.n (omega arith) (omega arith))
