-- `compression::work_vector` is `work_vector`: h and IV are copied side by side, and a count of one word leaves v[13]. Assumes nothing.
use Rattle.std.proofs.Common.{sym, arith}
use Rattle.blake2b.specs.Constants.{IV}
use Rattle.blake2b.proofs.Turns.{copied, work_vector-counted, work_vector-last}
use Rattle.blake2b.proofs.compression.work_vector.Goals as goal

pub returns-then-last : goal.returns-then-last
unfolding IV
returns-then-last c =
    let h = c.args.h.now in
    let whole = copied h _ _ c.told-h c.copy_from_slice.ensures.after c.copy_from_slice-2.ensures.after in
    rw (whole, c.if-last.true) (sym (work_vector-last h c.args.t c.told-h (omega arith)))

pub returns-else-last : goal.returns-else-last
unfolding IV
returns-else-last c =
    let h = c.args.h.now in
    let whole = copied h _ _ c.told-h c.copy_from_slice.ensures.after c.copy_from_slice-2.ensures.after in
    rw (whole, c.if-last.false) (sym (work_vector-counted h c.args.t c.told-h (omega arith)))
