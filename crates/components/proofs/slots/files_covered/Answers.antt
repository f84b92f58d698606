-- `components::slots::files_covered` is `covered`: the last byte lies in no lower file than the first, and its number stays below its offset. Assumes nothing.
use Rattle.std.proofs.Common.{◌-◌, div-le_self, arith, lt-ltb, le-ltb}
use Rattle.components.specs.PiecesLaws.{file-mono}
use Rattle.components.specs.Slots.{covered}
use Rattle.components.proofs.slots.files_covered.Goals as goal

pub overflow_sub-result-2 : goal.overflow_sub-result-2
overflow_sub-result-2 c =
    omega (arith, file-mono c.args.file_size c.requires c.args.base (c.args.end - 1) (omega arith))

pub overflow_add-result : goal.overflow_add-result
overflow_add-result c =
    omega (arith, div-le_self (c.args.end - 1) c.args.file_size)

pub returns-then-end-base : goal.returns-then-end-base
unfolding covered
returns-then-end-base c = rw (le-ltb c.args.base c.args.end c.if-end-base.true)

pub returns : goal.returns
unfolding covered
returns c = rw (lt-ltb c.args.base c.args.end c.if-end-base.false)
