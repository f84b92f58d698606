-- `open_on` is `open_on`: a shape that is answered Done has a name and sizes in range. Assumes nothing.
use Rattle.std.proofs.Common.{sym}
use Rattle.opening.specs.ShapeLaws.{shape-done}
use Rattle.opening.proofs.calls.open_on.Goals as goal

pub invariant_of-open_at : goal.invariant_of-open_at
invariant_of-open_at c =
    let shaped = shape-done c.args.name.now c.args.o tt (sym c.in_ok-shape_of.ensures) in
    record { short = shaped.name-short; sizes = ((shaped.file-some, shaped.file-small), shaped.cache-small) }
