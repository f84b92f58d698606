-- `format` leaves `formatted`: the zeros, the mark and the slot count. Assumes nothing.
use Rattle.std.proofs.Common.{sym}
use Rattle.disk.specs.Ways.{formatted-is}
use Rattle.disk.proofs.formatting.format.Goals as goal

pub returns : goal.returns
returns c =
    rw (c.put_u64-2.ensures, c.put_u64.ensures, c.fill_zero.ensures) (sym (formatted-is c.args.disk.now c.args.slots))
