-- `put_entry` leaves `put_entry`: the three words, one behind the other. Assumes nothing.
use Rattle.std.proofs.Common.{sym}
use Rattle.disk.specs.Ways.{put_entry-is}
use Rattle.disk.proofs.files.put_entry.Goals as goal

pub returns : goal.returns
returns c =
    rw (c.put_u64-3.ensures, c.put_u64-2.ensures, c.put_u64.ensures) (sym (put_entry-is c.args.disk.now c.args.slot c.args.file))
