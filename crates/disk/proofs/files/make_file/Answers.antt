-- A free slot that was found is one of the disk's. Assumes nothing.
use Rattle.std.proofs.Common.{◌<◌, rules}
use Rattle.layout.specs.Disk.{slots}
use Rattle.disk.specs.StepLaws.{free-low}
use Rattle.disk.proofs.files.make_file.Goals as goal

pub put_entry-requires : goal.put_entry-requires
put_entry-requires c =
    let low : c.in_ok-slot.slot < slots c.args.disk.now = free-low c.args.disk.now c.in_ok-slot.slot (search rules) in
    search rules
