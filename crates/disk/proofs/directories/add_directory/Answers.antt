-- A free place that was found is one of eight. Assumes nothing.
use Rattle.std.proofs.Common.{[], ◌<◌, rules}
use Rattle.disk.specs.StepLaws.{directory-low}
use Rattle.disk.proofs.directories.add_directory.Goals as goal

pub put_name-requires : goal.put_name-requires
put_name-requires c =
    let low : c.in_ok-place.place < 8 = directory-low c.args.disk.now [] c.in_ok-place.place (search rules) in
    search rules
