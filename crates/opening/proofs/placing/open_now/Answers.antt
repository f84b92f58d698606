-- `open_now` is `open_now`: what can be read lies in the files, and it is what the cache gets. Assumes nothing.
use Rattle.opening.specs.PlacingLaws.{fill-lies}
use Rattle.opening.proofs.placing.open_now.Goals as goal

pub read_cached-requires : goal.read_cached-requires
read_cached-requires c =
    (c.requires.0.0, fill-lies c.args.o.opening c.args.disk.now c.args.session.now c.args.o.name.now c.requires.1.0)
