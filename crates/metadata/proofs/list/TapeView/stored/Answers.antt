-- `metadata::TapeView::stored` is the stored tape: its name, with zeros behind it up to 24. Assumes nothing.
use Rattle.metadata.specs.Struct.{stored}
use Rattle.metadata.specs.StructLaws.{stored-name}
use Rattle.metadata.proofs.list.TapeView.stored.Goals as goal

pub returns : goal.returns
unfolding stored
returns c = rw (c.copy_in.ensures, stored-name c.args.self.name.now c.requires)
