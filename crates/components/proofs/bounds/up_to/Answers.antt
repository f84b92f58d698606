-- `components::bounds::up_to` is `up_to`: a quotient is compared where the definition compares a product. Assumes nothing.
use Rattle.components.specs.BoundsLaws.{up_to-code}
use Rattle.components.proofs.bounds.up_to.Goals as goal

pub returns : goal.returns
returns c = up_to-code c.args.entry c.args.index c.args.len c.requires
