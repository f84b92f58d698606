-- `mixing::mix` leaves `G`: each half is four of its eight steps. Assumes nothing.
use Rattle.blake2b.specs.Blake2b.{G}
use Rattle.blake2b.proofs.mixing.mix.Goals as goal

pub returns : goal.returns
unfolding G
returns c = cc
