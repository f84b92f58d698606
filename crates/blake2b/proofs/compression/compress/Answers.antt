-- `compression::compress` leaves `F`: its four calls are the parts of it. Assumes nothing.
use Rattle.blake2b.specs.Blake2b.{F}
use Rattle.blake2b.proofs.compression.compress.Goals as goal

pub returns : goal.returns
unfolding F
returns c = cc
