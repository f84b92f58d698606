-- `mixing::round` leaves `round`: its eight mixings, one after the other. Assumes nothing.
use Rattle.blake2b.specs.Blake2b.{mixing, round}
use Rattle.blake2b.proofs.Steps.{eight}
use Rattle.blake2b.proofs.mixing.round.Goals as goal

pub returns : goal.returns
unfolding round
returns c =
    let m = c.args.m.now in
    let i = c.args.i in
    eight
    (mixing m i 0 0 4 8 12)
    (mixing m i 1 1 5 9 13)
    (mixing m i 2 2 6 10 14)
    (mixing m i 3 3 7 11 15)
    (mixing m i 4 0 5 10 15)
    (mixing m i 5 1 6 11 12)
    (mixing m i 6 2 7 8 13)
    (mixing m i 7 3 4 9 14)
    c.mixing.ensures c.mixing-2.ensures c.mixing-3.ensures c.mixing-4.ensures c.mixing-5.ensures c.mixing-6.ensures c.mixing-7.ensures c.mixing-8.ensures
