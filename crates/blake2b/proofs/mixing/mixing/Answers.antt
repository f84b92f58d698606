-- `mixing::mixing` leaves `mixing`: G on the words that two calls of `scheduled` return. Assumes nothing.
use Rattle.blake2b.proofs.Steps.{mixed}
use Rattle.blake2b.proofs.mixing.mixing.Goals as goal

pub returns : goal.returns
returns c =
    mixed c.args.m.now c.args.i c.args.j c.args.a c.args.b c.args.c c.args.d c.args.v.now c.requires.round c.requires.number
    c.row-sigma.ensures c.mix.ensures c.scheduled-x.ensures c.scheduled-y.ensures
