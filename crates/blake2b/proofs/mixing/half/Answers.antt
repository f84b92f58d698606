-- `mixing::half` takes four steps of G. Assumes nothing.
use Rattle.blake2b.proofs.Halves.{half-is}
use Rattle.blake2b.proofs.mixing.half.Goals as goal

pub returns : goal.returns
returns c =
    half-is c.args.v.now c.args.a c.args.b c.args.c c.args.d c.args.x c.args.r c.args.s c.rotate_right.result c.rotate_right-2.result
    c.fits-v c.rotate_right.type_inv c.requires.rotations.0.0 c.requires.rotations.0.1 c.requires.rotations.1.0 c.requires.rotations.1.1
    c.rotate_right.ensures c.rotate_right-2.ensures
