use Rattle.std.proofs.Common.{◌≡◌, ◌*◌, refl, arith}
use Rattle.octets.specs.Number.{num_at}
use Rattle.blake2b.specs.Blake2b.{words_from}
use Rattle.blake2b.proofs.Turns.{words_step}
use Rattle.blake2b.proofs.compression.words_of.Goals as goal

pub loop-j-init : goal.loop-j-init
unfolding words_from
loop-j-init c = refl

pub loop-j-preserved : goal.loop-j-preserved
loop-j-preserved c =
    let s = c.args.block.now in
    let e : c.u64_at.result ≡ num_at 8 s (8 * c.loop-j.j) = c.u64_at.ensures in
    rw e (words_step c.loop-j.word-items s c.loop-j.j (omega arith) c.loop-j.invariant)
