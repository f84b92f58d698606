-- `digest::start` is the definition's h before the first block. Assumes nothing.
use Rattle.std.proofs.Common.{ℕ, ◌∷◌, get_or, drop, bit_xor, ap, ◌∙◌, arith, lit<}
use Rattle.blake2b.specs.Words.{shl, xor}
use Rattle.blake2b.specs.WordLaws.{xor_is, xor_lt}
use Rattle.blake2b.specs.Constants.{IV}
use Rattle.blake2b.specs.Blake2b.{start}
use Rattle.blake2b.proofs.Turns.{xor_three}
use Rattle.blake2b.proofs.digest.start.Goals as goal

pub returns : goal.returns
unfolding start IV
returns c =
    let first = get_or IV 0 0 in
    let length = shl c.args.kk 8 in
    ap (λ (x : ℕ). x ∷ drop 1 IV)
    (ap (λ (x : ℕ). bit_xor x c.args.nn) (xor_three first 0x01010000 length (lit< tt) (lit< tt) (omega arith))
    ∙ xor_is (xor (xor first 0x01010000) length) c.args.nn (xor_lt (xor first 0x01010000) length) (omega arith))
