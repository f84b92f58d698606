use Rattle.std.proofs.Common.{◌≡◌, ◌+◌, get_or, bit_xor, sym, ◌∙◌, arith, length-set}
use Rattle.blake2b.specs.Words.{xor}
use Rattle.blake2b.proofs.Turns.{xor_three, fold_step, fold_end}
use Rattle.blake2b.proofs.compression.fold.Goals as goal

pub loop-i-preserved : goal.loop-i-preserved
loop-i-preserved c =
    let h = c.loop-i.h in
    let v = c.args.v.now in
    let i = c.loop-i.i in
    let x : bit_xor (bit_xor (get_or h i 0) (get_or v i 0)) (get_or v (i + 8) 0) ≡ xor (xor (get_or h i 0) (get_or v i 0)) (get_or v (i + 8) 0)
    = xor_three (get_or h i 0) (get_or v i 0) (get_or v (i + 8) 0) (omega arith) (omega arith) (omega arith) in
    (simp length-set c.loop-i.invariant.0, rw x (sym (fold_step h v i (omega arith)) ∙ c.loop-i.invariant.1))

pub returns : goal.returns
returns c =
    sym (fold_end c.loop-i.h c.args.v.now c.loop-i.i (omega arith)) ∙ c.loop-i.invariant.1
