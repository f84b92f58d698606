use Rattle.std.proofs.Common.{◌≡◌, ◌*◌, length, get_or, sym, refl, ap, ◌∙◌, arith}
use Rattle.octets.specs.Number.{put_num, length-put_num}
use Rattle.blake2b.proofs.Blocks.{bytes-start, bytes-turn, bytes-end}
use Rattle.blake2b.proofs.digest.bytes_of.Goals as goal

pub loop-i-init : goal.loop-i-init
loop-i-init c =
    (refl, bytes-start _ c.args.h.now (omega arith))

pub loop-i-preserved : goal.loop-i-preserved
loop-i-preserved c =
    let i = c.loop-i.i in
    let h = c.args.h.now in
    let e : c.put_u64.new.s ≡ put_num 8 c.loop-i.bytes (8 * i) (get_or h i 0) = c.put_u64.ensures in
    (ap length e ∙ length-put_num 8 c.loop-i.bytes (8 * i) (get_or h i 0) ∙ c.loop-i.invariant.0, rw e (sym (bytes-turn c.loop-i.bytes h i (omega arith)) ∙ c.loop-i.invariant.1))

pub returns : goal.returns
returns c =
    sym (bytes-end c.loop-i.bytes c.args.h.now c.loop-i.i (omega arith)) ∙ c.loop-i.invariant.1
