use Rattle.std.proofs.Common.{sym, ◌∙◌, refl, add-zero}
use Rattle.octets.specs.Bytes.{put_step, put-end}
use Rattle.octets.proofs.copy_in.Goals as goal

pub loop-j-init : goal.loop-j-init
loop-j-init c = rw add-zero refl

pub loop-j-preserved : goal.loop-j-preserved
loop-j-preserved c = sym (put_step c.loop-j.s c.args.at c.args.src.now c.loop-j.j c.loop-j-test.true) ∙ c.loop-j.invariant

pub returns : goal.returns
returns c = sym (put-end c.loop-j.s c.args.at c.args.src.now c.loop-j.j c.loop-j-test.false) ∙ c.loop-j.invariant
