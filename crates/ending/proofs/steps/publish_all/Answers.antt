use Rattle.std.proofs.Common.{◌≡◌, sym, ◌∙◌, arith}
use Rattle.octets.specs.Sweep.{sweep-turn, sweep-end}
use Rattle.ending.specs.Steps.{publish_tape}
use Rattle.ending.specs.StepLaws.{begun-publish_tape}
use Rattle.ending.proofs.steps.publish_all.Goals as goal

pub loop-tape-preserved : goal.loop-tape-preserved
loop-tape-preserved c =
    let v = c.loop-tape.invariant in
    let step = publish_tape c.args.cut in
    let e : c.publish_tape.new.session ≡ step c.loop-tape.tape c.loop-tape.session = c.publish_tape.ensures in
    record {
      long = c.publish_tape.auto.session ∙ v.long;
      begun = rw e (begun-publish_tape c.args.cut c.loop-tape.tape c.loop-tape.session c.loop-tape-test.true v.begun);
      within = omega arith;
      rest = rw e (sym (sweep-turn step 8 c.loop-tape.tape c.loop-tape.session c.loop-tape-test.true) ∙ v.rest);
    }

pub returns : goal.returns
returns c =
    sym (sweep-end (publish_tape c.args.cut) 8 c.loop-tape.tape c.loop-tape.session c.loop-tape-test.false) ∙ c.loop-tape.invariant.rest
