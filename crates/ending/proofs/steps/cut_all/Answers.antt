use Rattle.std.proofs.Common.{◌≡◌, sym, ◌∙◌, arith}
use Rattle.octets.specs.Sweep.{sweep-turn, sweep-end}
use Rattle.ending.specs.Steps.{cut_tape}
use Rattle.ending.specs.CutLaws.{begun-cut_tape, bytes-cut_tape}
use Rattle.ending.proofs.steps.cut_all.Goals as goal

pub loop-tape-preserved : goal.loop-tape-preserved
loop-tape-preserved c =
    let v = c.loop-tape.invariant in
    let d = c.args.disk.now in
    let few = c.requires.0.head.few in
    let e : c.cut_tape.new.session ≡ cut_tape d c.loop-tape.tape c.loop-tape.session = c.cut_tape.ensures in
    record {
      long = c.cut_tape.auto.session ∙ v.long;
      begun = rw e (begun-cut_tape d few c.loop-tape.tape c.loop-tape.session c.loop-tape-test.true v.begun);
      bytes = rw e (bytes-cut_tape d few c.loop-tape.tape c.loop-tape.session c.loop-tape-test.true v.begun.long v.bytes);
      within = omega arith;
      rest = rw e (sym (sweep-turn (cut_tape d) 8 c.loop-tape.tape c.loop-tape.session c.loop-tape-test.true) ∙ v.rest);
    }

pub returns : goal.returns
returns c =
    sym (sweep-end (cut_tape c.args.disk.now) 8 c.loop-tape.tape c.loop-tape.session c.loop-tape-test.false) ∙ c.loop-tape.invariant.rest
