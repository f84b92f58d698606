use Rattle.std.proofs.Common.{◌≡◌, sym, ap, ◌∙◌, List, ℕ, arith}
use Rattle.octets.specs.Sweep.{sweep, sweep-turn, sweep-end}
use Rattle.ending.specs.Steps.{close_writer}
use Rattle.ending.specs.Dropping.{take_back, drop_append}
use Rattle.ending.specs.DropLaws.{begun-take_back}
use Rattle.ending.proofs.dropping.drop_append.Goals as goal

-- what is closed behind the loop
written : (d s u : List ℕ) {t : List ℕ} → u ≡ sweep (take_back d) 8 0 s → t ≡ close_writer u → t ≡ drop_append d s
unfolding drop_append
written d s u e f = f ∙ ap close_writer e

pub loop-tape-preserved : goal.loop-tape-preserved
loop-tape-preserved c =
    let v = c.loop-tape.invariant in
    let s = c.loop-tape.session in
    let d = c.args.disk.now in
    let e : c.take_back.new.session ≡ take_back d c.loop-tape.tape s = c.take_back.ensures in
    record {
      long = c.take_back.auto.session ∙ v.long;
      begun = rw e (begun-take_back d s c.requires.0 v.begun c.loop-tape.tape c.loop-tape-test.true);
      within = omega arith;
      rest = rw e (sym (sweep-turn (take_back d) 8 c.loop-tape.tape s c.loop-tape-test.true) ∙ v.rest);
    }

pub returns : goal.returns
returns c =
    let d = c.args.disk.now in
    written d c.args.session.now c.loop-tape.session
    (sym (sweep-end (take_back d) 8 c.loop-tape.tape c.loop-tape.session c.loop-tape-test.false) ∙ c.loop-tape.invariant.rest)
    c.close_writer.ensures
