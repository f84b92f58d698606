use Rattle.std.proofs.Common.{◌≡◌, sym, ◌∙◌, ℕ, arith}
use Rattle.octets.specs.Sweep.{sweep-turn, sweep-end}
use Rattle.rolling_tape.specs.Removal.{Areas, areas}
use Rattle.ending.specs.Steps.{flush_tape}
use Rattle.ending.specs.StepLaws.{Kept, whole-kept, kept-flush_tape}
use Rattle.ending.proofs.steps.flush_all.Goals as goal

pub loop-tape-preserved : goal.loop-tape-preserved
loop-tape-preserved c =
    let v = c.loop-tape.invariant in
    let a = areas c.loop-tape.disk c.loop-tape.session in
    let b = areas c.flush_tape.new.disk c.flush_tape.new.session in
    let step : ℕ → Areas → Areas = flush_tape in
    let e : step c.loop-tape.tape a ≡ b = c.flush_tape.ensures in
    let k : Kept a b = rw e at (kept-flush_tape c.loop-tape.tape a c.loop-tape-test.true v.whole) in
    record {
      long = c.flush_tape.auto.session ∙ v.long;
      wide = c.flush_tape.auto.disk ∙ v.wide;
      whole = whole-kept a v.whole b k;
      within = omega arith;
      rest = rw (← e) (sym (sweep-turn step 8 c.loop-tape.tape a c.loop-tape-test.true) ∙ v.rest);
    }

pub returns : goal.returns
returns c =
    sym c.loop-tape.invariant.rest ∙ sweep-end flush_tape 8 c.loop-tape.tape (areas c.loop-tape.disk c.loop-tape.session) c.loop-tape-test.false
