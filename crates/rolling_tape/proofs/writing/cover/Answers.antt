use Rattle.std.proofs.Common.{◌≡◌, refl, sym, ap, ◌∙◌, ◌+◌, ◌-◌, add-zero, arith}
use native.Mathlib.Nat.{sub-zero}
use Rattle.rolling_tape.specs.Removal.{Areas, areas}
use Rattle.rolling_tape.specs.Writing.{make_tracked, covered}
use Rattle.rolling_tape.specs.WritingWays.{cover-turn, cover-end}
use Rattle.rolling_tape.specs.WritingLaws.{sound-make_tracked}
use Rattle.rolling_tape.proofs.writing.cover.Goals as goal

pub loop-done-init : goal.loop-done-init
loop-done-init c =
    record { long-disk = refl; long-session = refl; sound = c.requires.0.0; within = omega arith; rest = rw (add-zero, sub-zero) }

pub loop-done-preserved : goal.loop-done-preserved
loop-done-preserved c =
    let v = c.loop-done.invariant in
    let a = areas c.loop-done.disk c.loop-done.session in
    let n = c.args.first + c.loop-done.done in
    let t = c.make_tracked.new.disk in
    let u = c.make_tracked.new.session in
    let e : make_tracked a c.args.place n ≡ areas t u = c.make_tracked.ensures in
    let same : (make_tracked a c.args.place n).disk ≡ t = ap (λ (x : Areas). x.disk) e in
    let kept = sound-make_tracked a c.args.place n v.sound c.requires.1.0 (omega arith) in
    record {
      long-disk = c.make_tracked.auto.disk ∙ v.long-disk;
      long-session = c.make_tracked.auto.session ∙ v.long-session;
      sound = rw same at kept;
      within = omega arith;
      rest =
          ap (λ (x : Areas). covered x c.args.place (c.args.first + (c.loop-done.done + 1)) (c.args.count - (c.loop-done.done + 1))) (sym e)
          ∙ sym (cover-turn a c.args.place c.args.first c.args.count c.loop-done.done c.loop-done-test.true)
          ∙ v.rest;
    }

pub returns : goal.returns
returns c =
    sym c.loop-done.invariant.rest ∙ cover-end (areas c.loop-done.disk c.loop-done.session) c.args.place c.args.first c.args.count c.loop-done.done c.loop-done-test.false
