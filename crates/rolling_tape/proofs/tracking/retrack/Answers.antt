use Rattle.std.proofs.Common.{◌≡◌, refl, sym, ◌∙◌, arith}
use native.Mathlib.Nat.{sub-zero}
use Rattle.octets.specs.Sweep.{sweep-turn, sweep-end}
use Rattle.layout.specs.Disk.{slots}
use Rattle.rolling_tape.specs.Tracking.{retrack_slot, retracked}
use Rattle.rolling_tape.proofs.tracking.retrack.Goals as goal

pub loop-slot-init : goal.loop-slot-init
unfolding retracked
loop-slot-init c =
    let n : c.slot_count-slot-end.result ≡ slots c.args.disk.now = c.slot_count-slot-end.ensures in
    record { long = refl; within = omega arith; rest = rw (sub-zero, n) }

pub loop-slot-preserved : goal.loop-slot-preserved
loop-slot-preserved c =
    let v = c.loop-slot.invariant in
    let s = c.loop-slot.session in
    let step = retrack_slot c.args.disk.now c.args.place c.args.change in
    let e : c.retrack_slot.new.session ≡ step c.loop-slot.slot s = c.retrack_slot.ensures in
    record {
      long = c.retrack_slot.auto.session ∙ v.long;
      within = omega arith;
      rest = rw e (sym (sweep-turn step c.slot_count-slot-end.result c.loop-slot.slot s c.loop-slot-test.true) ∙ v.rest);
    }

pub returns : goal.returns
returns c =
    sym (sweep-end (retrack_slot c.args.disk.now c.args.place c.args.change) c.slot_count-slot-end.result c.loop-slot.slot c.loop-slot.session c.loop-slot-test.false)
    ∙ c.loop-slot.invariant.rest
