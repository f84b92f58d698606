use Rattle.std.proofs.Common.{◌≡◌, refl, sym, ap, ◌∙◌, ◌<◌, arith}
use native.Mathlib.Nat.{sub-zero}
use Rattle.octets.specs.Sweep.{sweep-turn, sweep-end}
use Rattle.layout.specs.Disk.{slots}
use Rattle.rolling_tape.specs.Removal.{Areas, areas, remove_slot, remove_ripe}
use Rattle.rolling_tape.specs.RemovalLaws.{slots-remove_slot, sound-remove_slot}
use Rattle.rolling_tape.proofs.removal.remove_ripe.Goals as goal

pub loop-slot-init : goal.loop-slot-init
unfolding remove_ripe
loop-slot-init c =
    let n : c.slot_count-slot-end.result ≡ slots c.args.disk.now = c.slot_count-slot-end.ensures in
    record { long = refl; wide = refl; sound = c.requires.0.0; same = n; within = omega arith; rest = rw (sub-zero, n) }

pub loop-slot-preserved : goal.loop-slot-preserved
loop-slot-preserved c =
    let v = c.loop-slot.invariant in
    let a = areas c.loop-slot.disk c.loop-slot.session in
    let step = remove_slot c.args.place c.args.oldest in
    let low : c.loop-slot.slot < slots c.loop-slot.disk = omega arith in
    let e : step c.loop-slot.slot a ≡ areas c.remove_slot.new.disk c.remove_slot.new.session = c.remove_slot.ensures in
    let d : (step c.loop-slot.slot a).disk ≡ c.remove_slot.new.disk = ap (λ (b : Areas). b.disk) e in
    record {
      long = c.remove_slot.auto.session ∙ v.long;
      wide = c.remove_slot.auto.disk ∙ v.wide;
      sound = rw d at (sound-remove_slot c.args.place c.args.oldest c.loop-slot.slot a v.sound low);
      same = v.same ∙ sym (rw d at (slots-remove_slot c.args.place c.args.oldest c.loop-slot.slot a));
      within = omega arith;
      rest = rw (← e) (sym (sweep-turn step c.slot_count-slot-end.result c.loop-slot.slot a c.loop-slot-test.true) ∙ v.rest);
    }

pub returns : goal.returns
returns c =
    sym c.loop-slot.invariant.rest ∙ sweep-end (remove_slot c.args.place c.args.oldest) c.slot_count-slot-end.result c.loop-slot.slot (areas c.loop-slot.disk c.loop-slot.session) c.loop-slot-test.false
