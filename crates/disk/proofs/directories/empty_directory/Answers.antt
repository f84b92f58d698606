use Rattle.std.proofs.Common.{◌≡◌, refl, sym, ◌∙◌, ◌<◌, ◌≤◌, arith, rules}
use Rattle.octets.specs.Sweep.{sweep-turn, sweep-end}
use Rattle.layout.specs.Disk.{slots}
use Rattle.disk.specs.Steps.{empty_slot, empty_directory}
use Rattle.disk.specs.StepLaws.{only-empty_slot}
use Rattle.disk.specs.SoundLaws.{slots-only, sound-empty_slot}
use Rattle.disk.proofs.directories.empty_directory.Goals as goal

pub loop-slot-init : goal.loop-slot-init
unfolding empty_directory
loop-slot-init c =
    record { long = refl; sound = c.requires.0; same = refl; within = omega arith; rest = search rules }

pub loop-slot-preserved : goal.loop-slot-preserved
loop-slot-preserved c =
    let v = c.loop-slot.invariant in
    let s = c.loop-slot.disk in
    let end : c.slot_count-slot-end.result ≡ slots c.args.disk.now = c.slot_count-slot-end.ensures in
    let low : c.loop-slot.slot < slots s = omega arith in
    let e : c.empty_slot.new.disk ≡ empty_slot c.args.place c.loop-slot.slot s = c.empty_slot.ensures in
    record {
      long = c.empty_slot.auto.disk ∙ v.long;
      sound = rw e (sound-empty_slot s v.sound c.args.place c.loop-slot.slot low);
      same = v.same ∙ sym (rw e (slots-only _ _ s _ (only-empty_slot c.args.place c.loop-slot.slot s) (omega arith)));
      within = omega arith;
      rest = rw e (sym (sweep-turn (empty_slot c.args.place) (slots c.args.disk.now) c.loop-slot.slot s (omega arith)) ∙ v.rest);
    }

pub returns : goal.returns
returns c =
    let end : c.slot_count-slot-end.result ≡ slots c.args.disk.now = c.slot_count-slot-end.ensures in
    let done : slots c.args.disk.now ≤ c.loop-slot.slot = omega arith in
    sym (sweep-end (empty_slot c.args.place) (slots c.args.disk.now) c.loop-slot.slot c.loop-slot.disk done) ∙ c.loop-slot.invariant.rest
