-- `remove_slot` is `remove_slot`: both ways out are a law's. Assumes nothing.
use Rattle.std.proofs.Common.{◌≡◌, sym, ◌∙◌}
use Rattle.disk.specs.Steps.{removed}
use Rattle.session.specs.Rows.{put_tracking}
use Rattle.session.specs.declared.tracking.Tracking.TheVariants.{Untracked}
use Rattle.rolling_tape.specs.RemovalLaws.{slot-goes, slot-stays}
use Rattle.rolling_tape.proofs.removal.remove_slot.Goals as goal

pub returns-then-goes_now : goal.returns-then-goes_now
returns-then-goes_now c =
    let d = c.args.disk.now in
    let s = c.args.session.now in
    let gone : c.remove_file.new.disk ≡ removed d c.args.slot = c.remove_file.ensures in
    let off : c.put_tracking.new.session ≡ put_tracking s c.args.slot Untracked = c.put_tracking.ensures in
    rw (gone, off) (slot-goes c.args.place c.args.oldest c.args.slot d s (sym c.goes_now.ensures ∙ c.if-goes_now.true))

pub returns-else-goes_now : goal.returns-else-goes_now
returns-else-goes_now c =
    slot-stays c.args.place c.args.oldest c.args.slot c.args.disk.now c.args.session.now (sym c.goes_now.ensures ∙ c.if-goes_now.false)
