-- `track_file` leaves `track_file`: a tracked file is left, another comes after the change of those above. Assumes nothing.
use Rattle.std.proofs.Common.{◌≡◌, sym, ap, ◌∙◌, true, false, List, ℕ}
use Rattle.session.specs.Rows.{put_tracking}
use Rattle.session.specs.declared.tracking.Tracking.TheVariants.{Tracked}
use Rattle.rolling_tape.specs.declared.tracking.Change.TheVariants.{UntrackAbove}
use Rattle.rolling_tape.specs.Tracking.{retracked}
use Rattle.rolling_tape.specs.Writing.{was_tracked}
use Rattle.rolling_tape.specs.WritingWays.{track-kept, track-new}
use Rattle.rolling_tape.proofs.writing.track_file.Goals as goal

pub returns-then-was_tracked : goal.returns-then-was_tracked
returns-then-was_tracked c =
    let s = c.args.session.now in
    let told : was_tracked s c.args.there c.args.slot ≡ true = sym c.was_tracked.ensures ∙ c.if-was_tracked.true in
    sym (track-kept c.args.disk.now s c.args.place c.args.number c.args.there c.args.slot told)

pub returns : goal.returns
returns c =
    let s = c.args.session.now in
    let told : was_tracked s c.args.there c.args.slot ≡ false = sym c.was_tracked.ensures ∙ c.if-was_tracked.false in
    let above : c.retrack.new.session ≡ retracked c.args.disk.now s c.args.place (UntrackAbove c.args.number) = c.retrack.ensures in
    c.put_tracking.ensures
    ∙ ap (λ (t : List ℕ). put_tracking t c.args.slot Tracked) above
    ∙ sym (track-new c.args.disk.now s c.args.place c.args.number c.args.there c.args.slot told)
