-- `make_tracked` leaves `make_tracked`: the slot that `make_file` answers is tracked on the disk as it then is. Assumes nothing.
use Rattle.std.specs.Prelude.{Option, Some, None}
use Rattle.std.proofs.Common.{◌≡◌, sym, ap, ◌∙◌, Bool, List, ℕ, ◌<◌, arith}
use Rattle.layout.specs.Disk.{Sound, slots}
use Rattle.disk.specs.Steps.{after, make_file}
use Rattle.rolling_tape.specs.Removal.{areas}
use Rattle.rolling_tape.specs.Room.{on_disk}
use Rattle.rolling_tape.specs.Writing.{track_file}
use Rattle.rolling_tape.specs.WritingWays.{slot-made, sound-made, tracked-made, tracked-full}
use Rattle.rolling_tape.proofs.writing.make_tracked.Goals as goal

pub returns-in_default : goal.returns-in_default
returns-in_default c =
    let t = c.make_file.new.disk in
    let e : make_file c.args.disk.now c.args.place c.args.number ≡ after None t = c.make_file.ensures ∙ ap (λ (r : Option ℕ). after r t) c.in_default.is in
    tracked-full c.args.disk.now c.args.session.now c.args.place c.args.number t e

pub track_file-requires : goal.track_file-requires
track_file-requires c =
    let t = c.make_file.new.disk in
    let e : make_file c.args.disk.now c.args.place c.args.number ≡ after (Some c.in-Some.slot) t = c.make_file.ensures ∙ ap (λ (r : Option ℕ). after r t) c.in-Some.is in
    let sound : Sound t = sound-made c.args.disk.now c.args.place c.args.number (Some c.in-Some.slot) t e c.requires.0.0 c.requires.1 (omega arith) in
    let low : c.in-Some.slot < slots t = slot-made c.args.disk.now c.args.place c.args.number c.in-Some.slot t e in
    ((sound, c.requires.0.1), (c.requires.1, low))

pub returns : goal.returns
returns c =
    let t = c.make_file.new.disk in
    let e : make_file c.args.disk.now c.args.place c.args.number ≡ after (Some c.in-Some.slot) t = c.make_file.ensures ∙ ap (λ (r : Option ℕ). after r t) c.in-Some.is in
    let there : c.has_file-there.result ≡ on_disk c.args.disk.now c.args.place c.args.number = c.has_file-there.ensures in
    let kept : c.track_file.new.session ≡ track_file t c.args.session.now c.args.place c.args.number (on_disk c.args.disk.now c.args.place c.args.number) c.in-Some.slot
    = c.track_file.ensures ∙ ap (λ (b : Bool). track_file t c.args.session.now c.args.place c.args.number b c.in-Some.slot) there in
    tracked-made c.args.disk.now c.args.session.now c.args.place c.args.number t c.in-Some.slot e ∙ ap (λ (s : List ℕ). areas t s) (sym kept)
