-- `write_through` leaves `wrote`: what is covered stays sound, and is then written. Assumes nothing.
use Rattle.std.proofs.Common.{length, ◌≡◌, ap, arith}
use Rattle.layout.specs.Disk.{Sound}
use Rattle.rolling_tape.specs.Removal.{Areas, areas}
use Rattle.rolling_tape.specs.Writing.{write_run}
use Rattle.cached_tape.specs.Flushing.{cover_run, wrote}
use Rattle.cached_tape.specs.FlushLaws.{sound-cover_run}
use Rattle.cached_tape.proofs.flushing.write_through.Goals as goal

pub write_run-requires : goal.write_run-requires
write_run-requires c =
    let a = areas c.args.disk.now c.args.session.now in
    let n = length c.args.src.now in
    let t = c.cover_run.new.disk in
    let e : cover_run a c.args.place c.args.file_size c.args.offset n ≡ areas t c.cover_run.new.session = c.cover_run.ensures in
    let same : (cover_run a c.args.place c.args.file_size c.args.offset n).disk ≡ t = ap (λ (x : Areas). x.disk) e in
    let kept = sound-cover_run a c.args.place c.args.file_size c.args.offset n c.requires.0.0 c.requires.1.0 c.requires.1.1.0.0 (omega arith) in
    let sound : Sound t = rw same at kept in
    ((sound, c.requires.1.0), (c.requires.1.1.0, omega arith))

pub returns : goal.returns
unfolding wrote
returns c =
    let t = c.cover_run.new.disk in
    let u = c.cover_run.new.session in
    let e : cover_run (areas c.args.disk.now c.args.session.now) c.args.place c.args.file_size c.args.offset (length c.args.src.now) ≡ areas t u
    = c.cover_run.ensures in
    let w : c.write_run.new.disk ≡ write_run t c.args.place c.args.file_size c.args.offset c.args.src.now = c.write_run.ensures in
    rw (e, w)
