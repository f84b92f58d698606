-- `cover_run` leaves `cover_run`: no file number passes the run's end. Assumes nothing.
use Rattle.std.proofs.Common.{◌≡◌, sym, ◌+◌, arith}
use Rattle.components.specs.Pieces.{file_of}
use Rattle.components.specs.Slots.{covered as files_covered}
use Rattle.cached_tape.specs.Flushing.{cover_run}
use Rattle.cached_tape.specs.FlushLaws.{files-fit}
use Rattle.cached_tape.proofs.flushing.cover_run.Goals as goal

pub cover-requires : goal.cover-requires
cover-requires c =
    let first : c.file_of-first.result ≡ file_of c.args.file_size c.args.offset = c.file_of-first.ensures in
    let files : c.files_covered-files.result ≡ files_covered c.args.file_size c.args.offset (c.args.offset + c.args.count)
    = c.files_covered-files.ensures in
    let fit = files-fit c.args.file_size c.args.offset c.args.count c.requires.1.1.0 (omega arith) in
    (c.requires.0, (c.requires.1.0, omega arith))

pub returns : goal.returns
unfolding cover_run
returns c =
    let first : c.file_of-first.result ≡ file_of c.args.file_size c.args.offset
    = c.file_of-first.ensures in
    let files : c.files_covered-files.result ≡ files_covered c.args.file_size c.args.offset (c.args.offset + c.args.count)
    = c.files_covered-files.ensures in
    rw (sym first, sym files) c.cover.ensures
