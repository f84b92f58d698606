-- `can_serve` answers `can_serve`: the files have to have what lies below the cache. Assumes nothing.
use Rattle.std.proofs.Common.{◌≡◌, ◌∙◌, arith}
use Rattle.layout.specs.Session.{file_size_of}
use Rattle.cached_tape.specs.Serving.{can_serve}
use Rattle.session.specs.RowLaws.{handle-size}
use Rattle.cached_tape.proofs.serving.can_serve.Goals as goal

pub can_read-requires : goal.can_read-requires
can_read-requires c =
    let s = c.args.session.now in
    let size : c.get_handle-file_size.result.file_size ≡ file_size_of s c.args.tape = handle-size s c.args.tape c.get_handle-file_size.result c.get_handle-file_size.ensures in
    let fits = c.requires.0.1.tapes c.args.tape c.requires.1.0.0 c.requires.1.0.1 in
    let below = c.below_cache-files.ensures in
    ((c.requires.0.0, c.requires.0.1.long), ((omega arith, omega arith), omega arith))

pub returns : goal.returns
unfolding can_serve
returns c =
    let s = c.args.session.now in
    let size : c.get_handle-file_size.result.file_size ≡ file_size_of s c.args.tape = handle-size s c.args.tape c.get_handle-file_size.result c.get_handle-file_size.ensures in
    c.can_read.ensures ∙ rw (size, c.tape_name-name.ensures, c.below_cache-files.ensures)
