-- `cut_tape` leaves `cut_tape`: the file size is the one in the handle's row. Assumes nothing.
use Rattle.std.proofs.Common.{◌≡◌, sym, ◌∙◌, rules, arith}
use Rattle.disk.specs.StepLaws.{directory-low}
use Rattle.layout.specs.Session.{file_size_of}
use Rattle.session.specs.RowLaws.{handle-size}
use Rattle.ending.specs.Steps.{cut_tape}
use Rattle.ending.specs.StepLaws.{touched-size}
use Rattle.ending.proofs.steps.cut_tape.Goals as goal

pub file_of-first-requires : goal.file_of-first-requires
file_of-first-requires c =
    let s = c.args.session.now in
    let p = c.args.tape in
    let size : c.get_handle-handle.result.file_size ≡ file_size_of s p = handle-size s p c.get_handle-handle.result c.get_handle-handle.ensures in
    let some = touched-size s p c.requires.0.1 c.requires.1 (sym c.is_touched.ensures ∙ c.if-not-is_touched.false) in
    omega arith

pub retrack-requires : goal.retrack-requires
retrack-requires c =
    let long = c.requires.0.1.long in
    let same = c.cut_ring.auto.session in
    ((c.requires.0.0, omega arith), directory-low c.args.disk.now _ c.in-Some.place (sym c.directory_of-directory.ensures ∙ c.in-Some.is))

pub returns-in-Some : goal.returns-in-Some
unfolding cut_tape
returns-in-Some c =
    let size : file_size_of c.args.session.now c.args.tape ≡ c.get_handle-handle.result.file_size = sym (handle-size c.args.session.now c.args.tape c.get_handle-handle.result c.get_handle-handle.ensures) in
    search rules
