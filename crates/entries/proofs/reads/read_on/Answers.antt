-- What lies in bounds has products and a sum that fit. Assumes nothing.
use Rattle.std.proofs.Common.{length, ◌≡◌, sym, ◌∙◌, ◌+◌, ◌*◌, ◌≤◌, arith}
use Rattle.components.specs.BoundsLaws.{in-bounds-is}
use Rattle.layout.specs.Session.{entry_size_of}
use Rattle.session.specs.RowLaws.{handle-entry}
use Rattle.entries.proofs.reads.read_on.Goals as goal

pub overflow_mul-count : goal.overflow_mul-count
overflow_mul-count c =
    let v = c.in_ok-view.view in
    let e = c.get_handle-entry.result.entry in
    let within : c.args.index * e + c.args.count * e ≤ v.len = (in-bounds-is e v.start v.len c.args.index c.args.count (sym c.in_bounds.ensures ∙ c.if-not-in_bounds.false)).1 in
    omega arith

pub serve_on-requires : goal.serve_on-requires
serve_on-requires c =
    let v = c.in_ok-view.view in
    let e = c.get_handle-entry.result.entry in
    let size : e ≡ entry_size_of c.args.session.now c.args.tape = handle-entry c.args.session.now c.args.tape c.get_handle-entry.result c.get_handle-entry.ensures in
    let within : c.args.index * e + c.args.count * e ≤ v.len = (in-bounds-is e v.start v.len c.args.index c.args.count (sym c.in_bounds.ensures ∙ c.if-not-in_bounds.false)).1 in
    let room : c.args.count * e ≤ length c.args.out.now = c.if-out-count.false in
    ((c.requires.0.0, c.requires.1), (rw (← size) (omega arith), rw (← size) room))
