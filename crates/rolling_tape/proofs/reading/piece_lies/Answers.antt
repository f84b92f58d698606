-- `piece_lies` answers `piece_lies`: each way out is a law's. Assumes nothing.
use Rattle.std.proofs.Common.{sym, ap, ◌∙◌, rules, leb}
use Rattle.disk.specs.Ways.{entry-len}
use Rattle.rolling_tape.specs.ReadingWays.{file-low, lies-none, lies-not, lies-up-to}
use Rattle.rolling_tape.proofs.reading.piece_lies.Goals as goal

pub returns-in_default : goal.returns-in_default
returns-in_default c =
    sym (lies-none c.args.disk.now c.args.session.now c.args.only_tracked c.args.tape.now c.args.number c.args.end (sym c.find_file.ensures ∙ c.in_default.is))

pub may_read-requires : goal.may_read-requires
may_read-requires c =
    let few = c.requires.0.head.few in
    let low = file-low c.args.disk.now c.args.tape.now c.args.number c.in-Some.slot (sym c.find_file.ensures ∙ c.in-Some.is) in
    search rules

pub get_entry-requires : goal.get_entry-requires
get_entry-requires c =
    let low = file-low c.args.disk.now c.args.tape.now c.args.number c.in-Some.slot (sym c.find_file.ensures ∙ c.in-Some.is) in
    search rules

pub returns-then-may_read : goal.returns-then-may_read
returns-then-may_read c =
    let d = c.args.disk.now in
    let met = sym c.find_file.ensures ∙ c.in-Some.is in
    let may = sym c.may_read.ensures ∙ c.if-may_read.true in
    ap (leb c.args.end) (entry-len d c.in-Some.slot _ c.get_entry.ensures)
    ∙ sym (lies-up-to d c.args.session.now c.args.only_tracked c.args.tape.now c.args.number c.args.end c.in-Some.slot met may)

pub returns-else-may_read : goal.returns-else-may_read
returns-else-may_read c =
    let met = sym c.find_file.ensures ∙ c.in-Some.is in
    let not = sym c.may_read.ensures ∙ c.if-may_read.false in
    c.if-may_read.false
    ∙ sym (lies-not c.args.disk.now c.args.session.now c.args.only_tracked c.args.tape.now c.args.number c.args.end c.in-Some.slot met not)
