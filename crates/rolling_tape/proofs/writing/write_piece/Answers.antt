-- `write_piece` leaves `write_piece`: what the search finds decides. Assumes nothing.
use Rattle.std.proofs.Common.{sym, ◌∙◌, ◌<◌}
use Rattle.layout.specs.Disk.{slots}
use Rattle.disk.specs.StepLaws.{find-low}
use Rattle.rolling_tape.specs.WritingWays.{write-found, write-nothing}
use Rattle.rolling_tape.proofs.writing.write_piece.Goals as goal

pub returns-in_default : goal.returns-in_default
returns-in_default c =
    sym (write-nothing c.args.disk.now c.args.place c.args.number c.args.at c.args.src.now (sym c.find_in.ensures ∙ c.in_default.is))

pub write_at-requires : goal.write_at-requires
write_at-requires c =
    let low : c.in-Some.slot < slots c.args.disk.now = find-low c.args.disk.now c.args.place c.args.number c.in-Some.slot (sym c.find_in.ensures ∙ c.in-Some.is) in
    ((c.requires.0.0, low), c.requires.1)

pub returns : goal.returns
returns c =
    c.write_at.ensures
    ∙ sym (write-found c.args.disk.now c.args.place c.args.number c.args.at c.args.src.now c.in-Some.slot (sym c.find_in.ensures ∙ c.in-Some.is))
