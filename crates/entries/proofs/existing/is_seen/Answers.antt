-- The place of a name is a tape's. Assumes nothing.
use Rattle.std.proofs.Common.{sym, ◌∙◌, arith}
use Rattle.layout.specs.Session.{names_at}
use Rattle.layout.specs.NamesLaws.{name-low}
use Rattle.entries.proofs.existing.is_seen.Goals as goal

pub seen_by-requires : goal.seen_by-requires
seen_by-requires c =
    (c.requires.long, (omega arith, name-low c.args.session.now names_at c.args.name.now c.in-Some.tape (sym c.find_tape.ensures ∙ c.in-Some.is)))
