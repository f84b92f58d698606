-- `flush_tape` leaves `flush_tape`: what the flush asks of a tape that was touched. Assumes nothing.
use Rattle.std.proofs.Common.{◌≡◌, sym, ◌∙◌, true}
use Rattle.disk.specs.StepLaws.{directory-low}
use Rattle.ending.specs.Listing.{is_touched}
use Rattle.ending.specs.StepLaws.{touched-held, staged-pending}
use Rattle.ending.proofs.steps.flush_tape.Goals as goal

pub flush-requires : goal.flush-requires
flush-requires c =
    let s = c.args.session.now in
    let p = c.args.tape in
    let t : is_touched s p ≡ true = sym c.is_touched.ensures ∙ c.if-not-is_touched.false in
    let pending = staged-pending s p c.requires.0.1 c.requires.1 t in
    ((c.requires.0, (directory-low c.args.disk.now _ c.in-Some.place (sym c.directory_of.ensures ∙ c.in-Some.is), c.requires.1)), (touched-held s p t, rw c.get_staged-row.ensures pending))
