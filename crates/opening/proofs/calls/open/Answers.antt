-- `open` is `open_call`: a tape that was found has a place below eight. Assumes nothing.
use Rattle.std.proofs.Common.{sym, ◌∙◌}
use Rattle.layout.specs.Session.{names_at}
use Rattle.layout.specs.NamesLaws.{name-low}
use Rattle.opening.proofs.calls.open.Goals as goal

pub view_found-view-requires : goal.view_found-view-requires
view_found-view-requires c =
    (c.in_ok-check_usable.ensures.served.1, λ p e. name-low c.args.session.now names_at c.args.name.now p (sym c.find_tape-tape.ensures ∙ e))

pub open_on-requires : goal.open_on-requires
open_on-requires c =
    (c.in_ok-check_usable.ensures.served, λ p e. name-low c.args.session.now names_at c.args.name.now p (sym c.find_tape-tape.ensures ∙ e))
