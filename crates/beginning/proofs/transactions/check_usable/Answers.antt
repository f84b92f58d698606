-- Areas that are usable keep both layout rules. Assumes nothing.
use Rattle.std.proofs.Common.{◌≡◌, sym, ◌∙◌, true}
use Rattle.beginning.specs.Transactions.{usable}
use Rattle.beginning.specs.Ways.{usable-disk, usable-begun}
use Rattle.beginning.proofs.transactions.check_usable.Goals as goal

pub returns-clause-served : goal.returns-clause-served
returns-clause-served c =
    let ok : usable c.args.disk.now c.args.session.now ≡ true = sym c.is_usable.ensures ∙ c.if-not-is_usable.false in
    (usable-disk c.args.disk.now c.args.session.now ok, usable-begun c.args.disk.now c.args.session.now ok)
