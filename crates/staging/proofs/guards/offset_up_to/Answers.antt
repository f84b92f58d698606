-- An index that is not past the length has a product that fits. Assumes nothing.
use Rattle.std.proofs.Common.{sym, ◌∙◌, ◌*◌, ◌≤◌, arith}
use Rattle.components.specs.BoundsLaws.{up_to-true}
use Rattle.staging.proofs.guards.offset_up_to.Goals as goal

pub overflow_mul-result : goal.overflow_mul-result
overflow_mul-result c =
    let within : c.args.index * c.get_handle-entry.result.entry ≤ c.in_ok-view.view.len = up_to-true c.get_handle-entry.result.entry c.args.index c.in_ok-view.view.len (sym c.up_to.ensures ∙ c.if-not-up_to.false) in
    omega arith
