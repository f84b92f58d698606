-- `components::bounds::in_bounds` is `in_bounds`: behind the index's test the product is at most the length, and so fits. Assumes nothing.
use Rattle.std.proofs.Common.{◌≡◌, sym, ◌∙◌, true, false, ◌*◌, arith}
use Rattle.std.proofs.lemmas.Bool.{lt-leb}
use Rattle.components.specs.Bounds.{up_to}
use Rattle.components.specs.BoundsLaws.{up_to-true, out-index, out_below, in-bounds-code}
use Rattle.components.proofs.bounds.in_bounds.Goals as goal

pub returns-then-not-up_to : goal.returns-then-not-up_to
returns-then-not-up_to c =
    let e : up_to c.args.entry c.args.index c.args.len ≡ false = sym c.up_to.ensures ∙ c.if-not-up_to.true in
    sym (out-index c.args.entry c.args.start c.args.len c.args.index c.args.count e)

pub overflow_mul-offset : goal.overflow_mul-offset
overflow_mul-offset c =
    let e : up_to c.args.entry c.args.index c.args.len ≡ true = sym c.up_to.ensures ∙ c.if-not-up_to.false in
    omega (arith, up_to-true c.args.entry c.args.index c.args.len e)

pub overflow_sub-result : goal.overflow_sub-result
overflow_sub-result c =
    let e : up_to c.args.entry c.args.index c.args.len ≡ true = sym c.up_to.ensures ∙ c.if-not-up_to.false in
    omega (arith, up_to-true c.args.entry c.args.index c.args.len e)

pub returns-then-start-offset : goal.returns-then-start-offset
returns-then-start-offset c =
    let e : up_to c.args.entry c.args.index c.args.len ≡ true = sym c.up_to.ensures ∙ c.if-not-up_to.false in
    in-bounds-code c.args.entry c.args.start c.args.len c.args.index c.args.count c.requires c.if-start-offset.true
    (up_to-true c.args.entry c.args.index c.args.len e)

pub returns-else-start-offset : goal.returns-else-start-offset
returns-else-start-offset c =
    lt-leb c.args.start (c.args.index * c.args.entry) c.if-start-offset.false
    ∙ sym (out_below c.args.entry c.args.start c.args.len c.args.index c.args.count c.if-start-offset.false)
