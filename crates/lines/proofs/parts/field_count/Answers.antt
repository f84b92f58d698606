use Rattle.std.proofs.Common.{rules, sym, ◌∙◌, length, ap}
use Rattle.std.proofs.lemmas.Iterator.Consumers.{count_from_yields_List}
use Rattle.std.proofs.lemmas.Iterator.Splits.{YieldsList-from_slice_split}
use Rattle.std.specs.Prelude.{eqb}
use Rattle.lines.proofs.Splits.{fields_split}
use Rattle.lines.proofs.parts.field_count.Goals as goal

pub returns : goal.returns
returns c =
    count_from_yields_List c.split.result c.count.result c.count.ensures.ran
    (YieldsList-from_slice_split _ (λ b. eqb b 9) c.args.line.now c.split.ensures.rest c.split.ensures.done c.split.ensures.closure (λ x b q k. search rules))
    ∙ sym (ap length (fields_split c.args.line.now))
