-- `lines::parts::field` is the part that `split` gives at the place, or no bytes. Assumes nothing.
use Rattle.std.specs.Prelude.{eqb}
use Rattle.std.specs.Option.{option_map, unwrap_or}
use Rattle.std.proofs.Common.{◌≡◌, refl, rules, ap, ◌∙◌, Option, Some, None, Bor, List, [], ℕ}
use Rattle.std.proofs.lemmas.Iterator.Consumers.{nth_from_yields_List}
use Rattle.std.proofs.lemmas.Iterator.Splits.{YieldsList-from_slice_split}
use Rattle.std.proofs.lemmas.Option.{unwrap_or-slice_get}
use Rattle.lines.proofs.Splits.{fields_split}
use Rattle.lines.proofs.parts.field.Goals as goal

now_or : (r : Option (Bor (List ℕ))) (d : Bor (List ℕ)) → (unwrap_or r d).now ≡ unwrap_or (option_map (λ x. x.now) r) d.now
now_or (Some x) d = refl
now_or None d = refl

pub returns : goal.returns
returns c =
    let line = c.args.line.now in
    let found =
    nth_from_yields_List c.nth.result c.nth.new.self c.args.k c.nth.ensures.ran
    (YieldsList-from_slice_split _ (λ b. eqb b 9) line c.split.ensures.rest c.split.ensures.done c.split.ensures.closure (λ x b q k. search rules))
    in
    rw (c.unwrap_or.ensures, fields_split line)
    (now_or c.nth.result _ ∙ ap (λ (o : Option (List ℕ)). unwrap_or o []) found ∙ unwrap_or-slice_get _ c.args.k [])
