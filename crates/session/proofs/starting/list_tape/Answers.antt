-- `list_tape` puts a tape's name and its row of the list: a name's letters never go past its array. Assumes nothing.
use Rattle.std.proofs.Common.{◌≡◌, ap, ◌∙◌, ℕ, arith, rules, length, take, length-take}
use Rattle.session.specs.Begin.{listed}
use Rattle.session.specs.Ways.{take_min}
use Rattle.session.proofs.starting.list_tape.Goals as goal

pub put_tape_name-requires : goal.put_tape_name-requires
put_tape_name-requires c =
    let short = length-take c.min-letters.result c.args.tape.name in
    ((search rules, search rules), omega arith)

pub returns : goal.returns
unfolding listed
returns c =
    let long : length c.args.tape.name ≡ 24 = search rules in
    let whole : take c.min-letters.result c.args.tape.name ≡ take c.args.tape.letters c.args.tape.name
    = ap (λ (k : ℕ). take k c.args.tape.name) c.min-letters.ensures ∙ take_min c.args.tape.letters 24 c.args.tape.name long in
    c.put_view.ensures ∙ rw (c.put_tape_name.ensures, whole)
