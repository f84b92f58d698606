use Rattle.std.proofs.Common.{◌≡◌, sym, ap, ◌∙◌, true, false, ◌&&◌, leb, arith, get_or, take}
use borrow.Author.Tests.{le-leb, lt-leb}
use Rattle.octets.specs.Cases.{and_both}
use Rattle.metadata.specs.Tapes.{Tape, fits}
use Rattle.metadata.specs.Struct.{meaning}
use Rattle.metadata.proofs.Turns.{none, storable-few, storable-end, storable-go, storable-stop}
use Rattle.metadata.proofs.encode.is_storable.Goals as goal

pub returns-then-t-gt-MOST_LETTERS : goal.returns-then-t-gt-MOST_LETTERS
returns-then-t-gt-MOST_LETTERS c =
    let ts = take c.args.list.count c.args.list.tapes in
    let t = get_or ts c.loop-t.t-index none in
    let long : leb t.letters 24 ≡ false = lt-leb t.letters 24 (omega arith) in
    let test : (leb t.letters 24 && fits c.loop-t.before.now (meaning t)) ≡ false = rw long in
    sym (storable-few c.args.list (omega arith) ∙ sym c.loop-t.invariant ∙ storable-stop ts c.loop-t.t-index c.loop-t.before.now none (omega arith) test)

pub returns-then-not-may_follow : goal.returns-then-not-may_follow
returns-then-not-may_follow c =
    let ts = take c.args.list.count c.args.list.tapes in
    let t = get_or ts c.loop-t.t-index none in
    let short : leb t.letters 24 ≡ true = le-leb t.letters 24 (omega arith) in
    let no : fits c.loop-t.before.now (meaning t) ≡ false = ap (fits c.loop-t.before.now) (sym c.view-t.ensures) ∙ sym c.may_follow.ensures ∙ c.if-not-may_follow.true in
    let test : (leb t.letters 24 && fits c.loop-t.before.now (meaning t)) ≡ false = rw (short, no) in
    sym (storable-few c.args.list (omega arith) ∙ sym c.loop-t.invariant ∙ storable-stop ts c.loop-t.t-index c.loop-t.before.now none (omega arith) test)

pub loop-t-preserved : goal.loop-t-preserved
loop-t-preserved c =
    let ts = take c.args.list.count c.args.list.tapes in
    let t = get_or ts c.loop-t.t-index none in
    let before = c.loop-t.before.now in
    let yes : fits before (meaning t) ≡ true = ap (fits before) (sym c.view-t.ensures) ∙ sym c.may_follow.ensures ∙ c.if-not-may_follow.false in
    let test = and_both (leb t.letters 24) (fits before (meaning t)) (le-leb t.letters 24 (omega arith)) yes in
    let name = ap (λ (u : Tape). u.name) c.view-t.ensures in
    rw name (sym (storable-go ts c.loop-t.t-index before none (omega arith) test) ∙ c.loop-t.invariant)

pub returns : goal.returns
returns c =
    sym
    (storable-few c.args.list (omega arith)
    ∙ sym c.loop-t.invariant
    ∙ storable-end (take c.args.list.count c.args.list.tapes) c.loop-t.t-index c.loop-t.before.now (omega arith))
