-- `is_staged` is `is_staged`: each way out is its law. Assumes nothing.
use Rattle.std.proofs.Common.{◌≡◌, sym, ◌∙◌, true, false, eqb}
use borrow.Author.Tests.{eqb-true, eqb-false}
use Rattle.appending.specs.Room.{place_of}
use Rattle.appending.specs.RoomWays.{staged-closed, staged-to, staged-other, to_tape}
use Rattle.appending.proofs.room.is_staged.Goals as goal

pub returns-then-get_handle-eq0 : goal.returns-then-get_handle-eq0
returns-then-get_handle-eq0 c =
    sym (staged-closed c.args.session.now (place_of c.args.to) c.args.tape c.get_handle.result c.get_handle.ensures c.if-get_handle-eq0.true)

pub returns-then-eq : goal.returns-then-eq
returns-then-eq c =
    let here : eqb c.args.tape (place_of c.args.to) ≡ true = sym (c.eq.ensures ∙ to_tape c.args.to c.args.tape c.requires.1) ∙ c.if-eq.true in
    c.if-eq.true ∙ sym (staged-to c.args.session.now (place_of c.args.to) c.args.tape c.get_handle.result c.get_handle.ensures c.if-get_handle-eq0.false (eqb-true c.args.tape (place_of c.args.to) here))

pub returns-else-eq : goal.returns-else-eq
returns-else-eq c =
    let other : eqb c.args.tape (place_of c.args.to) ≡ false = sym (c.eq.ensures ∙ to_tape c.args.to c.args.tape c.requires.1) ∙ c.if-eq.false in
    sym (staged-other c.args.session.now (place_of c.args.to) c.args.tape c.get_handle.result c.get_handle.ensures c.if-get_handle-eq0.false (eqb-false c.args.tape (place_of c.args.to) other) c.get_staged.result c.get_staged.ensures)
