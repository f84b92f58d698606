use Rattle.std.proofs.Common.{◌≡◌, sym, ◌∙◌, ◌+◌, ◌*◌, arith}
use Rattle.lines.specs.HexLaws.{digits-turn, digits-done, length-hex}
use Rattle.lines.proofs.hexadecimal.put_hex.Goals as goal

pub loop-i-preserved : goal.loop-i-preserved
loop-i-preserved c =
    let end : c.args.at + (c.loop-i.i + 1) * 2 ≡ c.args.at + c.loop-i.i * 2 + 2 = omega arith in
    rw (end, c.hex_digit.ensures, c.hex_digit-in-loop-i.ensures)
    (sym (digits-turn c.loop-i.out c.args.bytes.now c.loop-i.i (c.args.at + c.loop-i.i * 2) (omega arith)) ∙ c.loop-i.invariant)

pub returns : goal.returns
returns c = (
  omega (arith, length-hex c.args.bytes.now),
  sym (digits-done c.loop-i.out c.args.bytes.now c.loop-i.i (c.args.at + c.loop-i.i * 2) (omega arith)) ∙ c.loop-i.invariant,
)
