use Rattle.std.specs.Prelude.{None}
use Rattle.std.proofs.Common.{◌≡◌, sym, ◌∙◌, List, ℕ, ◌+◌, ◌-◌, ◌*◌, ◌<◌, arith, length, drop, get_or}
use Rattle.lines.specs.Numbers.{value_from, number_of}
use Rattle.lines.specs.NumberLaws.{digits_step, digits-stop, digits-end, value-step, value-end, value_grows, number-none, number-other, number-large, number_read}
use Rattle.lines.proofs.number.parse_number.Goals as goal

-- one digit more would pass 2^64-1, and the digits behind it make the number no smaller
overflows : (s : List ℕ) (i n : ℕ) → i < length s → value_from n (drop i s) ≡ value_from 0 s → 18446744073709551615 < n * 10 + (get_or s i 0 - 48) → number_of s ≡ None
overflows s i n more whole large =
    let grows = value_grows (n * 10 + (get_or s i 0 - 48)) (drop (i + 1) s) in
    number-large s (omega (arith, grows, value-step s i more n, whole))

pub returns-then-is_empty : goal.returns-then-is_empty
returns-then-is_empty c =
    sym (number-none c.args.s.now (grind (arith, c.if-is_empty.ensures)))

pub returns-then-not-is_ascii_digit : goal.returns-then-not-is_ascii_digit
returns-then-not-is_ascii_digit c =
    let s = c.args.s.now in
    let other = digits-stop s c.loop-b.b-index (omega arith) (sym c.is_ascii_digit.ensures.value ∙ c.if-not-is_ascii_digit.true) in
    sym (number-other s (sym c.loop-b.invariant.1 ∙ other))

pub returns-in_err-checked_mul : goal.returns-in_err-checked_mul
returns-in_err-checked_mul c =
    c.from_residual.ensures
    ∙ sym (overflows c.args.s.now c.loop-b.b-index c.loop-b.n (omega arith) c.loop-b.invariant.2 (omega (arith, c.in_err-checked_mul.ensures)))

pub returns-in_err-n : goal.returns-in_err-n
returns-in_err-n c =
    c.from_residual-in_err-n.ensures
    ∙ sym
    (overflows c.args.s.now c.loop-b.b-index c.loop-b.n (omega arith) c.loop-b.invariant.2
    (omega (arith, c.in_err-n.ensures, c.from.ensures, c.in_ok-checked_mul.ensures)))

pub loop-b-preserved : goal.loop-b-preserved
loop-b-preserved c =
    let s = c.args.s.now in
    let i = c.loop-b.b-index in
    let more : i < length s = omega arith in
    let next : c.in_ok-n.n ≡ c.loop-b.n * 10 + (get_or s i 0 - 48) = omega (arith, c.in_ok-n.ensures, c.from.ensures, c.in_ok-checked_mul.ensures) in (
      omega (arith, c.in_ok-n.ensures),
      sym (digits_step s i more (sym c.is_ascii_digit.ensures.value ∙ c.if-not-is_ascii_digit.false)) ∙ c.loop-b.invariant.1,
      rw next (sym (value-step s i more c.loop-b.n) ∙ c.loop-b.invariant.2),
    )

pub returns : goal.returns
returns c =
    let s = c.args.s.now in
    sym
    (number_read s c.loop-b.n (grind (arith, c.if-is_empty.ensures))
    (sym c.loop-b.invariant.1 ∙ digits-end s c.loop-b.b-index (omega arith))
    (sym c.loop-b.invariant.2 ∙ value-end s c.loop-b.b-index c.loop-b.n (omega arith))
    c.loop-b.invariant.0)
