-- `lines::number::parse_number` answers `number_of`. The loop's invariant: what the bytes that are left say behind the number so far is what all of them say.
-- Assumes nothing.
use Rattle.std.proofs.Common.{◌≡◌, ◌≤◌, drop}
use Rattle.lines.specs.Numbers.{all_digits, value_from}
use Rattle.lines.proofs.number.parse_number.Given as goal

abbrev pub invariant-loop-b : goal.invariant-loop-b
invariant-loop-b l =
    (l.n ≤ 18446744073709551615) × (all_digits (drop l.b-index l.s) ≡ all_digits l.s) × (value_from l.n (drop l.b-index l.s) ≡ value_from 0 l.s)
