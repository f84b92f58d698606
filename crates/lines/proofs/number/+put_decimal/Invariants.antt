-- `lines::number::put_decimal` calls itself for the digits in front of the last. The measure is the number. Assumes nothing.
use Rattle.lines.proofs.number.+put_decimal.Given as goal

abbrev pub decreases-put_decimal : goal.decreases-put_decimal
decreases-put_decimal l = l.n
