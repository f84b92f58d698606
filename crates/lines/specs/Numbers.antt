-- Document 01, "The driver": "Numbers are decimal, at most 2^64-1". Leading zeros are read, however many, and never printed. Assumes nothing.
use Rattle.std.specs.Prelude.{Bool, true, cond, Option, Some, None, ◌&&◌, List, [], ◌∷◌, ◌++◌, ℕ, zero, suc, ◌+◌, ◌-◌, ◌*◌, ◌/◌, ◌%◌, leb, ltb, length}

-- `0` to `9`
abbrev pub is_digit : ℕ → Bool
is_digit b = leb 48 b && leb b 57

unfoldable pub all_digits : List ℕ → Bool
all_digits [] = true
all_digits (b ∷ s) = is_digit b && all_digits s

-- n, with the digits of s behind its own
unfoldable pub value_from : ℕ → List ℕ → ℕ
value_from n [] = n
value_from n (b ∷ s) = value_from (n * 10 + (b - 48)) s

-- at least one byte, digits alone, at most 2^64-1
unfoldable pub number_of : List ℕ → Option ℕ
number_of s =
    cond (leb 1 (length s) && (all_digits s && leb (value_from 0 s) 18446744073709551615))
    (Some (value_from 0 s))
    None

-- the last k digits of n, fewer where those in front are zeros
unfoldable pub decimal_in : ℕ → ℕ → List ℕ
decimal_in zero n = []
decimal_in (suc k) n = cond (ltb n 10) ((48 + n) ∷ []) (decimal_in k (n / 10) ++ ((48 + n % 10) ∷ []))

-- a number below 2^64 has at most 20 digits
unfoldable pub decimal_of : ℕ → List ℕ
decimal_of n = decimal_in 20 n
