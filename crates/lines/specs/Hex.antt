-- Document 01, "The driver": "hex is lower case", two digits a byte. Assumes nothing.
use Rattle.std.specs.Prelude.{Bool, true, false, cond, ◌&&◌, ◌||◌, List, [], ◌∷◌, ℕ, ◌+◌, ◌-◌, ◌*◌, ◌/◌, ◌%◌, leb, ltb, Option, Some, None}

-- `0` to `9` and `a` to `f`
unfoldable pub is_hex_digit : ℕ → Bool
is_hex_digit b = (leb 48 b && leb b 57) || (leb 97 b && leb b 102)

-- what a digit counts; 0 for a byte that is none
unfoldable pub hex_value : ℕ → ℕ
hex_value b = cond (leb 48 b && leb b 57) (b - 48) (cond (leb 97 b && leb b 102) (b - 97 + 10) 0)

-- the digit of a number below 16
unfoldable pub hex_digit : ℕ → ℕ
hex_digit d = cond (ltb d 10) (48 + d) (97 + (d - 10))

-- the hex of some bytes
unfoldable pub hex_of : List ℕ → List ℕ
hex_of [] = []
hex_of (b ∷ bs) = hex_digit (b / 16) ∷ hex_digit (b % 16) ∷ hex_of bs

-- pairs of digits, and nothing over
unfoldable pub is_hex : List ℕ → Bool
is_hex [] = true
is_hex (a ∷ []) = false
is_hex (a ∷ b ∷ s) = is_hex_digit a && (is_hex_digit b && is_hex s)

-- the byte of each pair
unfoldable pub hex_bytes : List ℕ → List ℕ
hex_bytes [] = []
hex_bytes (a ∷ []) = []
hex_bytes (a ∷ b ∷ s) = (hex_value a * 16 + hex_value b) ∷ hex_bytes s

-- what a text says, if it is hex
unfoldable pub bytes_of_hex : List ℕ → Option (List ℕ)
bytes_of_hex s = cond (is_hex s) (Some (hex_bytes s)) None
