-- Document 01, "What is carried over": names have 1 to 24 bytes from a-z, 0-9, `_`, `-`. Assumes nothing.
use Rattle.std.specs.Prelude.{Bool, true, ◌&&◌, ◌||◌, List, [], ◌∷◌, ℕ, leb, eqb, length}

abbrev pub between : ℕ → ℕ → ℕ → Bool
between low high n = leb low n && leb n high

-- a-z, 0-9, `_` or `-`
unfoldable pub name_byte : ℕ → Bool
name_byte b = between 97 122 b || (between 48 57 b || (eqb b 95 || eqb b 45))

unfoldable pub name_bytes : List ℕ → Bool
name_bytes [] = true
name_bytes (b ∷ bs) = name_byte b && name_bytes bs

unfoldable pub name_rule : List ℕ → Bool
name_rule name = between 1 24 (length name) && name_bytes name
