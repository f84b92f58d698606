-- What a reader finds at a place of the bytes that it reads. Assumes nothing.
use Rattle.std.specs.Prelude.{◌≡◌, cond, Option, Some, None, List, ℕ, ◌+◌, leb, length, take, drop}
use Rattle.octets.specs.Number.{num_at}

-- a number of k bytes, and the place behind it
unfoldable pub take_number : ℕ → List ℕ → ℕ → Option (ℕ × ℕ)
take_number k s at = cond (leb (at + k) (length s)) (Some (num_at k s at, at + k)) None

-- bytes that were found: where they start, how many they are, and the place behind them
pub record Span : Type 0 where
  pub start : ℕ
  pub len : ℕ
  pub next : ℕ

abbrev pub span : ℕ → ℕ → ℕ → Span
span start len next = record { start = start; len = len; next = next }

unfoldable pub take_array : ℕ → List ℕ → ℕ → Option Span
take_array n s at = cond (leb (at + n) (length s)) (Some (span at n (at + n))) None

-- bytes behind their length
unfoldable pub take_vec : List ℕ → ℕ → Option Span
take_vec s at = cond (leb (at + 4) (length s)) (take_array (num_at 4 s at) s (at + 4)) None

-- ---- what a reader's answer says was found

-- a number, and where the reader then stands
abbrev pub took : Option ℕ → ℕ → Option (ℕ × ℕ)
took (Some v) next = Some (v, next)
took None next = None

-- bytes, where in s they stand, and where the reader then stands
pub record Took (s : List ℕ) (found : Option Span) (bytes : List ℕ) (next : ℕ) : Type 0 where
  pub start : ℕ
  pub is : found ≡ Some (span start (length bytes) next)
  pub bytes-are : bytes ≡ take (length bytes) (drop start s)
