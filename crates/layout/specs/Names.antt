-- A table of eight names (`docs/LAYOUT.md`): at each place a word with the number of its bytes, and room for 24. The disk's directories and the session's
-- tapes are such tables. A place whose name is empty is free. Assumes nothing.
use Rattle.std.specs.Prelude.{Bool, List, [], ℕ, ◌+◌, ◌*◌, ◌≤◌, ◌<◌, leb, length, take, drop, Option}
use Rattle.octets.specs.Bytes.{put}
use Rattle.octets.specs.Number.{num_at, put_num}
use Rattle.octets.specs.Compare.{same_bytes}
use Rattle.octets.specs.First.{first}
use Rattle.octets.specs.Words.{table}

abbrev pub place_at : ℕ → ℕ → ℕ
place_at base i = base + i * 32

abbrev pub letters : List ℕ → ℕ → ℕ → ℕ
letters s base i = num_at 8 s (place_at base i)

abbrev pub name_fits : List ℕ → ℕ → ℕ → Bool
name_fits s base i = leb (letters s base i) 24

-- a table whose names all fit
pub record NamesFit (s : List ℕ) (base : ℕ) : Type 0 where
  pub room : base + 256 ≤ length s
  pub short : (i : ℕ) → i < 8 → letters s base i ≤ 24

unfoldable pub name : List ℕ → ℕ → ℕ → List ℕ
name s base i = take (letters s base i) (drop (place_at base i + 8) s)

-- the names of a table, by place
abbrev pub names : List ℕ → ℕ → ℕ → List ℕ
names s base = table 8 [] (name s base)

-- the first place that has this name; of the empty name, the first free place
unfoldable pub find_name : List ℕ → ℕ → List ℕ → Option ℕ
find_name s base wanted = first (λ i. same_bytes (name s base i) wanted) 8 0

unfoldable pub put_name : List ℕ → ℕ → ℕ → List ℕ → List ℕ
put_name s base i wanted = put (put_num 8 s (place_at base i) (length wanted)) (place_at base i + 8) wanted
