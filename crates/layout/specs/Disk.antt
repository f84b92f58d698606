-- The disk's area (`docs/LAYOUT.md`): where its fields stand, and its layout rule. Assumes nothing.
use Rattle.std.specs.Prelude.{◌≡◌, Bool, ◌&&◌, List, ℕ, ◌+◌, ◌*◌, ◌≤◌, ◌<◌, eqb, leb, length}
use Rattle.octets.specs.Number.{num_at}
use Rattle.octets.specs.First.{all}
use Rattle.layout.specs.Names.{name_fits, NamesFit}

-- "tapedisk"
abbrev pub mark : ℕ
mark = 0x6b73_6964_6570_6174

-- ---- where they stand

abbrev pub directories : ℕ
directories = 32

abbrev pub left_at : ℕ
left_at = 288

abbrev pub right_at : ℕ
right_at = 800

abbrev pub entry_at : ℕ → ℕ
entry_at i = 1312 + i * 24

abbrev pub data_at : ℕ → ℕ
data_at i = 2848 + i * 4096

-- ---- the fields

abbrev pub slots : List ℕ → ℕ
slots s = num_at 8 s 8

abbrev pub left_len : List ℕ → ℕ
left_len s = num_at 8 s 16

abbrev pub right_len : List ℕ → ℕ
right_len s = num_at 8 s 24

-- the directory of the file in a slot: its place plus 1; 0 where the slot is free
abbrev pub owner : List ℕ → ℕ → ℕ
owner s i = num_at 8 s (entry_at i)

abbrev pub number : List ℕ → ℕ → ℕ
number s i = num_at 8 s (entry_at i + 8)

abbrev pub len : List ℕ → ℕ → ℕ
len s i = num_at 8 s (entry_at i + 16)

-- ---- the rule

unfoldable pub head_fits : List ℕ → Bool
head_fits s =
    leb 2848 (length s)
    && (eqb (num_at 8 s 0) mark
    && (leb 1 (slots s)
    && (leb (slots s) 64 && (leb (data_at (slots s)) (length s) && (leb (left_len s) 512 && leb (right_len s) 512)))))

abbrev pub entry_fits : List ℕ → ℕ → Bool
entry_fits s i = leb (owner s i) 8 && leb (len s i) 4096

unfoldable pub sound : List ℕ → Bool
sound s = head_fits s && (all (name_fits s directories) 8 0 && all (entry_fits s) (slots s) 0)

-- ---- the same as facts

pub record HeadSound (s : List ℕ) : Type 0 where
  pub marked : num_at 8 s 0 ≡ mark
  pub some : 1 ≤ slots s
  pub few : slots s ≤ 64
  pub room : data_at (slots s) ≤ length s
  pub left : left_len s ≤ 512
  pub right : right_len s ≤ 512

pub record Sound (s : List ℕ) : Type 0 where
  pub head : HeadSound s
  pub names : NamesFit s directories
  pub owners : (i : ℕ) → i < slots s → owner s i ≤ 8
  pub lengths : (i : ℕ) → i < slots s → len s i ≤ 4096
