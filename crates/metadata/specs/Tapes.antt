-- The tape list of document 01, "The record": what it is, how it is encoded, and which lists there are. Assumes nothing.
use Rattle.std.specs.Prelude.{Bool, true, ◌&&◌, List, [], ◌∷◌, ◌++◌, ℕ, ◌≤◌, leb, length, take, drop}
use Rattle.octets.specs.Compare.{comes_before}
use Rattle.borsh.specs.Encoding.{u64, vec, sorted_map}
use Rattle.metadata.specs.Name.{name_rule}

pub record Tape : Type 0 where
  pub name : List ℕ
  pub len : ℕ
  pub start : ℕ

-- "u32 name length, name, len u64, start u64": a string, and the struct TapeMetadata
unfoldable pub encode_tape : Tape → List ℕ
encode_tape t = vec t.name ++ (u64 t.len ++ u64 t.start)

-- "The list: u32 count, then by name in byte order": a map
unfoldable pub encode_list : List Tape → List ℕ
encode_list ts = sorted_map encode_tape ts

-- a tape that may stand behind a name: its own comes later, keeps the rule, and its start is not above its length
unfoldable pub fits : List ℕ → Tape → Bool
fits before t = comes_before before t.name && (name_rule t.name && leb t.start t.len)

-- each tape may stand behind the one before it
unfoldable pub good_after : List ℕ → List Tape → Bool
good_after before [] = true
good_after before (t ∷ ts) = fits before t && good_after t.name ts

-- a list that can be stored, where its numbers are 64-bit ones: at most 8 tapes; the first may stand behind the empty name, which is none
unfoldable pub good_list : List Tape → Bool
good_list ts = leb (length ts) 8 && good_after [] ts

-- a part of n bytes, from a place up to its end
pub record Part (from to n : ℕ) : Type 0 where
  pub ordered : from ≤ to
  pub inside : to ≤ n

-- the tape whose name is a part of s
abbrev pub tape_at : List ℕ → ℕ → ℕ → ℕ → ℕ → Tape
tape_at s place letters len start = record { name = take letters (drop place s); len = len; start = start }
