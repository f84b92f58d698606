-- What the bytes of a sound disk mean: its directories, its files by slot, each with directory, number and bytes, and the metadata files left and right.
-- Assumes nothing.
use Rattle.std.specs.Prelude.{cond, not, ◌&&◌, List, [], ℕ, ◌+◌, eqb, Option, Some, None}
use Rattle.octets.specs.First.{first, count}
use Rattle.octets.specs.Words.{table}
use Rattle.octets.specs.Compare.{same_bytes}
use Rattle.layout.specs.Names.{names}
use Rattle.layout.specs.Disk.{directories, slots, owner, number}
use Rattle.metadata.specs.declared.choice.Side.{Side}
use Rattle.metadata.specs.declared.choice.Side.TheVariants.{Left, Right}
use Rattle.disk.specs.Steps.{file_bytes, side_bytes}

-- a slot: the place of its file's directory plus 1, or 0 if it is free; the file's number and bytes. Those of a free slot mean nothing
pub record Slot : Type 0 where
  pub owner : ℕ
  pub number : ℕ
  pub bytes : List ℕ

pub record Disk : Type 0 where
  pub slots : ℕ
  pub left : List ℕ
  pub right : List ℕ
  -- the name at each directory place; empty where it is free
  pub directory : ℕ → List ℕ
  pub slot : ℕ → Slot

abbrev pub free : Slot
free = record { owner = 0; number = 0; bytes = [] }

unfoldable pub slot_of : List ℕ → ℕ → Slot
slot_of s i = record { owner = owner s i; number = number s i; bytes = file_bytes s i }

unfoldable pub disk_of : List ℕ → Disk
disk_of s =
    record {
      slots = slots s;
      left = side_bytes s Left;
      right = side_bytes s Right;
      directory = names s directories;
      slot = table (slots s) free (slot_of s);
    }

-- ---- what a disk has

-- the place of a directory
abbrev pub directory_named : Disk → List ℕ → Option ℕ
directory_named d tape = first (λ i. same_bytes (d.directory i) tape) 8 0

-- the slot of a file by directory place and number
abbrev pub slot_with : Disk → ℕ → ℕ → Option ℕ
slot_with d place n = first (λ i. eqb (d.slot i).owner (place + 1) && eqb (d.slot i).number n) d.slots 0

abbrev pub bytes_in : Disk → Option ℕ → Option (List ℕ)
bytes_in d (Some i) = Some (d.slot i).bytes
bytes_in d None = None

-- the file of a directory place and a number
unfoldable pub file_in : Disk → ℕ → ℕ → Option (List ℕ)
file_in d place n = bytes_in d (slot_with d place n)

abbrev pub in_directory : Disk → ℕ → Option ℕ → Option ℕ
in_directory d n (Some place) = slot_with d place n
in_directory d n None = None

-- the same by the tape's name
abbrev pub slot_named : Disk → List ℕ → ℕ → Option ℕ
slot_named d tape n = in_directory d n (directory_named d tape)

-- how many files there are
abbrev pub file_count : Disk → ℕ
file_count d = count (λ i. not (eqb (d.slot i).owner 0)) d.slots 0

-- ---- a disk with something changed

abbrev pub with_slot : Disk → ℕ → Slot → Disk
with_slot d i f = record { slots = d.slots; left = d.left; right = d.right; directory = d.directory; slot = λ j. cond (eqb j i) f (d.slot j) }

abbrev pub with_directory : Disk → ℕ → List ℕ → Disk
with_directory d i tape =
    record { slots = d.slots; left = d.left; right = d.right; directory = λ j. cond (eqb j i) tape (d.directory j); slot = d.slot }

abbrev pub with_side : Disk → Side → List ℕ → Disk
with_side d Left bs = record { slots = d.slots; left = bs; right = d.right; directory = d.directory; slot = d.slot }
with_side d Right bs = record { slots = d.slots; left = d.left; right = bs; directory = d.directory; slot = d.slot }

-- a directory's files all removed
abbrev pub emptied : Disk → ℕ → Disk
emptied d place =
    record { slots = d.slots; left = d.left; right = d.right; directory = d.directory; slot = λ j. cond (eqb (d.slot j).owner (place + 1)) free (d.slot j) }

-- a disk of n slots with nothing on it
abbrev pub blank : ℕ → Disk
blank n = record { slots = n; left = []; right = []; directory = λ i. []; slot = λ i. free }
