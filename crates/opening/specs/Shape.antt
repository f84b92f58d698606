-- What is opened, and whether its name and sizes are in range: "6, 8 (entry), 10, 8 (file), 7, 8 (cache)". Assumes nothing.
use Rattle.std.specs.Prelude.{Bool, cond, ◌&&◌, List, [], ◌∷◌, ℕ, ◌%◌, eqb, leb, Result, Ok, Err}
use Rattle.octets.specs.Compare.{same_bytes}
use Rattle.answers.specs.declared.Refusal.{Refusal}
use Rattle.answers.specs.declared.Refusal.TheVariants.{BadName, ReservedName, BadSize, NotWhole}
use Rattle.metadata.specs.Name.{name_rule}
use Rattle.session.specs.declared.views.View.{View}
use Rattle.opening.specs.declared.shape.Opening.{Opening}

-- "metadata"
abbrev pub METADATA : List ℕ
METADATA = 0x6d ∷ 0x65 ∷ 0x74 ∷ 0x61 ∷ 0x64 ∷ 0x61 ∷ 0x74 ∷ 0x61 ∷ []

abbrev pub in_range : ℕ → ℕ → Bool
in_range n most = leb 1 n && leb n most

-- a tape of these sizes; its length and start are those that the append began with, else the given start
unfoldable pub opening_of : View → ℕ → ℕ → ℕ → ℕ → Opening
opening_of v entry fs cache start =
    record {
      entry = entry;
      file_size = fs;
      cache = cache;
      listed = v.listed;
      len = cond v.listed v.len start;
      start = cond v.listed v.start start;
    }

-- "start or length on open (as listed, else the given start) .. no multiple of the entry size"
abbrev pub is_whole : Opening → Bool
is_whole o = eqb (o.len % o.entry) 0 && eqb (o.start % o.entry) 0

unfoldable pub shape_of : List ℕ → Opening → Result Unit Refusal
shape_of name o =
    cond (name_rule name)
    (cond (in_range o.entry 256)
    (cond (is_whole o)
    (cond (in_range o.file_size 4096)
    (cond (same_bytes name METADATA) (Err ReservedName) (cond (in_range o.cache 4096) (Ok tt) (Err BadSize)))
    (Err BadSize))
    (Err NotWhole))
    (Err BadSize))
    (Err BadName)
