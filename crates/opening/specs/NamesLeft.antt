-- Rule 5 of names: "a 9th name (directories, also those of dropped creations, and listed names count, each name once)". Assumes nothing.
use Rattle.std.specs.Prelude.{Bool, true, false, not, ◌&&◌, ◌||◌, List, [], ℕ, ◌+◌, eqb, leb, ltb, length, Option, Some, None}
use Rattle.octets.specs.First.{count}
use Rattle.layout.specs.Disk.{directories}
use Rattle.layout.specs.Names.{name, find_name}
use Rattle.layout.specs.Session.{names_at}
use Rattle.session.specs.Rows.{view_of}

abbrev pub is_at : ℕ → Option ℕ → Bool
is_at i (Some j) = eqb j i
is_at i None = false

abbrev pub is_nothing : Option ℕ → Bool
is_nothing (Some i) = false
is_nothing None = true

-- place i of a table has a name, and is the first that has it
unfoldable pub is_named : List ℕ → ℕ → ℕ → Bool
is_named s base i = ltb 0 (length (name s base i)) && is_at i (find_name s base (name s base i))

-- tape p is listed as the append began, and has no directory
unfoldable pub is_listed_alone : List ℕ → List ℕ → ℕ → Bool
is_listed_alone d s p = is_named s names_at p && ((view_of s 16 p).listed && is_nothing (find_name d directories (name s names_at p)))

-- how many names there are
unfoldable pub names_used : List ℕ → List ℕ → ℕ
names_used d s = count (is_named d directories) 8 0 + count (is_listed_alone d s) 8 0

-- a name that is not listed and has no directory is one too many, if there are eight, or (damaged memory) no place is free
unfoldable pub is_ninth : List ℕ → List ℕ → Bool → Option ℕ → Bool
is_ninth d s listed directory =
    not listed && (is_nothing directory && (leb 8 (names_used d s) || is_nothing (find_name d directories [])))
