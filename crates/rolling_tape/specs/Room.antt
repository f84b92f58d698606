-- The files that a directory has: what the rule of 15 counts (`components/specs/Slots.antt`). Assumes nothing.
use Rattle.std.specs.Prelude.{Bool, true, false, List, ℕ, Option, Some, None}
use Rattle.disk.specs.Steps.{find_in}

abbrev pub is_found : Option ℕ → Bool
is_found (Some i) = true
is_found None = false

unfoldable pub on_disk : List ℕ → ℕ → ℕ → Bool
on_disk d place n = is_found (find_in d place n)
