-- Files that are marked from the lowest tracked one on. Its laws are in proofs/MarkOrder.antt. Assumes nothing.
use Rattle.std.specs.Prelude.{◌≡◌, true, false, ℕ, ◌<◌}
use Rattle.components.specs.Files.{Files, unmarked}

-- if a tracked file has a mark, each lower tracked one has
abbrev pub Ordered : Files → Type 0
Ordered f = (j k : ℕ) → j < k → (f j).tracked ≡ true → (f k).tracked ≡ true → unmarked (f k).mark ≡ false → unmarked (f j).mark ≡ false
