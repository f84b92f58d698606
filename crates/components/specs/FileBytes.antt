-- A file's bytes after a write at a place. Document 01: "A hole before the first byte written is zeros"; nothing shortens a file. Assumes nothing.
use Rattle.std.specs.Prelude.{List, [], ◌∷◌, ◌++◌, ℕ, ◌+◌, ◌-◌, length, replicate}
use Rattle.octets.specs.Bytes.{put}

-- bs written into a file from a place on; a write of nothing leaves it
unfoldable pub written : List ℕ → ℕ → List ℕ → List ℕ
written f at [] = f
written f at (b ∷ bs) = put (f ++ replicate (at + length (b ∷ bs) - length f) 0) at (b ∷ bs)
