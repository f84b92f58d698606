-- Of the files that a run of bytes covers a later part of the run lacks no more than the whole. Assumes nothing.
use Rattle.std.specs.Prelude.{Bool, ℕ, ◌≤◌, ◌<◌}
use Rattle.components.specs.Pieces.{file_of}
use Rattle.components.specs.PiecesLaws.{file-mono}
use Rattle.components.specs.Slots.{lacking_from, covered}
use Rattle.joins.specs.Ranges.{lacking-within, last-part}

module _ (fs : ℕ) (z : 0 < fs) where
  pub lacking-last : (there : ℕ → Bool) (base mid end : ℕ) → base ≤ mid → mid ≤ end
      → lacking_from there (file_of fs mid) (covered fs mid end) ≤ lacking_from there (file_of fs base) (covered fs base end)
  lacking-last there base mid end l m =
      lacking-within there (file_of fs base) (covered fs base end) (file_of fs mid) (covered fs mid end) (file-mono fs z base mid l) (last-part fs z base mid end l m)
