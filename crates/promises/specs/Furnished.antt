-- What else is to hold in a running session: room for what is staged (`Rooms.antt`), names and directories (`Proper.antt`), and file sizes that an open takes
-- (`FileSizes.antt`). Assumes nothing.
use Rattle.std.specs.Prelude.{List, ℕ, ◌<◌, length}
use Rattle.rolling_tape.specs.Removal.{Areas}
use Rattle.seen.specs.Rooms.{Roomy}
use Rattle.seen.specs.Proper.{Proper}
use Rattle.promises.specs.Standing.{Lore}
use Rattle.promises.specs.FileSizes.{Sized}

pub record Furnished (a : Areas) (K : Lore) : Type 0 where
  pub roomy : Roomy a.disk a.session
  pub proper : Proper a.disk a.session
  pub sized : (n : List ℕ) → 0 < length n → Sized (K n)
