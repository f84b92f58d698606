-- What else holds in a running session, after any calls: room for what is staged (`Rooms.antt`), names and directories (`Proper.antt`), and file sizes that an open
-- takes (`FileSizes.antt`). Assumes nothing.
use Rattle.promises.specs.Standing.{Running}
use Rattle.promises.proofs.Always.{always}
use Rattle.promises.specs.Rooms.{RoomyIn, rooms}
use Rattle.promises.specs.Promise.{Run, ends, known}
use Rattle.promises.specs.Proper.{ProperIn, propers}
use Rattle.promises.specs.FileSizes.{SizedIn, sizes}
use Rattle.promises.specs.Furnished.{Furnished}

module _ (r : Run) where
  pub furnished : Running (ends r) (known r) → Furnished (ends r) (known r)
  furnished q = record { roomy = always RoomyIn rooms r q; proper = always ProperIn propers r q; sized = always SizedIn sizes r q }
