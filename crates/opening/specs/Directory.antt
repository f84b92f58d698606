-- What an open does to a tape's directory. "Opening a name absent from the view empties its directory .. Opening a known name tracks its files numbered up
-- to that of len, then marks and removes those below start's file, by the removal rule with oldest epoch 2^64-1." Assumes nothing.
use Rattle.std.specs.Prelude.{cond, List, [], ℕ, Option, Some, None}
use Rattle.components.specs.Pieces.{file_of}
use Rattle.layout.specs.Disk.{directories}
use Rattle.layout.specs.Names.{find_name}
use Rattle.disk.specs.Steps.{add_directory, empty_directory}
use Rattle.rolling_tape.specs.Removal.{Areas, areas, remove_ripe}
use Rattle.rolling_tape.specs.Tracking.{retracked}
use Rattle.rolling_tape.specs.declared.tracking.Change.TheVariants.{TrackUpTo, MarkBelow, UntrackAll}
use Rattle.opening.specs.declared.shape.Opening.{Opening}

-- the files of a known tape, in an append that began at an epoch; no reader is heeded, since all of them have this start
unfoldable pub taken_files : Areas → ℕ → Opening → ℕ → Areas
taken_files a place o began =
    remove_ripe
    (areas a.disk
    (retracked a.disk (retracked a.disk a.session place (TrackUpTo (file_of o.file_size o.len))) place
    (MarkBelow (file_of o.file_size o.start) began)))
    place 0xffff_ffff_ffff_ffff

-- a directory without files
unfoldable pub emptied : Areas → ℕ → Areas
emptied a place = areas (empty_directory a.disk place) (retracked a.disk a.session place UntrackAll)

-- a new directory; files that damaged memory says it has go too
abbrev pub added : Areas → List ℕ → Option ℕ → Areas
added a wanted (Some place) = areas (add_directory (emptied a place).disk wanted).area (emptied a place).session
added a wanted None = a

abbrev pub readied : Areas → List ℕ → Opening → ℕ → Option ℕ → Areas
readied a wanted o began (Some place) = cond o.listed (taken_files a place o began) (emptied a place)
readied a wanted o began None = added a wanted (find_name a.disk directories [])
