-- The list as the code holds it: arrays with blanks behind what they hold. Assumes nothing.
use Rattle.std.specs.Prelude.{Bool, true, ◌&&◌, Option, Some, None, List, [], ◌∷◌, ◌++◌, map, ℕ, ◌-◌, leb, length, take, replicate}
use Rattle.metadata.specs.declared.list.TapeMetadata.{TapeMetadata}
use Rattle.metadata.specs.declared.list.TapeList.{TapeList}
use Rattle.metadata.specs.Tapes.{Tape, fits}
use Rattle.metadata.specs.Decoding.{Listing, tapes, unreadable}

-- ---- from a list to the struct

unfoldable pub stored : Tape → TapeMetadata
stored t = record { letters = length t.name; name = t.name ++ replicate (24 - length t.name) 0; len = t.len; start = t.start }

abbrev pub blank : TapeMetadata
blank = record { letters = 0; name = replicate 24 0; len = 0; start = 0 }

unfoldable pub list_of : List Tape → TapeList
list_of ts = record { count = length ts; tapes = map stored ts ++ replicate (8 - length ts) blank }

abbrev pub decoded_of : Listing → Option TapeList
decoded_of (tapes ts) = Some (list_of ts)
decoded_of unreadable = None

-- ---- from the struct to the list

abbrev pub meaning : TapeMetadata → Tape
meaning t = record { name = take t.letters t.name; len = t.len; start = t.start }

unfoldable pub tapes_of : TapeList → List Tape
tapes_of l = map meaning (take l.count l.tapes)

-- each tape's name lies in its array, and the tape may stand behind the one before it
unfoldable pub storable_after : List ℕ → List TapeMetadata → Bool
storable_after before [] = true
storable_after before (t ∷ ts) = leb t.letters 24 && (fits before (meaning t) && storable_after (meaning t).name ts)

-- a struct that a list can be stored from
unfoldable pub storable : TapeList → Bool
storable l = leb l.count 8 && storable_after [] (take l.count l.tapes)
