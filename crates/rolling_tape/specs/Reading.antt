-- A run of bytes across files, byte by byte: "a file needed for a read missing, untracked or too short" is 16. Assumes nothing.
use Rattle.std.specs.Prelude.{Bool, true, false, cond, ◌&&◌, List, [], ◌∷◌, ℕ, zero, suc, ◌+◌, leb, get_or, take, drop, Option, Some, None}
use Rattle.octets.specs.First.{all}
use Rattle.components.specs.Pieces.{file_of, place_in}
use Rattle.layout.specs.Disk.{len}
use Rattle.disk.specs.Steps.{find_file, file_bytes}
use Rattle.session.specs.Rows.{tracking_of}
use Rattle.rolling_tape.specs.Tracking.{is_tracked}

-- ---- what can be read

-- the file in slot i may be read: where only tracked ones may, it has to be one
abbrev pub may_read : List ℕ → Bool → ℕ → Bool
may_read s only i = cond only (is_tracked (tracking_of s i)) true

-- a file that may be read and has so many bytes
abbrev pub reaches : List ℕ → List ℕ → Bool → ℕ → Option ℕ → Bool
reaches d s only end (Some i) = may_read s only i && leb end (len d i)
reaches d s only end None = false

unfoldable pub piece_lies : List ℕ → List ℕ → Bool → List ℕ → ℕ → ℕ → Bool
piece_lies d s only tape n end = reaches d s only end (find_file d tape n)

-- the byte at an offset
abbrev pub can_read_at : List ℕ → List ℕ → Bool → List ℕ → ℕ → ℕ → Bool
can_read_at d s only tape fs o = piece_lies d s only tape (file_of fs o) (place_in fs o + 1)

-- each of n bytes from an offset on
unfoldable pub can_read : List ℕ → List ℕ → Bool → List ℕ → ℕ → ℕ → ℕ → Bool
can_read d s only tape fs o n = all (λ j. can_read_at d s only tape fs (o + j)) n 0

-- the same of the disk alone
abbrev pub holds : List ℕ → ℕ → Option ℕ → Bool
holds d end (Some i) = leb end (len d i)
holds d end None = false

unfoldable pub piece_there : List ℕ → List ℕ → ℕ → ℕ → Bool
piece_there d tape n end = holds d end (find_file d tape n)

unfoldable pub lies : List ℕ → List ℕ → ℕ → ℕ → ℕ → Bool
lies d tape fs o n = all (λ j. piece_there d tape (file_of fs (o + j)) (place_in fs (o + j) + 1)) n 0

-- ---- what is read

abbrev pub bytes_of : List ℕ → Option ℕ → List ℕ
bytes_of d (Some i) = file_bytes d i
bytes_of d None = []

-- n bytes of a file from a place on
unfoldable pub piece_bytes : List ℕ → List ℕ → ℕ → ℕ → ℕ → List ℕ
piece_bytes d tape number place n = take n (drop place (bytes_of d (find_file d tape number)))

abbrev pub byte_of : List ℕ → List ℕ → ℕ → ℕ → ℕ
byte_of d tape fs o = get_or (bytes_of d (find_file d tape (file_of fs o))) (place_in fs o) 0

-- n bytes of a tape from an offset on
unfoldable pub read_run : List ℕ → List ℕ → ℕ → ℕ → ℕ → List ℕ
read_run d tape fs o zero = []
read_run d tape fs o (suc n) = byte_of d tape fs o ∷ read_run d tape fs (o + 1) n
