-- What each function of the disk answers, and what the area then holds. Assumes nothing.
use Rattle.std.specs.Prelude.{Bool, cond, not, ◌&&◌, List, [], ◌∷◌, ℕ, ◌+◌, ◌-◌, max, eqb, length, take, drop, replicate, Option, Some, None}
use Rattle.octets.specs.Bytes.{put}
use Rattle.octets.specs.Number.{num_at, put_num}
use Rattle.octets.specs.First.{first, count}
use Rattle.octets.specs.Words.{put_words}
use Rattle.octets.specs.Sweep.{sweep}
use Rattle.layout.specs.Names.{find_name, put_name}
use Rattle.layout.specs.Disk.{mark, directories, left_at, right_at, entry_at, data_at, slots, owner, number, len}
use Rattle.metadata.specs.declared.choice.Side.{Side}
use Rattle.metadata.specs.declared.choice.Side.TheVariants.{Left, Right}
use Rattle.disk.specs.declared.files.Entry.{Entry}

-- an answer, and the area then
pub record After : Type 0 where
  pub answer : Option ℕ
  pub area : List ℕ

abbrev pub after : Option ℕ → List ℕ → After
after a s = record { answer = a; area = s }

-- ---- format: everything before the slots is zeros, but for the mark and the slot count

unfoldable pub formatted : List ℕ → ℕ → List ℕ
formatted s n = put_words (put s 0 (replicate 2848 0)) 0 (mark ∷ n ∷ [])

-- ---- the file table

unfoldable pub entry_of : List ℕ → ℕ → Entry
entry_of s i = record { owner = owner s i; number = number s i; len = len s i }

unfoldable pub put_entry : List ℕ → ℕ → Entry → List ℕ
put_entry s i e = put_words s (entry_at i) (e.owner ∷ e.number ∷ e.len ∷ [])

-- a slot freed
unfoldable pub removed : List ℕ → ℕ → List ℕ
removed s i = put_entry s i (record { owner = 0; number = 0; len = 0 })

-- ---- searches

-- slot i has file n of directory d
abbrev pub is_file : List ℕ → ℕ → ℕ → ℕ → Bool
is_file s d n i = eqb (owner s i) (d + 1) && eqb (number s i) n

abbrev pub is_not : List ℕ → ℕ → ℕ → ℕ → Bool
is_not s d n i = not (is_file s d n i)

abbrev pub is_free : List ℕ → ℕ → Bool
is_free s i = eqb (owner s i) 0

unfoldable pub find_in : List ℕ → ℕ → ℕ → Option ℕ
find_in s d n = first (is_file s d n) (slots s) 0

abbrev pub within : List ℕ → ℕ → Option ℕ → Option ℕ
within s n (Some d) = find_in s d n
within s n None = None

-- "A file is found by tape and number; the search ends at the first hit"
unfoldable pub find_file : List ℕ → List ℕ → ℕ → Option ℕ
find_file s tape n = within s n (find_name s directories tape)

unfoldable pub free_slot : List ℕ → Option ℕ
free_slot s = first (is_free s) (slots s) 0

-- how many files there are
unfoldable pub files : List ℕ → ℕ
files s = count (λ i. not (is_free s i)) (slots s) 0

-- ---- directories

abbrev pub add_at : List ℕ → List ℕ → Option ℕ → After
add_at s wanted (Some d) = after (Some d) (put_name s directories d wanted)
add_at s wanted None = after None s

unfoldable pub add_directory : List ℕ → List ℕ → After
add_directory s wanted = add_at s wanted (find_name s directories [])

unfoldable pub empty_slot : ℕ → ℕ → List ℕ → List ℕ
empty_slot d i s = cond (eqb (owner s i) (d + 1)) (removed s i) s

unfoldable pub empty_directory : List ℕ → ℕ → List ℕ
empty_directory s d = sweep (empty_slot d) (slots s) 0 s

-- ---- files

abbrev pub make_new : List ℕ → ℕ → ℕ → Option ℕ → After
make_new s d n (Some i) = after (Some i) (put_entry s i (record { owner = d + 1; number = n; len = 0 }))
make_new s d n None = after None s

abbrev pub make_unless : List ℕ → ℕ → ℕ → Option ℕ → After
make_unless s d n (Some i) = after (Some i) s
make_unless s d n None = make_new s d n (free_slot s)

-- a file met again keeps its bytes; a new one has none
unfoldable pub make_file : List ℕ → ℕ → ℕ → After
make_file s d n = make_unless s d n (find_in s d n)

unfoldable pub file_bytes : List ℕ → ℕ → List ℕ
file_bytes s i = take (len s i) (drop (data_at i) s)

-- bytes at a place of a slot's file: zeros from its end up to the place, the bytes, and the length never less than it was
unfoldable pub write_at : List ℕ → ℕ → ℕ → List ℕ → List ℕ
write_at s i at bs =
    put_num 8
    (put (put s (data_at i + len s i) (replicate (at - len s i) 0)) (data_at i + at) bs)
    (entry_at i + 16)
    (max (len s i) (at + length bs))

-- ---- left and right

abbrev pub side_at : Side → ℕ
side_at Left = left_at
side_at Right = right_at

abbrev pub side_len_at : Side → ℕ
side_len_at Left = 16
side_len_at Right = 24

abbrev pub side_len : List ℕ → Side → ℕ
side_len s side = num_at 8 s (side_len_at side)

unfoldable pub side_bytes : List ℕ → Side → List ℕ
side_bytes s side = take (side_len s side) (drop (side_at side) s)

-- "from its first byte, without shortening it"
unfoldable pub write_side : List ℕ → Side → List ℕ → List ℕ
write_side s side bs = put_num 8 (put s (side_at side) bs) (side_len_at side) (max (side_len s side) (length bs))
