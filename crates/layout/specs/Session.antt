-- The session's area (`docs/LAYOUT.md`): where its fields stand, and its layout rule. Assumes nothing.
use Rattle.std.specs.Prelude.{◌≡◌, ◌≢◌, Bool, cond, not, ◌&&◌, ◌||◌, List, ℕ, ◌+◌, ◌*◌, ◌≤◌, ◌<◌, eqb, leb, ltb, length}
use Rattle.octets.specs.Number.{num_at}
use Rattle.octets.specs.First.{all}
use Rattle.layout.specs.Names.{name_fits, NamesFit}

-- "tapesess"
abbrev pub mark : ℕ
mark = 0x7373_6573_6570_6174

-- how long the area is at least
abbrev pub session_bytes : ℕ
session_bytes = 38728

-- ---- where they stand

abbrev pub head_at : ℕ
head_at = 8

abbrev pub names_at : ℕ
names_at = 48

-- the view of transaction place w, or, for 17, the list of the last commit
abbrev pub views_at : ℕ → ℕ
views_at w = 304 + w * 192

-- its row of tape p
abbrev pub view_at : ℕ → ℕ → ℕ
view_at w p = views_at w + p * 24

abbrev pub transaction_at : ℕ → ℕ
transaction_at t = 3760 + t * 24

abbrev pub tape_at : ℕ → ℕ
tape_at p = 4168 + p * 96

abbrev pub tracking_at : ℕ → ℕ
tracking_at i = 4936 + i * 16

abbrev pub ring_at : ℕ → ℕ
ring_at p = 5960 + p * 4096

-- ---- the fields that the rule looks at

abbrev pub kind_word : List ℕ → ℕ → ℕ
kind_word s t = num_at 8 s (transaction_at t)

-- the k-th word of a tape's row
abbrev pub tape_word : List ℕ → ℕ → ℕ → ℕ
tape_word s p k = num_at 8 s (tape_at p + k * 8)

abbrev pub handle_number : List ℕ → ℕ → ℕ
handle_number s p = num_at 8 s (tape_at p)

abbrev pub entry_size_of : List ℕ → ℕ → ℕ
entry_size_of s p = tape_word s p 1

abbrev pub file_size_of : List ℕ → ℕ → ℕ
file_size_of s p = tape_word s p 2

abbrev pub capacity : List ℕ → ℕ → ℕ
capacity s p = tape_word s p 3

abbrev pub ring_start : List ℕ → ℕ → ℕ
ring_start s p = tape_word s p 4

abbrev pub ring_len : List ℕ → ℕ → ℕ
ring_len s p = tape_word s p 5

abbrev pub unwritten : List ℕ → ℕ → ℕ
unwritten s p = tape_word s p 11

-- ---- the rule

unfoldable pub ring_fits : List ℕ → ℕ → Bool
ring_fits s p =
    leb (capacity s p) 4096
    && (ltb (ring_start s p) (capacity s p) && (leb (ring_len s p) (capacity s p) && leb (unwritten s p) (ring_len s p)))

unfoldable pub tape_fits : List ℕ → ℕ → Bool
tape_fits s p =
    eqb (handle_number s p) 0
    || (leb 1 (entry_size_of s p)
    && (leb (entry_size_of s p) 256 && (leb 1 (file_size_of s p) && (leb (file_size_of s p) 4096 && ring_fits s p))))

-- 0 closed, 1 a reader; in the writer's place 2 an append, 3 a truncate
unfoldable pub kind_fits : List ℕ → ℕ → Bool
kind_fits s t = cond (ltb t 16) (leb (kind_word s t) 1) (not (eqb (kind_word s t) 1) && leb (kind_word s t) 3)

unfoldable pub tables_fit : List ℕ → Bool
tables_fit s = all (name_fits s names_at) 8 0 && (all (kind_fits s) 17 0 && all (tape_fits s) 8 0)

-- a session was begun, and its tables are in range
unfoldable pub begun : List ℕ → Bool
begun s = leb session_bytes (length s) && (eqb (num_at 8 s 0) mark && tables_fit s)

-- the layout rule: where no session was begun, nothing else is looked at
unfoldable pub sound : List ℕ → Bool
sound s = leb session_bytes (length s) && (eqb (num_at 8 s 0) 0 || begun s)

-- ---- the same as facts

pub record RingFits (s : List ℕ) (p : ℕ) : Type 0 where
  pub small : capacity s p ≤ 4096
  pub inside : ring_start s p < capacity s p
  pub short : ring_len s p ≤ capacity s p
  pub pending : unwritten s p ≤ ring_len s p

pub record TapeFits (s : List ℕ) (p : ℕ) : Type 0 where
  pub entry-some : 1 ≤ entry_size_of s p
  pub entry-small : entry_size_of s p ≤ 256
  pub file-some : 1 ≤ file_size_of s p
  pub file-small : file_size_of s p ≤ 4096
  pub ring : RingFits s p

pub record Begun (s : List ℕ) : Type 0 where
  pub long : session_bytes ≤ length s
  pub marked : num_at 8 s 0 ≡ mark
  pub names : NamesFit s names_at
  pub readers : (t : ℕ) → t < 16 → kind_word s t ≤ 1
  pub writer-apart : kind_word s 16 ≢ 1
  pub writer : kind_word s 16 ≤ 3
  pub tapes : (p : ℕ) → p < 8 → handle_number s p ≢ 0 → TapeFits s p
