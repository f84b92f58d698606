-- The parts of the two areas (`docs/LAYOUT.md`), and what it is to touch some of them alone: every other byte is as before, and so is the length. Assumes
-- nothing.
use Prim.{Unit, tt}
use Rattle.std.specs.Prelude.{◌≡◌, refl, List, [], ◌∷◌, ℕ, ◌+◌, ◌*◌, ◌≤◌, ◌<◌, length, get_or, Option, Some, None}
use Rattle.std.proofs.Common.{◌∙◌, arith}
use Rattle.octets.specs.Only.{OnlyIn}
use Rattle.layout.specs.Disk as D
use Rattle.layout.specs.Session as S
use Rattle.metadata.specs.declared.choice.Side.{Side}
use Rattle.disk.specs.Steps.{side_at, side_len_at}

-- the bytes from low up to high; or of each of so many rows, which stand `every` bytes apart, the `size` bytes from low on
pub data Part : Type 0 where
  bytes : ℕ → ℕ → Part
  rows : (low size every count : ℕ) → Part

-- byte i lies in the part
abbrev pub Inside : ℕ → Part → Type 0
Inside i (bytes low high) = (low ≤ i) × (i < high)
Inside i (rows low size every count) = (k : ℕ) × ((k < count) × ((low + k * every ≤ i) × (i < low + k * every + size)))

-- byte i does not
abbrev pub Clear : ℕ → Part → Type 0
Clear i (bytes low high) = low ≤ i → high ≤ i
Clear i (rows low size every count) = (k : ℕ) → k < count → low + k * every ≤ i → low + k * every + size ≤ i

-- nor in any of some parts
abbrev pub Outside : ℕ → List Part → Type 0
Outside i [] = Unit
Outside i (q ∷ qs) = Clear i q × Outside i qs

-- t is s but for the bytes of these parts
pub record Touches (parts : List Part) (s t : List ℕ) : Type 0 where
  pub long : length t ≡ length s
  pub same : (i : ℕ) → Outside i parts → get_or t i 0 ≡ get_or s i 0

-- the bytes of a part are as before
abbrev pub Stays : Part → List ℕ → List ℕ → Type 0
Stays q s t = (i : ℕ) → Inside i q → get_or t i 0 ≡ get_or s i 0

-- ---- the session's parts

abbrev pub mark : Part
mark = bytes 0 8

abbrev pub head : Part
head = bytes S.head_at 48

abbrev pub names : Part
names = bytes S.names_at 304

abbrev pub views : Part
views = bytes (S.views_at 0) 3760

abbrev pub transactions : Part
transactions = bytes (S.transaction_at 0) 4168

abbrev pub tapes : Part
tapes = bytes (S.tape_at 0) 4936

abbrev pub tracking : Part
tracking = bytes (S.tracking_at 0) 5960

-- the caches' bytes; the bookkeeping of a ring stands in its tape's row
abbrev pub rings : Part
rings = bytes (S.ring_at 0) S.session_bytes

-- the first five, and all but the last
abbrev pub below_tapes : Part
below_tapes = bytes 0 (S.tape_at 0)

abbrev pub below_rings : Part
below_rings = bytes 0 (S.ring_at 0)

-- one of them
abbrev pub name_of : ℕ → Part
name_of p = bytes (S.names_at + p * 32) (S.names_at + p * 32 + 32)

abbrev pub view_of : ℕ → Part
view_of w = bytes (S.views_at w) (S.views_at w + 192)

abbrev pub transaction_of : ℕ → Part
transaction_of t = bytes (S.transaction_at t) (S.transaction_at t + 24)

abbrev pub tape_of : ℕ → Part
tape_of p = bytes (S.tape_at p) (S.tape_at p + 96)

abbrev pub bookkeeping_of : ℕ → Part
bookkeeping_of p = bytes (S.tape_at p + 24) (S.tape_at p + 56)

abbrev pub staged_of : ℕ → Part
staged_of p = bytes (S.tape_at p + 56) (S.tape_at p + 96)

abbrev pub ring_of : ℕ → Part
ring_of p = bytes (S.ring_at p) (S.ring_at p + 4096)

-- of each tape's row
abbrev pub handles : Part
handles = rows (S.tape_at 0) 24 96 8

abbrev pub bookkeepings : Part
bookkeepings = rows (S.tape_at 0 + 24) 32 96 8

abbrev pub stageds : Part
stageds = rows (S.tape_at 0 + 56) 40 96 8

-- ---- the disk's parts

abbrev pub tables : Part
tables = bytes 0 (D.data_at 0)

abbrev pub directories : Part
directories = bytes D.directories D.left_at

abbrev pub sides : Part
sides = bytes D.left_at (D.entry_at 0)

abbrev pub side_of : Side → Part
side_of d = bytes (side_at d) (side_at d + 512)

abbrev pub side_length_of : Side → Part
side_length_of d = bytes (side_len_at d) (side_len_at d + 8)

-- mark, slot count and the lengths of left and right
abbrev pub fields : Part
fields = bytes 0 D.directories

-- everything before the file table
abbrev pub below_files : Part
below_files = bytes 0 (D.entry_at 0)

-- the rows of the disk's slots in the file table
abbrev pub file_table : List ℕ → Part
file_table d = bytes (D.entry_at 0) (D.entry_at (D.slots d))

-- the file table, and the data of the disk's slots
abbrev pub files : List ℕ → Part
files d = bytes (D.entry_at 0) (D.data_at (D.slots d))

-- every byte from the slots on
abbrev pub slots_of : List ℕ → Part
slots_of d = bytes (D.data_at 0) (length d)

-- ---- what was found, and nothing where nothing was found

abbrev pub found : (ℕ → List Part) → Option ℕ → List Part
found parts (Some p) = parts p
found parts None = []

-- ---- laws

pub touches_none : (parts : List Part) (s : List ℕ) → Touches parts s s
touches_none parts s = record { long = refl; same = λ i o. refl }

-- one step behind another
pub touches-then : (parts : List Part) (s t u : List ℕ) → Touches parts s t → Touches parts t u → Touches parts s u
touches-then parts s t u a b = record { long = b.long ∙ a.long; same = λ i o. b.same i o ∙ a.same i o }

-- a step between two places, whose bytes are all in the parts
pub touches-only : (parts : List Part) (low high : ℕ) (s t : List ℕ) → OnlyIn low high s t → ((i : ℕ) → Outside i parts → low ≤ i → high ≤ i) → Touches parts s t
touches-only parts low high s t only inside = record { long = only.long; same = λ i o. only.same i (inside i o) }

-- the parts said more widely
pub touches-more : (parts more : List Part) (s t : List ℕ) → ((i : ℕ) → Outside i more → Outside i parts) → Touches parts s t → Touches more s t
touches-more parts more s t inside a = record { long = a.long; same = λ i o. a.same i (inside i o) }

-- a step between the two ends of a part
pub one-touches : (low high : ℕ) (s t : List ℕ) → OnlyIn low high s t → Touches (bytes low high ∷ []) s t
one-touches low high s t only = touches-only (bytes low high ∷ []) low high s t only (λ i o l. o.0 l)

-- what lies elsewhere stays
pub stays : (parts : List Part) (q : Part) (s t : List ℕ) → Touches parts s t → ((i : ℕ) → Inside i q → Outside i parts) → Stays q s t
stays parts q s t a elsewhere i h = a.same i (elsewhere i h)

-- of what was found: nothing is touched where nothing was
pub stays-found : (parts : ℕ → List Part) (f : Option ℕ) (q : Part) (s t : List ℕ) → Touches (found parts f) s t
    → ((p : ℕ) → f ≡ Some p → (i : ℕ) → Inside i q → Outside i (parts p)) → Stays q s t
stays-found parts (Some p) q s t a elsewhere = stays (parts p) q s t a (elsewhere p refl)
stays-found parts None q s t a elsewhere = stays [] q s t a (λ i h. tt)

-- a part of a part
pub stays_within : (low high from to : ℕ) (s t : List ℕ) → Stays (bytes low high) s t → low ≤ from → to ≤ high → Stays (bytes from to) s t
stays_within low high from to s t stay l h i k = stay i (search arith)
