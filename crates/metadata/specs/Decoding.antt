-- The tape list read from bytes: what document 01 answers 17 is `unreadable`. Assumes nothing.
use Rattle.std.specs.Prelude.{◌≡◌, cond, Option, Some, None, List, [], ◌∷◌, ℕ, zero, suc, leb, eqb, length, take, drop}
use Rattle.borsh.specs.Taking.{Span, take_number, take_vec}
use Rattle.metadata.specs.Tapes.{Tape, tape_at, fits}

pub data Listing : Type 0 where
  tapes : List Tape → Listing
  unreadable : Listing

-- ---- one tape: its name, its length, its start

-- a tape that was found: where its name stands and how many letters it has, its numbers, and the place behind it
pub record FoundTape : Type 0 where
  pub place : ℕ
  pub letters : ℕ
  pub len : ℕ
  pub start : ℕ
  pub next : ℕ

abbrev pub found_tape : ℕ → ℕ → ℕ → ℕ → ℕ → FoundTape
found_tape place letters len start next = record { place = place; letters = letters; len = len; start = start; next = next }

abbrev pub with_start : ℕ → ℕ → ℕ → Option (ℕ × ℕ) → Option FoundTape
with_start place letters len (Some n) = Some (found_tape place letters len n.0 n.1)
with_start place letters len None = None

abbrev pub with_len : List ℕ → ℕ → ℕ → Option (ℕ × ℕ) → Option FoundTape
with_len s place letters (Some n) = with_start place letters n.0 (take_number 8 s n.1)
with_len s place letters None = None

abbrev pub with_name : List ℕ → Option Span → Option FoundTape
with_name s (Some b) = with_len s b.start b.len (take_number 8 s b.next)
with_name s None = None

unfoldable pub take_tape : List ℕ → ℕ → Option FoundTape
take_tape s at = with_name s (take_vec s at)

-- the tape that was found, if it may stand behind the name before it
abbrev pub allowed : List ℕ → List ℕ → Option FoundTape → Option FoundTape
allowed before s (Some t) = cond (fits before (tape_at s t.place t.letters t.len t.start)) (Some t) None
allowed before s None = None

unfoldable pub next_tape : List ℕ → List ℕ → ℕ → Option FoundTape
next_tape before s at = allowed before s (take_tape s at)

-- what a reader's answer says was found: a tape, where in s its name stands, and where the reader then stands
pub record TookTape (s : List ℕ) (found : Option FoundTape) (t : Tape) (next : ℕ) : Type 0 where
  pub place : ℕ
  pub is : found ≡ Some (found_tape place (length t.name) t.len t.start next)
  pub named : t.name ≡ take (length t.name) (drop place s)

-- ---- the list

-- a tape in front of the rest
abbrev pub prepend : Tape → Listing → Listing
prepend t (tapes ts) = tapes (t ∷ ts)
prepend t unreadable = unreadable

-- a tape that was found, in front of what is read from the place behind it
abbrev pub go_on : List ℕ → Option FoundTape → (List ℕ → ℕ → Listing) → Listing
go_on s (Some t) rest = prepend (tape_at s t.place t.letters t.len t.start) (rest (take t.letters (drop t.place s)) t.next)
go_on s None rest = unreadable

-- so many tapes from a place on, the first behind a name, and no byte over
unfoldable pub decode_from : ℕ → List ℕ → List ℕ → ℕ → Listing
decode_from zero before s at = cond (eqb at (length s)) (tapes []) unreadable
decode_from (suc k) before s at = go_on s (next_tape before s at) (λ name next. decode_from k name s next)

abbrev pub counted : List ℕ → Option (ℕ × ℕ) → Listing
counted s (Some n) = cond (leb n.0 8) (decode_from n.0 [] s n.1) unreadable
counted s None = unreadable

-- the count, at most 8 of it, and the tapes
unfoldable pub decode_list : List ℕ → Listing
decode_list s = counted s (take_number 4 s 0)
