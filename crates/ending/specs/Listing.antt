-- The list that a commit publishes: of each tape that the writer touched what it has staged, of the others what its view says; by name in byte order.
-- Assumes nothing.
use Rattle.std.specs.Prelude.{Bool, true, cond, not, ◌&&◌, List, [], ◌∷◌, ℕ, zero, suc, eqb, Option, Some, None}
use Rattle.octets.specs.Compare.{comes_before}
use Rattle.octets.specs.Sweep.{sweep}
use Rattle.components.specs.Bounds.{cut_start}
use Rattle.metadata.specs.Tapes.{Tape}
use Rattle.layout.specs.Names.{name}
use Rattle.layout.specs.Session.{names_at, handle_number}
use Rattle.session.specs.Rows.{view_of, staged_of}
use Rattle.session.specs.declared.views.View.{View}

-- an open tape that the writer touched
unfoldable pub is_touched : List ℕ → ℕ → Bool
is_touched s p = not (eqb (handle_number s p) 0) && (staged_of s p).touched

-- "Truncate commit sets start to min(start, len)"
unfoldable pub published : List ℕ → Bool → ℕ → View
published s cut p =
    cond (is_touched s p)
    (record {
      listed = true;
      len = (staged_of s p).len;
      start = cond cut (cut_start (staged_of s p).start (staged_of s p).len) (staged_of s p).start;
    })
    (view_of s 16 p)

-- ---- in byte order: behind a name the least that comes after it

abbrev pub is_less : List ℕ → ℕ → Option ℕ → Bool
is_less s p (Some q) = comes_before (name s names_at p) (name s names_at q)
is_less s p None = true

-- tape p is published, its name comes behind one, and before the best so far
unfoldable pub is_next : List ℕ → Bool → List ℕ → Option ℕ → ℕ → Bool
is_next s cut before best p = (published s cut p).listed && (comes_before before (name s names_at p) && is_less s p best)

unfoldable pub better : List ℕ → Bool → List ℕ → ℕ → Option ℕ → Option ℕ
better s cut before p best = cond (is_next s cut before best p) (Some p) best

unfoldable pub next_behind : List ℕ → Bool → List ℕ → Option ℕ
next_behind s cut before = sweep (better s cut before) 8 0 None

unfoldable pub tape_in : List ℕ → Bool → ℕ → Tape
tape_in s cut p = record { name = name s names_at p; len = (published s cut p).len; start = (published s cut p).start }

-- a tape that was found, and what comes behind its name
abbrev pub with_next : List ℕ → Bool → (List ℕ → List Tape) → Option ℕ → List Tape
with_next s cut rest (Some p) = tape_in s cut p ∷ rest (name s names_at p)
with_next s cut rest None = []

-- at most k tapes behind a name
unfoldable pub list_behind : List ℕ → Bool → ℕ → List ℕ → List Tape
list_behind s cut zero before = []
list_behind s cut (suc k) before = with_next s cut (list_behind s cut k) (next_behind s cut before)

-- the whole list: the first name comes behind the empty one, which is none
abbrev pub next_list : List ℕ → Bool → List Tape
next_list s cut = list_behind s cut 8 []
