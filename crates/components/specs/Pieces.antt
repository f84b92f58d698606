-- Which file an offset lies in, where in it, and what of a run of bytes falls into it. Document 01, "Tape steps": "File number = offset / file size".
-- Where files are of another shape, these three and their laws are what changes. Assumes nothing.
use Rattle.std.specs.Prelude.{List, [], ◌∷◌, ℕ, zero, suc, ◌+◌, ◌-◌, ◌/◌, ◌%◌, min}

-- the number of the file that an offset lies in
abbrev pub file_of : ℕ → ℕ → ℕ
file_of fs o = o / fs

-- its place in that file
abbrev pub place_in : ℕ → ℕ → ℕ
place_in fs o = o % fs

-- how much room the file has from there on
abbrev pub left_in : ℕ → ℕ → ℕ
left_in fs o = fs - o % fs

-- so many bytes at a place of a file
pub record Piece : Type 0 where
  pub file : ℕ
  pub place : ℕ
  pub count : ℕ

abbrev pub piece : ℕ → ℕ → ℕ → Piece
piece file place count = record { file = file; place = place; count = count }

-- at most k pieces of n bytes from the offset o on
unfoldable pub pieces_from : ℕ → ℕ → ℕ → ℕ → List Piece
pieces_from zero fs o n = []
pieces_from (suc k) fs o zero = []
pieces_from (suc k) fs o (suc n) =
    piece (file_of fs o) (place_in fs o) (min (suc n) (left_in fs o))
    ∷ pieces_from k fs (o + min (suc n) (left_in fs o)) (suc n - min (suc n) (left_in fs o))

-- the pieces that n bytes from an offset on fall into: no more than bytes
unfoldable pub pieces : ℕ → ℕ → ℕ → List Piece
pieces fs o n = pieces_from n fs o n
