-- What the functions that print do: a text put into a buffer, and the place behind it. Texts that are put one behind the other are one text.
-- Assumes nothing.
use Rattle.std.specs.Prelude.{◌≡◌, refl, List, [], ◌∷◌, ◌++◌, ℕ, ◌+◌, length, set}
use Rattle.std.proofs.Common.{sym, ◌∙◌, arith, length-append}
use Rattle.octets.specs.Bytes.{put, put-append}

-- the buffer s has become t, with the text from at up to end
abbrev pub Written : List ℕ → List ℕ → ℕ → ℕ → List ℕ → Type 0
Written text s at end t = (end ≡ at + length text) × (t ≡ put s at text)

pub written_byte : (b : ℕ) (s : List ℕ) (at : ℕ) → Written (b ∷ []) s at (at + 1) (set s at b)
unfolding put
written_byte b s at = (refl, refl)

pub written_then : (a b : List ℕ) (s t u : List ℕ) (at mid end : ℕ) → Written a s at mid t → Written b t mid end u → Written (a ++ b) s at end u
written_then a b s t u at mid end (e, p) (f, q) =
    (rw length-append (omega arith), q ∙ rw (p, e) (sym (put-append s at a b)))
