-- Document 01, "The driver": "fields parted by tabs". An empty line has one empty field. Assumes nothing.
use Rattle.std.specs.Prelude.{cond, List, [], ◌∷◌, ℕ, suc, eqb}

-- the byte in front of the first field
unfoldable pub in_front : ℕ → List (List ℕ) → List (List ℕ)
in_front b [] = (b ∷ []) ∷ []
in_front b (f ∷ fs) = (b ∷ f) ∷ fs

unfoldable pub fields : List ℕ → List (List ℕ)
fields [] = [] ∷ []
fields (b ∷ s) = cond (eqb b 9) ([] ∷ fields s) (in_front b (fields s))

-- how many bytes stand before the first tab; all, where there is none
unfoldable pub lead : List ℕ → ℕ
lead [] = 0
lead (b ∷ s) = cond (eqb b 9) 0 (suc (lead s))
