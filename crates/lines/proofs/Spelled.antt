-- A text is another where its length and each of its bytes are, as a `match` on byte strings tests them. Assumes nothing.
use Rattle.std.specs.Prelude.{◌≡◌, refl, true, false, List, [], ◌∷◌, ℕ, suc, ◌⊎◌, length}
use Rattle.std.proofs.Common.{inl, inr, sym, ◌∙◌}
use Rattle.std.proofs.lemmas.Bool.{false≢true}
use Rattle.std.proofs.lemmas.Slice.Eq.{HasBytesAt, text_from_reads}
use Rattle.octets.specs.Cases.{decide}
use Rattle.octets.specs.Compare.{same_bytes, same_true, same_refl}

abbrev pub Spells : List ℕ → List ℕ → Type 0
Spells s p = (length s ≡ length p) × HasBytesAt s 0 p

shifted : (x : ℕ) (s p : List ℕ) (i : ℕ) → HasBytesAt s i p → HasBytesAt (x ∷ s) (suc i) p
shifted x s [] i h = tt
shifted x s (c ∷ p) i (h, t) = (h, shifted x s p (suc i) t)

own_bytes : (p : List ℕ) → HasBytesAt p 0 p
own_bytes [] = tt
own_bytes (c ∷ p) = (refl, shifted c p p 0 (own_bytes p))

pub same_cases : (s p : List ℕ) → ((same_bytes s p ≡ true) × Spells s p) ⊎ ((same_bytes s p ≡ false) × (Spells s p → ⊥))
same_cases s p =
    decide (same_bytes s p)
    (λ e. inl (e, rw (same_true s p e) (refl, own_bytes p)))
    (λ e. inr (e, λ (l, h). false≢true (sym e ∙ rw (text_from_reads s p l h) (same_refl p))))
