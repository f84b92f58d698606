-- Eight calls in a row that each take a step, as G and a round have them: pure lemmas, since `cc` over the records of eight calls meets its bound. Assumes nothing.
use Rattle.std.proofs.Common.{◌≡◌, ℕ, ◌+◌, ◌*◌, ◌<◌, List, get_or, ap, ◌∙◌, ap₂, arith}
use Rattle.blake2b.specs.Constants.{SIGMA}
use Rattle.blake2b.specs.Schedule.{row_of, digit, row-digit}
use Rattle.blake2b.specs.Blake2b.{◌▷◌, G, mixing}

pub eight : (f₁ f₂ f₃ f₄ f₅ f₆ f₇ f₈ : List ℕ → List ℕ) {v₀ v₁ v₂ v₃ v₄ v₅ v₆ v₇ v₈ : List ℕ}
    → v₁ ≡ f₁ v₀ → v₂ ≡ f₂ v₁ → v₃ ≡ f₃ v₂ → v₄ ≡ f₄ v₃ → v₅ ≡ f₅ v₄ → v₆ ≡ f₆ v₅ → v₇ ≡ f₇ v₆ → v₈ ≡ f₈ v₇
    → v₈ ≡ v₀ ▷ f₁ ▷ f₂ ▷ f₃ ▷ f₄ ▷ f₅ ▷ f₆ ▷ f₇ ▷ f₈
eight f₁ f₂ f₃ f₄ f₅ f₆ f₇ f₈ e₁ e₂ e₃ e₄ e₅ e₆ e₇ e₈ = cc

-- a call of G on the message words that a round's mixing number j takes
pub mixed : (m : List ℕ) (i j a b c d : ℕ) (v : List ℕ) {u : List ℕ} {row x y : ℕ}
    → i < 10
    → j < 8
    → row ≡ row_of i
    → u ≡ G v a b c d x y
    → x ≡ get_or m (digit row (2 * j)) 0
    → y ≡ get_or m (digit row (2 * j + 1)) 0
    → u ≡ mixing m i j a b c d v
unfolding mixing
mixed m i j a b c d v {u} {row} {x} {y} p q s e f g =
    let first : digit row (2 * j) ≡ get_or SIGMA (16 * i + 2 * j) 0
    = ap (λ (r : ℕ). digit r (2 * j)) s ∙ row-digit i (2 * j) p (omega arith) in
    let second : digit row (2 * j + 1) ≡ get_or SIGMA (16 * i + (2 * j + 1)) 0
    = ap (λ (r : ℕ). digit r (2 * j + 1)) s ∙ row-digit i (2 * j + 1) p (omega arith) in
    let x' : x ≡ get_or m (get_or SIGMA (16 * i + 2 * j) 0) 0 = f ∙ ap (λ (k : ℕ). get_or m k 0) first in
    let y' : y ≡ get_or m (get_or SIGMA (16 * i + (2 * j + 1)) 0) 0 = g ∙ ap (λ (k : ℕ). get_or m k 0) second in
    e ∙ ap₂ (λ (x y : ℕ). G v a b c d x y) x' y'
