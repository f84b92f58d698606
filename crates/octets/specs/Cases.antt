-- Proofs by cases: a choice by a test, a conjunction, two numbers compared. Assumes nothing.
use Rattle.std.specs.Prelude.{◌≡◌, refl, Bool, true, false, cond, ◌&&◌, ℕ, ◌+◌, ◌/◌, ◌%◌, ◌≤◌, ◌<◌, leb, Some, unwrap_or}
use Rattle.std.proofs.Math.Bool.{and-eq-true_iff}
use Rattle.std.proofs.Common.{ap, div-add-mod', mul-le-mul_right, arith, le-leb}
use Rattle.std.proofs.Math.Decide.{dec_lt}
use Rattle.std.proofs.lemmas.Bool.{lt-leb}

-- what holds of both ways out of a choice holds of the choice
pub picked {ℓ κ} : {X : Type ℓ} (P : X → Type κ) (b : Bool) (x y : X) → (b ≡ true → P x) → (b ≡ false → P y) → P (cond b x y)
picked P true x y f g = f refl
picked P false x y f g = g refl

-- a test, decided
pub decide {κ} : {P : Type κ} (b : Bool) → (b ≡ true → P) → (b ≡ false → P) → P
decide true f g = f refl
decide false f g = g refl

-- what a conjunction says
pub and_l : (a b : Bool) → (a && b) ≡ true → a ≡ true
and_l a b e = ((and-eq-true_iff a b).0 e).0

pub and_r : (a b : Bool) → (a && b) ≡ true → b ≡ true
and_r a b e = ((and-eq-true_iff a b).0 e).1

pub and_both : (a b : Bool) → a ≡ true → b ≡ true → (a && b) ≡ true
and_both a b p q = (and-eq-true_iff a b).1 (p, q)

-- an order, decided
pub order {κ} : {P : Type κ} (a b : ℕ) → (a < b → P) → (b ≤ a → P) → P
order {P} a b f g = go (dec_lt a b)
  where
    go : Dec (a < b) → P
    go (yes l) = f l
    go (no n) = g (omega arith)

-- an equality, decided
pub equal {κ} : {P : Type κ} (a b : ℕ) → (a ≡ b → P) → ((a ≡ b → ⊥) → P) → P
equal a b f g = order a b (λ l. g (λ e. omega arith)) (λ l. order b a (λ m. g (λ e. omega arith)) (λ m. f (omega arith)))

-- tests of orders that follow from each other are the same
pub same-leb : (a b c d : ℕ) → (a ≤ b → c ≤ d) → (c ≤ d → a ≤ b) → leb a b ≡ leb c d
same-leb a b c d f g = order b a (λ l. rw (lt-leb a b l, lt-leb c d (order d c (λ m. m) (λ m. absurd (omega (arith, g m)))))) (λ l. rw (le-leb a b l, le-leb c d (f l)))

-- numbers less than c apart are different modulo c
pub mod-apart : (c a b : ℕ) → a < b → b < a + c → a % c ≡ b % c → ⊥
mod-apart c a b l u e =
    order (a / c) (b / c)
    (λ h. omega (arith, div-add-mod' a c, div-add-mod' b c, mul-le-mul_right c h))
    (λ h. omega (arith, div-add-mod' a c, div-add-mod' b c, mul-le-mul_right c h))

-- an option's value is its own
pub some-injective : {A : Type 0} (a b : A) → Some a ≡ Some b → a ≡ b
some-injective a b e = ap (λ o. unwrap_or o a) e
