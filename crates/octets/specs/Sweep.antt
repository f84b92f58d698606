-- A step made at each of a run of rows, one after the other: what the whole does to a table is said once, over the step. Assumes nothing.
use Rattle.std.specs.Prelude.{◌≡◌, ◌≢◌}
use Rattle.std.proofs.Math.Path.{refl, ap}
use Rattle.std.proofs.Common.{◌∙◌}
use Prim.Native.Nat.{ℕ, zero, suc, ◌+◌, ◌-◌, ◌≤◌, ◌<◌}
use native.Mathlib.Omega.{arith}
use Rattle.octets.specs.Cases.{equal}

-- at the k rows from i on, of one area or of both
unfoldable pub sweep : {S : Type 0} → (ℕ → S → S) → ℕ → ℕ → S → S
sweep f zero i s = s
sweep f (suc k) i s = sweep f k (i + 1) (f i s)

-- ---- one turn, and the end, where n - i are left
module _ {S : Type 0} (f : ℕ → S → S) (n i : ℕ) (s : S) where
  pub sweep-turn : i < n → sweep f (n - i) i s ≡ sweep f (n - (i + 1)) (i + 1) (f i s)
  unfolding sweep
  sweep-turn l =
      let e : n - i ≡ suc (n - (i + 1)) = omega arith in
      rw e

  pub sweep-end : n ≤ i → sweep f (n - i) i s ≡ s
  unfolding sweep
  sweep-end l =
      let e : n - i ≡ 0 = omega arith in
      rw e

-- ---- what it does

-- what each step keeps, the whole keeps
pub sweep-keeps : {S : Type 0} (P : S → Type 0) (f : ℕ → S → S) (k i : ℕ) (s : S)
    → ((j : ℕ) (t : S) → i ≤ j → j < i + k → P t → P (f j t)) → P s → P (sweep f k i s)
unfolding sweep
sweep-keeps P f zero i s h p = p
sweep-keeps P f (suc k) i s h p =
    sweep-keeps P f k (i + 1) (f i s) (λ j t l m q. h j t (omega arith) (omega arith) q) (h i s (omega arith) (omega arith) p)

-- a step that changes its own row alone, by g, changes each row of the run by g, and no other row
pub record Rowwise {S A : Type 0} (P : S → Type 0) (row : S → ℕ → A) (f : ℕ → S → S) (g : ℕ → A → A) (n : ℕ) : Type 0 where
  pub keeps : (i : ℕ) (s : S) → i < n → P s → P (f i s)
  pub own : (i : ℕ) (s : S) → i < n → P s → row (f i s) i ≡ g i (row s i)
  pub other : (i j : ℕ) (s : S) → i < n → j < n → j ≢ i → P s → row (f i s) j ≡ row s j

module _ {S A : Type 0} (P : S → Type 0) (row : S → ℕ → A) (f : ℕ → S → S) (g : ℕ → A → A) (n : ℕ) (each : Rowwise P row f g n) where
  -- rows below the run
  pub sweep-below : (k i : ℕ) (s : S) (j : ℕ) → i + k ≤ n → P s → j < i → row (sweep f k i s) j ≡ row s j
  unfolding sweep
  sweep-below zero i s j room p l = refl
  sweep-below (suc k) i s j room p l =
      sweep-below k (i + 1) (f i s) j (omega arith) (each.keeps i s (omega arith) p) (omega arith)
      ∙ each.other i j s (omega arith) (omega arith) (λ e. omega arith) p

  -- rows of the run
  pub sweep-row : (k i : ℕ) (s : S) (j : ℕ) → i + k ≤ n → P s → i ≤ j → j < i + k → row (sweep f k i s) j ≡ g j (row s j)
  unfolding sweep
  sweep-row zero i s j room p l m = absurd (omega arith)
  sweep-row (suc k) i s j room p l m =
      equal j i
      (λ (e : j ≡ i).
      rw e (sweep-below k (i + 1) (f i s) i (omega arith) (each.keeps i s (omega arith) p) (omega arith) ∙ each.own i s (omega arith) p))
      (λ (d : j ≢ i).
      sweep-row k (i + 1) (f i s) j (omega arith) (each.keeps i s (omega arith) p) (omega arith) (omega arith)
      ∙ ap (g j) (each.other i j s (omega arith) (omega arith) d p))
