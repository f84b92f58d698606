-- Where a tape's name is found, in the session and on the disk. Assumes nothing.
use Rattle.std.specs.Prelude.{◌≡◌, true, ℕ, ◌<◌, Some, None}
use Rattle.std.proofs.Common.{sym, ◌∙◌, arith}
use Rattle.std.proofs.Math.Path.{ap}
use Rattle.std.proofs.Math.Bool.{true≢false}
use mathlib.Core.List.{List}
use Rattle.octets.specs.Cases.{decide}
use Rattle.octets.specs.Compare.{same_bytes, same_true, same_refl}
use Rattle.octets.specs.First.{first-same, first-at, first-hits, first-misses}
use Rattle.layout.specs.Names.{name, find_name}

module _ (s : List ℕ) (base : ℕ) (n : List ℕ) where
  pub found_name : (p : ℕ) → find_name s base n ≡ Some p → name s base p ≡ n
  unfolding find_name
  found_name p e = same_true (name s base p) n (first-hits (λ i. same_bytes (name s base i) n) 8 0 p e).holds

  pub not_found : find_name s base n ≡ None → (p : ℕ) → p < 8 → name s base p ≡ n → ⊥
  unfolding find_name
  not_found e p low same =
      true≢false (sym (ap (λ (x : List ℕ). same_bytes x n) same ∙ same_refl n) ∙ first-misses (λ i. same_bytes (name s base i) n) 8 0 e p (omega arith) (omega arith))

  -- where it stands, if it stands nowhere else
  pub found_at : (p : ℕ) → p < 8 → name s base p ≡ n → ((q : ℕ) → q < 8 → name s base q ≡ n → q ≡ p) → find_name s base n ≡ Some p
  unfolding find_name
  found_at p low same alone =
      first-at (λ i. same_bytes (name s base i) n) 8 0 p
      (record {
        low = omega arith;
        high = omega arith;
        holds = ap (λ (x : List ℕ). same_bytes x n) same ∙ same_refl n;
        before = λ m a b.
            decide (same_bytes (name s base m) n)
            (λ (e : same_bytes (name s base m) n ≡ true). absurd (omega (arith, alone m (omega arith) (same_true (name s base m) n e))))
            (λ e. e);
      })

-- a table of the same names
pub find-same : (s t : List ℕ) (base base' : ℕ) (n : List ℕ) → ((p : ℕ) → p < 8 → name t base' p ≡ name s base p) → find_name t base' n ≡ find_name s base n
unfolding find_name
find-same s t base base' n same =
    first-same (λ i. same_bytes (name t base' i) n) (λ i. same_bytes (name s base i) n) 8 0 (λ i a b. ap (λ (x : List ℕ). same_bytes x n) (same i (omega arith)))
