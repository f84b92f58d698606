-- Words of a table joined by OR, as the rules' code reads them before it tests, and what the join says of each word. Assumes nothing.
use Rattle.std.specs.Prelude.{◌≡◌, ℕ, zero, suc, ◌+◌, ◌^◌, ◌≤◌, ◌<◌}
use Rattle.std.proofs.Common.{add-one, arith, pow_pos}
use Rattle.std.specs.Int.Bits.{bit_or, or_add_and}
use Rattle.std.proofs.lemmas.Nat.{or_lt, and_le_l, and_le_r}
use Rattle.octets.specs.Cases.{equal}

-- the first k words
unfoldable pub joined : (ℕ → ℕ) → ℕ → ℕ
joined f zero = 0
joined f (suc k) = bit_or (joined f k) (f k)

-- one word more
pub joined-more : (f : ℕ → ℕ) (k held next : ℕ) → held ≡ joined f k → next ≡ f k → bit_or held next ≡ joined f (k + 1)
unfolding joined
joined-more f k held next h n = rw (h, n, add-one k)

-- no less than each
pub joined-above : (f : ℕ → ℕ) (k i : ℕ) → i < k → f i ≤ joined f k
unfolding joined
joined-above f zero i l = absurd (omega arith)
joined-above f (suc k) i l =
    let sum = or_add_and (joined f k) (f k) in
    equal i k
    (λ (e : i ≡ k).
    let low = and_le_l (joined f k) (f k) in
    rw e (omega (arith, sum, low)))
    (λ d.
    let low = and_le_r (joined f k) (f k) in
    let before = joined-above f k i (omega arith) in
    omega (arith, sum, low, before))

-- below a power of two where each is
pub joined-below : (f : ℕ → ℕ) (n k : ℕ) → ((i : ℕ) → i < k → f i < 2 ^ n) → joined f k < 2 ^ n
unfolding joined
joined-below f n zero h = pow_pos n
joined-below f n (suc k) h = or_lt n (joined f k) (f k) (joined-below f n k (λ i l. h i (omega arith))) (h k (omega arith))
