-- The first of a run of places at which a test holds, a test that holds at each of them, and how many there are at which it holds. The laws are over
-- the test, so that a search, a rule over a table and a count are each one line. Assumes nothing.
use Rattle.std.specs.Prelude.{◌≡◌, refl, ◌≢◌, Bool, true, false, cond, ◌&&◌, Option, Some, None}
use Rattle.std.proofs.Common.{ap, ◌∙◌, ⊎_elim, eq-or-lt_of_le, zero-add, add-zero}
use Prim.Native.Nat.{ℕ, zero, suc, ◌+◌, ◌-◌, ◌≤◌, ◌<◌}
use native.Mathlib.Omega.{arith}
use Rattle.octets.specs.Cases.{decide, equal}

-- of the k places from i on
unfoldable pub first : (ℕ → Bool) → ℕ → ℕ → Option ℕ
first p zero i = None
first p (suc k) i = cond (p i) (Some i) (first p k (i + 1))

unfoldable pub all : (ℕ → Bool) → ℕ → ℕ → Bool
all p zero i = true
all p (suc k) i = p i && all p k (i + 1)

unfoldable pub count : (ℕ → Bool) → ℕ → ℕ → ℕ
count p zero i = 0
count p (suc k) i = cond (p i) 1 0 + count p k (i + 1)

-- ---- one turn, and the end, where n - i are left
module _ (p : ℕ → Bool) (n i : ℕ) where
  pub first-hit : i < n → p i ≡ true → first p (n - i) i ≡ Some i
  unfolding first
  first-hit l h =
      let e : n - i ≡ suc (n - (i + 1)) = omega arith in
      rw (e, h)

  pub first-miss : i < n → p i ≡ false → first p (n - i) i ≡ first p (n - (i + 1)) (i + 1)
  unfolding first
  first-miss l h =
      let e : n - i ≡ suc (n - (i + 1)) = omega arith in
      rw (e, h)

  pub first-none : n ≤ i → first p (n - i) i ≡ None
  unfolding first
  first-none l =
      let e : n - i ≡ 0 = omega arith in
      rw e

  pub all-hit : i < n → p i ≡ true → all p (n - i) i ≡ all p (n - (i + 1)) (i + 1)
  unfolding all
  all-hit l h =
      let e : n - i ≡ suc (n - (i + 1)) = omega arith in
      rw (e, h)

  pub all-miss : i < n → p i ≡ false → all p (n - i) i ≡ false
  unfolding all
  all-miss l h =
      let e : n - i ≡ suc (n - (i + 1)) = omega arith in
      rw (e, h)

  pub all_none : n ≤ i → all p (n - i) i ≡ true
  unfolding all
  all_none l =
      let e : n - i ≡ 0 = omega arith in
      rw e

  pub count-hit : i < n → p i ≡ true → count p (n - i) i ≡ 1 + count p (n - (i + 1)) (i + 1)
  unfolding count
  count-hit l h =
      let e : n - i ≡ suc (n - (i + 1)) = omega arith in
      rw (e, h)

  pub count-miss : i < n → p i ≡ false → count p (n - i) i ≡ count p (n - (i + 1)) (i + 1)
  unfolding count
  count-miss l h =
      let e : n - i ≡ suc (n - (i + 1)) = omega arith in
      rw (e, h) (zero-add _)

  pub count_none : n ≤ i → count p (n - i) i ≡ 0
  unfolding count
  count_none l =
      let e : n - i ≡ 0 = omega arith in
      rw e

-- ---- what they say

-- the place that was found
pub record Hit (p : ℕ → Bool) (k i j : ℕ) : Type 0 where
  pub low : i ≤ j
  pub high : j < i + k
  pub holds : p j ≡ true
  pub before : (m : ℕ) → i ≤ m → m < j → p m ≡ false

-- tests that agree on the run find the same
pub first-same : (p q : ℕ → Bool) (k i : ℕ) → ((j : ℕ) → i ≤ j → j < i + k → p j ≡ q j) → first p k i ≡ first q k i
unfolding first
first-same p q zero i h = refl
first-same p q (suc k) i h =
    rw (h i (omega arith) (omega arith), first-same p q k (i + 1) (λ j l m. h j (omega arith) (omega arith)))

-- none is found where the test fails throughout
pub first-never : (p : ℕ → Bool) (k i : ℕ) → ((j : ℕ) → i ≤ j → j < i + k → p j ≡ false) → first p k i ≡ None
unfolding first
first-never p zero i h = refl
first-never p (suc k) i h =
    rw (h i (omega arith) (omega arith), first-never p k (i + 1) (λ j l m. h j (omega arith) (omega arith)))

-- a place at which it holds, and not before
pub first-at : (p : ℕ → Bool) (k i j : ℕ) → Hit p k i j → first p k i ≡ Some j
unfolding first
first-at p zero i j h = absurd (omega arith)
first-at p (suc k) i j h =
    ⊎_elim
    (λ (e : i ≡ j).
    let t : p i ≡ true = cc in
    rw t (ap Some e))
    (λ (l : i < j).
    rw (h.before i (omega arith) l)
    (first-at p k (i + 1) j (record { low = omega arith; high = omega arith; holds = h.holds; before = λ m a b. h.before m (omega arith) b })))
    (eq-or-lt_of_le h.low)

pub first-hits : (p : ℕ → Bool) (k i j : ℕ) → first p k i ≡ Some j → Hit p k i j
unfolding first
first-hits p zero i j e = let z : ◌≡◌ {A = ℕ} 0 1 = cc in absurd (omega arith)
first-hits p (suc k) i j e =
    decide (p i)
    (λ (t : p i ≡ true).
    let q : i ≡ j = cc in
    record { low = omega arith; high = omega arith; holds = cc; before = λ m a b. absurd (omega arith) })
    (λ (f : p i ≡ false).
    let r : Hit p k (i + 1) j = first-hits p k (i + 1) j (rw f at e) in
    record {
      low = omega arith;
      high = omega arith;
      holds = r.holds;
      before = λ m a b. ⊎_elim (λ (q : i ≡ m). cc) (λ (l : i < m). r.before m (omega arith) b) (eq-or-lt_of_le a);
    })

pub first-misses : (p : ℕ → Bool) (k i : ℕ) → first p k i ≡ None → (j : ℕ) → i ≤ j → j < i + k → p j ≡ false
unfolding first
first-misses p zero i e j l h = absurd (omega arith)
first-misses p (suc k) i e j l h =
    decide (p i)
    (λ (t : p i ≡ true). cc)
    (λ (f : p i ≡ false). ⊎_elim (λ (q : i ≡ j). cc) (λ (m : i < j). first-misses p k (i + 1) (rw f at e) j (omega arith) (omega arith)) (eq-or-lt_of_le l))

pub all_true : (p : ℕ → Bool) (k i : ℕ) → ((j : ℕ) → i ≤ j → j < i + k → p j ≡ true) → all p k i ≡ true
unfolding all
all_true p zero i h = refl
all_true p (suc k) i h =
    rw (h i (omega arith) (omega arith), all_true p k (i + 1) (λ j l m. h j (omega arith) (omega arith)))

pub all-holds : (p : ℕ → Bool) (k i : ℕ) → all p k i ≡ true → (j : ℕ) → i ≤ j → j < i + k → p j ≡ true
unfolding all
all-holds p zero i e j l h = absurd (omega arith)
all-holds p (suc k) i e j l h =
    decide (p i)
    (λ (t : p i ≡ true). ⊎_elim (λ (q : i ≡ j). cc) (λ (m : i < j). all-holds p k (i + 1) (rw t at e) j (omega arith) (omega arith)) (eq-or-lt_of_le l))
    (λ (f : p i ≡ false). cc)

-- a place at which it fails
pub all-fails : (p : ℕ → Bool) (k i j : ℕ) → i ≤ j → j < i + k → p j ≡ false → all p k i ≡ false
all-fails p k i j l h f =
    decide (all p k i) (λ (t : all p k i ≡ true). let q = all-holds p k i t j l h in cc) (λ q. q)

-- m places, and then those behind them
pub all_split : (p : ℕ → Bool) (m k i : ℕ) → all p (m + k) i ≡ (all p m i && all p k (i + m))
unfolding all
all_split p zero k i = rw (zero-add, add-zero)
all_split p (suc m) k i =
    let e : suc m + k ≡ suc (m + k) = omega arith in
    let f : i + suc m ≡ i + 1 + m = omega arith in
    decide (p i)
    (λ (t : p i ≡ true). rw (e, f, t) (all_split p m k (i + 1)))
    (λ (n : p i ≡ false). rw (e, n))

-- m places at which it holds are passed at once
pub all-skip : (p : ℕ → Bool) (m k i : ℕ) → ((j : ℕ) → i ≤ j → j < i + m → p j ≡ true) → all p (m + k) i ≡ all p k (i + m)
all-skip p m k i h = all_split p m k i ∙ rw (all_true p m i h)

-- m places at which it fails are passed at once
pub first-skip : (p : ℕ → Bool) (m k i : ℕ) → ((j : ℕ) → i ≤ j → j < i + m → p j ≡ false) → first p (m + k) i ≡ first p k (i + m)
unfolding first
first-skip p zero k i h = rw (zero-add, add-zero)
first-skip p (suc m) k i h =
    let e : suc m + k ≡ suc (m + k) = omega arith in
    let f : i + suc m ≡ i + 1 + m = omega arith in
    rw (e, f, h i (omega arith) (omega arith)) (first-skip p m k (i + 1) (λ j a b. h j (omega arith) (omega arith)))

-- tests that agree on the run count the same
pub count_same : (p q : ℕ → Bool) (k i : ℕ) → ((j : ℕ) → i ≤ j → j < i + k → p j ≡ q j) → count p k i ≡ count q k i
unfolding count
count_same p q zero i h = refl
count_same p q (suc k) i h =
    rw (h i (omega arith) (omega arith), count_same p q k (i + 1) (λ j l m. h j (omega arith) (omega arith)))

-- never more than the places
pub count-le : (p : ℕ → Bool) (k i : ℕ) → count p k i ≤ k
unfolding count
count-le p zero i = omega arith
count-le p (suc k) i =
    decide (p i)
    (λ (t : p i ≡ true). rw t (omega (arith, count-le p k (i + 1))))
    (λ (f : p i ≡ false). rw f (omega (arith, count-le p k (i + 1))))

-- a test that holds at one place more counts one more
pub count-more : (p q : ℕ → Bool) (k i j : ℕ) → i ≤ j → j < i + k → p j ≡ false → q j ≡ true → ((m : ℕ) → i ≤ m → m < i + k → m ≢ j → q m ≡ p m)
    → count q k i ≡ count p k i + 1
unfolding count
count-more p q zero i j low high f t h = absurd (omega arith)
count-more p q (suc k) i j low high f t h =
    equal i j
    (λ (e : i ≡ j).
    rw (e, f, t)
    (ap (λ (n : ℕ). 1 + n) (count_same q p k (j + 1) (λ m a b. h m (omega arith) (omega arith) (λ c. omega arith))) ∙ omega arith))
    (λ (d : i ≢ j).
    rw (h i (omega arith) (omega arith) d, count-more p q k (i + 1) j (omega arith) (omega arith) f t (λ m a b c. h m (omega arith) (omega arith) c))
    (omega arith))

-- a test that holds at no place more counts no more; at one place fewer, fewer
module _ (p q : ℕ → Bool) where
  pub count-within : (k i : ℕ) → ((j : ℕ) → i ≤ j → j < i + k → q j ≡ true → p j ≡ true) → count q k i ≤ count p k i
  unfolding count
  count-within zero i h = omega arith
  count-within (suc k) i h =
      let rest = count-within k (i + 1) (λ j l m. h j (omega arith) (omega arith)) in
      decide (q i)
      (λ (t : q i ≡ true). rw (t, h i (omega arith) (omega arith) t) (omega arith))
      (λ (f : q i ≡ false). rw f (omega arith))

  pub count-fewer : (k i m : ℕ) → i ≤ m → m < i + k → p m ≡ true → q m ≡ false → ((j : ℕ) → i ≤ j → j < i + k → q j ≡ true → p j ≡ true)
      → count q k i < count p k i
  unfolding count
  count-fewer zero i m low high t f h = absurd (omega arith)
  count-fewer (suc k) i m low high t f h =
      equal i m
      (λ (e : i ≡ m).
      let rest = count-within k (m + 1) (λ j l n. h j (omega arith) (omega arith)) in
      rw (e, t, f) (omega arith))
      (λ (d : i ≢ m).
      let rest = count-fewer k (i + 1) m (omega arith) (omega arith) t f (λ j l n. h j (omega arith) (omega arith)) in
      decide (q i)
      (λ (u : q i ≡ true). rw (u, h i (omega arith) (omega arith) u) (omega arith))
      (λ (u : q i ≡ false). rw u (omega arith)))
