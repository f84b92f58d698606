-- Runs of bytes compared: whether two are the same, and which comes first in byte order. Assumes nothing.
use Rattle.std.specs.Prelude.{◌≡◌, refl, ◌≢◌, Bool, cond, ℕ, suc, ◌+◌, ◌≤◌, ◌<◌, eqb, length, get_or, drop}
use Rattle.std.proofs.Common.{sym, ap, ◌∙◌, add-one, arith}
use Rattle.std.proofs.Math.Bool.{true, false}
use Rattle.std.proofs.lemmas.Bool.{false≢true}
use mathlib.Core.List.{List, [], ◌∷◌}
use borrow.Author.Tests.{lt-ltb, le-ltb, ltb-true, ltb-false, eqb-true, eq-eqb, ne_eqb}
use Rattle.std.proofs.Math.Dec.{ltb}
use Rattle.std.proofs.Math.ListN.{drop_of_length-le}
use Rattle.std.proofs.Math.Seq.{drop-cons}

-- the same bytes, as many
unfoldable pub same_bytes : List ℕ → List ℕ → Bool
same_bytes [] [] = true
same_bytes [] (y ∷ b) = false
same_bytes (x ∷ a) [] = false
same_bytes (x ∷ a) (y ∷ b) = cond (eqb x y) (same_bytes a b) false

-- before the other in the order of bytes; the end of a text comes before every byte
unfoldable pub comes_before : List ℕ → List ℕ → Bool
comes_before [] [] = false
comes_before [] (y ∷ b) = true
comes_before (x ∷ a) [] = false
comes_before (x ∷ a) (y ∷ b) = cond (ltb x y) true (cond (ltb y x) false (comes_before a b))

-- ---- the same: what it says

both : (t u : Bool) → cond t u false ≡ true → (t ≡ true) × (u ≡ true)
both true u e = (refl, e)
both false u e = absurd (false≢true e)

pub same_true : (a b : List ℕ) → same_bytes a b ≡ true → a ≡ b
unfolding same_bytes
same_true [] [] e = refl
same_true [] (y ∷ b) e = absurd (false≢true e)
same_true (x ∷ a) [] e = absurd (false≢true e)
same_true (x ∷ a) (y ∷ b) e =
    let q = both (eqb x y) (same_bytes a b) e in
    rw (eqb-true x y q.0, same_true a b q.1)

pub same_refl : (a : List ℕ) → same_bytes a a ≡ true
unfolding same_bytes
same_refl [] = refl
same_refl (x ∷ a) = rw (eq-eqb x x refl) (same_refl a)

-- ---- before: by the first bytes

module _ (x y : ℕ) (a b : List ℕ) where
  before-lt : x < y → comes_before (x ∷ a) (y ∷ b) ≡ true
  unfolding comes_before
  before-lt l = rw (lt-ltb x y l)

  before-gt : y < x → comes_before (x ∷ a) (y ∷ b) ≡ false
  unfolding comes_before
  before-gt l = rw (le-ltb x y (omega arith), lt-ltb y x l)

  before-eq : x ≡ y → comes_before (x ∷ a) (y ∷ b) ≡ comes_before a b
  unfolding comes_before
  before-eq e = rw (le-ltb x y (omega arith), le-ltb y x (omega arith))

-- how two numbers lie
data Lie (x y : ℕ) : Type 0 where
  low : x < y → Lie x y
  high : y < x → Lie x y
  level : x ≡ y → Lie x y

lie : (x y : ℕ) → Lie x y
lie x y = by (ltb x y) (ltb y x) refl refl
  where
    by : (t u : Bool) → ltb x y ≡ t → ltb y x ≡ u → Lie x y
    by true u e f = low (ltb-true x y e)
    by false true e f = high (ltb-true y x f)
    by false false e f = let p = ltb-false x y e in let q = ltb-false y x f in level (omega arith)

-- ---- before is a strict order, and total

pub before-irrefl : (a : List ℕ) → comes_before a a ≡ false
unfolding comes_before
before-irrefl [] = refl
before-irrefl (x ∷ a) = before-eq x x a a refl ∙ before-irrefl a

-- the first bytes of one that comes before
data Ahead (x y : ℕ) (a b : List ℕ) : Type 0 where
  first : x < y → Ahead x y a b
  later : x ≡ y → comes_before a b ≡ true → Ahead x y a b

ahead : (x y : ℕ) (a b : List ℕ) → comes_before (x ∷ a) (y ∷ b) ≡ true → Ahead x y a b
ahead x y a b e = by (lie x y)
  where
    by : Lie x y → Ahead x y a b
    by (low l) = first l
    by (high l) = absurd (false≢true (sym (before-gt x y a b l) ∙ e))
    by (level q) = later q (sym (before-eq x y a b q) ∙ e)

pub before-trans : (a b c : List ℕ) → comes_before a b ≡ true → comes_before b c ≡ true → comes_before a c ≡ true
unfolding comes_before
before-trans [] [] c p q = absurd (false≢true p)
before-trans [] (y ∷ b) [] p q = absurd (false≢true q)
before-trans [] (y ∷ b) (z ∷ c) p q = refl
before-trans (x ∷ a) [] c p q = absurd (false≢true p)
before-trans (x ∷ a) (y ∷ b) [] p q = absurd (false≢true q)
before-trans (x ∷ a) (y ∷ b) (z ∷ c) p q = by (before-trans a b c) (ahead x y a b p) (ahead y z b c q)
  where
    by : (comes_before a b ≡ true → comes_before b c ≡ true → comes_before a c ≡ true) → Ahead x y a b → Ahead y z b c → comes_before (x ∷ a) (z ∷ c) ≡ true
    by h (first l) (first m) = before-lt x z a c (omega arith)
    by h (first l) (later f r) = before-lt x z a c (omega arith)
    by h (later e o) (first m) = before-lt x z a c (omega arith)
    by h (later e o) (later f r) = before-eq x z a c (e ∙ f) ∙ h o r

pub before-asym : (a b : List ℕ) → comes_before a b ≡ true → comes_before b a ≡ false
unfolding comes_before
before-asym [] [] p = refl
before-asym [] (y ∷ b) p = refl
before-asym (x ∷ a) [] p = absurd (false≢true p)
before-asym (x ∷ a) (y ∷ b) p = by (before-asym a b) (ahead x y a b p)
  where
    by : (comes_before a b ≡ true → comes_before b a ≡ false) → Ahead x y a b → comes_before (y ∷ b) (x ∷ a) ≡ false
    by h (first l) = before-gt y x b a l
    by h (later e o) = before-eq y x b a (sym e) ∙ h o

pub before-total : (a b : List ℕ) → comes_before a b ≡ false → comes_before b a ≡ false → a ≡ b
unfolding comes_before
before-total [] [] p q = refl
before-total [] (y ∷ b) p q = absurd (false≢true (sym p))
before-total (x ∷ a) [] p q = absurd (false≢true (sym q))
before-total (x ∷ a) (y ∷ b) p q = by (before-total a b) (lie x y)
  where
    by : (comes_before a b ≡ false → comes_before b a ≡ false → a ≡ b) → Lie x y → x ∷ a ≡ y ∷ b
    by h (low l) = absurd (false≢true (sym p ∙ before-lt x y a b l))
    by h (high l) = absurd (false≢true (sym q ∙ before-lt y x b a l))
    by h (level e) = rw (e, h (sym (before-eq x y a b e) ∙ p) (sym (before-eq y x b a (sym e)) ∙ q))

-- ---- the turns of the loops that compare, at the bytes that are left

-- runs that are not as long differ
pub same-lengths : (a b : List ℕ) → length a ≢ length b → same_bytes a b ≡ false
same-lengths a b d = by (same_bytes a b) refl
  where
    by : (t : Bool) → same_bytes a b ≡ t → same_bytes a b ≡ false
    by true e = absurd (d (ap length (same_true a b e)))
    by false e = e

module _ (a b : List ℕ) (i : ℕ) where
  pub same_step : i < length a → i < length b → get_or a i 0 ≡ get_or b i 0 → same_bytes (drop i a) (drop i b) ≡ same_bytes (drop (i + 1) a) (drop (i + 1) b)
  unfolding same_bytes
  same_step l m e = rw (drop-cons a i 0 l, drop-cons b i 0 m, eq-eqb (get_or a i 0) (get_or b i 0) e, add-one)

  pub same-differ : i < length a → i < length b → get_or a i 0 ≢ get_or b i 0 → same_bytes (drop i a) (drop i b) ≡ false
  unfolding same_bytes
  same-differ l m d = rw (drop-cons a i 0 l, drop-cons b i 0 m, ne_eqb (get_or a i 0) (get_or b i 0) d)

  pub same_end : length a ≤ i → length b ≤ i → same_bytes (drop i a) (drop i b) ≡ true
  unfolding same_bytes
  same_end l m = rw (drop_of_length-le a l, drop_of_length-le b m)

  pub before-step : i < length a → i < length b → get_or a i 0 ≡ get_or b i 0 → comes_before (drop i a) (drop i b) ≡ comes_before (drop (i + 1) a) (drop (i + 1) b)
  before-step l m e =
      rw (drop-cons a i 0 l, drop-cons b i 0 m, add-one)
      (before-eq (get_or a i 0) (get_or b i 0) (drop (suc i) a) (drop (suc i) b) e)

  pub before-low : i < length a → i < length b → get_or a i 0 < get_or b i 0 → comes_before (drop i a) (drop i b) ≡ true
  before-low l m h =
      rw (drop-cons a i 0 l, drop-cons b i 0 m)
      (before-lt (get_or a i 0) (get_or b i 0) (drop (suc i) a) (drop (suc i) b) h)

  pub before-high : i < length a → i < length b → get_or b i 0 < get_or a i 0 → comes_before (drop i a) (drop i b) ≡ false
  before-high l m h =
      rw (drop-cons a i 0 l, drop-cons b i 0 m)
      (before-gt (get_or a i 0) (get_or b i 0) (drop (suc i) a) (drop (suc i) b) h)

  -- the second ends first
  pub before-longer : i < length a → length b ≤ i → comes_before (drop i a) (drop i b) ≡ false
  unfolding comes_before
  before-longer l m = rw (drop-cons a i 0 l, drop_of_length-le b m)

  -- the first ends: it comes before if the second goes on
  pub before-end : length a ≤ i → comes_before (drop i a) (drop i b) ≡ ltb i (length b)
  unfolding comes_before
  before-end l = rw (drop_of_length-le a l) (by (ltb i (length b)) refl)
    where
      by : (t : Bool) → ltb i (length b) ≡ t → comes_before [] (drop i b) ≡ t
      by true e = rw (drop-cons b i 0 (ltb-true i (length b) e))
      by false e = rw (drop_of_length-le b (ltb-false i (length b) e))
