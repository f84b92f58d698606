-- std's words for a part of a slice, for bytes of a number and for comparisons are those of this crate. Assumes nothing.
use Rattle.std.specs.Prelude.{◌≡◌, refl, List, [], ◌∷◌, ◌++◌, ℕ, ◌+◌, ◌≤◌, Bool, true, false, Option, Some, cond, ◌&&◌, nat_eq, length, take, drop, ltb}
use Rattle.std.proofs.Common.{sym, ap, ◌∙◌, arith, drop-drop}
use Rattle.std.specs.Ordering.{nat_cmp, as_partial_cmp, partial_ordering_then, is_some_and}
use Rattle.std.proofs.Common.{Ordering, is_lt, w32, w64}
use borrow.Author.Tests.{ltb-true, ltb-false, eq-eqb, ne_eqb}
use Rattle.std.proofs.Math.Nat.{div-div-eq-div-mul}
use Rattle.std.specs.Cmp.Lexicographic.{pointwise, slice_partial_cmp}
use Rattle.std.specs.Int.{to_le_bytes}
use Rattle.octets.specs.Bytes.{put, put_is}
use Rattle.octets.specs.Number.{le}
use Rattle.octets.specs.Compare.{same_bytes, comes_before}
use borrow.Rule.Slice.PartMut.{put_mid}

-- a part of a slice replaced is a run put
pub put-mid : (s : List ℕ) (at n : ℕ) (bs : List ℕ) → length bs ≡ n → at + n ≤ length s → put_mid at n s bs ≡ put s at bs
put-mid s at n bs e h =
    ap (λ (q : List ℕ). take at s ++ (bs ++ q)) (drop-drop n at s)
    ∙ ap (λ (k : ℕ). take at s ++ (bs ++ drop (at + k) s)) (sym e)
    ∙ sym (put_is s at bs (rw e h))

and-cond : (t u : Bool) → (t && u) ≡ cond t u false
and-cond true u = refl
and-cond false u = refl

pub pointwise-same : (a b : List ℕ) → pointwise nat_eq a b ≡ same_bytes a b
unfolding same_bytes
pointwise-same [] [] = refl
pointwise-same [] (y ∷ b) = refl
pointwise-same (x ∷ a) [] = refl
pointwise-same (x ∷ a) (y ∷ b) = rw (pointwise-same a b) (and-cond (nat_eq x y) (same_bytes a b))

before-cond : (x y : ℕ) (rest : Option Ordering) → is_some_and is_lt (partial_ordering_then (Some (nat_cmp x y)) rest) ≡ cond (ltb x y) true (cond (ltb y x) false (is_some_and is_lt rest))
before-cond x y rest = pick (ltb x y) (ltb y x) refl refl
  where
    pick : (l g : Bool) → ltb x y ≡ l → ltb y x ≡ g → is_some_and is_lt (partial_ordering_then (Some (nat_cmp x y)) rest) ≡ cond (ltb x y) true (cond (ltb y x) false (is_some_and is_lt rest))
    pick true g e f = rw e refl
    pick false true e f = rw (e, f, ne_eqb x y (λ q. omega (arith, ltb-true y x f))) refl
    pick false false e f = rw (e, f, eq-eqb x y (omega (arith, ltb-false x y e, ltb-false y x f))) refl

pub partial-before : (a b : List ℕ) → is_some_and is_lt (slice_partial_cmp (as_partial_cmp nat_cmp) a b) ≡ comes_before a b
unfolding comes_before
partial-before [] [] = refl
partial-before [] (y ∷ b) = refl
partial-before (x ∷ a) [] = refl
partial-before (x ∷ a) (y ∷ b) = before-cond x y _ ∙ ap (λ (q : Bool). cond (ltb x y) true (cond (ltb y x) false q)) (partial-before a b)

-- the bytes of a number
pub le_8 : (v : ℕ) → to_le_bytes w64 v ≡ le 8 v
unfolding le
le_8 v = simp div-div-eq-div-mul

pub le_4 : (v : ℕ) → to_le_bytes w32 v ≡ le 4 v
unfolding le
le_4 v = simp div-div-eq-div-mul
