-- Laws of the list that a commit publishes: the turns of the search for the next name, what is found, that it is the least, and how the list grows.
-- Assumes nothing.
use Rattle.std.proofs.Math.Path.{◌≡◌, refl}
use Rattle.std.proofs.Common.{sym, ap, ◌∙◌, true≢false, add-zero}
use Rattle.std.specs.Prelude.{Bool, false, ◌&&◌, length, Option, Some, None}
use Rattle.std.proofs.Math.Bool.{true}
use mathlib.Core.List.{List, [], ◌∷◌}
use Prim.Native.Nat.{ℕ, zero, suc, ◌+◌, ◌-◌, ◌≤◌, ◌<◌}
use native.Mathlib.Omega.{arith}
use borrow.Author.Tests.{le-leb}
use Rattle.octets.specs.Cases.{decide, order, and_l, and_r}
use Rattle.octets.specs.Compare.{comes_before, before-irrefl, before-trans}
use Rattle.octets.specs.Sweep.{sweep, sweep-turn, sweep-end, sweep-keeps}
use Rattle.metadata.specs.Tapes.{fits, good_after}
use Rattle.metadata.specs.Name.{name_rule}
use Rattle.metadata.specs.Rules.{fits-numbers, good-cons, good-list}
use Rattle.metadata.specs.Struct.{list_of, tapes_of, storable}
use Rattle.metadata.specs.StructLaws.{tapes-of-list, storable-list}
use Rattle.layout.specs.Names.{name}
use Rattle.layout.specs.NamesLaws.{length-name}
use Rattle.layout.specs.Session.{names_at, Begun}
use Rattle.ending.specs.Listing.{published, is_less, is_next, better, next_behind, tape_in, with_next, list_behind, next_list}

-- a tape's name has at most 24 bytes
pub name-short : (s : List ℕ) (p : ℕ) → Begun s → p < 8 → length (name s names_at p) ≤ 24
name-short s p begun low =
    let long = length-name s names_at p begun.names low in
    let short = begun.names.short p low in
    omega arith

-- ---- one turn of the search, and its end, where 8 - i tapes are left

module _ (s : List ℕ) (cut : Bool) (before : List ℕ) (best : Option ℕ) (i : ℕ) where
  pub better-hit : is_next s cut before best i ≡ true → better s cut before i best ≡ Some i
  unfolding better
  better-hit e = rw e

  pub better-miss : is_next s cut before best i ≡ false → better s cut before i best ≡ best
  unfolding better
  better-miss e = rw e

  pub next-hit : i < 8 → is_next s cut before best i ≡ true
      → sweep (better s cut before) (8 - i) i best ≡ sweep (better s cut before) (8 - (i + 1)) (i + 1) (Some i)
  next-hit l e = sweep-turn (better s cut before) 8 i best l ∙ ap (sweep (better s cut before) (8 - (i + 1)) (i + 1)) (better-hit e)

  pub next-miss : i < 8 → is_next s cut before best i ≡ false
      → sweep (better s cut before) (8 - i) i best ≡ sweep (better s cut before) (8 - (i + 1)) (i + 1) best
  next-miss l e = sweep-turn (better s cut before) 8 i best l ∙ ap (sweep (better s cut before) (8 - (i + 1)) (i + 1)) (better-miss e)

  pub next-end : 8 ≤ i → sweep (better s cut before) (8 - i) i best ≡ best
  next-end l = sweep-end (better s cut before) 8 i best l

-- ---- what is found

-- the facts of a tape that was found
pub record Next (s : List ℕ) (cut : Bool) (before : List ℕ) (p : ℕ) : Type 0 where
  pub low : p < 8
  pub listed : (published s cut p).listed ≡ true
  pub behind : comes_before before (name s names_at p) ≡ true

module _ (s : List ℕ) (cut : Bool) (before : List ℕ) where
  module _ (best : Option ℕ) (i : ℕ) (e : is_next s cut before best i ≡ true) where
    next-is-listed : (published s cut i).listed ≡ true
    unfolding is_next
    next-is-listed = and_l (published s cut i).listed (comes_before before (name s names_at i) && is_less s i best) e

    next-orders : (comes_before before (name s names_at i) && is_less s i best) ≡ true
    unfolding is_next
    next-orders = and_r (published s cut i).listed (comes_before before (name s names_at i) && is_less s i best) e

    next-is-behind : comes_before before (name s names_at i) ≡ true
    next-is-behind = and_l (comes_before before (name s names_at i)) (is_less s i best) next-orders

    next-is-less : is_less s i best ≡ true
    next-is-less = and_r (comes_before before (name s names_at i)) (is_less s i best) next-orders

  pub next-found : (p : ℕ) → next_behind s cut before ≡ Some p → Next s cut before p
  unfolding next_behind
  next-found =
      sweep-keeps (λ (f : Option ℕ). (p : ℕ) → f ≡ Some p → Next s cut before p) (better s cut before) 8 0 None step
      (λ (p : ℕ) (e : None ≡ Some p). let z : ◌≡◌ {A = ℕ} 0 1 = cc in absurd (omega arith))
    where
      step : (j : ℕ) (best : Option ℕ) → 0 ≤ j → j < 0 + 8 → ((p : ℕ) → best ≡ Some p → Next s cut before p)
          → (p : ℕ) → better s cut before j best ≡ Some p → Next s cut before p
      step j best l m h p e =
          decide (is_next s cut before best j)
          (λ (t : is_next s cut before best j ≡ true).
          let same : j ≡ p = let hit = better-hit s cut before best j t in cc in
          rw (sym same) (record { low = omega arith; listed = next-is-listed best j t; behind = next-is-behind best j t }))
          (λ (f : is_next s cut before best j ≡ false). h p (sym (better-miss s cut before best j f) ∙ e))

  pub next-behind-low : (p : ℕ) → next_behind s cut before ≡ Some p → p < 8
  next-behind-low p e = (next-found p e).low

  pub next-listed : (p : ℕ) → next_behind s cut before ≡ Some p → (published s cut p).listed ≡ true
  next-listed p e = (next-found p e).listed

  pub next-order : (p : ℕ) → next_behind s cut before ≡ Some p → comes_before before (name s names_at p) ≡ true
  next-order p e = (next-found p e).behind

-- ---- it is the least

module _ (s : List ℕ) (cut : Bool) (before : List ℕ) where
  -- none that could be next comes before the one found; none was missed
  Passed : ℕ → Option ℕ → Type 0
  Passed i best = (q : ℕ) → q < i → (published s cut q).listed ≡ true → comes_before before (name s names_at q) ≡ true → is_less s q best ≡ false

  -- what is not before one is not before a lesser one
  not-before : (q i : ℕ) (best : Option ℕ) → is_less s q best ≡ false → is_less s i best ≡ true → comes_before (name s names_at q) (name s names_at i) ≡ false
  not-before q i None f t = absurd (true≢false f)
  not-before q i (Some b) f t =
      decide (comes_before (name s names_at q) (name s names_at i))
      (λ (e : comes_before (name s names_at q) (name s names_at i) ≡ true).
      absurd (true≢false (sym (before-trans (name s names_at q) (name s names_at i) (name s names_at b) e t) ∙ f)))
      (λ e. e)

  not-less : (best : Option ℕ) (i : ℕ) → is_next s cut before best i ≡ false → (published s cut i).listed ≡ true → comes_before before (name s names_at i) ≡ true
      → is_less s i best ≡ false
  unfolding is_next
  not-less best i f listed behind = rw (listed, behind) at f

  passed-one : (i : ℕ) (best : Option ℕ) → Passed i best → Passed (i + 1) (better s cut before i best)
  unfolding Passed
  passed-one i best h q l listed behind =
      decide (is_next s cut before best i)
      (λ (t : is_next s cut before best i ≡ true).
      rw (better-hit s cut before best i t)
      (order q i
      (λ (m : q < i). not-before q i best (h q m listed behind) (next-is-less s cut before best i t))
      (λ (m : i ≤ q). let same : q ≡ i = omega arith in rw same (before-irrefl (name s names_at i)))))
      (λ (f : is_next s cut before best i ≡ false).
      rw (better-miss s cut before best i f)
      (order q i
      (λ (m : q < i). h q m listed behind)
      (λ (m : i ≤ q).
      let same : q ≡ i = omega arith in
      rw same (not-less best i f (rw same at listed) (rw same at behind)))))

  passed-all : (k i : ℕ) (best : Option ℕ) → Passed i best → Passed (i + k) (sweep (better s cut before) k i best)
  unfolding sweep
  passed-all zero i best h = rw (add-zero i) h
  passed-all (suc k) i best h =
      let e : i + suc k ≡ i + 1 + k = omega arith in
      rw e (passed-all k (i + 1) (better s cut before i best) (passed-one i best h))

  pub next-least : (q : ℕ) → q < 8 → (published s cut q).listed ≡ true → comes_before before (name s names_at q) ≡ true → is_less s q (next_behind s cut before) ≡ false
  unfolding next_behind Passed
  next-least = passed-all 8 0 None (λ q l. absurd (omega arith))

  -- of a published tape behind the name, the one found does not come later
  pub next-first : (p q : ℕ) → next_behind s cut before ≡ Some p → q < 8 → (published s cut q).listed ≡ true → comes_before before (name s names_at q) ≡ true
      → comes_before (name s names_at q) (name s names_at p) ≡ false
  next-first p q e l listed behind = rw e at (next-least q l listed behind)

  -- where none is found there is none
  pub next-none : (q : ℕ) → next_behind s cut before ≡ None → q < 8 → (published s cut q).listed ≡ true → comes_before before (name s names_at q) ≡ false
  next-none q e l listed =
      decide (comes_before before (name s names_at q))
      (λ (t : comes_before before (name s names_at q) ≡ true). absurd (true≢false (rw e at (next-least q l listed t))))
      (λ f. f)

-- ---- the list: one tape more, and its end, where at most 8 - i are left

module _ (s : List ℕ) (cut : Bool) (before : List ℕ) (i : ℕ) where
  pub list-more : (p : ℕ) → i < 8 → next_behind s cut before ≡ Some p
      → list_behind s cut (8 - i) before ≡ tape_in s cut p ∷ list_behind s cut (8 - (i + 1)) (name s names_at p)
  unfolding list_behind
  list-more p l e =
      let k : 8 - i ≡ suc (8 - (i + 1)) = omega arith in
      rw (k, e)

  pub list-none : i < 8 → next_behind s cut before ≡ None → list_behind s cut (8 - i) before ≡ []
  unfolding list_behind
  list-none l e =
      let k : 8 - i ≡ suc (8 - (i + 1)) = omega arith in
      rw (k, e)

  pub list-end : 8 ≤ i → list_behind s cut (8 - i) before ≡ []
  unfolding list_behind
  list-end l =
      let k : 8 - i ≡ 0 = omega arith in
      rw k

-- ---- the struct that holds it says the same

pub next-tapes : (s : List ℕ) (cut : Bool) → tapes_of (list_of (next_list s cut)) ≡ next_list s cut
next-tapes s cut = tapes-of-list (next_list s cut)

-- ---- which lists there are

-- at most so many tapes as were asked for
few : (s : List ℕ) (cut : Bool) (k : ℕ) (before : List ℕ) → length (list_behind s cut k before) ≤ k
unfolding list_behind
few s cut zero before = omega arith
few s cut (suc k) before = by (next_behind s cut before) (few s cut k)
  where
    by : (f : Option ℕ) → ((last : List ℕ) → length (list_behind s cut k last) ≤ k) → length (with_next s cut (list_behind s cut k) f) ≤ suc k
    by (Some p) rest = omega (arith, rest (name s names_at p))
    by None rest = omega arith

pub next-few : (s : List ℕ) (cut : Bool) → length (next_list s cut) ≤ 8
next-few s cut = few s cut 8 []

-- a published tape whose name keeps the rule, and whose start is not above its length
pub record Good (s : List ℕ) (cut : Bool) (p : ℕ) : Type 0 where
  pub rule : name_rule (name s names_at p) ≡ true
  pub inside : (published s cut p).start ≤ (published s cut p).len

-- where the published tapes are good, the list is one that may be stored
module _ (s : List ℕ) (cut : Bool) (good : (p : ℕ) → p < 8 → (published s cut p).listed ≡ true → Good s cut p) where
  found-fits : (before : List ℕ) (p : ℕ) → next_behind s cut before ≡ Some p → fits before (tape_in s cut p) ≡ true
  unfolding tape_in
  found-fits before p e =
      let g = good p (next-behind-low s cut before p e) (next-listed s cut before p e) in
      fits-numbers before (tape_in s cut p) (next-order s cut before p e) g.rule
      ∙ le-leb (published s cut p).start (published s cut p).len g.inside

  behind-good : (k : ℕ) (before : List ℕ) → good_after before (list_behind s cut k before) ≡ true
  unfolding list_behind good_after tape_in
  behind-good zero before = refl
  behind-good (suc k) before = by (next_behind s cut before) refl (behind-good k)
    where
      by : (f : Option ℕ) → next_behind s cut before ≡ f → ((last : List ℕ) → good_after last (list_behind s cut k last) ≡ true)
          → good_after before (with_next s cut (list_behind s cut k) f) ≡ true
      by (Some p) e rest =
          good-cons before (tape_in s cut p) (list_behind s cut k (name s names_at p)) (found-fits before p e) (rest (name s names_at p))
      by None e rest = refl

  pub next-storable : storable (list_of (next_list s cut)) ≡ true
  next-storable = storable-list (next_list s cut) (good-list (next_list s cut) (next-few s cut) (behind-good 8 []))
