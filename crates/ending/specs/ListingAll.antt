-- The published list has every tape that is published, and no other: a name that is found is behind the last, so at most 8 searches find them all.
-- Assumes nothing.
use Rattle.std.specs.Prelude.{◌≡◌, Bool, ◌&&◌, Option, Some, None}
use Rattle.std.proofs.Math.Path.{refl}
use Rattle.std.proofs.Common.{sym, ◌∙◌, ⊎_elim, true≢false, arith}
use Rattle.std.proofs.Math.Bool.{true, false}
use mathlib.Core.List.Memᴰ
use mathlib.Core.List.{List, [], Memᴰ}
use Prim.Native.Nat.{ℕ, zero, suc, ◌≤◌, ◌<◌}
use Rattle.octets.specs.Cases.{decide, and_l, and_r, and_both}
use Rattle.octets.specs.Compare.{comes_before, before-irrefl, before-trans, before-total}
use Rattle.octets.specs.First.{count, count-le, count-fewer}
use Rattle.metadata.specs.Tapes.{Tape}
use Rattle.layout.specs.Names.{name}
use Rattle.layout.specs.Session.{names_at}
use Rattle.ending.specs.Listing.{published, next_behind, tape_in, with_next, list_behind, next_list}
use Rattle.ending.specs.ListingLaws.{Next, next-found, next-first, next-none}

-- ---- no other: each tape of the list is one that is published

pub record From (s : List ℕ) (cut : Bool) (t : Tape) : Type 0 where
  pub place : ℕ
  pub low : place < 8
  pub listed : (published s cut place).listed ≡ true
  pub same : t ≡ tape_in s cut place

from-behind : (s : List ℕ) (cut : Bool) (k : ℕ) (before : List ℕ) {t : Tape} → Memᴰ t (list_behind s cut k before) → From s cut t
unfolding list_behind
from-behind s cut zero before m = absurd (Memᴰ.not-nil m)
from-behind s cut (suc k) before {t} m = by (next_behind s cut before) refl (λ last n. from-behind s cut k last n) m
  where
    by : (f : Option ℕ) → next_behind s cut before ≡ f → ((last : List ℕ) → Memᴰ t (list_behind s cut k last) → From s cut t)
        → Memᴰ t (with_next s cut (list_behind s cut k) f) → From s cut t
    by (Some p) e rest n =
        ⊎_elim
        (λ (q : t ≡ tape_in s cut p).
        let found = next-found s cut before p e in
        record { place = p; low = found.low; listed = found.listed; same = q })
        (λ o. rest (name s names_at p) o)
        (Memᴰ.cases_cons n)
    by None e rest n = absurd (Memᴰ.not-nil n)

pub next-only : (s : List ℕ) (cut : Bool) {t : Tape} → Memᴰ t (next_list s cut) → From s cut t
next-only s cut m = from-behind s cut 8 [] m

-- ---- every one, where no two published tapes have one name

module _ (s : List ℕ) (cut : Bool) where
  -- a published tape whose name comes behind one
  unfoldable is_behind : List ℕ → ℕ → Bool
  is_behind before p = (published s cut p).listed && comes_before before (name s names_at p)

  is-behind : (before : List ℕ) (p : ℕ) → (published s cut p).listed ≡ true → comes_before before (name s names_at p) ≡ true → is_behind before p ≡ true
  unfolding is_behind
  is-behind before p listed behind = and_both (published s cut p).listed (comes_before before (name s names_at p)) listed behind

  -- behind the name that is found there are fewer
  fewer : (before : List ℕ) (p : ℕ) → Next s cut before p → count (is_behind (name s names_at p)) 8 0 < count (is_behind before) 8 0
  unfolding is_behind
  fewer before p found =
      count-fewer (is_behind before) (is_behind (name s names_at p)) 8 0 p (omega arith) found.low (is-behind before p found.listed found.behind) own
      (λ j l m e.
      let listed = and_l (published s cut j).listed (comes_before (name s names_at p) (name s names_at j)) e in
      let later = and_r (published s cut j).listed (comes_before (name s names_at p) (name s names_at j)) e in
      is-behind before j listed (before-trans before (name s names_at p) (name s names_at j) found.behind later))
    where
      own : is_behind (name s names_at p) p ≡ false
      own = rw (found.listed, before-irrefl (name s names_at p))

  none-behind : (before : List ℕ) (q : ℕ) → count (is_behind before) 8 0 ≤ 0 → q < 8 → is_behind before q ≡ true → ⊥
  none-behind before q l low e =
      omega (arith, count-fewer (is_behind before) (λ (j : ℕ). false) 8 0 q (omega arith) low e refl (λ j m n f. absurd (true≢false (sym f))))

  module _ (apart : (p q : ℕ) → p < 8 → q < 8 → (published s cut p).listed ≡ true → (published s cut q).listed ≡ true → name s names_at p ≡ name s names_at q → p ≡ q) where
    module _ (q : ℕ) (low : q < 8) (listed : (published s cut q).listed ≡ true) where
      all-behind : (k : ℕ) (before : List ℕ) → count (is_behind before) 8 0 ≤ k → comes_before before (name s names_at q) ≡ true
          → Memᴰ (tape_in s cut q) (list_behind s cut k before)
      unfolding list_behind
      all-behind zero before l behind = absurd (none-behind before q l low (is-behind before q listed behind))
      all-behind (suc k) before l behind = by (next_behind s cut before) refl (λ last m n. all-behind k last m n)
        where
          by : (f : Option ℕ) → next_behind s cut before ≡ f
              → ((last : List ℕ) → count (is_behind last) 8 0 ≤ k → comes_before last (name s names_at q) ≡ true → Memᴰ (tape_in s cut q) (list_behind s cut k last))
              → Memᴰ (tape_in s cut q) (with_next s cut (list_behind s cut k) f)
          by (Some p) e rest =
              let found = next-found s cut before p e in
              let less = fewer before p found in
              decide (comes_before (name s names_at p) (name s names_at q))
              (λ (t : comes_before (name s names_at p) (name s names_at q) ≡ true). Memᴰ.tail (rest (name s names_at p) (omega arith) t))
              (λ (f : comes_before (name s names_at p) (name s names_at q) ≡ false).
              let alike = before-total (name s names_at p) (name s names_at q) f (next-first s cut before p q e low listed behind) in
              let same : p ≡ q = apart p q found.low low found.listed listed alike in
              Memᴰ.head (rw same))
          by None e rest = absurd (true≢false (sym behind ∙ next-none s cut before q e low listed))

      pub next-all : comes_before [] (name s names_at q) ≡ true → Memᴰ (tape_in s cut q) (next_list s cut)
      next-all some = all-behind 8 [] (count-le (is_behind []) 8 0) some
