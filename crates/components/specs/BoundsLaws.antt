-- What the bounds tell as orders, and the forms in which the code tests them: by quotients, so that no product is formed before it fits. Assumes nothing.
use Rattle.std.specs.Prelude.{◌≡◌, true, false, ℕ, ◌+◌, ◌*◌, ◌-◌, ◌/◌, ◌≤◌, ◌<◌, ◌^◌, leb}
use Rattle.std.proofs.Math.Bool.{and-false}
use Rattle.std.proofs.Common.{le-div_iff_mul-le, zero-mul}
use native.Mathlib.Omega.{arith}
use borrow.Author.Tests.{le-leb, lt-leb, leb-true, leb-false}
use Rattle.octets.specs.Cases.{and_l, and_r, same-leb}
use Rattle.components.specs.Bounds.{up_to, in_bounds, shifted_start, cut_start}

module _ (entry index len : ℕ) where
  pub up_to-code : 0 < entry → leb index (len / entry) ≡ up_to entry index len
  unfolding up_to
  up_to-code z = same-leb index (len / entry) (index * entry) len (λ h. (le-div_iff_mul-le z).0 h) (λ h. (le-div_iff_mul-le z).1 h)

  pub up_to-true : up_to entry index len ≡ true → index * entry ≤ len
  unfolding up_to
  up_to-true e = leb-true (index * entry) len e

  pub →upTo : index * entry ≤ len → up_to entry index len ≡ true
  unfolding up_to
  →upTo h = le-leb (index * entry) len h

  pub →upTo-not : len < index * entry → up_to entry index len ≡ false
  unfolding up_to
  →upTo-not h = lt-leb (index * entry) len h

  -- a product past 2^64-1 is past every length
  pub up_to-wide : len < 2 ^ 64 → 2 ^ 64 ≤ index * entry → up_to entry index len ≡ false
  up_to-wide l h = →upTo-not (omega arith)

  pub up_to-false : up_to entry index len ≡ false → len < index * entry
  unfolding up_to
  up_to-false e = leb-false (index * entry) len e

module _ (entry start len index count : ℕ) where
  -- in bounds, as orders
  pub in-bounds-is : in_bounds entry start len index count ≡ true → (start ≤ index * entry) × (index * entry + count * entry ≤ len)
  unfolding in_bounds
  in-bounds-is e = (
    leb-true start (index * entry) (and_l _ _ e),
    leb-true (index * entry + count * entry) len (and_r (leb start (index * entry)) _ e),
  )

  pub →in-bounds : start ≤ index * entry → index * entry + count * entry ≤ len → in_bounds entry start len index count ≡ true
  unfolding in_bounds
  →in-bounds h l = rw (le-leb start (index * entry) h, le-leb (index * entry + count * entry) len l)

  -- out of bounds: below the start, past the length, and by the index alone
  pub out_below : index * entry < start → in_bounds entry start len index count ≡ false
  unfolding in_bounds
  out_below h = rw (lt-leb start (index * entry) h)

  pub out-past : len < index * entry + count * entry → in_bounds entry start len index count ≡ false
  unfolding in_bounds
  out-past h = rw (lt-leb (index * entry + count * entry) len h) (and-false (leb start (index * entry)))

  pub out-index : up_to entry index len ≡ false → in_bounds entry start len index count ≡ false
  out-index e = out-past (omega (arith, up_to-false entry index len e))

  -- a product or sum past 2^64-1 is out of every tape's bounds
  pub out-wide : len < 2 ^ 64 → 2 ^ 64 ≤ index * entry + count * entry → in_bounds entry start len index count ≡ false
  out-wide l h = out-past (omega arith)

  -- the code's test behind the index's
  pub in-bounds-code : 0 < entry → start ≤ index * entry → index * entry ≤ len → leb count ((len - index * entry) / entry) ≡ in_bounds entry start len index count
  unfolding in_bounds
  in-bounds-code z s l =
      rw (le-leb start (index * entry) s)
      (same-leb count ((len - index * entry) / entry) (index * entry + count * entry) len
      (λ h. let q : count * entry ≤ len - index * entry = (le-div_iff_mul-le z).0 h in omega arith)
      (λ h. let q : count * entry ≤ len - index * entry = omega arith in (le-div_iff_mul-le z).1 q))

-- 0 entries at the length are in bounds
pub none-at-end : (entry start len index : ℕ) → start ≤ len → index * entry ≡ len → in_bounds entry start len index 0 ≡ true
none-at-end entry start len index s e = →in-bounds entry start len index 0 (omega arith) (rw zero-mul (omega arith))

-- a start never passes its length: not by a shift that is let pass, nor by a cut
pub shifted-within : (old new len : ℕ) → old ≤ len → new ≤ len → shifted_start old new ≤ len
shifted-within old new len h l = omega arith

pub cut-within : (start len : ℕ) → cut_start start len ≤ len
cut-within start len = omega arith
