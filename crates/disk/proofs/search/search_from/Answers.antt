-- The search passes the eights that lack the file. Assumes nothing.
use Rattle.std.specs.Prelude.{Option, Some, None, unwrap_or}
use Rattle.std.proofs.Common.{rules, ◌≡◌, sym, Bool, false, not, ℕ, ◌+◌, ◌*◌, ◌/◌, ◌-◌, ◌≤◌, ◌<◌, arith}
use Rattle.std.proofs.lemmas.Bool.{not-false, not-true}
use native.Mathlib.Nat.{sub-zero}
use Rattle.octets.specs.First.{all, first, all-holds, first-skip, first-hits, first-misses}
use Rattle.layout.specs.Disk.{slots}
use Rattle.disk.specs.Steps.{is_file, find_in}
use Rattle.disk.proofs.search.search_from.Goals as goal

-- some slot of an eight has it
abbrev some-of : (ℕ → Bool) → ℕ → Bool
some-of p i = not (all (λ j. not (p j)) (8 * i + 8 - 8 * i) (8 * i))

-- none of those before the one that was found has, nor any where none was
before : (q : ℕ → Bool) (k : ℕ) (r : Option ℕ) → r ≡ first q k 0 → (unwrap_or r k ≤ k) × ((i : ℕ) → i < unwrap_or r k → q i ≡ false)
before q k (Some j) e =
    let h = first-hits q k 0 j (sym e) in
    (omega (arith, h.high), λ i l. h.before i (omega arith) l)
before q k None e = (omega arith, λ i l. first-misses q k 0 (sym e) i (omega arith) (omega arith))

-- so their slots are passed
passed : (p : ℕ → Bool) (n m : ℕ) → 8 * m ≤ n → ((i : ℕ) → i < m → some-of p i ≡ false) → first p (n - 8 * m) (8 * m) ≡ first p n 0
passed p n m low h =
    let e : 8 * m + (n - 8 * m) ≡ n = omega arith in
    let f : 0 + 8 * m ≡ 8 * m = omega arith in
    let lacks : (j : ℕ) → 0 ≤ j → j < 0 + 8 * m → p j ≡ false
    = λ j a b. not-true _ (all-holds (λ j. not (p j)) _ _ (not-false _ (h (j / 8) (omega arith))) j (omega arith) (omega arith)) in
    sym (rw (e, f) at (first-skip p (8 * m) (n - 8 * m) 0 lacks))

found : (c : goal.After-unwrap_or)
    → (c.unwrap_or.result ≤ c.slot_count-eights.result / 8)
    × ((i : ℕ) → i < c.unwrap_or.result → some-of (is_file c.args.disk.now c.args.place c.args.number) i ≡ false)
found c =
    let q = some-of (is_file c.args.disk.now c.args.place c.args.number) in
    let e = rw sub-zero at (c.first-met.ensures q (search rules)) in
    rw c.unwrap_or.ensures (before q _ _ e)

pub overflow_mul-result : goal.overflow_mul-result
overflow_mul-result c = let low = (found c).0 in search rules

pub returns : goal.returns
unfolding find_in
returns c =
    let s = c.args.disk.now in
    let low : 8 * c.unwrap_or.result ≤ slots s = omega (arith, (found c).0) in
    (low, passed (is_file s c.args.place c.args.number) (slots s) c.unwrap_or.result low (found c).1)
