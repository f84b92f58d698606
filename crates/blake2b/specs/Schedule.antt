-- A row of SIGMA as one number, as the code holds it. Assumes nothing.
use Rattle.std.specs.Prelude.{◌≡◌, ℕ, zero, suc, ◌+◌, ◌-◌, ◌*◌, ◌/◌, ◌%◌, ◌^◌, ◌<◌, Bool, true, ◌&&◌, T, List, [], ◌∷◌, length, take, drop, ◌==◌, slice_index, slice_index_or}
use Rattle.std.proofs.Common.{arith, eqb→eq}
use Rattle.std.proofs.Math.Facts.{and_yes}
use Rattle.blake2b.specs.Constants.{SIGMA}

-- n, with more hexadecimal digits behind it
unfoldable pub digits : ℕ → List ℕ → ℕ
digits n [] = n
digits n (x ∷ xs) = digits (n * 16 + x) xs

unfoldable pub row_of : ℕ → ℕ
row_of i = digits 0 (take 16 (drop (16 * i) SIGMA))

-- hexadecimal digit j of a row, from the left
abbrev pub digit : ℕ → ℕ → ℕ
digit row j = row / 2 ^ (60 - 4 * j) % 16

-- ---- digit j of row i is SIGMA[i][j]: one test over all 160 entries, which antt computes

-- the entries from k on are the digits in their order
agrees : ℕ → List ℕ → Bool
agrees k [] = true
agrees k (x ∷ xs) = digit (row_of (k / 16)) (k % 16) == x && agrees (k + 1) xs

agrees_at : (xs : List ℕ) (k : ℕ) → T (agrees k xs) → (n : ℕ) → n < length xs → digit (row_of ((k + n) / 16)) ((k + n) % 16) ≡ slice_index xs n
unfolding agrees
agrees_at [] k t n h = absurd (omega arith)
agrees_at (x ∷ xs) k t zero h =
    let e : k + 0 ≡ k = omega arith in
    rw e (eqb→eq (digit (row_of (k / 16)) (k % 16)) x (and_yes (digit (row_of (k / 16)) (k % 16) == x) (agrees (k + 1) xs) t).0)
agrees_at (x ∷ xs) k t (suc n) h =
    let e : k + suc n ≡ k + 1 + n = omega arith in
    rw e (agrees_at xs (k + 1) (and_yes (digit (row_of (k / 16)) (k % 16) == x) (agrees (k + 1) xs) t).1 n (omega arith))

entry : (n : ℕ) → n < 160 → digit (row_of (n / 16)) (n % 16) ≡ slice_index SIGMA n
unfolding SIGMA agrees row_of digits
entry n h =
    let e : 0 + n ≡ n = omega arith in
    rw e at (agrees_at SIGMA 0 tt n h)

pub row-digit : (i j : ℕ) → i < 10 → j < 16 → digit (row_of i) j ≡ slice_index SIGMA (16 * i + j)
row-digit i j p q =
    let row : (16 * i + j) / 16 ≡ i = omega arith in
    let place : (16 * i + j) % 16 ≡ j = omega arith in
    let e : digit (row_of ((16 * i + j) / 16)) ((16 * i + j) % 16) ≡ slice_index_or SIGMA (16 * i + j) 0 = entry (16 * i + j) (omega arith) in
    rw (row, place) at e
