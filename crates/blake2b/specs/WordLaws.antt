-- Laws of words: the bit by bit `xor` is the one that code computes, it makes a word of any two numbers, and 0 changes nothing. Assumes nothing.
use Rattle.std.specs.Prelude.{◌≡◌, ℕ, zero, suc, ◌+◌, ◌*◌, ◌/◌, ◌%◌, ◌^◌, ◌<◌, bit_xor}
use Rattle.std.proofs.Common.{sym, ap, ap₂, ◌∙◌, pow-suc, arith}
use Rattle.std.proofs.Math.Arith.{lt-one}
use Rattle.std.specs.Int.Bits.{differ, xor_step, xor_zero_r}
use Rattle.blake2b.specs.Words.{w, xor_bits, xor}

-- ---- on k bits

swap : (d x : ℕ) → d + 2 * x ≡ x * 2 + d
swap d x = omega arith

half_lt : (k a : ℕ) → a < 2 ^ suc k → a / 2 < 2 ^ k
half_lt k a h =
    let g : a < 2 ^ k * 2 = rw pow-suc at h in
    omega arith

-- `bit_xor` recurses on its first argument: it stays stuck here, as both numbers are variables
pub xor_bits-is : (k a b : ℕ) → a < 2 ^ k → b < 2 ^ k → xor_bits k a b ≡ bit_xor a b
unfolding xor_bits
xor_bits-is zero a b p q = sym (ap₂ bit_xor (lt-one p) (lt-one q))
xor_bits-is (suc k) a b p q =
    ap (λ (x : ℕ). differ (a % 2) (b % 2) + 2 * x) (xor_bits-is k (a / 2) (b / 2) (half_lt k a p) (half_lt k b q))
    ∙ swap (differ (a % 2) (b % 2)) (bit_xor (a / 2) (b / 2))
    ∙ sym (xor_step a b)

differ-lt : (x y : ℕ) → x < 2 → y < 2 → differ x y < 2
differ-lt zero y p q = q
differ-lt (suc zero) zero p q = omega arith
differ-lt (suc zero) (suc y) p q = omega arith
differ-lt (suc (suc x)) y p q = absurd (omega arith)

pub xor_bits-lt : (k a b : ℕ) → xor_bits k a b < 2 ^ k
unfolding xor_bits
xor_bits-lt zero a b = omega arith
xor_bits-lt (suc k) a b =
    rw pow-suc (omega (arith, differ-lt (a % 2) (b % 2) (omega arith) (omega arith), xor_bits-lt k (a / 2) (b / 2)))

-- ---- on words

pub xor_is : (a b : ℕ) → a < 2 ^ 64 → b < 2 ^ 64 → bit_xor a b ≡ xor a b
unfolding xor
xor_is a b p q = sym (xor_bits-is w a b p q)

pub xor_lt : (a b : ℕ) → xor a b < 2 ^ 64
unfolding xor
xor_lt a b = xor_bits-lt w a b

pub xor-zero : (a : ℕ) → a < 2 ^ 64 → xor a 0 ≡ a
xor-zero a p = sym (xor_is a 0 p (omega arith)) ∙ xor_zero_r a
