-- The four writes of half of G, each as the step of the definition that it is. Assumes nothing.
use Rattle.std.proofs.Common.{◌≡◌, ℕ, zero, suc, ◌+◌, ◌-◌, ◌*◌, ◌/◌, ◌%◌, ◌^◌, ◌<◌, List, [], ◌∷◌, get_or, set, bit_xor, bit_or, w64, sym, ap, subst, ◌∙◌, arith, add-zero, mod-lt, pow_pos}
use Rattle.std.proofs.lemmas.Nat.{mod-pow-add, mod_low, or_comm, xor_comm, or_shifted, shl-shr, shr_below, shr_le}
use Rattle.std.specs.Int.{rotate_right}
use Rattle.std.specs.Int.Bits.{xor_shifted}
use native.Mathlib.Nat.{mod-add-mod}
use Rattle.blake2b.specs.Words.{xor, rotr}
use Rattle.blake2b.specs.WordLaws.{xor_is, xor_lt}
use Rattle.blake2b.specs.Blake2b.{◌▷◌, add_word, add, turn}

-- ---- the machine's rotation is the RFC's: what the two shifts leave has no bit in common, so `or` and `xor` of it are one

module _ (x n : ℕ) (some : 0 < n) (less : n < 64) (fits : x < 2 ^ 64) where
  high : x / 2 ^ n < 2 ^ (64 - n)
  high =
      let e : 64 ≡ 64 - n + n = omega arith in
      shr_below x (64 - n) n (subst (λ (i : ℕ). x < 2 ^ i) e fits)

  low : x * 2 ^ (64 - n) % 2 ^ 64 ≡ x % 2 ^ n * 2 ^ (64 - n)
  low =
      let k : ℕ = 64 - n in
      let e : 64 ≡ n + k = omega arith in
      let clear : x * 2 ^ k % 2 ^ k ≡ 0 = ap (λ (y : ℕ). y % 2 ^ k) (sym (add-zero _)) ∙ mod_low x k 0 (pow_pos k) in
      ap (λ (i : ℕ). x * 2 ^ k % 2 ^ i) e ∙ mod-pow-add (x * 2 ^ k) n k ∙ rw (shl-shr x k, clear) (add-zero _)

  pub rotate_right-is : rotate_right w64 x n ≡ rotr x n
  unfolding rotr
  rotate_right-is =
      let k : ℕ = 64 - n in
      let here : n % 64 ≡ n = omega arith in
      let there : k % 64 ≡ k = omega arith in
      let or_xor : bit_or (x / 2 ^ n) (x * 2 ^ k % 2 ^ 64) ≡ bit_xor (x / 2 ^ n) (x * 2 ^ k % 2 ^ 64)
      = rw low
      (or_comm (x / 2 ^ n) (x % 2 ^ n * 2 ^ k) ∙ or_shifted (x % 2 ^ n) k (x / 2 ^ n) high
      ∙ sym (xor_comm (x / 2 ^ n) (x % 2 ^ n * 2 ^ k) ∙ xor_shifted (x % 2 ^ n) k (x / 2 ^ n) high)) in
      rw (here, there) (or_xor ∙ xor_is (x / 2 ^ n) (x * 2 ^ k % 2 ^ 64) (omega (arith, shr_le x n)) (mod-lt _ (pow_pos 64)))

-- ---- a vector of words stays one

abbrev pub Words : List ℕ → Type 0
Words v = (i : ℕ) → get_or v i 0 < 2 ^ 64

words-set : (v : List ℕ) (j y : ℕ) → Words v → y < 2 ^ 64 → Words (set v j y)
words-set [] j y w l i = w i
words-set (z ∷ v) zero y w l zero = l
words-set (z ∷ v) zero y w l (suc i) = w (suc i)
words-set (z ∷ v) (suc j) y w l zero = w zero
words-set (z ∷ v) (suc j) y w l (suc i) = words-set v j y (λ k. w (suc k)) l i

-- ---- the writes

add_word-is : (v : List ℕ) (a b x : ℕ) → set v a (((get_or v a 0 + get_or v b 0) % 2 ^ 64 + x) % 2 ^ 64) ≡ add_word a b x v
unfolding add_word
add_word-is v a b x =
    let e : ((get_or v a 0 + get_or v b 0) % 2 ^ 64 + x) % 2 ^ 64 ≡ (get_or v a 0 + get_or v b 0 + x) % 2 ^ 64
    = omega (arith, mod-add-mod (get_or v a 0 + get_or v b 0) (2 ^ 64) x) in
    ap (λ (y : ℕ). set v a y) e

turn-is : (v : List ℕ) (d a n q : ℕ) → Words v → 0 < n → n < 64 → q ≡ rotate_right w64 (bit_xor (get_or v d 0) (get_or v a 0)) n → set v d q ≡ turn d a n v
unfolding turn
turn-is v d a n q w some less e =
    let y : ℕ = xor (get_or v d 0) (get_or v a 0) in
    ap (λ (z : ℕ). set v d z)
    (e ∙ ap (λ (z : ℕ). rotate_right w64 z n) (xor_is (get_or v d 0) (get_or v a 0) (w d) (w a)) ∙ rotate_right-is y n some less (xor_lt _ _))

module _ (v : List ℕ) (a b c d x r s p q : ℕ) where
  abbrev summed : List ℕ
  summed = set v a (((get_or v a 0 + get_or v b 0) % 2 ^ 64 + x) % 2 ^ 64)

  abbrev turned : List ℕ
  turned = set summed d p

  abbrev added : List ℕ
  added = set turned c ((get_or turned c 0 + get_or turned d 0) % 2 ^ 64)

  pub half-is : Words v → p < 2 ^ 64 → 0 < r → r < 64 → 0 < s → s < 64
      → p ≡ rotate_right w64 (bit_xor (get_or summed d 0) (get_or summed a 0)) r
      → q ≡ rotate_right w64 (bit_xor (get_or added b 0) (get_or added c 0)) s
      → set added b q ≡ v ▷ add_word a b x ▷ turn d a r ▷ add c d ▷ turn b c s
  unfolding add
  half-is w l r0 r64 s0 s64 e f =
      let one : Words summed = words-set v a _ w (mod-lt _ (pow_pos 64)) in
      let two : Words added = words-set turned c _ (words-set summed d p one l) (mod-lt _ (pow_pos 64)) in
      turn-is added b c s q two s0 s64 f
      ∙ ap (λ (z : List ℕ). turn b c s (add c d z))
      (turn-is summed d a r p one r0 r64 e ∙ ap (turn d a r) (add_word-is v a b x))
