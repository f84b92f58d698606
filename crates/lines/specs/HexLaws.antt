-- Laws of hex: the ways out of the tests of a byte, a pair at a time, and that hex and bytes are the same thing twice. Assumes nothing.
use Rattle.std.specs.Prelude.{◌≡◌, refl, Some, true, false, ◌&&◌, List, [], ◌∷◌, get_or, set, drop}
use Rattle.std.proofs.Common.{sym, ◌∙◌, add-one, length-drop, drop-cons}
use Rattle.std.proofs.lemmas.Bool.{false≢true}
use Prim.Native.Nat.{ℕ, zero, suc, ◌+◌, ◌-◌, ◌*◌, ◌/◌, ◌%◌, ◌≤◌, ◌<◌}
use native.Mathlib.Omega.{arith}
use borrow.Author.Tests.{le-leb, lt-leb, lt-ltb, le-ltb}
use Rattle.std.proofs.Math.ListN.{length, drop_of_length-le}
use Rattle.octets.specs.Bytes.{put}
use Rattle.octets.specs.Number.{Bytes}
use Rattle.octets.specs.Cases.{order, and_l, and_r}
use Rattle.lines.specs.Hex.{is_hex_digit, hex_value, hex_digit, hex_of, is_hex, hex_bytes, bytes_of_hex}

-- ---- one byte

module _ (b : ℕ) where
  pub figure-is : 48 ≤ b → b ≤ 57 → is_hex_digit b ≡ true
  unfolding is_hex_digit
  figure-is l h = rw (le-leb 48 b l, le-leb b 57 h)

  pub letter-is : 97 ≤ b → b ≤ 102 → is_hex_digit b ≡ true
  unfolding is_hex_digit
  letter-is l h = rw (le-leb 48 b (omega arith), lt-leb b 57 (omega arith), le-leb 97 b l, le-leb b 102 h)

  pub figure-value : 48 ≤ b → b ≤ 57 → hex_value b ≡ b - 48
  unfolding hex_value
  figure-value l h = rw (le-leb 48 b l, le-leb b 57 h)

  pub letter-value : 97 ≤ b → b ≤ 102 → hex_value b ≡ b - 97 + 10
  unfolding hex_value
  letter-value l h = rw (le-leb 48 b (omega arith), lt-leb b 57 (omega arith), le-leb 97 b l, le-leb b 102 h)

  pub below-is : b < 48 → is_hex_digit b ≡ false
  unfolding is_hex_digit
  below-is l = rw (lt-leb 48 b l, lt-leb 97 b (omega arith))

  pub below-value : b < 48 → hex_value b ≡ 0
  unfolding hex_value
  below-value l = rw (lt-leb 48 b l, lt-leb 97 b (omega arith))

  pub between_is : 57 < b → b < 97 → is_hex_digit b ≡ false
  unfolding is_hex_digit
  between_is l h = rw (le-leb 48 b (omega arith), lt-leb b 57 l, lt-leb 97 b h)

  pub between-value : 57 < b → b < 97 → hex_value b ≡ 0
  unfolding hex_value
  between-value l h = rw (le-leb 48 b (omega arith), lt-leb b 57 l, lt-leb 97 b h)

  pub above-is : 102 < b → is_hex_digit b ≡ false
  unfolding is_hex_digit
  above-is l = rw (le-leb 48 b (omega arith), lt-leb b 57 (omega arith), le-leb 97 b (omega arith), lt-leb b 102 l)

  pub above-value : 102 < b → hex_value b ≡ 0
  unfolding hex_value
  above-value l = rw (le-leb 48 b (omega arith), lt-leb b 57 (omega arith), le-leb 97 b (omega arith), lt-leb b 102 l)

  pub figure-digit : b < 10 → hex_digit b ≡ 48 + b
  unfolding hex_digit
  figure-digit l = rw (lt-ltb b 10 l)

  pub letter-digit : 10 ≤ b → hex_digit b ≡ 97 + (b - 10)
  unfolding hex_digit
  letter-digit l = rw (le-ltb b 10 l)

-- ---- a pair at a time, at the bytes that are left

pair-cons : (s : List ℕ) (i : ℕ) → i + 1 < length s → drop i s ≡ get_or s i 0 ∷ get_or s (i + 1) 0 ∷ drop (i + 2) s
pair-cons s i l =
    let e : i + 2 ≡ suc (suc i) = omega arith in
    drop-cons s i 0 (omega arith) ∙ rw (e, add-one, drop-cons s (suc i) 0 (omega arith))

module _ (s : List ℕ) (i : ℕ) where
  pub hex-turn : i + 1 < length s → is_hex_digit (get_or s i 0) ≡ true → is_hex_digit (get_or s (i + 1) 0) ≡ true → is_hex (drop i s) ≡ is_hex (drop (i + 2) s)
  unfolding is_hex
  hex-turn l p q = rw (pair-cons s i l, p, q)

  pub hex-first : i + 1 < length s → is_hex_digit (get_or s i 0) ≡ false → is_hex (drop i s) ≡ false
  unfolding is_hex
  hex-first l p = rw (pair-cons s i l, p)

  pub hex-second : i + 1 < length s → is_hex_digit (get_or s i 0) ≡ true → is_hex_digit (get_or s (i + 1) 0) ≡ false → is_hex (drop i s) ≡ false
  unfolding is_hex
  hex-second l p q = rw (pair-cons s i l, p, q)

  pub hex-over : i < length s → length s ≤ i + 1 → is_hex (drop i s) ≡ false
  unfolding is_hex
  hex-over l h =
      let none : length s ≤ suc i = omega arith in
      rw (drop-cons s i 0 l, drop_of_length-le s none)

  pub hex-end : length s ≤ i → is_hex (drop i s) ≡ true
  unfolding is_hex
  hex-end l = rw (drop_of_length-le s l)

-- the bytes that are left to be put at i
module _ (t s : List ℕ) (i : ℕ) where
  pub bytes-turn : i < length s / 2 → put t i (hex_bytes (drop (i * 2) s))
      ≡ put (set t i (hex_value (get_or s (i * 2) 0) * 16 + hex_value (get_or s (i * 2 + 1) 0))) (i + 1) (hex_bytes (drop ((i + 1) * 2) s))
  unfolding put hex_bytes
  bytes-turn l =
      let e : (i + 1) * 2 ≡ i * 2 + 2 = omega arith in
      rw (e, pair-cons s (i * 2) (omega arith))

short-bytes : (s : List ℕ) → length s < 2 → hex_bytes s ≡ []
unfolding hex_bytes
short-bytes [] l = refl
short-bytes (a ∷ []) l = refl
short-bytes (a ∷ b ∷ s) l = absurd (omega arith)

pub bytes-end : (t s : List ℕ) (i : ℕ) → length s / 2 ≤ i → put t i (hex_bytes (drop (i * 2) s)) ≡ t
unfolding put
bytes-end t s i l = rw (short-bytes (drop (i * 2) s) (rw length-drop (omega arith)))

-- the hex that is left to be put at end
pub digits-turn : (t s : List ℕ) (i end : ℕ) → i < length s
    → put t end (hex_of (drop i s)) ≡ put (set (set t end (hex_digit (get_or s i 0 / 16))) (end + 1) (hex_digit (get_or s i 0 % 16))) (end + 2) (hex_of (drop (i + 1) s))
unfolding put hex_of
digits-turn t s i end l =
    let e : end + 2 ≡ end + 1 + 1 = omega arith in
    rw (drop-cons s i 0 l, add-one i, e)

pub digits-done : (t s : List ℕ) (i end : ℕ) → length s ≤ i → put t end (hex_of (drop i s)) ≡ t
unfolding put hex_of
digits-done t s i end l = rw (drop_of_length-le s l)

-- ---- lengths

pub length-hex : (s : List ℕ) → length (hex_of s) ≡ length s * 2
unfolding hex_of
length-hex [] = refl
length-hex (b ∷ s) = let n = length-hex s in omega arith

pub length-bytes : (s : List ℕ) → length (hex_bytes s) ≡ length s / 2
unfolding hex_bytes
length-bytes [] = refl
length-bytes (a ∷ []) = refl
length-bytes (a ∷ b ∷ s) = let n = length-bytes s in omega arith

-- ---- there and back

module _ (d : ℕ) (small : d < 16) where
  digit-is : is_hex_digit (hex_digit d) ≡ true
  digit-is =
      order d 10
      (λ (l : d < 10). rw (figure-digit d l) (figure-is (48 + d) (omega arith) (omega arith)))
      (λ (l : 10 ≤ d). rw (letter-digit d l) (letter-is (97 + (d - 10)) (omega arith) (omega arith)))

  digit_value : hex_value (hex_digit d) ≡ d
  digit_value =
      order d 10
      (λ (l : d < 10). rw (figure-digit d l, figure-value (48 + d) (omega arith) (omega arith)) (omega arith))
      (λ (l : 10 ≤ d). rw (letter-digit d l, letter-value (97 + (d - 10)) (omega arith) (omega arith)) (omega arith))

-- a digit is the digit of what it counts, which is below 16
record Counted (b : ℕ) : Type 0 where
  small : hex_value b < 16
  again : hex_digit (hex_value b) ≡ b

counted : (b : ℕ) → is_hex_digit b ≡ true → Counted b
counted b e =
    order b 48 (λ (l : b < 48). absurd (false≢true (sym (below-is b l) ∙ e)))
    (λ (l : 48 ≤ b).
    order 57 b
    (λ (m : 57 < b).
    order b 97 (λ (h : b < 97). absurd (false≢true (sym (between_is b m h) ∙ e)))
    (λ (h : 97 ≤ b).
    order 102 b (λ (k : 102 < b). absurd (false≢true (sym (above-is b k) ∙ e)))
    (λ (k : b ≤ 102).
    record {
      small = rw (letter-value b h k) (omega arith);
      again = rw (letter-value b h k, letter-digit (b - 97 + 10) (omega arith)) (omega arith);
    })))
    (λ (m : b ≤ 57).
    record {
      small = rw (figure-value b l m) (omega arith);
      again = rw (figure-value b l m, figure-digit (b - 48) (omega arith)) (omega arith);
    }))

-- bytes as hex are hex, and the bytes again
pub hex-is : (s : List ℕ) → Bytes s → is_hex (hex_of s) ≡ true
unfolding is_hex hex_of
hex-is [] h = refl
hex-is (b ∷ s) h =
    let small : b < 256 = h 0 in
    rw (digit-is (b / 16) (omega arith), digit-is (b % 16) (omega arith)) (hex-is s (λ i. h (suc i)))

pub bytes-hex : (s : List ℕ) → Bytes s → hex_bytes (hex_of s) ≡ s
unfolding hex_bytes hex_of
bytes-hex [] h = refl
bytes-hex (b ∷ s) h =
    let small : b < 256 = h 0 in
    let e : b / 16 * 16 + b % 16 ≡ b = omega arith in
    rw (digit_value (b / 16) (omega arith), digit_value (b % 16) (omega arith), e, bytes-hex s (λ i. h (suc i)))

pub hex-there : (s : List ℕ) → Bytes s → bytes_of_hex (hex_of s) ≡ Some s
unfolding bytes_of_hex
hex-there s h = rw (hex-is s h, bytes-hex s h)

-- hex as bytes are bytes, and the hex again
pub hex-back : (s : List ℕ) → is_hex s ≡ true → hex_of (hex_bytes s) ≡ s
unfolding is_hex hex_of hex_bytes
hex-back [] e = refl
hex-back (a ∷ []) e = absurd (false≢true e)
hex-back (a ∷ b ∷ s) e =
    let rest : (is_hex_digit b && is_hex s) ≡ true = and_r (is_hex_digit a) (is_hex_digit b && is_hex s) e in
    let first : Counted a = counted a (and_l (is_hex_digit a) (is_hex_digit b && is_hex s) e) in
    let second : Counted b = counted b (and_l (is_hex_digit b) (is_hex s) rest) in
    let up : hex_value a < 16 = first.small in
    let low : hex_value b < 16 = second.small in
    let high : (hex_value a * 16 + hex_value b) / 16 ≡ hex_value a = omega arith in
    let rem : (hex_value a * 16 + hex_value b) % 16 ≡ hex_value b = omega arith in
    rw (high, rem, first.again, second.again, hex-back s (and_r (is_hex_digit b) (is_hex s) rest))

pub value-small : (b : ℕ) → hex_value b < 16
value-small b =
    order b 48 (λ (l : b < 48). rw (below-value b l) (omega arith))
    (λ (l : 48 ≤ b).
    order 57 b
    (λ (m : 57 < b).
    order b 97 (λ (h : b < 97). rw (between-value b m h) (omega arith))
    (λ (h : 97 ≤ b). order 102 b (λ (k : 102 < b). rw (above-value b k) (omega arith)) (λ (k : b ≤ 102). rw (letter-value b h k) (omega arith))))
    (λ (m : b ≤ 57). rw (figure-value b l m) (omega arith)))

pub bytes-are : (s : List ℕ) → Bytes (hex_bytes s)
unfolding hex_bytes
bytes-are [] i = omega arith
bytes-are (a ∷ []) i = omega arith
bytes-are (a ∷ b ∷ s) zero = let up = value-small a in let low = value-small b in omega arith
bytes-are (a ∷ b ∷ s) (suc i) = bytes-are s i
