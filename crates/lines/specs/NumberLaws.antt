-- Laws of numbers as text: the turns and the ways out of the loop that reads one, the digits that are printed, and that what is printed is read again.
-- Assumes nothing.
use Rattle.std.specs.Prelude.{◌≡◌, refl, Some, None, Bool, true, false, ◌&&◌, List, [], ◌∷◌, ◌++◌, ℕ, zero, suc, ◌+◌, ◌-◌, ◌*◌, ◌/◌, ◌%◌, ◌^◌, ◌≤◌, ◌<◌, leb, length, get_or, set, drop}
use Rattle.std.proofs.Common.{sym, ap, ◌∙◌, pow-suc, add-one, arith, drop_of_length-le, length-append, drop-cons}
use borrow.Author.Tests.{le-leb, lt-leb, lt-ltb, le-ltb}
use Rattle.octets.specs.Cases.{order, and_l, and_r, and_both}
use Rattle.lines.specs.Written.{Written, written_byte, written_then}
use Rattle.lines.specs.Numbers.{is_digit, all_digits, value_from, number_of, decimal_in, decimal_of}

-- ---- one byte

pub digit-in : (b : ℕ) → 48 ≤ b → b ≤ 57 → is_digit b ≡ true
digit-in b l h = rw (le-leb 48 b l, le-leb b 57 h)

pub digit-below : (b : ℕ) → b < 48 → is_digit b ≡ false
digit-below b l = rw (lt-leb 48 b l)

pub digit-above : (b : ℕ) → 57 < b → is_digit b ≡ false
digit-above b l = rw (le-leb 48 b (omega arith), lt-leb b 57 l)

-- ---- reading, from a byte on

module _ (s : List ℕ) (i : ℕ) (more : i < length s) where
  pub digits_step : is_digit (get_or s i 0) ≡ true → all_digits (drop i s) ≡ all_digits (drop (i + 1) s)
  unfolding all_digits
  digits_step e = rw (drop-cons s i 0 more, e, add-one)

  pub digits-stop : is_digit (get_or s i 0) ≡ false → all_digits (drop i s) ≡ false
  unfolding all_digits
  digits-stop e = rw (drop-cons s i 0 more, e)

  pub value-step : (n : ℕ) → value_from n (drop i s) ≡ value_from (n * 10 + (get_or s i 0 - 48)) (drop (i + 1) s)
  unfolding value_from
  value-step n = rw (drop-cons s i 0 more, add-one)

pub digits-end : (s : List ℕ) (i : ℕ) → length s ≤ i → all_digits (drop i s) ≡ true
unfolding all_digits
digits-end s i l = rw (drop_of_length-le s l)

pub value-end : (s : List ℕ) (i n : ℕ) → length s ≤ i → value_from n (drop i s) ≡ n
unfolding value_from
value-end s i n l = rw (drop_of_length-le s l)

-- more digits make no number smaller
pub value_grows : (n : ℕ) (s : List ℕ) → n ≤ value_from n s
unfolding value_from
value_grows n [] = omega arith
value_grows n (b ∷ s) = omega (arith, value_grows (n * 10 + (b - 48)) s)

-- ---- the ways out

and-false : (a : Bool) → (a && false) ≡ false
and-false true = refl
and-false false = refl

module _ (s : List ℕ) where
  pub number-none : length s < 1 → number_of s ≡ None
  unfolding number_of
  number-none l = rw (lt-leb 1 (length s) l)

  pub number-other : all_digits s ≡ false → number_of s ≡ None
  unfolding number_of
  number-other e = rw (e, and-false (leb 1 (length s)))

  pub number-large : 18446744073709551615 < value_from 0 s → number_of s ≡ None
  unfolding number_of
  number-large l = rw (lt-leb (value_from 0 s) 18446744073709551615 l, and-false (all_digits s), and-false (leb 1 (length s)))

  pub number_read : (n : ℕ) → 1 ≤ length s → all_digits s ≡ true → value_from 0 s ≡ n → n ≤ 18446744073709551615 → number_of s ≡ Some n
  unfolding number_of
  number_read n l e v h = rw (v, le-leb 1 (length s) l, e, le-leb n 18446744073709551615 h)

-- ---- printing

module _ (k n : ℕ) where
  in-last : n < 10 → decimal_in (suc k) n ≡ (48 + n) ∷ []
  unfolding decimal_in
  in-last l = rw (lt-ltb n 10 l)

  in-more : 10 ≤ n → decimal_in (suc k) n ≡ decimal_in k (n / 10) ++ ((48 + n % 10) ∷ [])
  unfolding decimal_in
  in-more l = rw (le-ltb n 10 l)

power-more : (k n : ℕ) → n < 10 ^ suc k → n / 10 < 10 ^ k
power-more k n l = let e : 10 ^ suc k ≡ 10 ^ k * 10 = pow-suc 10 k in omega arith

-- a number that fits so many digits is the same where there is room for one more
in-room : (k n : ℕ) → n < 10 ^ suc k → decimal_in (suc (suc k)) n ≡ decimal_in (suc k) n
in-room zero n l = in-last 1 n (omega arith) ∙ sym (in-last 0 n (omega arith))
in-room (suc k) n l =
    order n 10
    (λ (h : n < 10). in-last (suc (suc k)) n h ∙ sym (in-last (suc k) n h))
    (λ (h : 10 ≤ n). in-more (suc (suc k)) n h ∙ rw (in-room k (n / 10) (power-more (suc k) n l)) (sym (in-more (suc k) n h)))

length-in : (k n : ℕ) → length (decimal_in k n) ≤ k
unfolding decimal_in
length-in zero n = omega arith
length-in (suc k) n =
    order n 10
    (λ (h : n < 10). rw (lt-ltb n 10 h) (omega arith))
    (λ (h : 10 ≤ n). rw (le-ltb n 10 h, length-append) (omega (arith, length-in k (n / 10))))

-- one digit
pub decimal-last : (n : ℕ) → n < 10 → decimal_of n ≡ (48 + n) ∷ []
unfolding decimal_of
decimal-last n l = in-last 19 n l

-- the last of several
pub decimal-more : (n : ℕ) → 10 ≤ n → n < 18446744073709551616 → decimal_of n ≡ decimal_of (n / 10) ++ ((48 + n % 10) ∷ [])
unfolding decimal_of
decimal-more n l h = in-more 19 n l ∙ ap (λ (s : List ℕ). s ++ ((48 + n % 10) ∷ [])) (sym (in-room 18 (n / 10) (omega arith)))

pub length-decimal : (n : ℕ) → length (decimal_of n) ≤ 20
unfolding decimal_of
length-decimal n = length-in 20 n

-- ---- what is printed is read again

digits_append : (s t : List ℕ) → all_digits s ≡ true → all_digits t ≡ true → all_digits (s ++ t) ≡ true
unfolding all_digits
digits_append [] t p q = q
digits_append (b ∷ s) t p q =
    and_both (is_digit b) (all_digits (s ++ t)) (and_l (is_digit b) (all_digits s) p) (digits_append s t (and_r (is_digit b) (all_digits s) p) q)

value-append : (n : ℕ) (s t : List ℕ) → value_from n (s ++ t) ≡ value_from (value_from n s) t
unfolding value_from
value-append n [] t = refl
value-append n (b ∷ s) t = value-append (n * 10 + (b - 48)) s t

no_digit : all_digits [] ≡ true
unfolding all_digits
no_digit = refl

no_value : (n : ℕ) → n < 1 → value_from 0 (decimal_in 0 n) ≡ n
unfolding value_from decimal_in
no_value n l = omega arith

one-digit : (n : ℕ) → n < 10 → all_digits ((48 + n) ∷ []) ≡ true
unfolding all_digits
one-digit n l = rw (digit-in (48 + n) (omega arith) (omega arith))

one_value : (m n : ℕ) → value_from m ((48 + n) ∷ []) ≡ m * 10 + n
unfolding value_from
one_value m n = omega arith

digits_in : (k n : ℕ) → all_digits (decimal_in k n) ≡ true
unfolding decimal_in
digits_in zero n = no_digit
digits_in (suc k) n =
    order n 10
    (λ (h : n < 10). rw (lt-ltb n 10 h) (one-digit n h))
    (λ (h : 10 ≤ n). rw (le-ltb n 10 h) (digits_append (decimal_in k (n / 10)) ((48 + n % 10) ∷ []) (digits_in k (n / 10)) (one-digit (n % 10) (omega arith))))

value_in : (k n : ℕ) → n < 10 ^ k → value_from 0 (decimal_in k n) ≡ n
value_in zero n l = no_value n (omega arith)
value_in (suc k) n l =
    order n 10
    (λ (h : n < 10). rw (in-last k n h, one_value 0 n) (omega arith))
    (λ (h : 10 ≤ n).
    rw (in-more k n h, value-append 0 (decimal_in k (n / 10)) ((48 + n % 10) ∷ []), value_in k (n / 10) (power-more k n l), one_value (n / 10) (n % 10))
    (omega arith))

long-in : (k n : ℕ) → 1 ≤ length (decimal_in (suc k) n)
long-in k n =
    order n 10
    (λ (h : n < 10). rw (in-last k n h) (omega arith))
    (λ (h : 10 ≤ n). rw (in-more k n h, length-append) (omega arith))

pub number-of-decimal : (n : ℕ) → n < 18446744073709551616 → number_of (decimal_of n) ≡ Some n
unfolding decimal_of
number-of-decimal n l = number_read (decimal_in 20 n) n (long-in 19 n) (digits_in 20 n) (value_in 20 n (omega arith)) (omega arith)

-- ---- the two ways out of the function that prints

pub printed-last : (n : ℕ) (s : List ℕ) (at : ℕ) → n < 10 → Written (decimal_of n) s at (at + 1) (set s at (48 + n))
printed-last n s at l = rw (decimal-last n l) (written_byte (48 + n) s at)

pub printed-more : (n : ℕ) (s : List ℕ) (at end : ℕ) (t : List ℕ) → 10 ≤ n → n < 18446744073709551616 → Written (decimal_of (n / 10)) s at end t
    → Written (decimal_of n) s at (end + 1) (set t end (48 + n % 10))
printed-more n s at end t l h w =
    rw (decimal-more n l h)
    (written_then (decimal_of (n / 10)) ((48 + n % 10) ∷ []) s t (set t end (48 + n % 10)) at end (end + 1) w (written_byte (48 + n % 10) t end))

-- there is room for a digit behind those in front of it
pub printed-room : (n : ℕ) (s : List ℕ) (at end : ℕ) (t : List ℕ) → 10 ≤ n → n < 18446744073709551616 → Written (decimal_of (n / 10)) s at end t → end < at + 20
printed-room n s at end t l h (e, p) =
    let m = length-decimal n in
    let q : length (decimal_of n) ≡ length (decimal_of (n / 10)) + 1 = ap length (decimal-more n l h) ∙ length-append (decimal_of (n / 10)) ((48 + n % 10) ∷ []) in
    omega arith
