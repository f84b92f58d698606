-- The turns of the loops over rounds and words, each as an equation of the definitions that the loop follows. Assumes nothing.
use Rattle.std.proofs.Common.{◌≡◌, ℕ, zero, suc, ◌+◌, ◌-◌, ◌*◌, ◌/◌, ◌%◌, ◌^◌, ◌<◌, ◌≤◌, Bool, true, false, List, [], ◌∷◌, ◌++◌, length, get_or, take, drop, set, bit_xor, lit<, replicate, refl, sym, ap, ◌∙◌, append-nil, add-zero, mod-eq_of_lt, add-one, arith, drop_of_length-le, take_all, drop-cons, get_or-set_other, take-suc-set, get_or-append-add, drop-set-lt}
use Rattle.std.proofs.Math.Seq.{take-append_seam, drop-append_seam}
use borrow.Rule.Slice.PartMut.{put_mid}
use lib.Seq.{append_snoc, set-get_or}
use Rattle.octets.specs.Number.{num_at}
use Rattle.blake2b.specs.Words.{xor}
use Rattle.blake2b.specs.WordLaws.{xor_is, xor_lt, xor-zero}
use Rattle.blake2b.specs.Constants.{IV}
use Rattle.blake2b.specs.Blake2b.{round, rounds, words_from, flagged, work_vector, fold_from}

-- ---- the machine's exclusive or of three words

pub xor_three : (a b c : ℕ) → a < 2 ^ 64 → b < 2 ^ 64 → c < 2 ^ 64 → bit_xor (bit_xor a b) c ≡ xor (xor a b) c
xor_three a b c p q r = ap (λ (x : ℕ). bit_xor x c) (xor_is a b p q) ∙ xor_is (xor a b) c (xor_lt a b) r

-- ---- twelve_rounds: one round more

pub rounds-step : (m : List ℕ) (i : ℕ) (v : List ℕ) → rounds m (i + 1) v ≡ round m (i % 10) (rounds m i v)
unfolding rounds
rounds-step m i v = rw add-one

-- ---- words_of: one word more, at the end

pub words_from-snoc : (k : ℕ) (s : List ℕ) (at : ℕ) → words_from (suc k) s at ≡ words_from k s at ++ (num_at 8 s (at + 8 * k) ∷ [])
unfolding words_from
words_from-snoc zero s at = rw add-zero
words_from-snoc (suc k) s at =
    let e : at + 8 * suc k ≡ at + 8 + 8 * k = omega arith in
    rw e (ap (λ (l : List ℕ). num_at 8 s at ∷ l) (words_from-snoc k s (at + 8)))

-- the store of word j
pub words_step : (m s : List ℕ) (j : ℕ) → j < length m → take j m ≡ words_from j s 0 → take (j + 1) (set m j (num_at 8 s (8 * j))) ≡ words_from (j + 1) s 0
words_step m s j h e =
    let k : 0 + 8 * j ≡ 8 * j = omega arith in
    rw (add-one, take-suc-set m j (num_at 8 s (8 * j)) h, e, words_from-snoc j s 0, k)

-- ---- fold: the words before i are folded, and those from i on are left

module _ (h v : List ℕ) (i : ℕ) where
  pub fold_step : i < length h
      → take i h ++ fold_from i (drop i h) v
      ≡
      take (i + 1) (set h i (xor (xor (get_or h i 0) (get_or v i 0)) (get_or v (i + 8) 0)))
      ++ fold_from (i + 1) (drop (i + 1) (set h i (xor (xor (get_or h i 0) (get_or v i 0)) (get_or v (i + 8) 0)))) v
  unfolding fold_from
  fold_step l =
      let x : ℕ = xor (xor (get_or h i 0) (get_or v i 0)) (get_or v (i + 8) 0) in
      rw (drop-cons h i 0 l, drop-set-lt (i + 1) h i x (omega arith))
      (rw (add-one, take-suc-set h i x l) (sym (append_snoc (take i h) x (fold_from (suc i) (drop (suc i) h) v))))

  pub fold_end : length h ≤ i → take i h ++ fold_from i (drop i h) v ≡ h
  unfolding fold_from
  fold_end l = rw (drop_of_length-le h l, take_all i h l) (append-nil h)

-- ---- work_vector: h and IV, one behind the other

-- what is written over the second half of a vector stands behind its first
second-half : (h z s : List ℕ) → length h ≡ 8 → length z ≡ 8 → put_mid 8 8 (h ++ z) s ≡ h ++ s
second-half h z s l m =
    let front : take 8 (h ++ z) ≡ h = ap (λ (n : ℕ). take n (h ++ z)) (sym l) ∙ take-append_seam h z in
    let back : drop 8 (h ++ z) ≡ z = ap (λ (n : ℕ). drop n (h ++ z)) (sym l) ∙ drop-append_seam h z in
    let rest : drop 8 z ≡ [] = drop_of_length-le z {i = 8} (omega arith) in
    rw (front, back, rest) (ap (λ (r : List ℕ). h ++ r) (append-nil s))

-- what the two copies leave
pub copied : (h a b : List ℕ) → length h ≡ 8 → a ≡ h → b ≡ IV → put_mid 8 8 (a ++ replicate 8 0) b ≡ h ++ IV
copied h a b l p q = rw (p, q) (second-half h (replicate 8 0) IV l refl)

-- word k of IV
word : (h : List ℕ) (k : ℕ) → length h ≡ 8 → get_or (h ++ IV) (8 + k) 0 ≡ get_or IV k 0
word h k l = ap (λ (n : ℕ). get_or (h ++ IV) (n + k) 0) (sym l) ∙ get_or-append-add h IV k 0

-- v[13] is a word whatever h holds: it is one of IV
thirteen-lt : (h : List ℕ) (x : ℕ) → length h ≡ 8 → get_or (set (h ++ IV) 12 x) 13 0 < 2 ^ 64
unfolding IV
thirteen-lt h x l =
    rw (get_or-set_other (h ++ IV) 12 13 x 0 (λ q. omega arith), word h 5 l) (lit< tt)

-- a count of one word leaves v[13] as it was
pub work_vector-word : (h : List ℕ) (t : ℕ) (f : Bool) → length h ≡ 8 → t < 2 ^ 64 → work_vector h t f ≡ flagged f (set (h ++ IV) 12 (xor (get_or (h ++ IV) 12 0) t))
unfolding work_vector
work_vector-word h t f l p =
    let low : t % 2 ^ 64 ≡ t = mod-eq_of_lt p in
    let high : t / 2 ^ 64 ≡ 0 = omega arith in
    let v : List ℕ = set (h ++ IV) 12 (xor (get_or (h ++ IV) 12 0) t) in
    rw (low, high, xor-zero (get_or v 13 0) (thirteen-lt h (xor (get_or (h ++ IV) 12 0) t) l), set-get_or v 13 0)

module _ (h : List ℕ) (t : ℕ) (long : length h ≡ 8) (fits : t < 2 ^ 64) where
  abbrev counted : List ℕ
  counted = set (h ++ IV) 12 (bit_xor (get_or (h ++ IV) 12 0) t)

  counted-xor : set (h ++ IV) 12 (xor (get_or (h ++ IV) 12 0) t) ≡ counted
  unfolding IV
  counted-xor =
      let small : get_or (h ++ IV) 12 0 < 2 ^ 64 = rw (word h 4 long) (lit< tt) in
      ap (λ (x : ℕ). set (h ++ IV) 12 x) (sym (xor_is (get_or (h ++ IV) 12 0) t small fits))

  pub work_vector-counted : work_vector h t false ≡ counted
  unfolding flagged
  work_vector-counted = work_vector-word h t false long fits ∙ counted-xor

  pub work_vector-last : work_vector h t true ≡ set counted 14 (bit_xor (get_or counted 14 0) (2 ^ 64 - 1))
  unfolding flagged IV
  work_vector-last =
      let small : get_or counted 14 0 < 2 ^ 64
      = rw (get_or-set_other (h ++ IV) 12 14 (bit_xor (get_or (h ++ IV) 12 0) t) 0 (λ q. omega arith), word h 6 long) (lit< tt) in
      work_vector-word h t true long fits
      ∙ ap (λ (v : List ℕ). set v 14 (xor (get_or v 14 0) (2 ^ 64 - 1))) counted-xor
      ∙ ap (λ (x : ℕ). set counted 14 x) (sym (xor_is (get_or counted 14 0) (2 ^ 64 - 1) small (lit< tt)))
