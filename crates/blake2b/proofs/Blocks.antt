-- The turns of the loops that write out the words of h and that take up the blocks of the data, with where each starts and ends. Assumes nothing.
use Rattle.std.proofs.Common.{◌≡◌, ℕ, suc, ◌+◌, ◌-◌, ◌*◌, ◌/◌, ◌<◌, ◌≤◌, true, false, List, ◌++◌, length, get_or, drop, sym, ap, ◌∙◌, ⊎_elim, append-nil, eq-zero-or-pos, add-one, arith, drop_of_length-le, drop-cons}
use Rattle.octets.specs.Bytes.{put, put-append, put_front}
use Rattle.octets.specs.Number.{le, put_num, length-le}
use Rattle.blake2b.specs.Blake2b.{F, words_from, bytes_of, keyed, block_from, d, dd, absorbed, finished}
use Rattle.blake2b.specs.Laws.{length-bytes_of}
use Rattle.blake2b.specs.Message.{length-keyed-none, length-keyed}

-- ---- the words of h written out: those from i on, put behind the others, are the whole

module _ (s h : List ℕ) (i : ℕ) where
  pub bytes-turn : i < length h → put s (8 * i) (bytes_of (drop i h)) ≡ put (put_num 8 s (8 * i) (get_or h i 0)) (8 * (i + 1)) (bytes_of (drop (i + 1) h))
  unfolding bytes_of put_num
  bytes-turn l =
      let x : ℕ = get_or h i 0 in
      let e : 8 * i + length (le 8 x) ≡ 8 * (i + 1) = omega (arith, length-le 8 x) in
      ap (λ (r : List ℕ). put s (8 * i) (bytes_of r)) (drop-cons h i 0 l)
      ∙ put-append s (8 * i) (le 8 x) (bytes_of (drop (suc i) h))
      ∙ ap (λ (at : ℕ). put (put s (8 * i) (le 8 x)) at (bytes_of (drop (suc i) h))) e
      ∙ ap (λ (j : ℕ). put (put s (8 * i) (le 8 x)) (8 * (i + 1)) (bytes_of (drop j h))) (sym (add-one i))

  pub bytes-end : length h ≤ i → put s (8 * i) (bytes_of (drop i h)) ≡ s
  unfolding bytes_of put
  bytes-end l = rw (drop_of_length-le h l)

pub bytes-start : (s h : List ℕ) → length s ≡ 8 * length h → put s 0 (bytes_of h) ≡ bytes_of h
bytes-start s h e =
    put_front s (bytes_of h) (omega (arith, length-bytes_of h))
    ∙ ap (λ (r : List ℕ). bytes_of h ++ r) (drop_of_length-le s {i = length (bytes_of h)} (omega (arith, length-bytes_of h)))
    ∙ append-nil (bytes_of h)

-- ---- the blocks taken up

module _ (h s : List ℕ) (i at : ℕ) (here : at ≡ 128 * i) where
  words-at : d s i ≡ words_from 16 (block_from s at) 0
  unfolding d
  words-at =
      let e : i * 128 ≡ at = omega arith in
      rw e

  pub absorbed-turn : absorbed h s (i + 1) ≡ F (absorbed h s i) (words_from 16 (block_from s at) 0) (at + 128) false
  unfolding absorbed
  absorbed-turn =
      let t : (i + 1) * 128 ≡ at + 128 = omega arith in
      rw (add-one, ← t, words-at)

  pub finished-at : finished h s i ≡ F (absorbed h s i) (words_from 16 (block_from s at) 0) (length s) true
  unfolding finished
  finished-at = rw words-at

-- the blocks before the last: as many as all bytes but one fill
pub last_block : (key : List ℕ) (ll : ℕ) → length key ≤ 64 → (length (keyed key) + ll - 1) / 128 ≡ dd (length key) ll - 1
unfolding dd
last_block key ll short =
    ⊎_elim
    (λ (e : length key ≡ 0). omega (arith, length-keyed-none key e))
    (λ (l : 0 < length key). omega (arith, length-keyed key l (omega arith)))
    (eq-zero-or-pos (length key))
