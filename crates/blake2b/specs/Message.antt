-- How the code lays out one block of what is hashed: part by part. Assumes nothing.
use Rattle.std.specs.Prelude.{◌≡◌, ℕ, zero, suc, ◌+◌, ◌-◌, ◌^◌, ◌<◌, ◌≤◌, Bool, true, false, cond, ◌⊎◌, List, [], ◌∷◌, ◌++◌, length, take, drop, replicate, nat_le, nat_lt, slice_index, refl}
use Rattle.std.proofs.Common.{sym, ap, ◌∙◌, inl, inr, ⊎_elim, append_assoc, arith, leb-true, leb-false, lt-ltb, le-ltb, le-leb, length-append, length-drop, ext_get_or, get_or-append-add}
use Rattle.std.proofs.lemmas.Bool.{lt-leb}
use Rattle.std.proofs.Math.ListN.{length-take, get_or-append, get_or-eq_default}
use Rattle.std.proofs.lemmas.List.{length-replicate}
use Rattle.std.proofs.Math.Seq.{drop-nil, get_or-take, get_or-drop}
use Rattle.octets.specs.Bytes.{put, length-put, get_or-put-in, get_or-put-other}
use Rattle.octets.specs.Number.{get_or-zeros}
use Rattle.blake2b.specs.Blake2b.{pad, keyed, block_from}

-- the lengths of a key and of a message's two parts whose bytes, the padded key's among them, can be counted in a word with a block to spare
pub record Lengths (key head tail : ℕ) : Type 0 where
  pub short : key ≤ 64
  pub fits : 128 + (head + tail) + 128 < 2 ^ 64

-- what is hashed: the padded key, and then the message's two parts
abbrev pub all_of : List ℕ → List ℕ → List ℕ → List ℕ
all_of key head tail = keyed key ++ (head ++ tail)

-- a block that shows the data from `at` on, after a part is laid into it that stands in the data from `from` on
unfoldable pub laid : List ℕ → ℕ → List ℕ → ℕ → List ℕ
laid [] at part from = []
laid (b ∷ block) at part from =
    cond (nat_le from at) (cond (nat_lt (at - from) (length part)) (slice_index part (at - from)) b) b ∷ laid block (at + 1) part from

-- how two numbers lie
le-or-lt : (a b : ℕ) → (a ≤ b) ⊎ (b < a)
le-or-lt a b = by (nat_le a b) refl
  where
    by : (t : Bool) → nat_le a b ≡ t → (a ≤ b) ⊎ (b < a)
    by true e = inl (leb-true a b e)
    by false e = inr (leb-false a b e)

-- ---- what is laid, byte by byte

pub length-laid : (block : List ℕ) (at : ℕ) (part : List ℕ) (from : ℕ) → length (laid block at part from) ≡ length block
unfolding laid
length-laid [] at part from = refl
length-laid (b ∷ block) at part from = ap suc (length-laid block (at + 1) part from)

-- a byte that the part has
pub get_or-laid-in : (block : List ℕ) (at : ℕ) (part : List ℕ) (from j : ℕ) → j < length block → from ≤ at + j → at + j < from + length part → slice_index (laid block at part from) j ≡ slice_index part (at + j - from)
unfolding laid
get_or-laid-in [] at part from j h l m = absurd (omega arith)
get_or-laid-in (b ∷ block) at part from zero h l m =
    let e : at + zero ≡ at = omega arith in
    rw (e, le-leb from at (omega arith), lt-ltb (at - from) (length part) (omega arith))
get_or-laid-in (b ∷ block) at part from (suc j) h l m =
    let e : at + suc j ≡ at + 1 + j = omega arith in
    rw e (get_or-laid-in block (at + 1) part from j (omega arith) (omega arith) (omega arith))

-- a byte before the part or behind it
pub get_or-laid-out : (block : List ℕ) (at : ℕ) (part : List ℕ) (from j : ℕ) → (from ≤ at + j → from + length part ≤ at + j) → slice_index (laid block at part from) j ≡ slice_index block j
unfolding laid
get_or-laid-out [] at part from j h = refl
get_or-laid-out (b ∷ block) at part from zero h =
    ⊎_elim
    (λ (l : from ≤ at). rw (le-leb from at l, le-ltb (at - from) (length part) (omega (arith, h (omega arith)))))
    (λ (l : at < from). rw (lt-leb from at l))
    (le-or-lt from at)
get_or-laid-out (b ∷ block) at part from (suc j) h =
    get_or-laid-out block (at + 1) part from j (λ l. omega (arith, h (omega arith)))

-- ---- what is laid is one run: n bytes, from the place b of the part to the place a of the block

module _ (block : List ℕ) (at : ℕ) (part : List ℕ) (from a b n : ℕ) (meet : at + a ≡ from + b) (in_block : a + n ≤ length block) (in_part : b + n ≤ length part) where
  length_run : length (take n (drop b part)) ≡ n
  length_run = simp (length-take, length-drop) (omega arith)

  inside : (k : ℕ) → k < n → slice_index (laid block at part from) (a + k) ≡ slice_index (put block a (take n (drop b part))) (a + k)
  inside k l =
      let long = length_run in
      let there : at + (a + k) - from ≡ b + k = omega arith in
      get_or-laid-in block at part from (a + k) (omega arith) (omega arith) (omega arith)
      ∙ ap (λ (i : ℕ). slice_index part i) there
      ∙ sym
      (get_or-put-in block a (take n (drop b part)) k 0 (omega arith) (omega arith)
      ∙ get_or-take n (drop b part) k 0 l
      ∙ get_or-drop b part k 0)

  -- the run starts where the block or the part starts, and stops where one of them ends
  module _ (starts : 0 < a → b ≡ 0) (stops : a + n < length block → b + n ≡ length part) where
    before : (j : ℕ) → j < a → from ≤ at + j → from + length part ≤ at + j
    before j l m = omega (arith, starts (omega arith))

    behind : (j : ℕ) → j < length block → a + n ≤ j → from + length part ≤ at + j
    behind j l m = omega (arith, stops (omega arith))

    outside : (j : ℕ) → (from ≤ at + j → from + length part ≤ at + j) → (a ≤ j → a + n ≤ j) → slice_index (laid block at part from) j ≡ slice_index (put block a (take n (drop b part))) j
    outside j o p =
        get_or-laid-out block at part from j o
        ∙ sym (get_or-put-other block a (take n (drop b part)) j 0 (λ m. omega (arith, length_run, p m)))

    byte : (j : ℕ) → j < length block → slice_index (laid block at part from) j ≡ slice_index (put block a (take n (drop b part))) j
    byte j l =
        ⊎_elim
        (λ (u : a ≤ j).
        ⊎_elim
        (λ (v : a + n ≤ j). outside j (λ _. behind j l v) (λ _. v))
        (λ (v : j < a + n).
        let e : a + (j - a) ≡ j = omega arith in
        rw e at (inside (j - a) (omega arith)))
        (le-or-lt (a + n) j))
        (λ (u : j < a). outside j (before j u) (λ (v : a ≤ j). absurd (omega arith)))
        (le-or-lt a j)

    pub laid-run : laid block at part from ≡ put block a (take n (drop b part))
    laid-run =
        ext_get_or 0 (laid block at part from) (put block a (take n (drop b part)))
        (length-laid block at part from ∙ sym (length-put block a (take n (drop b part))))
        (λ j l. byte j (omega (arith, length-laid block at part from)))

-- the part ends before the block, or starts behind it
pub laid_none : (block : List ℕ) (at : ℕ) (part : List ℕ) (from : ℕ) → ((j : ℕ) → j < length block → from ≤ at + j → from + length part ≤ at + j) → laid block at part from ≡ block
laid_none block at part from h =
    ext_get_or 0 (laid block at part from) block (length-laid block at part from)
    (λ j l. get_or-laid-out block at part from j (λ m. h j (omega (arith, length-laid block at part from)) m))

-- ---- the bytes of a block: those of the data, and zeros behind its end

-- padding reads like what is behind the end of any list
pub get_or-pad : (s : List ℕ) (j : ℕ) → slice_index (pad s) j ≡ slice_index s j
unfolding pad
get_or-pad s j =
    ⊎_elim
    (λ (l : length s ≤ j).
    let k : ℕ = j - length s in
    let e : length s + k ≡ j = omega arith in
    ap (λ (i : ℕ). slice_index (s ++ replicate (128 - length s) 0) i) (sym e)
    ∙ get_or-append-add s (replicate (128 - length s) 0) k 0
    ∙ get_or-zeros (128 - length s) k
    ∙ sym (get_or-eq_default s 0 l))
    (λ (l : j < length s). get_or-append s (replicate (128 - length s) 0) 0 j l)
    (le-or-lt (length s) j)

pub length-pad : (s : List ℕ) → length s ≤ 128 → length (pad s) ≡ 128
unfolding pad
length-pad s l = simp (length-append, length-replicate) (omega arith)

module _ (s : List ℕ) (at : ℕ) where
  pub length-block : length (block_from s at) ≡ 128
  unfolding block_from
  length-block = length-pad (take 128 (drop at s)) (simp length-take (omega arith))

  pub get_or-block : (j : ℕ) → j < 128 → slice_index (block_from s at) j ≡ slice_index s (at + j)
  unfolding block_from
  get_or-block j l = get_or-pad (take 128 (drop at s)) j ∙ get_or-take 128 (drop at s) j 0 l ∙ get_or-drop at s j 0

-- two data that read the same have the same blocks
pub block_same : (s t : List ℕ) (at : ℕ) → ((j : ℕ) → slice_index s j ≡ slice_index t j) → block_from s at ≡ block_from t at
block_same s t at h =
    ext_get_or 0 (block_from s at) (block_from t at) (length-block s at ∙ sym (length-block t at))
    (λ j m.
    let l : j < 128 = omega (arith, length-block s at) in
    get_or-block s at j l ∙ h (at + j) ∙ sym (get_or-block t at j l))

-- a part laid behind the data so far
pub block-laid : (s part : List ℕ) (at : ℕ) → laid (block_from s at) at part (length s) ≡ block_from (s ++ part) at
block-laid s part at =
    ext_get_or 0 (laid (block_from s at) at part (length s)) (block_from (s ++ part) at)
    (length-laid (block_from s at) at part (length s) ∙ length-block s at ∙ sym (length-block (s ++ part) at))
    (λ j m.
    let l : j < 128 = omega (arith, length-block s at, length-laid (block_from s at) at part (length s)) in
    byte j l ∙ sym (get_or-block (s ++ part) at j l))
  where
    behind : (j : ℕ) → length s ≤ at + j → slice_index (s ++ part) (at + j) ≡ slice_index part (at + j - length s)
    behind j l =
        let e : length s + (at + j - length s) ≡ at + j = omega arith in
        ap (λ (i : ℕ). slice_index (s ++ part) i) (sym e) ∙ get_or-append-add s part (at + j - length s) 0

    byte : (j : ℕ) → j < 128 → slice_index (laid (block_from s at) at part (length s)) j ≡ slice_index (s ++ part) (at + j)
    byte j l =
        let long : length (block_from s at) ≡ 128 = length-block s at in
        ⊎_elim
        (λ (u : length s ≤ at + j).
        ⊎_elim
        (λ (v : length s + length part ≤ at + j).
        get_or-laid-out (block_from s at) at part (length s) j (λ _. v)
        ∙ get_or-block s at j l
        ∙ get_or-eq_default s 0 u
        ∙ sym (behind j u ∙ get_or-eq_default part 0 (omega arith)))
        (λ (v : at + j < length s + length part). get_or-laid-in (block_from s at) at part (length s) j (omega arith) u v ∙ sym (behind j u))
        (le-or-lt (length s + length part) (at + j)))
        (λ (u : at + j < length s).
        get_or-laid-out (block_from s at) at part (length s) j (λ (w : length s ≤ at + j). absurd (omega arith))
        ∙ get_or-block s at j l
        ∙ sym (get_or-append s part 0 (at + j) u))
        (le-or-lt (length s) (at + j))

-- ---- the key: padded, it reads as it is

pub get_or-keyed : (key : List ℕ) (j : ℕ) → slice_index (keyed key) j ≡ slice_index key j
unfolding keyed
get_or-keyed [] j = refl
get_or-keyed (k ∷ ks) j = get_or-pad (k ∷ ks) j

pub length-keyed-none : (key : List ℕ) → length key ≡ 0 → length (keyed key) ≡ 0
unfolding keyed
length-keyed-none [] e = refl
length-keyed-none (k ∷ ks) e = absurd (omega arith)

pub length-keyed : (key : List ℕ) → 0 < length key → length key ≤ 128 → length (keyed key) ≡ 128
unfolding keyed
length-keyed [] some short = absurd (omega arith)
length-keyed (k ∷ ks) some short = length-pad (k ∷ ks) short

pub keyed-le : (key : List ℕ) → length key ≤ 128 → length (keyed key) ≤ 128
keyed-le key short =
    ⊎_elim
    (λ (l : length key ≤ 0). omega (arith, length-keyed-none key (omega arith)))
    (λ (l : 0 < length key). omega (arith, length-keyed key l short))
    (le-or-lt (length key) 0)

-- a block of zeros, in which the key, the head and the tail are laid
zeros : (at : ℕ) → replicate 128 0 ≡ block_from [] at
unfolding pad block_from
zeros at = rw (drop-nil {A = ℕ} at)

pub block-of-parts : (key head tail : List ℕ) (at : ℕ) → laid (laid (laid (replicate 128 0) at key 0) at head (length (keyed key))) at tail (length (keyed key) + length head) ≡ block_from (keyed key ++ (head ++ tail)) at
block-of-parts key head tail at =
    let one : laid (replicate 128 0) at key 0 ≡ block_from (keyed key) at
    = ap (λ (b : List ℕ). laid b at key 0) (zeros at)
    ∙ block-laid [] key at
    ∙ block_same key (keyed key) at (λ j. sym (get_or-keyed key j)) in
    let two : laid (laid (replicate 128 0) at key 0) at head (length (keyed key)) ≡ block_from (keyed key ++ head) at
    = ap (λ (b : List ℕ). laid b at head (length (keyed key))) one ∙ block-laid (keyed key) head at in
    ap (λ (b : List ℕ). laid b at tail (length (keyed key) + length head)) two
    ∙ ap (λ (n : ℕ). laid (block_from (keyed key ++ head) at) at tail n) (sym (length-append (keyed key) head))
    ∙ block-laid (keyed key ++ head) tail at
    ∙ ap (λ (s : List ℕ). block_from s at) (append_assoc (keyed key) head tail)
