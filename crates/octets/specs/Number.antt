-- Numbers in bytes, lowest byte first, of any width: four bytes are Rust's u32, eight its u64. Assumes nothing.
use Rattle.std.specs.Prelude.{◌≡◌, refl, List, [], ◌∷◌, ◌++◌, ℕ, zero, suc, ◌+◌, ◌*◌, ◌-◌, ◌/◌, ◌%◌, ◌≤◌, ◌<◌, ◌^◌, length, get_or, set, take, drop, replicate}
use Rattle.std.proofs.Common.{sym, ap, ◌∙◌, add_assoc, mod-eq_of_lt, pow-suc, add-one, arith, length-set, length-append, get_or-set_same, get_or-take, get_or-drop, drop-cons, take_at}
use Rattle.std.proofs.Math.Nat.{div-div-eq-div-mul, pow-zero, one-le-pow, mod-one}
use Rattle.std.proofs.Math.Arith.{mod-mul}
use Rattle.std.proofs.lemmas.List.{length-replicate}
use Rattle.octets.specs.Bytes.{put, length_part, length-put, get_or-put-other, get_or-put-in, put-swap, put-over}

-- v in k bytes
unfoldable pub le : ℕ → ℕ → List ℕ
le zero v = []
le (suc k) v = v % 256 ∷ le k (v / 256)

-- the number that bytes are
unfoldable pub unle : List ℕ → ℕ
unle [] = 0
unle (b ∷ bs) = b + 256 * unle bs

-- the number in the k bytes of s from at on
unfoldable pub num_at : ℕ → List ℕ → ℕ → ℕ
num_at zero s at = 0
num_at (suc k) s at = get_or s at 0 + 256 * num_at k s (at + 1)

-- s, with v in the k bytes from at on
unfoldable pub put_num : ℕ → List ℕ → ℕ → ℕ → List ℕ
put_num k s at v = put s at (le k v)

-- every element is a byte
abbrev pub Bytes : List ℕ → Type 0
Bytes s = (i : ℕ) → get_or s i 0 < 256

-- ---- a number and its bytes, both ways

pub length-le : (k v : ℕ) → length (le k v) ≡ k
unfolding le
length-le zero v = refl
length-le (suc k) v = ap suc (length-le k (v / 256))

pub unle-le : (k v : ℕ) → unle (le k v) ≡ v % 256 ^ k
unfolding le unle
unle-le zero v = rw pow-zero (sym (mod-one v))
unle-le (suc k) v =
    rw (unle-le k (v / 256), pow-suc)
    (omega (arith, mod-mul v {m = 256 ^ k} {c = 256} (one-le-pow k 256 (omega arith)) (omega arith)))

-- a number that fits comes back
pub unle-le-same : (k v : ℕ) → v < 256 ^ k → unle (le k v) ≡ v
unle-le-same k v h = unle-le k v ∙ mod-eq_of_lt h

-- so its bytes tell it from every other that fits
pub le-inj : (k v w : ℕ) → v < 256 ^ k → w < 256 ^ k → le k v ≡ le k w → v ≡ w
le-inj k v w f g e = sym (unle-le-same k v f) ∙ ap unle e ∙ unle-le-same k w g

-- and bytes come back
pub le-unle : (bs : List ℕ) → Bytes bs → le (length bs) (unle bs) ≡ bs
unfolding le unle
le-unle [] p = refl
le-unle (b ∷ bs) p =
    let small : b < 256 = p 0 in
    let low : (b + 256 * unle bs) % 256 ≡ b = omega arith in
    let high : (b + 256 * unle bs) / 256 ≡ unle bs = omega arith in
    rw (low, high, le-unle bs (λ i. p (suc i)))

pub unle-lt : (bs : List ℕ) → Bytes bs → unle bs < 256 ^ length bs
unfolding unle
unle-lt [] p = rw pow-zero (omega arith)
unle-lt (b ∷ bs) p = rw pow-suc (omega (arith, p 0, unle-lt bs (λ i. p (suc i))))

-- ---- what is made of bytes only

pub bytes_le : (k v : ℕ) → Bytes (le k v)
unfolding le
bytes_le zero v i = omega arith
bytes_le (suc k) v zero = omega arith
bytes_le (suc k) v (suc i) = bytes_le k (v / 256) i

pub bytes-append : (a b : List ℕ) → Bytes a → Bytes b → Bytes (a ++ b)
bytes-append [] b p q i = q i
bytes-append (x ∷ a) b p q zero = p zero
bytes-append (x ∷ a) b p q (suc i) = bytes-append a b (λ j. p (suc j)) q i

pub bytes_take : (n : ℕ) (s : List ℕ) → Bytes s → Bytes (take n s)
bytes_take zero s p i = omega arith
bytes_take (suc n) [] p i = omega arith
bytes_take (suc n) (x ∷ s) p zero = p zero
bytes_take (suc n) (x ∷ s) p (suc i) = bytes_take n s (λ j. p (suc j)) i

pub bytes-set : (s : List ℕ) (i b : ℕ) → Bytes s → b < 256 → Bytes (set s i b)
bytes-set [] i b p small j = omega arith
bytes-set (x ∷ s) zero b p small zero = small
bytes-set (x ∷ s) zero b p small (suc j) = p (suc j)
bytes-set (x ∷ s) (suc i) b p small zero = p zero
bytes-set (x ∷ s) (suc i) b p small (suc j) = bytes-set s i b (λ k. p (suc k)) small j

pub bytes_drop : (n : ℕ) (s : List ℕ) → Bytes s → Bytes (drop n s)
bytes_drop n s p i = rw get_or-drop (p (n + i))

-- ---- numbers in an area

pub length-put_num : (k : ℕ) (s : List ℕ) (at v : ℕ) → length (put_num k s at v) ≡ length s
unfolding put_num
length-put_num k s at v = length-put s at (le k v)

-- a number read clear of a put
pub num_at-put-other : (j : ℕ) (s : List ℕ) (at : ℕ) (bs : List ℕ) (b : ℕ) → (at < b + j → at + length bs ≤ b) → num_at j (put s at bs) b ≡ num_at j s b
unfolding num_at
num_at-put-other zero s at bs b h = refl
num_at-put-other (suc j) s at bs b h =
    rw (get_or-put-other s at bs b 0 (λ l. h (omega arith)), num_at-put-other j s at bs (b + 1) (λ l. omega (arith, h (omega arith))))

pub num_at-put_num-mod : (k : ℕ) (s : List ℕ) (at v : ℕ) → at + k ≤ length s → num_at k (put_num k s at v) at ≡ v % 256 ^ k
unfolding num_at put_num put le
num_at-put_num-mod zero s at v h = rw pow-zero (sym (mod-one v))
num_at-put_num-mod (suc k) s at v h =
    let first : get_or (put (set s at (v % 256)) (at + 1) (le k (v / 256))) at 0 ≡ v % 256
    = get_or-put-other (set s at (v % 256)) (at + 1) (le k (v / 256)) at 0 (λ l. omega arith) ∙ get_or-set_same s at (v % 256) 0 (omega arith) in
    let rest : num_at k (put (set s at (v % 256)) (at + 1) (le k (v / 256))) (at + 1) ≡ v / 256 % 256 ^ k
    = num_at-put_num-mod k (set s at (v % 256)) (at + 1) (v / 256) (simp length-set (omega arith)) in
    rw (first, rest, pow-suc)
    (omega (arith, mod-mul v {m = 256 ^ k} {c = 256} (one-le-pow k 256 (omega arith)) (omega arith)))

-- what was put is read
pub num_at-put_num-same : (k : ℕ) (s : List ℕ) (at v : ℕ) → at + k ≤ length s → v < 256 ^ k → num_at k (put_num k s at v) at ≡ v
num_at-put_num-same k s at v h f = num_at-put_num-mod k s at v h ∙ mod-eq_of_lt f

-- a number elsewhere, of any width, is as it was
pub num_at-put_num-other : (j k : ℕ) (s : List ℕ) (at v b : ℕ) → (at < b + j → at + k ≤ b) → num_at j (put_num k s at v) b ≡ num_at j s b
unfolding put_num
num_at-put_num-other j k s at v b h = num_at-put-other j s at (le k v) b (λ l. rw length-le (h l))

-- and so is a byte
pub get_or-put_num-other : (k : ℕ) (s : List ℕ) (at v i d : ℕ) → (at ≤ i → at + k ≤ i) → get_or (put_num k s at v) i d ≡ get_or s i d
unfolding put_num
get_or-put_num-other k s at v i d h = get_or-put-other s at (le k v) i d (λ l. rw length-le (h l))

-- a number put twice, bytes behind it between
pub put_num-over : (k : ℕ) (s : List ℕ) (at v w b : ℕ) (bs : List ℕ) → at + k ≤ b → put_num k (put (put_num k s at v) b bs) at w ≡ put_num k (put s b bs) at w
unfolding put_num
put_num-over k s at v w b bs h =
    ap (λ (l : List ℕ). put l at (le k w)) (put-swap s at (le k v) b bs (rw length-le h))
    ∙ put-over (put s b bs) at (le k v) (le k w) (length-le k v ∙ sym (length-le k w))

-- ---- a number read is that of the part it stands in

pub num_at-part : (k : ℕ) (s : List ℕ) (at : ℕ) → at + k ≤ length s → num_at k s at ≡ unle (take k (drop at s))
unfolding num_at unle
num_at-part zero s at h = refl
num_at-part (suc k) s at h = rw (drop-cons s at 0 (omega arith), num_at-part k s (at + 1) (omega arith), add-one)

pub num_at-drop : (k : ℕ) (s : List ℕ) (a b : ℕ) → num_at k s (a + b) ≡ num_at k (drop a s) b
unfolding num_at
num_at-drop zero s a b = refl
num_at-drop (suc k) s a b = rw (get_or-drop a s b 0, add_assoc, num_at-drop k s a (b + 1))

-- a number in the front part of an area
pub num_at-take : (k : ℕ) (s : List ℕ) (at m : ℕ) → at + k ≤ m → num_at k (take m s) at ≡ num_at k s at
unfolding num_at
num_at-take zero s at m h = refl
num_at-take (suc k) s at m h = rw (get_or-take m s at 0 (omega arith), num_at-take k s (at + 1) m (omega arith))

pub le-num_at : (k : ℕ) (s : List ℕ) (at : ℕ) → Bytes s → at + k ≤ length s → le k (num_at k s at) ≡ take k (drop at s)
le-num_at k s at p h =
    ap (λ (n : ℕ). le k n) (num_at-part k s at h)
    ∙ ap (λ (n : ℕ). le n (unle (take k (drop at s)))) (sym (length_part k s at h))
    ∙ le-unle (take k (drop at s)) (bytes_take k (drop at s) (bytes_drop at s p))

pub num_at-le : (k v : ℕ) (rest : List ℕ) → v < 256 ^ k → num_at k (le k v ++ rest) 0 ≡ v
num_at-le k v rest f =
    num_at-part k (le k v ++ rest) 0 (simp (length-append, length-le) (omega arith))
    ∙ ap unle (take_at (le k v) rest k (length-le k v))
    ∙ unle-le-same k v f

pub num_at-lt : (k : ℕ) (s : List ℕ) (at : ℕ) → Bytes s → num_at k s at < 256 ^ k
unfolding num_at
num_at-lt zero s at p = rw pow-zero (omega arith)
num_at-lt (suc k) s at p = rw pow-suc (omega (arith, p at, num_at-lt k s (at + 1) p))

-- ---- the bytes written out, as the code has them

pub num_at-4 : (s : List ℕ) (at : ℕ)
    → num_at 4 s at
    ≡ get_or s at 0 + get_or s (at + 1) 0 * 0x100 + get_or s (at + 2) 0 * 0x1_0000 + get_or s (at + 3) 0 * 0x100_0000
unfolding num_at
num_at-4 s at = simp add_assoc (omega arith)

pub num_at-8 : (s : List ℕ) (at : ℕ)
    → num_at 8 s at
    ≡ get_or s at 0 + get_or s (at + 1) 0 * 0x100 + get_or s (at + 2) 0 * 0x1_0000 + get_or s (at + 3) 0 * 0x100_0000
    + get_or s (at + 4) 0 * 0x1_0000_0000 + get_or s (at + 5) 0 * 0x100_0000_0000
    + get_or s (at + 6) 0 * 0x1_0000_0000_0000 + get_or s (at + 7) 0 * 0x100_0000_0000_0000
unfolding num_at
num_at-8 s at = simp add_assoc (omega arith)

pub put_num-4 : (s : List ℕ) (at v : ℕ)
    → put_num 4 s at v
    ≡ set (set (set (set s at (v % 256)) (at + 1) (v / 0x100 % 256)) (at + 2) (v / 0x1_0000 % 256)) (at + 3) (v / 0x100_0000 % 256)
unfolding put_num put le
put_num-4 s at v = simp (add_assoc, div-div-eq-div-mul)

pub put_num-8 : (s : List ℕ) (at v : ℕ)
    → put_num 8 s at v
    ≡ set
    (set
    (set
    (set
    (set
    (set (set (set s at (v % 256)) (at + 1) (v / 0x100 % 256)) (at + 2) (v / 0x1_0000 % 256))
    (at + 3)
    (v / 0x100_0000 % 256))
    (at + 4)
    (v / 0x1_0000_0000 % 256))
    (at + 5)
    (v / 0x100_0000_0000 % 256))
    (at + 6)
    (v / 0x1_0000_0000_0000 % 256))
    (at + 7)
    (v / 0x100_0000_0000_0000 % 256)
unfolding put_num put le
put_num-8 s at v = simp (add_assoc, div-div-eq-div-mul)

-- ---- a number among zeros

pub get_or-zeros : (n i : ℕ) → ◌≡◌ {A = ℕ} (get_or (replicate n 0) i 0) 0
get_or-zeros zero i = refl
get_or-zeros (suc n) zero = refl
get_or-zeros (suc n) (suc i) = get_or-zeros n i

pub num_at-zeros : (k n at : ℕ) → num_at k (replicate n 0) at ≡ 0
unfolding num_at
num_at-zeros zero n at = refl
num_at-zeros (suc k) n at = rw (get_or-zeros n at, num_at-zeros k n (at + 1))

pub bytes-zeros : (n : ℕ) → Bytes (replicate n 0)
bytes-zeros n i = rw (get_or-zeros n i) (omega arith)

-- in a part that was filled with zeros
pub num_at-put-zeros : (k : ℕ) (s : List ℕ) (at n b : ℕ) → at + n ≤ length s → at ≤ b → b + k ≤ at + n → num_at k (put s at (replicate n 0)) b ≡ 0
unfolding num_at
num_at-put-zeros zero s at n b room low high = refl
num_at-put-zeros (suc k) s at n b room low high =
    let e : b ≡ at + (b - at) = omega arith in
    let long = length-replicate {A = ℕ} n 0 in
    let here : get_or (put s at (replicate n 0)) b 0 ≡ 0
    = ap (λ (x : ℕ). get_or (put s at (replicate n 0)) x 0) e
    ∙ get_or-put-in s at (replicate n 0) (b - at) 0 (rw long room) (rw long (omega arith))
    ∙ get_or-zeros n (b - at) in
    rw (here, num_at-put-zeros k s at n (b + 1) room (omega arith) (omega arith))
