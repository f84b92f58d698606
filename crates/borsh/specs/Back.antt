-- Reading and writing, both ways: what was written is read back, and what was read stands there as its encoding. Each law speaks of the bytes from
-- a place on, as an encoding followed by the rest, so that the laws of a whole record are laws of its fields one after the other. Assumes nothing.
use Rattle.std.specs.Prelude.{◌≡◌, refl, Bool, true, false, Option, Some, None, List, ◌++◌, ℕ, ◌+◌, ◌-◌, ◌≤◌, ◌<◌, ◌^◌, leb, length, take, drop}
use Rattle.std.proofs.Common.{sym, ap, ◌∙◌, append_assoc, add-zero, arith, le-leb, leb-true, leb-false, length-append, take-append-drop, drop-drop}
use Rattle.std.proofs.lemmas.Bool.{lt-leb}
use Rattle.std.proofs.Math.Seq.{drop-append_seam}
use Rattle.octets.specs.Bytes.{length_part}
use Rattle.octets.specs.Number.{le, num_at, length-le, le-num_at, num_at-le, num_at-lt, num_at-drop, Bytes as AllBytes}
use Rattle.borsh.specs.Encoding.{vec}
use Rattle.borsh.specs.Taking.{Span, span, take_number, take_array, take_vec}

-- ---- the ways out

-- what fits, as it is tested with no sum that may not fit a machine's number
pub leb-left : (at n m : ℕ) → at ≤ m → leb n (m - at) ≡ leb (at + n) m
leb-left at n m h = by (leb n (m - at)) refl
  where
    by : (t : Bool) → leb n (m - at) ≡ t → t ≡ leb (at + n) m
    by true e = let l = leb-true n (m - at) e in sym (le-leb (at + n) m (omega arith))
    by false e = let l = leb-false n (m - at) e in sym (lt-leb (at + n) m (omega arith))

module _ (k : ℕ) (s : List ℕ) (at : ℕ) where
  pub take-number-fits : at + k ≤ length s → take_number k s at ≡ Some (num_at k s at, at + k)
  unfolding take_number
  take-number-fits h = rw (le-leb (at + k) (length s) h)

  pub take-number-short : length s < at + k → take_number k s at ≡ None
  unfolding take_number
  take-number-short h = rw (lt-leb (at + k) (length s) h)

module _ (n : ℕ) (s : List ℕ) (at : ℕ) where
  pub take-array-fits : at + n ≤ length s → take_array n s at ≡ Some (span at n (at + n))
  unfolding take_array
  take-array-fits h = rw (le-leb (at + n) (length s) h)

  pub take-array-short : length s < at + n → take_array n s at ≡ None
  unfolding take_array
  take-array-short h = rw (lt-leb (at + n) (length s) h)

module _ (s : List ℕ) (at : ℕ) where
  pub take-vec-fits : at + 4 ≤ length s → take_vec s at ≡ take_array (num_at 4 s at) s (at + 4)
  unfolding take_vec
  take-vec-fits h = rw (le-leb (at + 4) (length s) h)

  pub take-vec-short : length s < at + 4 → take_vec s at ≡ None
  unfolding take_vec
  take-vec-short h = rw (lt-leb (at + 4) (length s) h)

  -- the length stands there, and not all of the bytes
  pub take-vec-cut : at + 4 ≤ length s → length s < at + 4 + num_at 4 s at → take_vec s at ≡ None
  take-vec-cut h l = take-vec-fits h ∙ take-array-short (num_at 4 s at) s (at + 4) l

-- ---- what was written is read

num_at-seam : (k : ℕ) (pre : List ℕ) (v : ℕ) (rest : List ℕ) → v < 256 ^ k → num_at k (pre ++ (le k v ++ rest)) (length pre) ≡ v
num_at-seam k pre v rest f =
    ap (num_at k (pre ++ (le k v ++ rest))) (sym (add-zero (length pre)))
    ∙ num_at-drop k (pre ++ (le k v ++ rest)) (length pre) 0
    ∙ ap (λ (l : List ℕ). num_at k l 0) (drop-append_seam pre (le k v ++ rest))
    ∙ num_at-le k v rest f

pub take-number-back : (k : ℕ) (pre : List ℕ) (v : ℕ) (rest : List ℕ) → v < 256 ^ k → take_number k (pre ++ (le k v ++ rest)) (length pre) ≡ Some (v, length pre + k)
take-number-back k pre v rest f =
    take-number-fits k (pre ++ (le k v ++ rest)) (length pre) (simp (length-append, length-le) (omega arith))
    ∙ ap (λ (n : ℕ). Some (n, length pre + k)) (num_at-seam k pre v rest f)

pub take-array-back : (pre bs rest : List ℕ) → take_array (length bs) (pre ++ (bs ++ rest)) (length pre) ≡ Some (span (length pre) (length bs) (length pre + length bs))
take-array-back pre bs rest =
    take-array-fits (length bs) (pre ++ (bs ++ rest)) (length pre) (simp length-append (omega arith))

pub take-vec-back : (pre bs rest : List ℕ) → length bs < 256 ^ 4 → take_vec (pre ++ (vec bs ++ rest)) (length pre) ≡ Some (span (length pre + 4) (length bs) (length pre + 4 + length bs))
unfolding vec
take-vec-back pre bs rest f =
    let s = pre ++ ((le 4 (length bs) ++ bs) ++ rest) in
    let long : length s ≡ length pre + (4 + length bs + length rest) = simp (length-append, length-le) in
    let same : s ≡ pre ++ (le 4 (length bs) ++ (bs ++ rest)) = rw append_assoc in
    let n : num_at 4 s (length pre) ≡ length bs
    = ap (λ (l : List ℕ). num_at 4 l (length pre)) same ∙ num_at-seam 4 pre (length bs) (bs ++ rest) f in
    take-vec-fits s (length pre) (omega arith)
    ∙ ap (λ (m : ℕ). take_array m s (length pre + 4)) n
    ∙ take-array-fits (length bs) s (length pre + 4) (omega arith)

-- ---- what was read stands there

pub record TakenNumberAt (k : ℕ) (s : List ℕ) (at v next : ℕ) : Type 0 where
  pub ends : next ≡ at + k
  pub fits : at + k ≤ length s
  pub bytes : drop at s ≡ le k v ++ drop next s
  pub small : v < 256 ^ k

pub record TakenArrayAt (n : ℕ) (s : List ℕ) (at start len next : ℕ) : Type 0 where
  pub begins : start ≡ at
  pub size : len ≡ n
  pub ends : next ≡ at + n
  pub fits : next ≤ length s
  pub bytes : drop at s ≡ take len (drop start s) ++ drop next s
  pub long : length (take len (drop start s)) ≡ len

pub record TakenVecAt (s : List ℕ) (at start n next : ℕ) : Type 0 where
  pub begins : start ≡ at + 4
  pub ends : next ≡ at + 4 + n
  pub fits : next ≤ length s
  pub bytes : drop at s ≡ vec (take n (drop start s)) ++ drop next s
  pub long : length (take n (drop start s)) ≡ n
  pub small : n < 256 ^ 4

-- the bytes from a place on, cut behind the first n
cut : (n : ℕ) (s : List ℕ) (at : ℕ) → drop at s ≡ take n (drop at s) ++ drop (at + n) s
cut n s at = sym (ap (λ (l : List ℕ). take n (drop at s) ++ l) (sym (drop-drop n at s)) ∙ take-append-drop n (drop at s))

number_at : (k : ℕ) (s : List ℕ) (at : ℕ) → AllBytes s → at + k ≤ length s → TakenNumberAt k s at (num_at k s at) (at + k)
number_at k s at p h = record {
  ends = refl;
  fits = h;
  bytes = cut k s at ∙ ap (λ (l : List ℕ). l ++ drop (at + k) s) (sym (le-num_at k s at p h));
  small = num_at-lt k s at p;
}

array_at : (n : ℕ) (s : List ℕ) (at : ℕ) → at + n ≤ length s → TakenArrayAt n s at at n (at + n)
array_at n s at h = record {
  begins = refl;
  size = refl;
  ends = refl;
  fits = h;
  bytes = cut n s at;
  long = length_part n s at h;
}

pub take-number-was : (k : ℕ) (s : List ℕ) (at : ℕ) {v : ℕ} {c : ℕ} → AllBytes s → take_number k s at ≡ Some (v, c) → TakenNumberAt k s at v c
take-number-was k s at {v} {c} p e = by (leb (at + k) (length s)) refl
  where
    by : (t : Bool) → leb (at + k) (length s) ≡ t → TakenNumberAt k s at v c
    by true q =
        let h = leb-true (at + k) (length s) q in
        let same : ◌≡◌ {A = Option (ℕ × ℕ)} (Some (num_at k s at, at + k)) (Some (v, c)) = sym (take-number-fits k s at h) ∙ e in
        let both : ◌≡◌ {A = ℕ × ℕ} (num_at k s at, at + k) (v, c) = cc in
        let number : num_at k s at ≡ v = ap (λ (p : ℕ × ℕ). p.0) both in
        let place : at + k ≡ c = ap (λ (p : ℕ × ℕ). p.1) both in
        rw (← number, ← place) (number_at k s at p h)
    by false q =
        let same : ◌≡◌ {A = Option (ℕ × ℕ)} None (Some (v, c)) = sym (take-number-short k s at (leb-false (at + k) (length s) q)) ∙ e in
        let z : ◌≡◌ {A = ℕ} 0 1 = cc in absurd (omega arith)

pub take-array-was : (n : ℕ) (s : List ℕ) (at : ℕ) {start len : ℕ} {c : ℕ} → take_array n s at ≡ Some (span start len c) → TakenArrayAt n s at start len c
take-array-was n s at {start} {len} {c} e = by (leb (at + n) (length s)) refl
  where
    by : (t : Bool) → leb (at + n) (length s) ≡ t → TakenArrayAt n s at start len c
    by true q =
        let h = leb-true (at + n) (length s) q in
        let same : ◌≡◌ {A = Option Span} (Some (span at n (at + n))) (Some (span start len c)) = sym (take-array-fits n s at h) ∙ e in
        let all : span at n (at + n) ≡ span start len c = cc in
        let begin : at ≡ start = ap (λ (x : Span). x.start) all in
        let size : n ≡ len = ap (λ (x : Span). x.len) all in
        let place : at + n ≡ c = ap (λ (x : Span). x.next) all in
        rw (← place, ← size, ← begin) (array_at n s at h)
    by false q =
        let same : ◌≡◌ {A = Option Span} None (Some (span start len c)) = sym (take-array-short n s at (leb-false (at + n) (length s) q)) ∙ e in
        let z : ◌≡◌ {A = ℕ} 0 1 = cc in absurd (omega arith)

-- a length read, and as many bytes behind it
vec-at : (s : List ℕ) (at start n next : ℕ) → AllBytes s → at + 4 ≤ length s → TakenArrayAt (num_at 4 s at) s (at + 4) start n next → TakenVecAt s at start n next
unfolding vec
vec-at s at start n next p h a =
    let number = number_at 4 s at p h in
    let bs = take n (drop start s) in
    let size : num_at 4 s at ≡ length bs = sym a.size ∙ sym a.long in
    record {
      begins = a.begins;
      ends = a.ends ∙ ap (λ (m : ℕ). at + 4 + m) (sym a.size);
      fits = a.fits;
      bytes = number.bytes
          ∙ ap (λ (l : List ℕ). le 4 (num_at 4 s at) ++ l) a.bytes
          ∙ sym (append_assoc (le 4 (num_at 4 s at)) bs (drop next s))
          ∙ ap (λ (m : ℕ). (le 4 m ++ bs) ++ drop next s) size;
      long = a.long;
      small = rw a.size number.small;
    }

-- a vector that was taken: its length stood there, and its bytes are an array behind it
record VecParts (s : List ℕ) (at start n next : ℕ) : Type 0 where
  head : at + 4 ≤ length s
  body : TakenArrayAt (num_at 4 s at) s (at + 4) start n next

vec-parts : (s : List ℕ) (at : ℕ) {start n : ℕ} {c : ℕ} → take_vec s at ≡ Some (span start n c) → VecParts s at start n c
vec-parts s at {start} {n} {c} e = by (leb (at + 4) (length s)) refl
  where
    by : (t : Bool) → leb (at + 4) (length s) ≡ t → VecParts s at start n c
    by true q =
        let h = leb-true (at + 4) (length s) q in
        record { head = h; body = take-array-was (num_at 4 s at) s (at + 4) (sym (take-vec-fits s at h) ∙ e) }
    by false q =
        let same : ◌≡◌ {A = Option Span} None (Some (span start n c)) = sym (take-vec-short s at (leb-false (at + 4) (length s) q)) ∙ e in
        let z : ◌≡◌ {A = ℕ} 0 1 = cc in absurd (omega arith)

pub take-vec-was : (s : List ℕ) (at : ℕ) {start n : ℕ} {c : ℕ} → AllBytes s → take_vec s at ≡ Some (span start n c) → TakenVecAt s at start n c
take-vec-was s at {start} {n} {c} p e = let v = vec-parts s at e in vec-at s at start n c p v.head v.body

-- the bytes of a vector lie inside, whatever they are
pub take-vec-inside : (s : List ℕ) (at : ℕ) {start n : ℕ} {c : ℕ} → take_vec s at ≡ Some (span start n c) → start + n ≤ length s
take-vec-inside s at e =
    let a = (vec-parts s at e).body in
    omega (arith, a.begins, a.size, a.ends, a.fits)
