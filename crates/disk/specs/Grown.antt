-- A file that is a part of an area: what a write does to the area is what it does to the file. Assumes nothing.
use Rattle.std.specs.Prelude.{◌≡◌, List, [], ◌∷◌, ℕ, ◌+◌, ◌-◌, ◌≤◌, ◌<◌, max, length, get_or, take, drop, replicate}
use Rattle.std.proofs.Common.{sym, ap, ◌∙◌, add-zero, arith, get_or-take, get_or-drop, ext_get_or}
use Rattle.std.proofs.lemmas.List.{length-replicate, get_or-replicate}
use Rattle.octets.specs.Bytes.{put, length-put, length_part, get_or-put-in, get_or-put-other}
use Rattle.octets.specs.Cases.{order}
use Rattle.components.specs.FileBytes.{written}
use Rattle.components.proofs.FileBytesLaws.{written_none, length-written, written_new, written-old, written-hole}

module _ (s : List ℕ) (a n at : ℕ) (bs : List ℕ) where
  -- zeros from its end up to the write, and the bytes
  abbrev grown : List ℕ
  grown = put (put s (a + n) (replicate (at - n) 0)) (a + at) bs

  module _ (room : a + n ≤ length s) (fit : a + at + length bs ≤ length s) (more : 0 < length bs) where
    length-grown : length (take (max n (at + length bs)) (drop a grown)) ≡ max n (at + length bs)
    length-grown =
        let long : length grown ≡ length s = length-put _ (a + at) bs ∙ length-put s (a + n) _ in
        length_part (max n (at + length bs)) grown a (omega arith)

    length-old : length (take n (drop a s)) ≡ n
    length-old = length_part n s a room

    byte-old : (p : ℕ) → p < n → get_or (take n (drop a s)) p 0 ≡ get_or s (a + p) 0
    byte-old p l = get_or-take n (drop a s) p 0 l ∙ get_or-drop a s p 0

    -- a byte of the file that is not written
    byte-kept : (p : ℕ) → p < n → (at ≤ p → at + length bs ≤ p) → get_or grown (a + p) 0 ≡ get_or (written (take n (drop a s)) at bs) p 0
    byte-kept p l h =
        let old = length-old in
        get_or-put-other _ (a + at) bs (a + p) 0 (λ q. omega (arith, h (omega arith)))
        ∙ get_or-put-other s (a + n) _ (a + p) 0 (λ q. absurd (omega arith))
        ∙ sym (byte-old p l)
        ∙ sym (written-old (take n (drop a s)) at bs p (omega arith) h)

    byte-hole : (p : ℕ) → n ≤ p → p < at → get_or grown (a + p) 0 ≡ get_or (written (take n (drop a s)) at bs) p 0
    byte-hole p l h =
        let old = length-old in
        let e : a + p ≡ a + n + (p - n) = omega arith in
        let k : p - n < at - n = omega arith in
        get_or-put-other _ (a + at) bs (a + p) 0 (λ q. absurd (omega arith))
        ∙ ap (λ (x : ℕ). get_or (put s (a + n) (replicate (at - n) 0)) x 0) e
        ∙ get_or-put-in s (a + n) (replicate (at - n) 0) (p - n) 0 (rw (length-replicate {A = ℕ} (at - n) 0) (omega arith)) (rw (length-replicate {A = ℕ} (at - n) 0) k)
        ∙ get_or-replicate (at - n) (p - n) 0 0 k
        ∙ sym (written-hole (take n (drop a s)) at bs p more (omega arith) h)

    byte-new : (p : ℕ) → at ≤ p → p < at + length bs → get_or grown (a + p) 0 ≡ get_or (written (take n (drop a s)) at bs) p 0
    byte-new p l h =
        let e : a + p ≡ a + at + (p - at) = omega arith in
        let f : at + (p - at) ≡ p = omega arith in
        ap (λ (x : ℕ). get_or grown x 0) e
        ∙ get_or-put-in _ (a + at) bs (p - at) 0 (simp length-put (omega arith)) (omega arith)
        ∙ sym (written_new (take n (drop a s)) at bs (p - at) (omega arith))
        ∙ ap (λ (x : ℕ). get_or (written (take n (drop a s)) at bs) x 0) f

    pub part-written : take (max n (at + length bs)) (drop a grown) ≡ written (take n (drop a s)) at bs
    part-written =
        let old = length-old in
        let new = length-grown in
        ext_get_or 0 _ _ (new ∙ sym (length-written (take n (drop a s)) at bs more ∙ rw old))
        (λ p l.
        let m : p < max n (at + length bs) = rw new at l in
        get_or-take (max n (at + length bs)) (drop a grown) p 0 m
        ∙ get_or-drop a grown p 0
        ∙ order p at
        (λ (h : p < at). order p n (λ (k : p < n). byte-kept p k (λ q. absurd (omega arith))) (λ (k : n ≤ p). byte-hole p k h))
        (λ (h : at ≤ p).
        order p (at + length bs) (λ (k : p < at + length bs). byte-new p h k) (λ (k : at + length bs ≤ p). byte-kept p (omega arith) (λ q. k))))

-- a write at its front
pub part-front : (s : List ℕ) (a n : ℕ) (bs : List ℕ) → a + n ≤ length s → a + length bs ≤ length s
    → take (max n (length bs)) (drop a (put s a bs)) ≡ written (take n (drop a s)) 0 bs
unfolding put
part-front s a n [] room fit =
    let e : max n 0 ≡ n = omega arith in
    ap (λ (k : ℕ). take k (drop a s)) e ∙ sym (written_none (take n (drop a s)) 0)
part-front s a n (b ∷ bs) room fit =
    let z : 0 - n ≡ 0 = omega arith in
    let m : max n (length (b ∷ bs)) ≡ max n (0 + length (b ∷ bs)) = omega arith in
    let e : put s a (b ∷ bs) ≡ put (put s (a + n) (replicate (0 - n) 0)) (a + 0) (b ∷ bs) = rw (z, add-zero) in
    ap (λ (k : ℕ). take k (drop a (put s a (b ∷ bs)))) m
    ∙ ap (λ (l : List ℕ). take (max n (0 + length (b ∷ bs))) (drop a l)) e
    ∙ part-written s a n 0 (b ∷ bs) room (omega arith) (omega arith)
