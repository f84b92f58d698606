-- A file after a write: how long it is, and the byte at each place, be it new, old or in the hole. Assumes nothing.
use Rattle.std.proofs.lemmas.Option.{none-some}
use Rattle.std.specs.Prelude.{◌≡◌, ℕ, zero, suc, ◌+◌, ◌-◌, ◌≤◌, ◌<◌, max, set, Some, None, slice_get}
use Rattle.std.proofs.Math.Path.{refl, ap}
use Rattle.std.proofs.Common.{sym, ◌∙◌, add-zero, length-set, length-append}
use mathlib.Core.List.{List, [], ◌∷◌, ◌++◌, append_assoc, append-nil}
use native.Mathlib.Omega.{arith}
use Rattle.std.proofs.Math.ListN.{length, get_or, replicate, get_or-replicate, get_or-append}
use Rattle.std.proofs.lemmas.List.{length-replicate, replicate-append-replicate, set-append_left}
use Rattle.std.proofs.Math.Seq.{get_or-append-add}
use Rattle.octets.specs.Bytes.{put, length-put, get_or-put-in, get_or-put-other, put-append}
use Rattle.components.specs.FileBytes.{written}

-- ---- the byte at a place of a list, there or not

pub at_some : (l : List ℕ) (i : ℕ) → i < length l → slice_get l i ≡ Some (get_or l i 0)
at_some [] i h = absurd (omega arith)
at_some (x ∷ l) zero h = refl
at_some (x ∷ l) (suc i) h = at_some l i (omega arith)

pub at_none : (l : List ℕ) (i : ℕ) → length l ≤ i → slice_get l i ≡ None
at_none [] i h = refl
at_none (x ∷ l) zero h = absurd (omega arith)
at_none (x ∷ l) (suc i) h = at_none l i (omega arith)

pub at-inside : (l : List ℕ) (i : ℕ) {x : ℕ} → slice_get l i ≡ Some x → i < length l
at-inside [] i e = absurd (none-some _ e)
at-inside (y ∷ l) zero e = omega arith
at-inside (y ∷ l) (suc i) e = omega (arith, at-inside l i e)

-- ---- one write

module _ (f : List ℕ) (at : ℕ) where
  pub written_none : written f at [] ≡ f
  unfolding written
  written_none = refl

  pub length-written : (bs : List ℕ) → 0 < length bs → length (written f at bs) ≡ max (length f) (at + length bs)
  unfolding written
  length-written [] h = absurd (omega arith)
  length-written (b ∷ bs) h = length-put _ at (b ∷ bs) ∙ simp (length-append, length-replicate) (omega arith)

  -- nothing shortens a file
  pub never-shorter : (bs : List ℕ) → length f ≤ length (written f at bs)
  never-shorter [] = rw written_none (omega arith)
  never-shorter (b ∷ bs) = omega (arith, length-written (b ∷ bs) (omega arith))

  pub written_new : (bs : List ℕ) (j : ℕ) → j < length bs → get_or (written f at bs) (at + j) 0 ≡ get_or bs j 0
  unfolding written
  written_new [] j h = absurd (omega arith)
  written_new (b ∷ bs) j h = get_or-put-in _ at (b ∷ bs) j 0 (simp (length-append, length-replicate) (omega arith)) h

  pub written-old : (bs : List ℕ) (p : ℕ) → p < length f → (at ≤ p → at + length bs ≤ p) → get_or (written f at bs) p 0 ≡ get_or f p 0
  unfolding written
  written-old [] p l h = refl
  written-old (b ∷ bs) p l h = get_or-put-other _ at (b ∷ bs) p 0 h ∙ get_or-append f _ 0 p l

  -- the hole before the first byte written is zeros
  pub written-hole : (bs : List ℕ) (p : ℕ) → 0 < length bs → length f ≤ p → p < at → get_or (written f at bs) p 0 ≡ 0
  unfolding written
  written-hole [] p more l h = absurd (omega arith)
  written-hole (b ∷ bs) p more l h =
      let e : length f + (p - length f) ≡ p = omega arith in
      get_or-put-other _ at (b ∷ bs) p 0 (λ q. absurd (omega arith))
      ∙ ap (λ (x : ℕ). get_or (f ++ replicate (at + length (b ∷ bs) - length f) 0) x 0) (sym e)
      ∙ get_or-append-add f (replicate (at + length (b ∷ bs) - length f) 0) (p - length f) 0
      ∙ get_or-replicate (at + length (b ∷ bs) - length f) (p - length f) 0 0 (omega arith)

  -- the same, where the file may be too short
  pub written-here : (bs : List ℕ) (j : ℕ) → j < length bs → slice_get (written f at bs) (at + j) ≡ Some (get_or bs j 0)
  written-here bs j h =
      at_some (written f at bs) (at + j) (omega (arith, length-written bs (omega arith)))
      ∙ ap (λ (x : ℕ). Some x) (written_new bs j h)

  pub written-kept : (bs : List ℕ) (p : ℕ) {x : ℕ} → (at ≤ p → at + length bs ≤ p) → slice_get f p ≡ Some x → slice_get (written f at bs) p ≡ Some x
  written-kept bs p {x} h e =
      let l : p < length f = at-inside f p e in
      at_some (written f at bs) p (omega (arith, never-shorter bs))
      ∙ ap (λ (x : ℕ). Some x) (written-old bs p l h)
      ∙ sym (at_some f p l)
      ∙ e

-- ---- two writes, one behind the other

put-left : (s t : List ℕ) (at : ℕ) (bs : List ℕ) → at + length bs ≤ length s → put (s ++ t) at bs ≡ put s at bs ++ t
unfolding put
put-left s t at [] h = refl
put-left s t at (b ∷ bs) h =
    rw (set-append_left s t at b (omega arith))
    (put-left (set s at b) t (at + 1) bs (simp length-set (omega arith)))

put-longer : (f : List ℕ) (at : ℕ) (xs : List ℕ) (m n : ℕ) → at + length xs ≤ length f + m → put (f ++ replicate m 0) at xs ++ replicate n 0 ≡ put (f ++ replicate (m + n) 0) at xs
put-longer f at xs m n h =
    sym (put-left (f ++ replicate m 0) (replicate n 0) at xs (simp (length-append, length-replicate) h))
    ∙ rw (append_assoc f (replicate m 0) (replicate n 0), replicate-append-replicate {A = ℕ} m n 0)

pub written-append : (f : List ℕ) (at : ℕ) (xs ys : List ℕ) → written f at (xs ++ ys) ≡ written (written f at xs) (at + length xs) ys
unfolding written
written-append f at [] ys = rw add-zero
written-append f at (x ∷ xs) [] = ap (λ (r : List ℕ). written f at (x ∷ r)) (append-nil xs)
written-append f at (x ∷ xs) (y ∷ ys) =
    let i = length (x ∷ xs) in
    let j = length (y ∷ ys) in
    let m = at + i - length f in
    let n = at + i + j - length (written f at (x ∷ xs)) in
    let all : at + length ((x ∷ xs) ++ (y ∷ ys)) - length f ≡ m + n = omega (arith, length-append (x ∷ xs) (y ∷ ys), length-written f at (x ∷ xs) (omega arith)) in
    ap (λ (k : ℕ). put (f ++ replicate k 0) at ((x ∷ xs) ++ (y ∷ ys))) all
    ∙ put-append (f ++ replicate (m + n) 0) at (x ∷ xs) (y ∷ ys)
    ∙ ap (λ (s : List ℕ). put s (at + i) (y ∷ ys)) (sym (put-longer f at (x ∷ xs) m n (omega arith)))

-- byte by byte is the run
pub written-cons : (f : List ℕ) (at b : ℕ) (bs : List ℕ) → written f at (b ∷ bs) ≡ written (written f at (b ∷ [])) (at + 1) bs
written-cons f at b bs = written-append f at (b ∷ []) bs
