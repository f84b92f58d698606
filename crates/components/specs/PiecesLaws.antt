-- Files and places of offsets, and the pieces of a run. Assumes nothing.
use Rattle.std.specs.Prelude.{◌≡◌}
use Rattle.std.proofs.Math.Path.{refl, ap}
use Rattle.std.proofs.Common.{sym, ◌∙◌, add-zero, mod-lt, div-add-mod', le-div_iff_mul-le, div-lt_iff_lt-mul}
use Rattle.std.proofs.Math.Logic.{⊎_elim}
use mathlib.Core.List.Memᴰ
use mathlib.Core.List.{List, [], ◌∷◌, Memᴰ}
use Prim.Native.Nat.{ℕ, zero, suc, ◌+◌, ◌*◌, ◌-◌, ◌/◌, ◌%◌, ◌≤◌, ◌<◌, min}
use native.Mathlib.Omega.{arith}
use Rattle.std.proofs.Math.Arith.{digits_div, digits_mod}
use Rattle.components.specs.Pieces.{file_of, place_in, left_in, Piece, piece, pieces_from, pieces}

-- ---- an offset and its file

pub whole : (fs o : ℕ) → file_of fs o * fs + place_in fs o ≡ o
whole fs o = div-add-mod' o fs

-- the same place of the same file is the same offset
pub same-offset : (fs a b : ℕ) → file_of fs a ≡ file_of fs b → place_in fs a ≡ place_in fs b → a ≡ b
same-offset fs a b e f = omega (arith, div-add-mod' a fs, div-add-mod' b fs, ap (λ (x : ℕ). x * fs) e)

module _ (fs : ℕ) (z : 0 < fs) where
  pub place-lt : (o : ℕ) → place_in fs o < fs
  place-lt o = mod-lt o z

  pub left-some : (o : ℕ) → 0 < left_in fs o
  left-some o = omega (arith, mod-lt o z)

  pub place-left : (o : ℕ) → place_in fs o + left_in fs o ≡ fs
  place-left o = omega (arith, mod-lt o z)

  -- a file's first offset
  pub file-start : (k : ℕ) → file_of fs (k * fs) ≡ k
  file-start k = ap (λ (x : ℕ). x / fs) (sym (add-zero (k * fs))) ∙ digits_div k {m = fs} {r = 0} z

  pub place-start : (k : ℕ) → place_in fs (k * fs) ≡ 0
  place-start k = ap (λ (x : ℕ). x % fs) (sym (add-zero (k * fs))) ∙ digits_mod k {m = fs} {r = 0} z

  -- inside a piece the file is the same and the place goes on
  module _ (o j : ℕ) (h : j < left_in fs o) where
    in-piece : o + j ≡ file_of fs o * fs + (place_in fs o + j)
    in-piece = omega (arith, div-add-mod' o fs)

    pub piece-number : file_of fs (o + j) ≡ file_of fs o
    piece-number = ap (λ (x : ℕ). x / fs) in-piece ∙ digits_div (o / fs) {m = fs} {r = o % fs + j} (omega arith)

    pub piece-place : place_in fs (o + j) ≡ place_in fs o + j
    piece-place = ap (λ (x : ℕ). x % fs) in-piece ∙ digits_mod (o / fs) {m = fs} {r = o % fs + j} (omega arith)

  -- behind it the next file begins
  module _ (o : ℕ) where
    next-piece : o + left_in fs o ≡ (file_of fs o + 1) * fs
    next-piece = omega (arith, div-add-mod' o fs, mod-lt o z)

    pub next-number : file_of fs (o + left_in fs o) ≡ file_of fs o + 1
    next-number = ap (λ (x : ℕ). x / fs) next-piece ∙ file-start (file_of fs o + 1)

    pub next_place : place_in fs (o + left_in fs o) ≡ 0
    next_place = ap (λ (x : ℕ). x % fs) next-piece ∙ place-start (file_of fs o + 1)

  -- files come in the order of offsets
  pub file-mono : (a b : ℕ) → a ≤ b → file_of fs a ≤ file_of fs b
  file-mono a b h = (le-div_iff_mul-le z).1 (omega (arith, div-add-mod' a fs))

  pub file-from : (k o : ℕ) → k * fs ≤ o → k ≤ file_of fs o
  file-from k o h = (le-div_iff_mul-le z).1 h

  pub file-below : (k o : ℕ) → o < k * fs → file_of fs o < k
  file-below k o h = (div-lt_iff_lt-mul z).1 h

-- ---- the pieces of a run

-- the count of the first piece
abbrev pub first_count : ℕ → ℕ → ℕ → ℕ
first_count fs o n = min n (left_in fs o)

-- how many bytes pieces have
unfoldable pub total : List Piece → ℕ
total [] = 0
total (p ∷ ps) = p.count + total ps

-- a piece lies inside its file and has bytes
pub record Inside (fs : ℕ) (p : Piece) : Type 0 where
  pub fits : p.place + p.count ≤ fs
  pub some : 0 < p.count

none_from : (k fs o : ℕ) → pieces_from k fs o 0 ≡ []
unfolding pieces_from
none_from zero fs o = refl
none_from (suc k) fs o = refl

pub pieces_none : (fs o : ℕ) → pieces fs o 0 ≡ []
unfolding pieces
pieces_none fs o = none_from 0 fs o

module _ (fs : ℕ) (z : 0 < fs) where
  -- more turns than bytes change nothing
  pub enough : (k m o n : ℕ) → n ≤ k → n ≤ m → pieces_from k fs o n ≡ pieces_from m fs o n
  unfolding pieces_from
  enough zero m o n h l = let e : n ≡ 0 = omega arith in rw e (sym (none_from m fs o))
  enough (suc k) zero o n h l = let e : n ≡ 0 = omega arith in rw e
  enough (suc k) (suc m) o zero h l = refl
  enough (suc k) (suc m) o (suc n) h l =
      let c = first_count fs o (suc n) in
      let p = left-some fs z o in
      ap (λ (ps : List Piece). piece (file_of fs o) (place_in fs o) c ∷ ps) (enough k m (o + c) (suc n - c) (omega arith) (omega arith))

  -- a turn of a loop over the pieces
  pub pieces-some : (o n : ℕ) → 0 < n → pieces fs o n ≡ piece (file_of fs o) (place_in fs o) (first_count fs o n) ∷ pieces fs (o + first_count fs o n) (n - first_count fs o n)
  unfolding pieces pieces_from
  pieces-some o zero h = absurd (omega arith)
  pieces-some o (suc n) h =
      let c = first_count fs o (suc n) in
      let p = left-some fs z o in
      ap (λ (ps : List Piece). piece (file_of fs o) (place_in fs o) c ∷ ps) (enough n (suc n - c) (o + c) (suc n - c) (omega arith) (omega arith))

  first_some : (o n : ℕ) → 0 < first_count fs o (suc n)
  first_some o n = omega (arith, left-some fs z o)

  -- no byte is lost
  total-from : (k o n : ℕ) → n ≤ k → total (pieces_from k fs o n) ≡ n
  unfolding pieces_from total
  total-from zero o n h = omega arith
  total-from (suc k) o zero h = refl
  total-from (suc k) o (suc n) h =
      let c = first_count fs o (suc n) in
      let p = first_some o n in
      omega (arith, total-from k (o + c) (suc n - c) (omega arith))

  pub pieces-total : (o n : ℕ) → total (pieces fs o n) ≡ n
  unfolding pieces
  pieces-total o n = total-from n o n (omega arith)

  -- each lies inside its file
  inside-from : (k o n : ℕ) {p : Piece} → Memᴰ p (pieces_from k fs o n) → Inside fs p
  unfolding pieces_from
  inside-from zero o n m = absurd (Memᴰ.not-nil m)
  inside-from (suc k) o zero m = absurd (Memᴰ.not-nil m)
  inside-from (suc k) o (suc n) {p} m =
      let c = first_count fs o (suc n) in
      ⊎_elim
      (λ (e : p ≡ piece (file_of fs o) (place_in fs o) c).
      rw e (record { fits = omega (arith, place-left fs z o); some = first_some o n }))
      (λ q. inside-from k (o + c) (suc n - c) q)
      (Memᴰ.cases_cons m)

  pub pieces-inside : (o n : ℕ) {p : Piece} → Memᴰ p (pieces fs o n) → Inside fs p
  unfolding pieces
  pieces-inside o n m = inside-from n o n m
