-- Rows of 64-bit numbers in an area, and tables of rows: a row is written as one put, a table is a function that has a blank row behind its last. So
-- what a write of one row does to a table is said once. Assumes nothing.
use Rattle.std.specs.Prelude.{◌≡◌, refl, ◌≢◌, cond, List, [], ◌∷◌, ◌++◌, ℕ, zero, suc, ◌+◌, ◌*◌, ◌≤◌, ◌<◌, ◌^◌, eqb, ltb, length, get_or}
use Rattle.std.proofs.Common.{sym, ◌∙◌, add-zero, add_assoc, arith, lt-ltb, le-ltb, eq-eqb, ne_eqb, length-append}
use Rattle.std.proofs.Math.Path.{fun_ext}
use Rattle.octets.specs.Bytes.{put, length-put, put-append}
use Rattle.octets.specs.Number.{le, num_at, put_num, Bytes, length-le, length-put_num, num_at-put_num-same, bytes_le, bytes-append}
use Rattle.octets.specs.Only.{OnlyIn, only-put, num_at-only, bytes-put}
use Rattle.octets.specs.Cases.{order, equal}

-- ---- a row

-- its bytes
unfoldable pub words : List ℕ → List ℕ
words [] = []
words (w ∷ ws) = le 8 w ++ words ws

-- s, with a row from at on
unfoldable pub put_words : List ℕ → ℕ → List ℕ → List ℕ
put_words s at ws = put s at (words ws)

pub length-words : (ws : List ℕ) → length (words ws) ≡ length ws * 8
unfolding words
length-words [] = refl
length-words (w ∷ ws) = length-append (le 8 w) (words ws) ∙ rw (length-le, length-words ws) (omega arith)

pub bytes-words : (ws : List ℕ) → Bytes (words ws)
unfolding words
bytes-words [] i = omega arith
bytes-words (w ∷ ws) i = bytes-append (le 8 w) (words ws) (bytes_le 8 w) (bytes-words ws) i

pub length-put_words : (s : List ℕ) (at : ℕ) (ws : List ℕ) → length (put_words s at ws) ≡ length s
unfolding put_words
length-put_words s at ws = length-put s at (words ws)

-- number by number, as the code writes it
pub put_words-none : (s : List ℕ) (at : ℕ) → put_words s at [] ≡ s
unfolding put_words words put
put_words-none s at = refl

pub put_words-more : (s : List ℕ) (at w : ℕ) (ws : List ℕ) → put_words s at (w ∷ ws) ≡ put_words (put_num 8 s at w) (at + 8) ws
unfolding put_words words put_num
put_words-more s at w ws = put-append s at (le 8 w) (words ws) ∙ rw length-le

-- short rows, written out
module _ (s : List ℕ) (at a b : ℕ) where
  pub put_words-2 : put_words s at (a ∷ b ∷ []) ≡ put_num 8 (put_num 8 s at a) (at + 8) b
  put_words-2 = put_words-more s at a (b ∷ []) ∙ put_words-more (put_num 8 s at a) (at + 8) b [] ∙ put_words-none _ (at + 8 + 8)

module _ (s : List ℕ) (at a b c : ℕ) where
  pub put_words-3 : put_words s at (a ∷ b ∷ c ∷ []) ≡ put_num 8 (put_num 8 (put_num 8 s at a) (at + 8) b) (at + 16) c
  put_words-3 = put_words-more s at a (b ∷ c ∷ []) ∙ put_words-2 (put_num 8 s at a) (at + 8) b c ∙ rw (add_assoc at 8 8)

module _ (s : List ℕ) (at a b c d : ℕ) where
  pub put_words-4 : put_words s at (a ∷ b ∷ c ∷ d ∷ []) ≡ put_num 8 (put_num 8 (put_num 8 (put_num 8 s at a) (at + 8) b) (at + 16) c) (at + 24) d
  put_words-4 = put_words-more s at a (b ∷ c ∷ d ∷ []) ∙ put_words-3 (put_num 8 s at a) (at + 8) b c d ∙ rw (add_assoc at 8 8, add_assoc at 8 16)

module _ (s : List ℕ) (at a b c d e : ℕ) where
  pub put_words-5 : put_words s at (a ∷ b ∷ c ∷ d ∷ e ∷ []) ≡ put_num 8 (put_num 8 (put_num 8 (put_num 8 (put_num 8 s at a) (at + 8) b) (at + 16) c) (at + 24) d) (at + 32) e
  put_words-5 = put_words-more s at a (b ∷ c ∷ d ∷ e ∷ []) ∙ put_words-4 (put_num 8 s at a) (at + 8) b c d e ∙ rw (add_assoc at 8 8, add_assoc at 8 16, add_assoc at 8 24)

pub only-put_words : (s : List ℕ) (at : ℕ) (ws : List ℕ) → OnlyIn at (at + length ws * 8) s (put_words s at ws)
unfolding put_words
only-put_words s at ws = rw (← length-words ws) (only-put s at (words ws))

pub bytes-put_words : (s : List ℕ) (at : ℕ) (ws : List ℕ) → at + length ws * 8 ≤ length s → Bytes s → Bytes (put_words s at ws)
unfolding put_words
bytes-put_words s at ws h p = bytes-put s at _ (rw length-words h) p (bytes-words ws)

-- the numbers that were put are read
pub word-put_words : (s : List ℕ) (at : ℕ) (ws : List ℕ) (i : ℕ) → at + length ws * 8 ≤ length s → i < length ws → get_or ws i 0 < 256 ^ 8
    → num_at 8 (put_words s at ws) (at + i * 8) ≡ get_or ws i 0
word-put_words s at [] i room l f = absurd (omega arith)
word-put_words s at (w ∷ ws) zero room l f =
    rw put_words-more
    (num_at-only (at + 8) (at + 8 + length ws * 8) _ _ (only-put_words (put_num 8 s at w) (at + 8) ws) 8 (at + 0 * 8) (λ q. absurd (omega arith))
    ∙ rw add-zero (num_at-put_num-same 8 s at w (omega arith) f))
word-put_words s at (w ∷ ws) (suc i) room l f =
    let e : at + suc i * 8 ≡ at + 8 + i * 8 = omega arith in
    rw (put_words-more, e) (word-put_words (put_num 8 s at w) (at + 8) ws i (simp length-put_num (omega arith)) (omega arith) f)

-- the same at a place that is said in another way
pub word_at : (s : List ℕ) (at : ℕ) (ws : List ℕ) (i a : ℕ) → at + length ws * 8 ≤ length s → i < length ws → get_or ws i 0 < 256 ^ 8 → a ≡ at + i * 8
    → num_at 8 (put_words s at ws) a ≡ get_or ws i 0
word_at s at ws i a room l f e = rw e (word-put_words s at ws i room l f)

-- a number of a row that a step stays clear of
pub word-only : (low high : ℕ) (s t : List ℕ) → OnlyIn low high s t → (base size : ℕ) → (low < base + size → high ≤ base)
    → (a : ℕ) → base ≤ a → a + 8 ≤ base + size → num_at 8 t a ≡ num_at 8 s a
word-only low high s t only base size clear a l h = num_at-only low high s t only 8 a (λ q. omega (arith, clear (omega arith)))

-- ---- a table

-- the rows of a table that has n of them
unfoldable pub table : {A : Type 0} → ℕ → A → (ℕ → A) → ℕ → A
table n blank row i = cond (ltb i n) (row i) blank

-- with one row changed
abbrev pub with_row : {A : Type 0} → (ℕ → A) → ℕ → A → ℕ → A
with_row t p r i = cond (eqb i p) r (t i)

module _ {A : Type 0} (n : ℕ) (blank : A) where
  pub table-in : (row : ℕ → A) (i : ℕ) → i < n → table n blank row i ≡ row i
  unfolding table
  table-in row i l = rw (lt-ltb i n l)

  pub table-out : (row : ℕ → A) (i : ℕ) → n ≤ i → table n blank row i ≡ blank
  unfolding table
  table-out row i l = rw (le-ltb i n l)

  -- a table whose rows are all blank
  pub table-blank : (row : ℕ → A) → ((i : ℕ) → i < n → row i ≡ blank) → table n blank row ≡ λ i. blank
  table-blank row h = fun_ext (λ (i : ℕ). order i n (λ (l : i < n). table-in row i l ∙ h i l) (λ (l : n ≤ i). table-out row i l))

  -- rows that agree are the same table
  pub table_same : (row row' : ℕ → A) → ((i : ℕ) → i < n → row' i ≡ row i) → table n blank row' ≡ table n blank row
  table_same row row' h =
      fun_ext
      (λ (i : ℕ).
      order i n
      (λ (l : i < n). table-in row' i l ∙ h i l ∙ sym (table-in row i l))
      (λ (l : n ≤ i). table-out row' i l ∙ sym (table-out row i l)))

  -- and those that agree but for one row are the table with that row changed
  pub table-row : (row row' : ℕ → A) (p : ℕ) (r : A) → p < n → row' p ≡ r → ((i : ℕ) → i < n → i ≢ p → row' i ≡ row i)
      → table n blank row' ≡ with_row (table n blank row) p r
  table-row row row' p r low new h =
      fun_ext
      (λ (i : ℕ).
      equal i p
      (λ (e : i ≡ p). rw (e, eq-eqb p p refl) (table-in row' p low ∙ new))
      (λ (d : i ≢ p).
      rw (ne_eqb i p d)
      (order i n
      (λ (l : i < n). table-in row' i l ∙ h i l d ∙ sym (table-in row i l))
      (λ (l : n ≤ i). table-out row' i l ∙ sym (table-out row i l)))))
