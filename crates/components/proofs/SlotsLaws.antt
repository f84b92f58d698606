-- Files that a put would make, counted: over ranges, over tapes, and after a file is made. Assumes nothing.
use Rattle.std.specs.Prelude.{◌≡◌, refl, ◌≢◌, Bool, true, false, length}
use Rattle.std.proofs.Math.Path.{sym, ap}
use Rattle.std.proofs.Common.{◌∙◌, ⊎_elim, zero-add, add-zero, add_assoc}
use mathlib.Core.List.Memᴰ
use mathlib.Core.List.{List, [], ◌∷◌, ◌++◌, Memᴰ}
use Prim.Native.Nat.{ℕ, zero, suc, ◌+◌, ◌*◌, ◌-◌, ◌≤◌, ◌<◌}
use native.Mathlib.Omega.{arith}
use borrow.Author.Tests.{lt-ltb, le-ltb, ltb-true, ltb-false}
use Rattle.std.proofs.Math.Arith.{digits_div}
use Rattle.octets.specs.Cases.{picked, order, equal}
use Rattle.components.specs.Pieces.{file_of, left_in, pieces_from, pieces}
use Rattle.components.specs.PiecesLaws.{first_count, left-some, piece-number, next-number, file-start, file-mono, file-from, file-below}
use Rattle.components.specs.Slots.{Staged, lacking_from, covered, lacking, no_slot}
use Rattle.components.specs.SlotsLaws.{lacking_of}

-- ---- a range of numbers

pub lacking-empty : (there : ℕ → Bool) (k : ℕ) → lacking_from there k 0 ≡ 0
unfolding lacking_from
lacking-empty there k = refl

pub lacking-split : (there : ℕ → Bool) (k m n : ℕ) → lacking_from there k (m + n) ≡ lacking_from there k m + lacking_from there (k + m) n
unfolding lacking_from
lacking-split there k zero n = rw (zero-add n, add-zero k) (sym (zero-add (lacking_from there k n)))
lacking-split there k (suc m) n =
    let e : suc m + n ≡ suc (m + n) = omega arith in
    let q : k + suc m ≡ k + 1 + m = omega arith in
    let ih = lacking-split there (k + 1) m n in
    rw (e, q) (omega arith)

-- all there: none lacks
pub lacking-none : (there : ℕ → Bool) (k n : ℕ) → ((j : ℕ) → k ≤ j → j < k + n → there j ≡ true) → lacking_from there k n ≡ 0
unfolding lacking_from
lacking-none there k zero h = refl
lacking-none there k (suc n) h =
    let ih = lacking-none there (k + 1) n (λ j l m. h j (omega arith) (omega arith)) in
    rw (h k (omega arith) (omega arith)) (omega arith)

pub lacking-most : (there : ℕ → Bool) (k n : ℕ) → lacking_from there k n ≤ n
unfolding lacking_from
lacking-most there k zero = omega arith
lacking-most there k (suc n) =
    let ih = lacking-most there (k + 1) n in
    picked (λ (x : ℕ). x + lacking_from there (k + 1) n ≤ suc n) (there k) 0 1 (λ _. omega arith) (λ _. omega arith)

-- the same numbers there, the same lack
pub lacking-same : (this that : ℕ → Bool) (k n : ℕ) → ((j : ℕ) → k ≤ j → j < k + n → that j ≡ this j) → lacking_from that k n ≡ lacking_from this k n
unfolding lacking_from
lacking-same this that k zero h = refl
lacking-same this that k (suc n) h = rw (h k (omega arith) (omega arith), lacking-same this that (k + 1) n (λ j l m. h j (omega arith) (omega arith)))

-- a lacking number of the range is made: one less
pub lacking-made : (this that : ℕ → Bool) (made : ℕ) → this made ≡ false → that made ≡ true → ((j : ℕ) → j ≢ made → that j ≡ this j)
    → (k n : ℕ) → k ≤ made → made < k + n → suc (lacking_from that k n) ≡ lacking_from this k n
unfolding lacking_from
lacking-made this that made a b h k zero l m = absurd (omega arith)
lacking-made this that made a b h k (suc n) l m =
    equal k made
    (λ e.
    let rest = lacking-same this that (k + 1) n (λ j x y. h j (λ q. omega arith)) in
    let c : this k ≡ false = ap this e ∙ a in
    let d : that k ≡ true = ap that e ∙ b in
    rw (c, d) (omega arith))
    (λ d.
    let ih = lacking-made this that made a b h (k + 1) n (omega arith) (omega arith) in
    rw (h k d) (omega arith))

-- ---- the files of a run

pub covered_none : (fs base end : ℕ) → end ≤ base → covered fs base end ≡ 0
unfolding covered
covered_none fs base end h = rw (le-ltb base end h)

pub covered-some : (fs base end : ℕ) → base < end → covered fs base end ≡ file_of fs (end - 1) - file_of fs base + 1
unfolding covered
covered-some fs base end h = rw (lt-ltb base end h)

module _ (fs : ℕ) (z : 0 < fs) where
  -- each byte's file is covered ..
  pub covers : (base end o : ℕ) → base ≤ o → o < end → (file_of fs base ≤ file_of fs o) × (file_of fs o < file_of fs base + covered fs base end)
  covers base end o a b =
      let p = file-mono fs z base o a in
      let q = file-mono fs z o (end - 1) (omega arith) in
      (p, omega (arith, covered-some fs base end (omega arith)))

  -- .. and each covered file has a byte
  pub covered-byte : (base end k : ℕ) → file_of fs base ≤ k → k < file_of fs base + covered fs base end → (o : ℕ) × (base ≤ o) × (o < end) × (file_of fs o ≡ k)
  covered-byte base end k a b =
      order base end
      (λ l.
      equal k (file_of fs base)
      (λ e. (base, omega arith, l, sym e))
      (λ n.
      let up : k ≤ file_of fs (end - 1) = omega (arith, covered-some fs base end l, file-mono fs z base (end - 1) (omega arith)) in
      let top : k * fs < end = order (k * fs) end (λ m. m) (λ m. absurd (omega (arith, file-below fs z k (end - 1) (omega arith)))) in
      let low : base ≤ k * fs = order (k * fs) base (λ m. absurd (omega (arith, file-from fs z k base (omega arith)))) (λ m. m) in
      (k * fs, low, top, file-start fs z k)))
      (λ l. absurd (omega (arith, covered_none fs base end l)))

  -- as many files as pieces
  pieces-from : (k o n : ℕ) → n ≤ k → length (pieces_from k fs o n) ≡ covered fs o (o + n)
  unfolding pieces_from
  pieces-from zero o n h = sym (covered_none fs o (o + n) (omega arith))
  pieces-from (suc k) o zero h = sym (covered_none fs o (o + 0) (omega arith))
  pieces-from (suc k) o (suc n) h =
      let c = first_count fs o (suc n) in
      let left = left-some fs z o in
      let ih = pieces-from k (o + c) (suc n - c) (omega arith) in
      let all : o + c + (suc n - c) ≡ o + suc n = omega arith in
      let whole = covered-some fs o (o + suc n) (omega arith) in
      order (left_in fs o) (suc n)
      (λ l.
      let next : file_of fs (o + c) ≡ file_of fs o + 1 = ap (λ (x : ℕ). file_of fs (o + x)) (omega arith) ∙ next-number fs z o in
      let rest : covered fs (o + c) (o + suc n) ≡ file_of fs (o + suc n - 1) - file_of fs (o + c) + 1 = covered-some fs (o + c) (o + suc n) (omega arith) in
      let up = file-mono fs z (o + c) (o + suc n - 1) (omega arith) in
      omega (arith, ap (λ (x : ℕ). covered fs (o + c) x) all))
      (λ l.
      let last : file_of fs (o + suc n - 1) ≡ file_of fs o = ap (λ (x : ℕ). file_of fs x) (omega arith) ∙ piece-number fs z o n (omega arith) in
      omega (arith, covered_none fs (o + c) (o + c + (suc n - c)) (omega arith)))

  pub pieces-covered : (o n : ℕ) → length (pieces fs o n) ≡ covered fs o (o + n)
  unfolding pieces
  pieces-covered o n = pieces-from n o n (omega arith)

  -- whole files
  pub covered_whole : (k n : ℕ) → covered fs (k * fs) (k * fs + n * fs) ≡ n
  covered_whole k zero = covered_none fs (k * fs) (k * fs + 0 * fs) (omega arith)
  covered_whole k (suc n) =
      let last : k * fs + suc n * fs - 1 ≡ (k + n) * fs + (fs - 1) = omega arith in
      let top : file_of fs (k * fs + suc n * fs - 1) ≡ k + n = ap (λ (x : ℕ). file_of fs x) last ∙ digits_div (k + n) {m = fs} {r = fs - 1} (omega arith) in
      omega (arith, file-start fs z k, covered-some fs (k * fs) (k * fs + suc n * fs) (omega arith))

  -- an earlier end covers no more
  pub covered-mono : (base end more : ℕ) → end ≤ more → covered fs base end ≤ covered fs base more
  covered-mono base end more h =
      order base end
      (λ l. omega (arith, covered-some fs base end l, covered-some fs base more (omega arith), file-mono fs z (end - 1) (more - 1) (omega arith)))
      (λ l. omega (arith, covered_none fs base end l))

  pub lacking-mono : (there : ℕ → Bool) (base end more : ℕ) → end ≤ more
      → lacking_from there (file_of fs base) (covered fs base end) ≤ lacking_from there (file_of fs base) (covered fs base more)
  lacking-mono there base end more h =
      let c = covered fs base end in
      let d = covered fs base more in
      let e : c + (d - c) ≡ d = omega (arith, covered-mono base end more h) in
      let s : lacking_from there (file_of fs base) (c + (d - c)) ≡ lacking_from there (file_of fs base) c + lacking_from there (file_of fs base + c) (d - c)
      = lacking-split there (file_of fs base) c (d - c) in
      omega (arith, sym (ap (λ (x : ℕ). lacking_from there (file_of fs base) x) e) ∙ s)

-- ---- all staged tapes

pub lacking-none-staged : (there : ℕ → ℕ → Bool) → lacking there [] ≡ 0
unfolding lacking
lacking-none-staged there = refl

pub lacking-cons : (there : ℕ → ℕ → Bool) (t : Staged) (ts : List Staged) → lacking there (t ∷ ts) ≡ lacking_of there t + lacking there ts
unfolding lacking
lacking-cons there t ts = refl

pub lacking-append : (there : ℕ → ℕ → Bool) (ts us : List Staged) → lacking there (ts ++ us) ≡ lacking there ts + lacking there us
unfolding lacking
lacking-append there [] us = sym (zero-add (lacking there us))
lacking-append there (t ∷ ts) us = let ih = lacking-append there ts us in rw ih (sym (add_assoc (lacking_of there t) (lacking there ts) (lacking there us)))

-- each staged tape is counted
pub lacking-each : (there : ℕ → ℕ → Bool) (ts : List Staged) {t : Staged} → Memᴰ t ts → lacking_of there t ≤ lacking there ts
lacking-each there [] m = absurd (Memᴰ.not-nil m)
lacking-each there (s ∷ ts) {t} m =
    ⊎_elim
    (λ (e : t ≡ s). omega (arith, lacking-cons there s ts, ap (λ (x : Staged). lacking_of there x) e))
    (λ n. omega (arith, lacking-cons there s ts, lacking-each there ts n))
    (Memᴰ.cases_cons m)

-- the same files of the staged tapes there, the same lack
pub lacking-other : (this that : ℕ → ℕ → Bool) (ts : List Staged) → ((t : Staged) → Memᴰ t ts → (j : ℕ) → that t.tape j ≡ this t.tape j)
    → lacking that ts ≡ lacking this ts
unfolding lacking
lacking-other this that [] h = refl
lacking-other this that (t ∷ ts) h =
    rw (
      lacking-same (this t.tape) (that t.tape) (file_of t.size t.base) (covered t.size t.base t.end) (λ j l m. h t (Memᴰ.head refl) j),
      lacking-other this that ts (λ s m. h s (Memᴰ.tail m)),
    )

-- a tape staged further lacks no less
pub lacking-further : (there : ℕ → ℕ → Bool) (t u : Staged) → 0 < t.size → u.tape ≡ t.tape → u.size ≡ t.size → u.base ≡ t.base → t.end ≤ u.end
    → lacking_of there t ≤ lacking_of there u
lacking-further there t u z a s b l = rw (a, s, b) (lacking-mono t.size z (there t.tape) t.base t.end u.end l)

-- ---- the rule

module _ (used : ℕ) (there : ℕ → ℕ → Bool) (ts : List Staged) (slots : ℕ) where
  pub no-slot : no_slot used there ts slots ≡ true → slots < used + lacking there ts
  unfolding no_slot
  no-slot e = ltb-true slots (used + lacking there ts) e

  pub slots-left : no_slot used there ts slots ≡ false → used + lacking there ts ≤ slots
  unfolding no_slot
  slots-left e = ltb-false slots (used + lacking there ts) e

  pub →no-slot : slots < used + lacking there ts → no_slot used there ts slots ≡ true
  unfolding no_slot
  →no-slot l = lt-ltb slots (used + lacking there ts) l

  pub →slots-left : used + lacking there ts ≤ slots → no_slot used there ts slots ≡ false
  unfolding no_slot
  →slots-left l = le-ltb slots (used + lacking there ts) l

-- a lacking file of one staged tape made: one more used and one less lacking, so the rule's sum stands
module _ (this that : ℕ → ℕ → Bool) (t : Staged) (made : ℕ) (ts us : List Staged) where
  pub lacking-file : this t.tape made ≡ false → that t.tape made ≡ true
      → ((a j : ℕ) → (a ≡ t.tape → j ≢ made) → that a j ≡ this a j)
      → ((s : Staged) → Memᴰ s ts → s.tape ≢ t.tape)
      → ((s : Staged) → Memᴰ s us → s.tape ≢ t.tape)
      → file_of t.size t.base ≤ made → made < file_of t.size t.base + covered t.size t.base t.end
      → suc (lacking that (ts ++ (t ∷ us))) ≡ lacking this (ts ++ (t ∷ us))
  lacking-file a b h d e l m =
      let one : suc (lacking_of that t) ≡ lacking_of this t
      = lacking-made (this t.tape) (that t.tape) made a b (λ j n. h t.tape j (λ _. n)) (file_of t.size t.base) (covered t.size t.base t.end) l m in
      let before : lacking that ts ≡ lacking this ts = lacking-other this that ts (λ s x j. h s.tape j (λ q. absurd (d s x q))) in
      let behind : lacking that us ≡ lacking this us = lacking-other this that us (λ s x j. h s.tape j (λ q. absurd (e s x q))) in
      omega (arith, lacking-append that ts (t ∷ us), lacking-append this ts (t ∷ us), lacking-cons that t us, lacking-cons this t us)
