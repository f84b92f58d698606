-- A run of bytes written over files in two steps: first every number that it lies in is reached (its file there and tracked, higher ones untracked if it
-- was not), then the bytes are set. That is `write`, which does both byte by byte. Assumes nothing.
use Rattle.std.specs.Prelude.{◌≡◌, ◌≢◌, Bool, true, cond, not, ◌&&◌, List, [], ◌∷◌, ℕ, zero, suc, ◌+◌, ◌-◌, ◌≤◌, ◌<◌, eqb, length, None}
use Rattle.std.proofs.Math.Path.{refl, ap, fun_ext}
use Rattle.std.proofs.Common.{sym, ◌∙◌, add-zero, arith, eq-eqb, ne_eqb}
use Rattle.std.proofs.Math.Dec.{ltb}
use Rattle.octets.specs.Cases.{picked, decide, order, equal}
use Rattle.components.specs.Pieces.{file_of, place_in, left_in}
use Rattle.components.specs.PiecesLaws.{piece-number, next-number, left-some, file-mono}
use Rattle.components.specs.FileBytes.{written}
use Rattle.components.specs.Files.{File, Files, untracked, write_byte, write}
use Rattle.components.specs.Slots.{covered}
use Rattle.components.proofs.SlotsLaws.{covered_none, covered-some}

abbrev pub with_bytes : File → List ℕ → File
with_bytes f bs = record { there = f.there; tracked = f.tracked; mark = f.mark; bytes = bs }

-- ---- the two steps

-- number n reached
unfoldable pub reached : Files → ℕ → Files
reached f n k =
    cond (eqb k n)
    (record { there = true; tracked = true; mark = cond (f k).tracked (f k).mark None; bytes = (f k).bytes })
    (cond (not (f n).tracked && ltb n k) (untracked (f k)) (f k))

-- c numbers from n on
unfoldable pub reached_from : Files → ℕ → ℕ → Files
reached_from f n zero = f
reached_from f n (suc c) = reached_from (reached f n) (n + 1) c

-- a byte of a file, which stays as tracked and marked as it is
unfoldable pub set_byte : ℕ → Files → ℕ → ℕ → Files
set_byte fs f o b k = cond (eqb k (file_of fs o)) (with_bytes (f k) (written (f k).bytes (place_in fs o) (b ∷ []))) (f k)

unfoldable pub set_bytes : ℕ → Files → ℕ → List ℕ → Files
set_bytes fs f o [] = f
set_bytes fs f o (b ∷ bs) = set_bytes fs (set_byte fs f o b) (o + 1) bs

-- ---- at one number

module _ (f : Files) (n : ℕ) where
  pub reached-own : reached f n n ≡ record { there = true; tracked = true; mark = cond (f n).tracked (f n).mark None; bytes = (f n).bytes }
  unfolding reached
  reached-own = rw (eq-eqb n n refl)

  pub reached-other : (k : ℕ) → k ≢ n → reached f n k ≡ cond (not (f n).tracked && ltb n k) (untracked (f k)) (f k)
  unfolding reached
  reached-other k d = rw (ne_eqb k n d)

  -- a file that is there and tracked
  pub reached-kept : (f n).there ≡ true → (f n).tracked ≡ true → reached f n ≡ f
  reached-kept there tracked =
      fun_ext
      (λ (k : ℕ).
      equal k n
      (λ (e : k ≡ n). rw e (reached-own ∙ same))
      (λ (d : k ≢ n). reached-other k d ∙ rw tracked))
    where
      same : ◌≡◌ {A = File} (record { there = true; tracked = true; mark = cond (f n).tracked (f n).mark None; bytes = (f n).bytes }) (f n)
      same = λ i. record { there = sym there i; tracked = sym tracked i; mark = ap (λ (b : Bool). cond b (f n).mark None) tracked i; bytes = (f n).bytes }

-- reached again, nothing changes
reached-twice : (f : Files) (n : ℕ) → reached (reached f n) n ≡ reached f n
unfolding reached
reached-twice f n =
    fun_ext
    (λ (k : ℕ).
    equal k n
    (λ (e : k ≡ n). rw (e, eq-eqb n n refl))
    (λ (d : k ≢ n). rw (ne_eqb k n d, eq-eqb n n refl)))

module _ (fs : ℕ) (f : Files) (o b : ℕ) where
  pub set_own : set_byte fs f o b (file_of fs o) ≡ with_bytes (f (file_of fs o)) (written (f (file_of fs o)).bytes (place_in fs o) (b ∷ []))
  unfolding set_byte
  set_own = rw (eq-eqb (file_of fs o) (file_of fs o) refl)

  pub set_other : (k : ℕ) → k ≢ file_of fs o → set_byte fs f o b k ≡ f k
  unfolding set_byte
  set_other k d = rw (ne_eqb k (file_of fs o) d)

  set_tracked : (k : ℕ) → (set_byte fs f o b k).tracked ≡ (f k).tracked
  unfolding set_byte
  set_tracked k = picked (λ (g : File). g.tracked ≡ (f k).tracked) (eqb k (file_of fs o)) _ (f k) (λ _. refl) (λ _. refl)

  -- one byte written: its number reached, then the byte set
  byte-steps : write_byte fs f o b ≡ set_byte fs (reached f (file_of fs o)) o b
  unfolding write_byte reached set_byte
  byte-steps =
      fun_ext
      (λ (k : ℕ).
      equal k (file_of fs o)
      (λ (e : k ≡ file_of fs o). rw (eq-eqb k (file_of fs o) e))
      (λ (d : k ≢ file_of fs o). rw (ne_eqb k (file_of fs o) d)))

  -- the two steps may change places
  at-swap : (n k : ℕ) → reached (set_byte fs f o b) n k ≡ set_byte fs (reached f n) o b k
  unfolding reached set_byte
  at-swap n k =
      rw (set_tracked n)
      (equal k (file_of fs o)
      (λ (e : k ≡ file_of fs o).
      rw (eq-eqb k (file_of fs o) e)
      (equal k n
      (λ (q : k ≡ n). rw (eq-eqb k n q))
      (λ (q : k ≢ n). rw (ne_eqb k n q) (decide (not (f n).tracked && ltb n k) (λ t. rw t) (λ t. rw t)))))
      (λ (d : k ≢ file_of fs o).
      rw (ne_eqb k (file_of fs o) d)))

  swap : (n : ℕ) → reached (set_byte fs f o b) n ≡ set_byte fs (reached f n) o b
  swap n = fun_ext (at-swap n)

swap-from : (fs : ℕ) (f : Files) (o b n c : ℕ) → reached_from (set_byte fs f o b) n c ≡ set_byte fs (reached_from f n c) o b
unfolding reached_from
swap-from fs f o b n zero = refl
swap-from fs f o b n (suc c) =
    ap (λ (g : Files). reached_from g (n + 1) c) (swap fs f o b n) ∙ swap-from fs (reached f n) o b (n + 1) c

-- ---- the numbers of a run and of its rest

module _ (f : Files) (n : ℕ) where
  pub from-none : reached_from f n 0 ≡ f
  unfolding reached_from
  from-none = refl

  pub from_some : (c : ℕ) → reached_from f n (suc c) ≡ reached_from (reached f n) (n + 1) c
  unfolding reached_from
  from_some c = refl

  from-again : (c : ℕ) → reached_from (reached f n) n (suc c) ≡ reached_from f n (suc c)
  unfolding reached_from
  from-again c = ap (λ (g : Files). reached_from g (n + 1) c) (reached-twice f n)

covered-suc : (fs o m : ℕ) → covered fs o (o + suc m) ≡ file_of fs (o + m) - file_of fs o + 1
covered-suc fs o m = covered-some fs o (o + suc m) (omega arith) ∙ ap (λ (x : ℕ). file_of fs x - file_of fs o + 1) (omega arith)

module _ (fs : ℕ) (z : 0 < fs) (f : Files) (o : ℕ) where
  abbrev behind : ℕ → Files
  behind m = reached_from (reached f (file_of fs o)) (file_of fs (o + 1)) (covered fs (o + 1) (o + 1 + m))

  abbrev whole : ℕ → Files
  whole m = reached_from f (file_of fs o) (covered fs o (o + suc m))

  last-alone : behind 0 ≡ whole 0
  last-alone =
      let None : covered fs (o + 1) (o + 1 + 0) ≡ 0 = covered_none fs (o + 1) (o + 1 + 0) (omega arith) in
      let one : covered fs o (o + 1) ≡ suc 0 = omega (arith, covered-suc fs o 0, ap (λ (x : ℕ). file_of fs x) (add-zero o)) in
      rw (None, one) (from-none (reached f (file_of fs o)) _ ∙ sym (from_some f (file_of fs o) 0 ∙ from-none (reached f (file_of fs o)) _))

  last-same : (m : ℕ) → file_of fs (o + 1 + m) ≡ file_of fs (o + suc m)
  last-same m = ap (λ (x : ℕ). file_of fs x) (omega arith)

  -- more bytes follow, in the same file ..
  same-file : (m : ℕ) → 1 < left_in fs o → behind (suc m) ≡ whole (suc m)
  same-file m l =
      let n = file_of fs o in
      let same : file_of fs (o + 1) ≡ n = piece-number fs z o 1 l in
      let c = file_of fs (o + suc m) - n in
      let rest : covered fs (o + 1) (o + 1 + suc m) ≡ suc c = covered-suc fs (o + 1) m ∙ omega (arith, last-same m) in
      let all : covered fs o (o + suc (suc m)) ≡ suc c = covered-suc fs o (suc m) ∙ omega arith in
      rw (rest, all, same) (from-again f n c)

  -- .. or from the next one on
  next-file : (m : ℕ) → left_in fs o ≤ 1 → behind (suc m) ≡ whole (suc m)
  next-file m l =
      let n = file_of fs o in
      let one : left_in fs o ≡ 1 = omega (arith, left-some fs z o) in
      let next : file_of fs (o + 1) ≡ n + 1 = ap (λ (x : ℕ). file_of fs (o + x)) (sym one) ∙ next-number fs z o in
      let up = file-mono fs z (o + 1) (o + suc m) (omega arith) in
      let c = file_of fs (o + suc m) - n in
      let rest : covered fs (o + 1) (o + 1 + suc m) ≡ c = covered-suc fs (o + 1) m ∙ omega (arith, last-same m) in
      let all : covered fs o (o + suc (suc m)) ≡ suc c = covered-suc fs o (suc m) ∙ omega arith in
      rw (rest, all, next) (sym (from_some f n c))

  reached-rest : (m : ℕ) → behind m ≡ whole m
  reached-rest zero = last-alone
  reached-rest (suc m) = order 1 (left_in fs o) (same-file m) (next-file m)

-- a run written: all its numbers reached, then its bytes set
pub write-steps : (fs : ℕ) → 0 < fs → (bs : List ℕ) (f : Files) (o : ℕ)
    → write fs f o bs ≡ set_bytes fs (reached_from f (file_of fs o) (covered fs o (o + length bs))) o bs
unfolding write set_bytes
write-steps fs z [] f o = rw (covered_none fs o (o + 0) (omega arith)) (sym (from-none f (file_of fs o)))
write-steps fs z (b ∷ bs) f o =
    let n = file_of fs o in
    let next = file_of fs (o + 1) in
    let c = covered fs (o + 1) (o + 1 + length bs) in
    write-steps fs z bs (write_byte fs f o b) (o + 1)
    ∙ ap (λ (g : Files). set_bytes fs g (o + 1) bs)
    (ap (λ (g : Files). reached_from g next c) (byte-steps fs f o b)
    ∙ swap-from fs (reached f n) o b next c
    ∙ ap (λ (g : Files). set_byte fs g o b) (reached-rest fs z f o (length bs)))
