-- A run of bytes written over a tape's files: what stands below it, in it, and what it does to each file. Assumes nothing.
use Rattle.std.proofs.lemmas.Option.{none-some}
use Rattle.std.specs.Prelude.{◌≡◌, ◌≢◌, true, cond, not, ◌&&◌, eqb, length, get_or, take, drop, Option, Some, None, slice_get}
use Rattle.std.proofs.Math.Path.{refl, fun_ext}
use Rattle.std.proofs.Common.{sym, ap, ◌∙◌, take-append-drop, length-drop, drop_of_length-le, length-take-le, drop-drop}
use Rattle.std.proofs.Math.Bool.{and-false}
use mathlib.Core.List.{List, [], ◌∷◌, ◌++◌}
use Prim.Native.Nat.{ℕ, zero, suc, ◌+◌, ◌-◌, ◌≤◌, ◌<◌}
use Rattle.std.proofs.Math.Nat.{add-zero, add_assoc}
use native.Mathlib.Omega.{arith}
use borrow.Author.Tests.{eq-eqb, ne_eqb, le-ltb}
use Rattle.std.proofs.Math.Dec.{ltb}
use Rattle.octets.specs.Cases.{picked, order, equal}
use Rattle.components.specs.Pieces.{file_of, place_in, left_in}
use Rattle.components.specs.PiecesLaws.{first_count, same-offset, left-some, file-mono, piece-number, piece-place}
use Rattle.components.specs.FileBytes.{written}
use Rattle.components.proofs.FileBytesLaws.{written-here, written-kept, written-cons}
use Rattle.components.specs.Files.{File, Files, untracked, byte_at, write_byte, write}
use Rattle.components.specs.WriteLaws.{placed}

-- ---- the byte at an offset

-- a file that gives a byte is tracked and there
open-file : (f : File) (i : ℕ) {x : ℕ} → cond (f.tracked && f.there) (slice_get f.bytes i) None ≡ Some x → (f.tracked && f.there) ≡ true
open-file f i {x} = picked (λ (q : Option ℕ). q ≡ Some x → (f.tracked && f.there) ≡ true) (f.tracked && f.there) _ None (λ t _. t) (λ _ e. absurd (none-some x e))

-- two runs, one behind the other
pub write-append : (fs : ℕ) (xs ys : List ℕ) (f : Files) (o : ℕ) → write fs f o (xs ++ ys) ≡ write fs (write fs f o xs) (o + length xs) ys
unfolding write
write-append fs [] ys f o = rw add-zero
write-append fs (x ∷ xs) ys f o =
    let e : o + suc (length xs) ≡ o + 1 + length xs = omega arith in
    rw e (write-append fs xs ys (write_byte fs f o x) (o + 1))

module _ (fs : ℕ) (z : 0 < fs) where
  byte-here : (f : Files) (o b : ℕ) → byte_at fs (write_byte fs f o b) o ≡ Some b
  unfolding byte_at write_byte
  byte-here f o b =
      simp (eq-eqb (file_of fs o) (file_of fs o) refl)
      (ap (λ (i : ℕ). slice_get (written (f (file_of fs o)).bytes (place_in fs o) (b ∷ [])) i) (sym (add-zero (place_in fs o)))
      ∙ written-here (f (file_of fs o)).bytes (place_in fs o) (b ∷ []) 0 (omega arith))

  byte-below : (f : Files) (o b p : ℕ) {x : ℕ} → p < o → byte_at fs f p ≡ Some x → byte_at fs (write_byte fs f o b) p ≡ Some x
  unfolding byte_at write_byte
  byte-below f o b p {x} h e =
      order (file_of fs p) (file_of fs o)
      (λ l. simp (ne_eqb (file_of fs p) (file_of fs o) (λ q. omega arith), le-ltb (file_of fs o) (file_of fs p) (omega arith), and-false) e)
      (λ l.
      let q : file_of fs p ≡ file_of fs o = omega (arith, file-mono fs z p o (omega arith)) in
      simp (eq-eqb (file_of fs p) (file_of fs o) q)
      (written-kept (f (file_of fs p)).bytes (place_in fs o) (b ∷ []) (place_in fs p)
      (λ r. equal (place_in fs p) (place_in fs o) (λ s. absurd (omega (arith, same-offset fs p o q s))) (λ s. omega arith))
      (rw (open-file (f (file_of fs p)) (place_in fs p) e) at e)))

  -- below a run nothing changes
  pub write-below : (bs : List ℕ) (f : Files) (o p : ℕ) {x : ℕ} → p < o → byte_at fs f p ≡ Some x → byte_at fs (write fs f o bs) p ≡ Some x
  unfolding write
  write-below [] f o p h e = e
  write-below (b ∷ bs) f o p h e = write-below bs (write_byte fs f o b) (o + 1) p (omega arith) (byte-below f o b p h e)

  -- in it its bytes stand
  pub write-in : (bs : List ℕ) (f : Files) (o j : ℕ) → j < length bs → byte_at fs (write fs f o bs) (o + j) ≡ Some (get_or bs j 0)
  unfolding write
  write-in [] f o j h = absurd (omega arith)
  write-in (b ∷ bs) f o zero h = rw add-zero (write-below bs (write_byte fs f o b) (o + 1) o (omega arith) (byte-here f o b))
  write-in (b ∷ bs) f o (suc j) h =
      let e : o + suc j ≡ o + 1 + j = omega arith in
      rw e (write-in bs (write_byte fs f o b) (o + 1) j (omega arith))

-- ---- a run inside one file

module _ (fs : ℕ) (z : 0 < fs) where
  at_piece : (bs : List ℕ) (f : Files) (o : ℕ) → 0 < length bs → length bs ≤ left_in fs o
      → (k : ℕ) → write fs f o bs k ≡ placed f (file_of fs o) (written (f (file_of fs o)).bytes (place_in fs o) bs) k
  unfolding write write_byte
  at_piece [] f o a h k = absurd (omega arith)
  at_piece (b ∷ []) f o a h k =
      equal k (file_of fs o)
      (λ e. rw e)
      (λ n. simp (ne_eqb k (file_of fs o) n))
  at_piece (b ∷ (c ∷ bs)) f o a h k =
      let p : file_of fs (o + 1) ≡ file_of fs o = piece-number fs z o 1 (omega arith) in
      let q : place_in fs (o + 1) ≡ place_in fs o + 1 = piece-place fs z o 1 (omega arith) in
      at_piece (c ∷ bs) (write_byte fs f o b) (o + 1) (omega arith) (rw q (omega arith)) k
      ∙ rw (p, q, written-cons (f (file_of fs o)).bytes (place_in fs o) b (c ∷ bs))
      (equal k (file_of fs o)
      (λ e. rw e (simp (eq-eqb (file_of fs o) (file_of fs o) refl)))
      (λ n. simp (eq-eqb (file_of fs o) (file_of fs o) refl, ne_eqb k (file_of fs o) n)))

  pub write-piece : (bs : List ℕ) (f : Files) (o : ℕ) → 0 < length bs → length bs ≤ left_in fs o
      → write fs f o bs ≡ placed f (file_of fs o) (written (f (file_of fs o)).bytes (place_in fs o) bs)
  write-piece bs f o a h = fun_ext (at_piece bs f o a h)

  -- a turn of a loop over the pieces
  pub write-turn : (bs : List ℕ) (f : Files) (o : ℕ) → 0 < length bs
      → write fs f o bs
      ≡ write fs
      (placed f (file_of fs o) (written (f (file_of fs o)).bytes (place_in fs o) (take (first_count fs o (length bs)) bs)))
      (o + first_count fs o (length bs))
      (drop (first_count fs o (length bs)) bs)
  write-turn bs f o h =
      let c = first_count fs o (length bs) in
      let l : length (take c bs) ≡ c = length-take-le c bs (omega arith) in
      let p = left-some fs z o in
      ap (λ (x : List ℕ). write fs f o x) (sym (take-append-drop c bs))
      ∙ write-append fs (take c bs) (drop c bs) f o
      ∙ ap (λ (x : ℕ). write fs (write fs f o (take c bs)) (o + x) (drop c bs)) l
      ∙ ap (λ (g : Files). write fs g (o + c) (drop c bs)) (write-piece (take c bs) f o (omega arith) (omega arith))

  -- the same in a loop, where j bytes of src are written, and at its end
  pub write_step : (src : List ℕ) (f : Files) (o j c : ℕ) → j < length src → c ≡ first_count fs o (length src - j)
      → write fs f o (drop j src)
      ≡ write fs (placed f (file_of fs o) (written (f (file_of fs o)).bytes (place_in fs o) (take c (drop j src)))) (o + c) (drop (j + c) src)
  write_step src f o j c h e =
      let l : length (drop j src) ≡ length src - j = length-drop j src in
      let q : first_count fs o (length (drop j src)) ≡ c = ap (λ (n : ℕ). first_count fs o n) l ∙ sym e in
      let one = write-turn (drop j src) f o (omega arith) in
      rw (q, drop-drop) at one

  pub write-end : (src : List ℕ) (f : Files) (o j : ℕ) → length src ≤ j → write fs f o (drop j src) ≡ f
  unfolding write
  write-end src f o j h = rw (drop_of_length-le src h)

  -- a read inside one file
  pub byte-piece : (f : Files) (o j : ℕ) → j < left_in fs o
      → byte_at fs f (o + j) ≡ cond ((f (file_of fs o)).tracked && (f (file_of fs o)).there) (slice_get (f (file_of fs o)).bytes (place_in fs o + j)) None
  unfolding byte_at
  byte-piece f o j h = rw (piece-number fs z o j h, piece-place fs z o j h)

-- ---- what a run leaves alone

module _ (fs : ℕ) (z : 0 < fs) where
  -- a lower file
  pub write-lower : (bs : List ℕ) (f : Files) (o k : ℕ) → k < file_of fs o → write fs f o bs k ≡ f k
  unfolding write write_byte
  write-lower [] f o k h = refl
  write-lower (b ∷ bs) f o k h =
      write-lower bs (write_byte fs f o b) (o + 1) k (omega (arith, file-mono fs z o (o + 1) (omega arith)))
      ∙ rw (ne_eqb k (file_of fs o) (λ q. omega arith), le-ltb (file_of fs o) k (omega arith), and-false (not (f (file_of fs o)).tracked))

  -- another file: untracked perhaps, but there with its bytes
  byte-other : (f : Files) (o b k : ℕ) → k ≢ file_of fs o → ((write_byte fs f o b k).bytes ≡ (f k).bytes) × ((write_byte fs f o b k).there ≡ (f k).there)
  unfolding write_byte
  byte-other f o b k n =
      rw (ne_eqb k (file_of fs o) n)
      (picked (λ (g : File). (g.bytes ≡ (f k).bytes) × (g.there ≡ (f k).there)) (not (f (file_of fs o)).tracked && ltb (file_of fs o) k) (untracked (f k)) (f k)
      (λ _. (refl, refl))
      (λ _. (refl, refl)))

  pub write-other : (bs : List ℕ) (f : Files) (o k : ℕ) → ((j : ℕ) → j < length bs → k ≢ file_of fs (o + j))
      → ((write fs f o bs k).bytes ≡ (f k).bytes) × ((write fs f o bs k).there ≡ (f k).there)
  unfolding write
  write-other [] f o k h = (refl, refl)
  write-other (b ∷ bs) f o k h =
      let (p, q) = write-other bs (write_byte fs f o b) (o + 1) k (λ j l. rw add_assoc (h (1 + j) (omega arith))) in
      let (r, s) = byte-other f o b k (rw add-zero at (h 0 (omega arith))) in
      (p ∙ r, q ∙ s)

  -- a byte of a file outside the run, tracked or not
  byte-outside : (f : Files) (o b p : ℕ) {x : ℕ} → p ≢ o → slice_get (f (file_of fs p)).bytes (place_in fs p) ≡ Some x
      → slice_get (write_byte fs f o b (file_of fs p)).bytes (place_in fs p) ≡ Some x
  unfolding write_byte
  byte-outside f o b p {x} n e =
      equal (file_of fs p) (file_of fs o)
      (λ q. rw (eq-eqb (file_of fs p) (file_of fs o) q)
      (written-kept (f (file_of fs p)).bytes (place_in fs o) (b ∷ []) (place_in fs p)
      (λ r. equal (place_in fs p) (place_in fs o) (λ s. absurd (n (same-offset fs p o q s))) (λ s. omega arith)) e))
      (λ q. rw (byte-other f o b (file_of fs p) q).0 e)

  pub write-outside : (bs : List ℕ) (f : Files) (o p : ℕ) {x : ℕ} → (o ≤ p → o + length bs ≤ p) → slice_get (f (file_of fs p)).bytes (place_in fs p) ≡ Some x
      → slice_get (write fs f o bs (file_of fs p)).bytes (place_in fs p) ≡ Some x
  unfolding write
  write-outside [] f o p h e = e
  write-outside (b ∷ bs) f o p h e =
      write-outside bs (write_byte fs f o b) (o + 1) p (λ l. omega (arith, h (omega arith)))
      (byte-outside f o b p (λ q. omega (arith, h (omega arith))) e)

  -- the files of a run are tracked and there
  pub write-opens : (bs : List ℕ) (f : Files) (o j : ℕ) → j < length bs → ((write fs f o bs (file_of fs (o + j))).tracked && (write fs f o bs (file_of fs (o + j))).there) ≡ true
  unfolding byte_at
  write-opens bs f o j h = open-file (write fs f o bs (file_of fs (o + j))) (place_in fs (o + j)) (write-in fs z bs f o j h)

-- what is on the disk stays there
byte-there : (fs : ℕ) (f : Files) (o b k : ℕ) → (f k).there ≡ true → (write_byte fs f o b k).there ≡ true
unfolding write_byte
byte-there fs f o b k t =
    picked (λ (g : File). g.there ≡ true) (eqb k (file_of fs o)) _ _
    (λ _. refl)
    (λ _. picked (λ (g : File). g.there ≡ true) (not (f (file_of fs o)).tracked && ltb (file_of fs o) k) (untracked (f k)) (f k) (λ _. t) (λ _. t))

pub write-there : (fs : ℕ) (bs : List ℕ) (f : Files) (o k : ℕ) → (f k).there ≡ true → (write fs f o bs k).there ≡ true
unfolding write
write-there fs [] f o k t = t
write-there fs (b ∷ bs) f o k t = write-there fs bs (write_byte fs f o b) (o + 1) k (byte-there fs f o b k t)

-- ---- marks: no write makes one

byte-mark : (fs : ℕ) (f : Files) (o b k : ℕ) {e : ℕ} → (write_byte fs f o b k).mark ≡ Some e → (f k).mark ≡ Some e
unfolding write_byte
byte-mark fs f o b k {e} =
    picked (λ (g : File). g.mark ≡ Some e → (f k).mark ≡ Some e) (eqb k (file_of fs o)) _ _
    (λ _.
    picked (λ (q : Option ℕ). q ≡ Some e → (f k).mark ≡ Some e) (f k).tracked (f k).mark None
    (λ _ h. h)
    (λ _ h. absurd (none-some e h)))
    (λ _.
    picked (λ (g : File). g.mark ≡ Some e → (f k).mark ≡ Some e) (not (f (file_of fs o)).tracked && ltb (file_of fs o) k) (untracked (f k)) (f k)
    (λ _ h. absurd (none-some e h))
    (λ _ h. h))

pub write-mark : (fs : ℕ) (bs : List ℕ) (f : Files) (o k : ℕ) {e : ℕ} → (write fs f o bs k).mark ≡ Some e → (f k).mark ≡ Some e
unfolding write
write-mark fs [] f o k h = h
write-mark fs (b ∷ bs) f o k h = byte-mark fs f o b k (write-mark fs bs (write_byte fs f o b) (o + 1) k h)
