-- Marks lie from the lowest tracked file on, whatever steps were taken. It follows, and is not stated here, that the Rust's loops, which mark downward
-- up to the first mark and clear upward up to the first file without one, do what `mark_below` and `clear_from` say of each number. Assumes nothing.
use Rattle.std.specs.Prelude.{◌≡◌, refl, true, false, cond, List, [], ◌∷◌, ℕ, ◌+◌, ◌<◌, None}
use Rattle.std.proofs.Common.{sym, ◌∙◌, true≢false, arith}
use Rattle.std.proofs.lemmas.Bool.{false≢true}
use borrow.Author.Tests.{lt-ltb, le-ltb, ne_eqb, eq-eqb}
use Rattle.octets.specs.Cases.{decide, order, equal}
use Rattle.components.specs.Pieces.{file_of}
use Rattle.components.specs.Files.{Files, no_files, unmarked, mark_below, clear_from, removes, remove, track, write_byte, write}
use Rattle.components.proofs.MarkLaws.{mark-alike, mark-above, clear-from, clear-below, remove-gone, remove-kept, track-mark}
use Rattle.components.specs.MarkOrder.{Ordered}

pub ordered-none : Ordered no_files
ordered-none j k l t u m = absurd (false≢true t)

pub ordered-track : (n : ℕ) (f : Files) → Ordered (track n f)
ordered-track n f j k l t u m = absurd (true≢false (rw (track-mark n f k) at m))

pub ordered-clear : (n : ℕ) (f : Files) → Ordered f → Ordered (clear_from n f)
ordered-clear n f h j k l t u m =
    order k n
    (λ b.
    let p = clear-below n f k b in
    let q = clear-below n f j (omega arith) in
    rw q (h j k l (rw q at t) (rw p at u) (rw p at m)))
    (λ b. absurd (true≢false (rw (clear-from n f k b) at m)))

marked-below : (n e : ℕ) (f : Files) (k : ℕ) → k < n → (f k).tracked ≡ true → unmarked (mark_below n e f k).mark ≡ false
unfolding mark_below
marked-below n e f k l t = decide (unmarked (f k).mark) (λ u. rw (lt-ltb k n l, t, u)) (λ u. rw (lt-ltb k n l, t, u) u)

pub ordered-mark : (n e : ℕ) (f : Files) → Ordered f → Ordered (mark_below n e f)
ordered-mark n e f h j k l t u m =
    let tracked : (f j).tracked ≡ true = sym (mark-alike n e f j).tracked ∙ t in
    order j n
    (λ b. marked-below n e f j b tracked)
    (λ b.
    let p = mark-above n e f k (omega arith) in
    let q = mark-above n e f j b in
    rw q (h j k l tracked (rw p at u) (rw p at m)))

pub ordered-remove : (oldest : ℕ) (f : Files) → Ordered f → Ordered (remove oldest f)
ordered-remove oldest f h j k l t u m = rw (same j t) (h j k l (rw (same j t) at t) (rw (same k u) at u) (rw (same k u) at m))
  where
    same : (i : ℕ) → (remove oldest f i).tracked ≡ true → remove oldest f i ≡ f i
    same i s =
        decide (removes oldest f i)
        (λ g. absurd (false≢true (rw (remove-gone oldest f i g) at s)))
        (λ g. remove-kept oldest f i g)

module _ (fs : ℕ) (f : Files) (o b : ℕ) where
  -- a file other than the one written to that is still tracked is as it was; if it is higher, the one written to was tracked
  other-same : (k : ℕ) → (k ≡ file_of fs o → ⊥) → (write_byte fs f o b k).tracked ≡ true → (write_byte fs f o b k ≡ f k) × (file_of fs o < k → (f (file_of fs o)).tracked ≡ true)
  unfolding write_byte
  other-same k n t =
      rw (ne_eqb k (file_of fs o) n)
      (decide (f (file_of fs o)).tracked
      (λ s. rw s (refl, λ _. refl))
      (λ s.
      order (file_of fs o) k
      (λ l. absurd (false≢true (rw (ne_eqb k (file_of fs o) n, s, lt-ltb (file_of fs o) k l) at t)))
      (λ l. rw (s, le-ltb (file_of fs o) k l) (refl, λ m. absurd (omega arith)))))

  here-mark : (write_byte fs f o b (file_of fs o)).mark ≡ cond (f (file_of fs o)).tracked (f (file_of fs o)).mark None
  unfolding write_byte
  here-mark = rw (eq-eqb (file_of fs o) (file_of fs o) refl)

  ordered-byte : Ordered f → Ordered (write_byte fs f o b)
  ordered-byte h j k l t u m =
      let n = file_of fs o in
      equal k n
      (λ e.
      let mine : unmarked (cond (f n).tracked (f n).mark None) ≡ false = rw (e, here-mark) at m in
      let (p, _) = other-same j (λ q. omega arith) t in
      decide (f n).tracked
      (λ s. rw p (h j n (omega arith) (rw p at t) s (rw s at mine)))
      (λ s. absurd (true≢false (rw s at mine))))
      (λ d.
      let (p, up) = other-same k d u in
      equal j n
      (λ e.
      let s : (f n).tracked ≡ true = up (omega arith) in
      rw (e, here-mark, s) (h n k (omega arith) s (rw p at u) (rw p at m)))
      (λ g. let (q, _) = other-same j g t in rw q (h j k l (rw q at t) (rw p at u) (rw p at m))))

pub ordered-write : (fs : ℕ) (bs : List ℕ) (f : Files) (o : ℕ) → Ordered f → Ordered (write fs f o bs)
unfolding write
ordered-write fs [] f o h = h
ordered-write fs (b ∷ bs) f o h = ordered-write fs bs (write_byte fs f o b) (o + 1) (ordered-byte fs f o b h)
