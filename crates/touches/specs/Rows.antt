-- What it means for the rows that a part stays: they are read as before. Assumes nothing.
use Rattle.std.specs.Prelude.{◌≡◌, List, length, take, drop}
use Rattle.std.proofs.Math.Path.{refl}
use Rattle.std.proofs.Common.{sym, ◌∙◌, arith, length-take, length-drop, get_or-take, get_or-drop, ext_get_or}
use Prim.Native.Nat.{ℕ, zero, suc, ◌+◌, ◌*◌, ◌≤◌, ◌<◌}
use Rattle.octets.specs.Number.{num_at}
use Rattle.layout.specs.Session.{head_at, view_at, transaction_at, tape_at, tracking_at, ring_at}
use Rattle.layout.specs.Names.{place_at, letters, name}
use Rattle.session.specs.Rows.{head_of, view_of, transaction_of, handle_of, ring_of, staged_of, tracking_of, ring_bytes}
use Rattle.disk.specs.Steps.{side_at, side_len, side_bytes}
use Rattle.metadata.specs.declared.choice.Side.{Side}
use Rattle.session.specs.RowWords.{head-words, view-words, transaction-words, handle-words, ring-words, staged-words}
use Rattle.touches.specs.Parts.{bytes, rows, Stays}

-- one of the rows
pub row_stays : (low size every count : ℕ) (s t : List ℕ) → Stays (rows low size every count) s t → (k : ℕ) → k < count
    → Stays (bytes (low + k * every) (low + k * every + size)) s t
row_stays low size every count s t stay k l i h = stay i (k, (l, h))

module _ (low high : ℕ) (s t : List ℕ) (stay : Stays (bytes low high) s t) where
  pub num_at-stays : (k b : ℕ) → low ≤ b → b + k ≤ high → num_at k t b ≡ num_at k s b
  unfolding num_at
  num_at-stays zero b l h = refl
  num_at-stays (suc k) b l h = rw (stay b (l, (omega arith)), num_at-stays k (b + 1) (omega arith) (omega arith))

  pub part_stays : length t ≡ length s → (n b : ℕ) → low ≤ b → b + n ≤ high → take n (drop b t) ≡ take n (drop b s)
  part_stays long n b l h =
      ext_get_or 0 _ _ (simp (length-take, length-drop, long))
      (λ i m.
      let k = rw length-take at m in
      let under : i < n = omega arith in
      get_or-take n (drop b t) i 0 under
      ∙ get_or-drop b t i 0
      ∙ stay (b + i) ((omega arith), (omega arith))
      ∙ sym (get_or-drop b s i 0)
      ∙ sym (get_or-take n (drop b s) i 0 under))

  -- ---- of the session

  pub head-stays : low ≤ head_at → head_at + 40 ≤ high → head_of t ≡ head_of s
  head-stays l h = head-words s t (λ b m n. num_at-stays 8 b (omega arith) (omega arith))

  pub view-stays : (w p : ℕ) → low ≤ view_at w p → view_at w p + 24 ≤ high → view_of t w p ≡ view_of s w p
  view-stays w p l h = view-words s t w p (λ b m n. num_at-stays 8 b (omega arith) (omega arith))

  pub transaction-stays : (x : ℕ) → low ≤ transaction_at x → transaction_at x + 24 ≤ high → transaction_of t x ≡ transaction_of s x
  transaction-stays x l h = transaction-words s t x (λ b m n. num_at-stays 8 b (omega arith) (omega arith))

  pub handle-stays : (p : ℕ) → low ≤ tape_at p → tape_at p + 24 ≤ high → handle_of t p ≡ handle_of s p
  handle-stays p l h = handle-words s t p (λ b m n. num_at-stays 8 b (omega arith) (omega arith))

  pub ring-stays : (p : ℕ) → low ≤ tape_at p + 24 → tape_at p + 56 ≤ high → ring_of t p ≡ ring_of s p
  ring-stays p l h = ring-words s t p (λ b m n. num_at-stays 8 b (omega arith) (omega arith))

  pub staged-stays : (p : ℕ) → low ≤ tape_at p + 56 → tape_at p + 96 ≤ high → staged_of t p ≡ staged_of s p
  staged-stays p l h = staged-words s t p (λ b m n. num_at-stays 8 b (omega arith) (omega arith))

  pub tracking-stays : (i : ℕ) → low ≤ tracking_at i → tracking_at i + 16 ≤ high → tracking_of t i ≡ tracking_of s i
  unfolding tracking_of
  tracking-stays i l h =
      let word = num_at-stays 8 in
      rw (word (tracking_at i) (omega arith) (omega arith), word (tracking_at i + 8) (omega arith) (omega arith))

  pub cache-stays : length t ≡ length s → (p : ℕ) → low ≤ ring_at p → ring_at p + 4096 ≤ high → ring_bytes t p ≡ ring_bytes s p
  unfolding ring_bytes
  cache-stays long p l h = part_stays long 4096 (ring_at p) l h

  -- ---- names, of a session's tapes or a disk's directories; and left and right

  pub name-stays : length t ≡ length s → (base i : ℕ) → letters s base i ≤ 24 → low ≤ place_at base i → place_at base i + 32 ≤ high → name t base i ≡ name s base i
  unfolding name
  name-stays long base i short l h =
      let same : letters t base i ≡ letters s base i = num_at-stays 8 (place_at base i) (omega arith) (omega arith) in
      rw same (part_stays long (letters s base i) (place_at base i + 8) (omega arith) (omega arith))

  pub side-stays : length t ≡ length s → (side : Side) → side_len t side ≡ side_len s side → side_len s side ≤ 512 → low ≤ side_at side → side_at side + 512 ≤ high
      → side_bytes t side ≡ side_bytes s side
  unfolding side_bytes
  side-stays long side same short l h = rw same (part_stays long (side_len s side) (side_at side) l (omega arith))
