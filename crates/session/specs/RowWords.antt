-- A row is read out of its words: where these are the same in two areas, so is the row. What a step elsewhere leaves alone, and what stays where its
-- bytes stay, follow from this. Assumes nothing.
use Rattle.std.specs.Prelude.{◌≡◌, List, ℕ, ◌+◌, ◌≤◌}
use Rattle.std.proofs.Common.{arith}
use Rattle.octets.specs.Number.{num_at}
use Rattle.layout.specs.Session.{head_at, view_at, transaction_at, tape_at, tracking_at}
use Rattle.session.specs.Rows.{head_of, view_of, transaction_of, handle_of, ring_of, staged_of, tracking_of}

-- the words of the size bytes from base on
abbrev pub SameWords : List ℕ → List ℕ → ℕ → ℕ → Type 0
SameWords s t base size = (b : ℕ) → base ≤ b → b + 8 ≤ base + size → num_at 8 t b ≡ num_at 8 s b

module _ (s t : List ℕ) where
  pub head-words : SameWords s t head_at 40 → head_of t ≡ head_of s
  unfolding head_of
  head-words word =
      rw (
        word head_at (omega arith) (omega arith),
        word (head_at + 8) (omega arith) (omega arith),
        word (head_at + 16) (omega arith) (omega arith),
        word (head_at + 24) (omega arith) (omega arith),
        word (head_at + 32) (omega arith) (omega arith),
      )

  pub view-words : (w p : ℕ) → SameWords s t (view_at w p) 24 → view_of t w p ≡ view_of s w p
  unfolding view_of
  view-words w p word =
      rw (word (view_at w p) (omega arith) (omega arith), word (view_at w p + 8) (omega arith) (omega arith), word (view_at w p + 16) (omega arith) (omega arith))

  pub transaction-words : (x : ℕ) → SameWords s t (transaction_at x) 24 → transaction_of t x ≡ transaction_of s x
  unfolding transaction_of
  transaction-words x word =
      rw (word (transaction_at x) (omega arith) (omega arith), word (transaction_at x + 8) (omega arith) (omega arith), word (transaction_at x + 16) (omega arith) (omega arith))

  pub handle-words : (p : ℕ) → SameWords s t (tape_at p) 24 → handle_of t p ≡ handle_of s p
  unfolding handle_of
  handle-words p word =
      rw (word (tape_at p) (omega arith) (omega arith), word (tape_at p + 8) (omega arith) (omega arith), word (tape_at p + 16) (omega arith) (omega arith))

  pub ring-words : (p : ℕ) → SameWords s t (tape_at p + 24) 32 → ring_of t p ≡ ring_of s p
  unfolding ring_of
  ring-words p word =
      rw (
        word (tape_at p + 24) (omega arith) (omega arith),
        word (tape_at p + 32) (omega arith) (omega arith),
        word (tape_at p + 40) (omega arith) (omega arith),
        word (tape_at p + 48) (omega arith) (omega arith),
      )

  pub staged-words : (p : ℕ) → SameWords s t (tape_at p + 56) 40 → staged_of t p ≡ staged_of s p
  unfolding staged_of
  staged-words p word =
      rw (
        word (tape_at p + 56) (omega arith) (omega arith),
        word (tape_at p + 64) (omega arith) (omega arith),
        word (tape_at p + 72) (omega arith) (omega arith),
        word (tape_at p + 80) (omega arith) (omega arith),
        word (tape_at p + 88) (omega arith) (omega arith),
      )

  pub tracking-words : (i : ℕ) → SameWords s t (tracking_at i) 16 → tracking_of t i ≡ tracking_of s i
  unfolding tracking_of
  tracking-words i word = rw (word (tracking_at i) (omega arith) (omega arith), word (tracking_at i + 8) (omega arith) (omega arith))
