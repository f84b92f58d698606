-- A cache that is filled: only the tape's ring, its row and its bytes, is changed; the ring then holds the bytes that it was filled with. Assumes nothing.
use Rattle.std.specs.Prelude.{◌≡◌, ◌≢◌, List, ℕ, ◌+◌, ◌≤◌, ◌<◌, ◌^◌, length, get_or}
use Rattle.std.proofs.Common.{◌∙◌, arith}
use Rattle.octets.specs.Bytes.{put, length-put, part-put}
use Rattle.octets.specs.Number.{Bytes}
use Rattle.octets.specs.Only.{OnlyIn, only_then, only_wider, num_at-only}
use Rattle.layout.specs.Session.{session_bytes, tape_at, ring_at, handle_number, Begun}
use Rattle.ring_buffer.specs.Ring.{fresh, reset_to, held}
use Rattle.ring_buffer.specs.RingLaws.{held-reset, sound-fresh}
use Rattle.ring_buffer.specs.declared.bookkeeping.RingBuffer.{RingBuffer}
use Rattle.session.specs.Rows.{handle_of, ring_of, staged_of, tracking_of, ring_bytes, fill_ring}
use Rattle.session.specs.RowLaws.{handle-only, only-put_ring, length-put_ring, ring-same, ring-only, staged-only, tracking-only, ring_bytes-only, length-ring_bytes, length-fill_ring, only-fill_ring, ring_bytes-fill}
use Rattle.session.specs.KeepLaws.{open-with, open_row, begun-fill_ring, begun-put_ring, bytes-put_ring, bytes-fill_ring}
use Rattle.session.specs.declared.tape_rows.Staged.{Staged}
use Rattle.cached_tape.specs.Filling.{filled_with}

-- a ring of a capacity that can be filled with some bytes, beside what is staged of its tape
pub record Suits (capacity : ℕ) (bs : List ℕ) (st : Staged) : Type 0 where
  pub some : 1 ≤ capacity
  pub small : capacity ≤ 4096
  pub within : length bs ≤ capacity
  pub pending : st.unwritten ≤ length bs

module _ (s : List ℕ) (p capacity first : ℕ) (bs : List ℕ) where
  -- the ring's bytes alone
  abbrev bytes-in : List ℕ
  bytes-in = fill_ring s p 0 bs

  -- the ring's row
  abbrev row : RingBuffer
  row = reset_to (fresh capacity first) (length bs) first

  pub length-filled : length (filled_with s p capacity first bs) ≡ length s
  unfolding filled_with
  length-filled = length-put_ring bytes-in p row ∙ length-fill_ring s p 0 bs

  -- behind the bytes, its row alone
  pub only-ring : OnlyIn (tape_at p + 24) (tape_at p + 24 + 32) bytes-in (filled_with s p capacity first bs)
  unfolding filled_with
  only-ring = only-put_ring bytes-in p row

  -- ---- what is left alone

  module _ (fit : length bs ≤ 4096) where
    only-bytes : OnlyIn (ring_at p) (ring_at p + 4096) s bytes-in
    only-bytes = only-fill_ring s p 0 bs (omega arith)

    -- every byte but the row's and the ring's
    pub same-filled : (i : ℕ) → (tape_at p + 24 ≤ i → tape_at p + 24 + 32 ≤ i) → (ring_at p ≤ i → ring_at p + 4096 ≤ i)
        → get_or (filled_with s p capacity first bs) i 0 ≡ get_or s i 0
    same-filled i a b = only-ring.same i a ∙ only-bytes.same i b

    -- the tables before those of the tapes, and the rings behind this one
    pub only-filled : p < 8 → OnlyIn (tape_at p + 24) (ring_at p + 4096) s (filled_with s p capacity first bs)
    only-filled low =
        let t = filled_with s p capacity first bs in
        only_then (tape_at p + 24) (ring_at p + 4096) s bytes-in t
        (only_wider _ _ _ _ s bytes-in (omega arith) (omega arith) only-bytes)
        (only_wider _ _ _ _ bytes-in t (omega arith) (omega arith) only-ring)

    module _ (low : p < 8) (q : ℕ) (there : q < 8) where
      pub handle-filled : handle_of (filled_with s p capacity first bs) q ≡ handle_of s q
      handle-filled = handle-only _ _ bytes-in _ only-ring q (λ l. omega arith) ∙ handle-only _ _ s bytes-in only-bytes q (λ l. omega arith)

      pub staged-filled : staged_of (filled_with s p capacity first bs) q ≡ staged_of s q
      staged-filled = staged-only _ _ bytes-in _ only-ring q (λ l. omega arith) ∙ staged-only _ _ s bytes-in only-bytes q (λ l. omega arith)

      pub ring-apart : q ≢ p → ring_of (filled_with s p capacity first bs) q ≡ ring_of s q
      ring-apart d = ring-only _ _ bytes-in _ only-ring q (λ l. omega arith) ∙ ring-only _ _ s bytes-in only-bytes q (λ l. omega arith)

      pub ring_bytes-apart : q ≢ p → ring_bytes (filled_with s p capacity first bs) q ≡ ring_bytes s q
      ring_bytes-apart d = ring_bytes-only _ _ bytes-in _ only-ring q (λ l. omega arith) ∙ ring_bytes-only _ _ s bytes-in only-bytes q (λ l. omega arith)

    pub tracking-filled : p < 8 → (i : ℕ) → i < 64 → tracking_of (filled_with s p capacity first bs) i ≡ tracking_of s i
    tracking-filled low i m = tracking-only _ _ bytes-in _ only-ring i (λ l. omega arith) ∙ tracking-only _ _ s bytes-in only-bytes i (λ l. omega arith)

    -- ---- what the ring then is

    module _ (long : session_bytes ≤ length s) (low : p < 8) where
      pub ring-filled : capacity < 256 ^ 8 → first < 256 ^ 8 → ring_of (filled_with s p capacity first bs) p ≡ row
      unfolding filled_with
      ring-filled c f =
          let same = length-fill_ring s p 0 bs in
          ring-same bytes-in p row (omega arith) (record { capacity = c; start = omega arith; len = omega arith; first = f })

      pub ring_bytes-filled : ring_bytes (filled_with s p capacity first bs) p ≡ put (ring_bytes s p) 0 bs
      ring_bytes-filled =
          ring_bytes-only _ _ bytes-in _ only-ring p (λ l. omega arith)
          ∙ ring_bytes-fill s p 0 bs (omega arith)

      pub bytes-filled : Bytes s → Bytes bs → Bytes (filled_with s p capacity first bs)
      unfolding filled_with
      bytes-filled old new =
          let same = length-fill_ring s p 0 bs in
          bytes-put_ring bytes-in (bytes-fill_ring s old p 0 bs new (omega arith) (omega arith)) p row (omega arith)

    -- the layout rule is kept: of a tape with a handle the ring has to be one
    pub begun-filled : Begun s → p < 8 → (handle_number s p ≢ 0 → Suits capacity bs (staged_of s p))
        → Begun (filled_with s p capacity first bs)
    unfolding filled_with
    begun-filled begun low suits =
        let t = bytes-in in
        let kept = begun-fill_ring s begun p 0 bs (omega arith) in
        let number : handle_number t p ≡ handle_number s p = num_at-only _ _ s t only-bytes 8 (tape_at p) (λ l. omega arith) in
        let staged : staged_of t p ≡ staged_of s p = staged-only _ _ s t only-bytes p (λ l. omega arith) in
        begun-put_ring t kept p low row
        (λ h.
        let suit = suits (rw number at h) in
        open-with (open_row t kept p low h) suit.small (omega (arith, suit.some)) suit.within (rw staged suit.pending))

-- the ring holds the bytes that it was filled with
pub held-filled : (s : List ℕ) (p capacity first : ℕ) (bs : List ℕ) → session_bytes ≤ length s → p < 8 → 1 ≤ capacity → capacity ≤ 4096 → length bs ≤ capacity → first < 256 ^ 8
    → held (ring_of (filled_with s p capacity first bs) p) (ring_bytes (filled_with s p capacity first bs) p) ≡ bs
held-filled s p capacity first bs long low some small within f =
    let room : length (ring_bytes s p) ≡ 4096 = length-ring_bytes s p (omega arith) in
    let after = put (ring_bytes s p) 0 bs in
    let size : length after ≡ 4096 = length-put (ring_bytes s p) 0 bs ∙ room in
    rw (ring-filled s p capacity first bs (omega arith) long low (omega arith) f, ring_bytes-filled s p capacity first bs (omega arith) long low)
    (held-reset (fresh capacity first) after (length bs) first (rw size (sound-fresh capacity first 4096 some small small)) within
    ∙ part-put (ring_bytes s p) 0 bs (omega arith))
