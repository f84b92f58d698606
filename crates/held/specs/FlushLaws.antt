-- A flush: old pages stay in the files, and what was staged comes into them. Assumes nothing.
use Rattle.std.specs.Prelude.{◌≡◌, List, ℕ, ◌+◌, ◌-◌, ◌≤◌, ◌<◌, Some}
use native.Mathlib.Omega.{arith}
use Rattle.octets.specs.Cases.{order}
use Rattle.ring_buffer.specs.Ring.{nths}
use Rattle.ring_buffer.specs.RingLaws.{length-nths, get_or-nths}
use Rattle.ring_buffer.specs.Put.{unwritten_of}
use Rattle.components.proofs.WriteLaws.{write-below, write-in, write-mark}
use Rattle.held.specs.Held.{Held, flush}
use Rattle.held.specs.Page.{Kept, Ringed, Sound}

module _ (fs : ℕ) (z : 0 < fs) where
  pub flush-old : (h : Held) (L W : ℕ) → Sound h L W → (st n : ℕ) (c : List ℕ) → n ≤ L → Kept fs h.files st n c → Kept fs (flush fs W h) st n c
  unfolding flush
  flush-old h L W s st n c l k o a b =
      write-below fs z (unwritten_of h.ring h.cache h.unwritten) h.files (W - h.unwritten) o (omega (arith, s.new)) (k o a b)

  pub flush-new : (h : Held) (L W : ℕ) → Sound h L W → (st : ℕ) (c : List ℕ)
      → Kept fs h.files st (W - h.unwritten) c → Ringed h st W c → Kept fs (flush fs W h) st W c
  unfolding flush unwritten_of
  flush-new h L W s st c k g o a b =
      let bytes = nths h.ring h.cache (h.ring.len - h.unwritten) h.unwritten in
      order o (W - h.unwritten)
      (λ l. write-below fs z bytes h.files (W - h.unwritten) o l (k o a l))
      (λ l.
      let i = o - (W - h.unwritten) in
      let e : W - h.unwritten + i ≡ o = omega arith in
      let j : h.ring.first + h.ring.len ≡ W = s.joined (omega (arith, s.few)) in
      let m : h.ring.len - h.unwritten + i ≡ o - h.ring.first = omega (arith, s.few) in
      let w = write-in fs z bytes h.files (W - h.unwritten) i (rw length-nths (omega arith)) in
      let v = get_or-nths h.ring h.cache (h.ring.len - h.unwritten) h.unwritten i (omega arith) in
      let q = g o a b (omega (arith, s.few)) in
      cc)

  -- a mark in the files was there before
  pub flush-mark : (h : Held) (W k : ℕ) {e : ℕ} → (flush fs W h k).mark ≡ Some e → (h.files k).mark ≡ Some e
  unfolding flush
  flush-mark h W k m = write-mark fs (unwritten_of h.ring h.cache h.unwritten) h.files (W - h.unwritten) k m
