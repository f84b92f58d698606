-- A put: what pages find before and after it, the old ones and the longer one. Assumes nothing.
use Rattle.std.specs.Prelude.{◌≡◌, Bool, cond, List, [], ◌++◌, eqb, Option, Some}
use Rattle.std.proofs.Math.Path.{refl, ap}
use Rattle.std.proofs.Common.{sym, ◌∙◌, get_or-append-add}
use Rattle.std.proofs.Math.Bool.{true, false}
use Prim.Native.Nat.{ℕ, ◌+◌, ◌-◌, ◌%◌, ◌^◌, ◌≤◌, ◌<◌, min}
use native.Mathlib.Omega.{arith}
use borrow.Author.Tests.{eqb-true, eqb-false, leb-false, ltb-false}
use Rattle.std.proofs.Math.ListN.{length, get_or, length-drop, get_or-append}
use Rattle.std.proofs.Math.Seq.{get_or-drop}
use Rattle.octets.specs.Cases.{picked, order}
use Rattle.ring_buffer.specs.declared.bookkeeping.RingBuffer.{RingBuffer}
use Rattle.ring_buffer.specs.Ring.{nth, ring_at, over, pushed, prepared}
use Rattle.ring_buffer.specs.Ring as R
use Rattle.ring_buffer.specs.RingLaws.{length-nths, sound-prepared, push-old, push-new, sound-push, first-pushed}
use Rattle.ring_buffer.specs.Put.{fills, pushes_out, last_of, go_by, after_put, bytes_after_put, unwritten_of, sent, unwritten_after, last_fits}
use Rattle.components.specs.Files.{Files, write}
use Rattle.components.proofs.WriteLaws.{write-append, write-below, write-in, write-mark}
use Rattle.held.specs.Held.{Held, flush, put_held}
use Rattle.held.specs.Page.{Kept, Ringed, Sound}
use Rattle.held.specs.FlushLaws.{flush-old, flush-new, flush-mark}

-- what a put of d does, from h to h'
pub record Put (fs : ℕ) (h h' : Held) (L W : ℕ) (d : List ℕ) : Type 0 where
  pub sound : Sound h' L (W + length d)
  pub old_k : (st n : ℕ) (c : List ℕ) → n ≤ L → Kept fs h.files st n c → Kept fs h'.files st n c
  pub old_r : (st n : ℕ) (c : List ℕ) → n ≤ L → Ringed h st n c → Ringed h' st n c
  pub new_k : (st : ℕ) (c : List ℕ) → length c ≡ W → Kept fs h.files st (W - h.unwritten) c → Ringed h st W c
      → Kept fs h'.files st (W + length d - h'.unwritten) (c ++ d)
  pub new_r : (st : ℕ) (c : List ℕ) → length c ≡ W → Ringed h st W c → Ringed h' st (W + length d) (c ++ d)
  pub marks : (k e : ℕ) → (h'.files k).mark ≡ Some e → (h.files k).mark ≡ Some e

-- ---- the files: the put's own bytes are sent too, or only what was unwritten, or nothing

-- what a page finds in files g, of which the cache has the last u bytes more
record Filed (fs : ℕ) (h : Held) (g : Files) (u L W : ℕ) (d : List ℕ) : Type 0 where
  old_k : (st n : ℕ) (c : List ℕ) → n ≤ L → Kept fs h.files st n c → Kept fs g st n c
  new_k : (st : ℕ) (c : List ℕ) → length c ≡ W → Kept fs h.files st (W - h.unwritten) c → Ringed h st W c → Kept fs g st (W + length d - u) (c ++ d)
  marks : (k e : ℕ) → (g k).mark ≡ Some e → (h.files k).mark ≡ Some e

kept-longer : (fs : ℕ) (f : Files) (st n : ℕ) (c d : List ℕ) → n ≤ length c → Kept fs f st n c → Kept fs f st n (c ++ d)
kept-longer fs f st n c d l k o a b = k o a b ∙ ap {B = Option ℕ} Some (sym (get_or-append c d 0 o (omega arith)))

-- what the files lack
abbrev lacking : Held → List ℕ
lacking h = unwritten_of h.ring h.cache h.unwritten

module _ (fs : ℕ) (z : 0 < fs) (h : Held) (L W : ℕ) (d : List ℕ) (s : Sound h L W) where
  -- what was unwritten, and then the put's own bytes
  both-sent : write fs h.files (W - h.unwritten) (lacking h ++ d) ≡ write fs (flush fs W h) W d
  unfolding flush unwritten_of
  both-sent =
      let n = length-nths h.ring h.cache (h.ring.len - h.unwritten) h.unwritten in
      let e : W - h.unwritten + length (lacking h) ≡ W = omega (arith, s.new) in
      write-append fs (lacking h) d h.files (W - h.unwritten) ∙ ap (λ (o : ℕ). write fs (flush fs W h) o d) e

  filed-full : Filed fs h (write fs (flush fs W h) W d) 0 L W d
  filed-full =
      record {
        old_k = λ st n c b k o a u. write-below fs z d (flush fs W h) W o (omega (arith, s.new)) (flush-old fs z h L W s st n c b k o a u);
        new_k = λ st c e k g o a b.
            order o W
            (λ u. write-below fs z d (flush fs W h) W o u (kept-longer fs (flush fs W h) st W c d (omega arith) (flush-new fs z h L W s st c k g) o a u))
            (λ u.
            let i = o - W in
            let p : W + i ≡ o = omega arith in
            let p' : length c + i ≡ o = omega arith in
            let v = write-in fs z d (flush fs W h) W i (omega arith) in
            let v' = get_or-append-add c d i 0 in
            cc);
        marks = λ k e m. flush-mark fs z h W k (write-mark fs d (flush fs W h) W k m);
      }

  filed-flushed : Filed fs h (flush fs W h) (length d) L W d
  filed-flushed =
      record {
        old_k = flush-old fs z h L W s;
        new_k = λ st c e k g o a b. kept-longer fs (flush fs W h) st W c d (omega arith) (flush-new fs z h L W s st c k g) o a (omega arith);
        marks = λ k e m. flush-mark fs z h W k m;
      }

  filed-none : Filed fs h h.files (h.unwritten + length d) L W d
  filed-none =
      record {
        old_k = λ st n c b k. k;
        new_k = λ st c e k g o a b. kept-longer fs h.files st (W - h.unwritten) c d (omega arith) k o a (omega arith);
        marks = λ k e m. m;
      }

  filed : (full out : Bool)
      → Filed fs h (write fs h.files (W - h.unwritten) (cond full (lacking h ++ d) (cond out (lacking h) []))) (cond full 0 (cond out (length d) (h.unwritten + length d))) L W d
  unfolding flush write
  filed true out = rw both-sent filed-full
  filed false true = filed-flushed
  filed false false = filed-none

-- ---- the cache

-- the ring after a put that needs no preparation
abbrev after : RingBuffer → List ℕ → RingBuffer
after r d = pushed r (length (last_of r d)) (go_by r d)

-- a ring that ends where the tape ends
module _ (r : RingBuffer) (bytes d : List ℕ) (W : ℕ) (sound : R.Sound r (length bytes)) (ends : r.first + r.len ≡ W) (small : W + length d < 2 ^ 64) where
  last-count : length (last_of r d) ≡ length d - go_by r d
  last-count = length-drop (go_by r d) d

  first-after : (after r d).first ≡ r.first + over r (length (last_of r d)) + go_by r d
  first-after = first-pushed r (length (last_of r d)) (go_by r d) (omega (arith, last-count))

  len_after : (after r d).len ≡ min (r.len + length (last_of r d)) r.capacity
  unfolding pushed
  len_after = refl

  end_after : (after r d).first + (after r d).len ≡ W + length d
  end_after = omega (arith, first-after, len_after, last-count, sound.short)

  none_after : (after r d).len ≡ 0 → (r.len ≡ 0) × (length d ≡ 0)
  none_after e = (omega (arith, len_after, sound.inside), omega (arith, len_after, last-count, sound.inside))

  -- an older byte that is still behind the first index
  ring-old : (o : ℕ) → o < W → (after r d).first ≤ o → (r.first ≤ o) × (ring_at (after r d) (bytes_after_put r bytes d) o ≡ ring_at r bytes o)
  unfolding bytes_after_put
  ring-old o b q =
      let f = first-after in
      let n = last-count in
      let k = o - (after r d).first in
      let m : over r (length (last_of r d)) + k ≡ o - r.first = omega (arith, sound.short) in
      let v = push-old r bytes (last_of r d) (go_by r d) sound (last_fits r d) k (omega arith) in
      (omega arith, v ∙ ap (λ (j : ℕ). nth r bytes j) m)

  -- a put byte
  ring-new : (i : ℕ) → i < length d → (after r d).first ≤ W + i → ring_at (after r d) (bytes_after_put r bytes d) (W + i) ≡ get_or d i 0
  unfolding bytes_after_put
  ring-new i b q =
      let f = first-after in
      let n = last-count in
      let short : r.len ≤ r.capacity = sound.short in
      let j = i - go_by r d in
      let e : go_by r d + j ≡ i = omega arith in
      push-new r bytes (last_of r d) (go_by r d) sound (last_fits r d) j (W + i - (after r d).first) (omega arith) (omega arith)
      ∙ get_or-drop (go_by r d) d j 0
      ∙ ap (λ (p : ℕ). get_or d p 0) e

-- ---- both

module _ (h : Held) (L W : ℕ) (s : Sound h L W) where
  -- an emptied cache takes the tape's end as its first index: so the cache ends where the tape ends
  prepared-ends : (prepared h.ring W).first + h.ring.len ≡ W
  unfolding prepared
  prepared-ends =
      picked (λ (x : ℕ). x + h.ring.len ≡ W) (eqb h.ring.len 0) W h.ring.first
      (λ t. omega (arith, eqb-true h.ring.len 0 t))
      (λ t. s.joined (order 0 h.ring.len (λ l. l) (λ l. absurd (eqb-false h.ring.len 0 t (omega arith)))))

  -- .. and no page has a byte there
  ringed-prepared : (st n : ℕ) (c : List ℕ) → n ≤ W → Ringed h st n c
      → (o : ℕ) → st ≤ o → o < n → (prepared h.ring W).first ≤ o → ring_at (prepared h.ring W) h.cache o ≡ get_or c o 0
  unfolding prepared nth
  ringed-prepared st n c l g o a b =
      picked (λ (x : ℕ). x ≤ o → get_or h.cache ((h.ring.start + (o - x)) % h.ring.capacity) 0 ≡ get_or c o 0) (eqb h.ring.len 0) W h.ring.first
      (λ _ q. absurd (omega arith))
      (λ _ q. g o a b q)

  -- what is unwritten is cached
  few-after : (d : List ℕ) → unwritten_after h.ring h.unwritten (length d) ≤ min (h.ring.len + length (last_of h.ring d)) h.ring.capacity
  unfolding unwritten_after
  few-after d =
      let n = length-drop (go_by h.ring d) d in
      let held = min (h.ring.len + length (last_of h.ring d)) h.ring.capacity in
      picked (λ (x : ℕ). x ≤ held) (fills h.ring (length d)) 0 _
      (λ _. omega arith)
      (λ t.
      picked (λ (x : ℕ). x ≤ held) (pushes_out h.ring h.unwritten (length d)) (length d) (h.unwritten + length d)
      (λ _. omega (arith, leb-false h.ring.capacity (length d) t))
      (λ v. omega (arith, leb-false h.ring.capacity (length d) t, ltb-false h.ring.capacity (h.unwritten + length d) v, s.few)))

  -- .. and new
  new-after : (d : List ℕ) → L + unwritten_after h.ring h.unwritten (length d) ≤ W + length d
  unfolding unwritten_after
  new-after d =
      picked (λ (x : ℕ). L + x ≤ W + length d) (fills h.ring (length d)) 0 _
      (λ _. omega (arith, s.new))
      (λ _.
      picked (λ (x : ℕ). L + x ≤ W + length d) (pushes_out h.ring h.unwritten (length d)) (length d) (h.unwritten + length d)
      (λ _. omega (arith, s.new))
      (λ _. omega (arith, s.new)))

pub put-held : (fs : ℕ) → 0 < fs → (h : Held) (L W : ℕ) (d : List ℕ) → Sound h L W → W + length d < 2 ^ 64 → Put fs h (put_held fs W h d) L W d
unfolding put_held after_put bytes_after_put sent unwritten_after prepared
put-held fs z h L W d s small =
    let q = prepared h.ring W in
    let in_order : R.Sound q (length h.cache) = sound-prepared h.ring (length h.cache) s.ring W in
    let ends : q.first + q.len ≡ W = prepared-ends h L W s in
    let files = filed fs z h L W d s (fills h.ring (length d)) (pushes_out h.ring h.unwritten (length d)) in
    let old : (st n : ℕ) (c : List ℕ) → n ≤ W → Ringed h st n c → Ringed (put_held fs W h d) st n c
    = λ st n c l g o a b f.
    let (up, same) = ring-old q h.cache d W in_order ends small o (omega arith) f in
    same ∙ ringed-prepared h L W s st n c l g o a b up in
    record {
      sound =
          record {
            ring = sound-push q h.cache (last_of q d) (go_by q d) in_order (last_fits q d);
            few = rw (len_after q h.cache d W in_order ends small) (few-after h L W s d);
            new = new-after h L W s d;
            joined = λ _. end_after q h.cache d W in_order ends small;
            empty = λ e. let (p, n) = none_after q h.cache d W in_order ends small e in omega (arith, s.empty p);
          };
      old_k = files.old_k;
      old_r = λ st n c l g. old st n c (omega (arith, s.new)) g;
      new_k = files.new_k;
      new_r = λ st c e g o a b f.
          order o W
          (λ l. old st W c (omega arith) g o a l f ∙ sym (get_or-append c d 0 o (omega arith)))
          (λ l.
          let i = o - W in
          let p : W + i ≡ o = omega arith in
          let p' : length c + i ≡ o = omega arith in
          let v = ring-new q h.cache d W in_order ends small i (omega arith) (omega arith) in
          let v' = get_or-append-add c d i 0 in
          cc);
      marks = files.marks;
    }
