-- A truncate's commit: the cache is cut and marks are cleared from the new end's file on, if the tape was touched. Assumes nothing.
use Rattle.std.specs.Prelude.{◌≡◌, refl, ◌⊎◌, Bool, false, cond, List, ℕ, ◌≤◌, ◌<◌, length, Some}
use Rattle.std.proofs.Common.{sym, ◌∙◌, inl, inr, arith}
use Rattle.octets.specs.Cases.{picked}
use Rattle.ring_buffer.specs.Ring.{nth, truncated}
use Rattle.ring_buffer.specs.RingLaws.{sound-truncated}
use Rattle.components.specs.Pieces.{file_of}
use Rattle.components.proofs.MarkLaws.{clear-mark, clear-byte}
use Rattle.held.specs.Held.{Held, trimmed}
use Rattle.held.specs.Page.{Kept, Ringed, Sound}

-- what the commit of a truncate from L to n does, from h to h'
pub record Trim (fs : ℕ) (h h' : Held) (L n : ℕ) : Type 0 where
  pub sound : Sound h' n n
  pub kept : (st l : ℕ) (c : List ℕ) → Kept fs h.files st l c → Kept fs h'.files st l c
  pub ringed : (st l : ℕ) (c : List ℕ) → Ringed h st l c → Ringed h' st l c
  pub marks : (k e : ℕ) → (h'.files k).mark ≡ Some e → ((h.files k).mark ≡ Some e) × ((k < file_of fs n) ⊎ (n ≡ L))

pub trim-held : (fs : ℕ) (h : Held) (L n : ℕ) (b : Bool) → Sound h L L → n ≤ L → (b ≡ false → n ≡ L) → Trim fs h (cond b (trimmed fs n h) h) L n
unfolding trimmed truncated nth
trim-held fs h L n b s l w =
    picked (λ x. Trim fs h x L n) b (trimmed fs n h) h
    (λ t.
    record {
      sound =
          record {
            ring = sound-truncated h.ring (length h.cache) s.ring n;
            few = omega (arith, s.new);
            new = omega (arith, s.new);
            joined = λ p. omega (arith, s.joined (omega arith));
            empty = λ _. refl;
          };
      kept = λ st l c k o a u. clear-byte fs (file_of fs n) h.files o ∙ k o a u;
      ringed = λ st l c g. g;
      marks = λ k e q. let (u, v) = clear-mark (file_of fs n) h.files k q in (u, inl v);
    })
    (λ t.
    let e : L ≡ n = sym (w t) in
    record {
      sound = record { ring = s.ring; few = s.few; new = omega (arith, s.new); joined = λ p. s.joined p ∙ e; empty = λ _. refl };
      kept = λ st l c k. k;
      ringed = λ st l c g. g;
      marks = λ k e q. (q, inr (w t));
    })
