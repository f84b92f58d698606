-- A dropped append: the cache gives up what was staged, and older pages find theirs. Assumes nothing.
use Rattle.std.specs.Prelude.{◌≡◌, refl, List, ℕ, ◌-◌, ◌≤◌, length}
use Rattle.std.proofs.Common.{arith}
use Rattle.octets.specs.Cases.{order}
use Rattle.ring_buffer.specs.Ring.{nth, popped}
use Rattle.ring_buffer.specs.RingLaws.{sound-popped}
use Rattle.held.specs.Held.{Held, taken_back}
use Rattle.held.specs.Page.{Ringed, Sound}

pub back-sound : (h : Held) (L W : ℕ) → Sound h L W → Sound (taken_back (W - L) h) L L
unfolding taken_back popped
back-sound h L W s =
    record {
      ring = sound-popped h.ring (length h.cache) s.ring (W - L);
      few = omega arith;
      new = omega arith;
      joined = λ p. omega (arith, s.joined (omega arith), s.new);
      empty = λ _. refl;
    }

-- if more was staged than the cache holds, its first index goes back to where the staged bytes began: no older page has a byte there
pub back-ringed : (h : Held) (L W : ℕ) → Sound h L W → (st l : ℕ) (c : List ℕ) → l ≤ L → Ringed h st l c → Ringed (taken_back (W - L) h) st l c
unfolding taken_back popped nth
back-ringed h L W s st l c u g o a b =
    order h.ring.len (W - L)
    (λ x q.
    order 0 h.ring.len
    (λ y. absurd (omega (arith, s.joined y)))
    (λ y. absurd (omega (arith, s.empty (omega arith)))))
    (λ x. let e : h.ring.first - (W - L - h.ring.len) ≡ h.ring.first = omega arith in rw e (g o a b))
