-- `fill` leaves `nths`. The loop's invariant: what is done is the run from the first place on, and the next byte stands at `place`. Assumes nothing.
-- the ring whose first byte stands at p
use Rattle.std.proofs.Common.{◌≡◌, ℕ, ◌+◌, ◌-◌, ◌%◌, ◌<◌, ◌≤◌, List, length}
use Rattle.octets.specs.Bytes.{put}
use Rattle.ring_buffer.specs.declared.bookkeeping.RingBuffer.{RingBuffer}
use Rattle.ring_buffer.specs.Ring.{ring, nths}
use Rattle.ring_buffer.proofs.bytes.fill.Given as goal

abbrev pub from : ℕ → ℕ → RingBuffer
from c p = ring c p 0 0

pub record Inv (bytes out₀ : List ℕ) (c p : ℕ) (out : List ℕ) (place done : ℕ) : Type 0 where
  pub long : length out ≡ length out₀
  pub within : done ≤ length out₀
  pub inside : place < c
  pub here : done < length out₀ → (p + done) % c ≡ place
  pub filled : out ≡ put out₀ 0 (nths (from c p) bytes 0 done)

abbrev pub invariant-loop-done : goal.invariant-loop-done
invariant-loop-done l = Inv l.bytes l.initial.out l.ring.capacity l.initial.place l.out l.place l.done

abbrev pub decreases-loop-done : goal.decreases-loop-done
decreases-loop-done l = length l.initial.out - l.done
