-- The bookkeeping after each step, by cases: whether a push pushes bytes out, a cut reaches into the ring, the ring is empty. Assumes nothing.
use Rattle.std.specs.Prelude.{◌≡◌, ℕ, ◌+◌, ◌-◌, ◌%◌, ◌^◌, ◌<◌, ◌≤◌, ◌≢◌}
use Rattle.std.proofs.Math.Nat.{add-zero, mod-eq_of_lt, mod-add-mod, min-eq_left, min-eq_right}
use native.Mathlib.Omega.{arith}
use Rattle.std.proofs.Common.{eq-eqb, ne_eqb}
use Rattle.ring_buffer.specs.declared.bookkeeping.RingBuffer.{RingBuffer}
use Rattle.ring_buffer.specs.Ring.{ring, over, pushed, truncated, prepared}

module _ (r : RingBuffer) (n missed : ℕ) where
  -- a push that fits pushes nothing out
  pub pushed-fits : r.start < r.capacity → r.len + n ≤ r.capacity
      → ring r.capacity r.start (r.len + n) ((r.first + missed) % 2 ^ 64) ≡ pushed r n missed
  unfolding pushed
  pushed-fits inside fits =
      let none : over r n ≡ 0 = omega arith in
      rw (none, add-zero, add-zero, mod-eq_of_lt inside, min-eq_left fits)

  pub pushed-over : r.capacity ≤ r.len + n
      → ring r.capacity ((r.start + over r n) % r.capacity) r.capacity (((r.first + over r n) % 2 ^ 64 + missed) % 2 ^ 64) ≡ pushed r n missed
  unfolding pushed
  pushed-over full = rw (mod-add-mod, min-eq_right full)

module _ (r : RingBuffer) (len : ℕ) where
  pub truncated-cut : len - r.first < r.len → ring r.capacity r.start (len - r.first) r.first ≡ truncated r len
  unfolding truncated
  truncated-cut h =
      let low : len - r.first ≤ r.len = omega arith in
      rw (min-eq_right low)

  pub truncated-kept : r.len ≤ len - r.first → r ≡ truncated r len
  unfolding truncated
  truncated-kept h = rw (min-eq_left h)

  pub prepared-empty : r.len ≡ 0 → ring r.capacity r.start 0 len ≡ prepared r len
  unfolding prepared
  prepared-empty e = rw (eq-eqb r.len 0 e, e)

  pub prepared-kept : (r.len ≢ 0) → r ≡ prepared r len
  unfolding prepared
  prepared-kept n = rw (ne_eqb r.len 0 n)
