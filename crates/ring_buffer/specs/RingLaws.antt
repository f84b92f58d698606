-- The laws of the ring: what a push keeps and what it overwrites, where each byte of the tape stands after it, and what a pop leaves. Assumes nothing.
use Rattle.std.specs.Prelude.{◌≡◌, ℕ, zero, suc, ◌+◌, ◌-◌, ◌%◌, ◌^◌, ◌<◌, ◌≤◌, min, true, false, List, [], ◌∷◌, ◌++◌, length, take, drop, slice_index}
use Rattle.std.proofs.Math.Path.{refl}
use Rattle.std.proofs.Common.{sym, ap, ◌∙◌, add-zero, zero-add, mod-eq_of_lt, le-leb, length-append, length-take, length-drop, ext_get_or, get_or-take, get_or-drop, get_or-append-add, length-take-le, take_at}
use Rattle.std.proofs.Math.Nat.{add_assoc, mod-lt, mod-add-mod, add-mod-mod, mod_self, min-le_right}
use native.Mathlib.Omega.{arith}
use Rattle.std.proofs.lemmas.Bool.{lt-leb}
use Rattle.std.proofs.Math.ListN.{get_or-append}
use Rattle.ring_buffer.specs.declared.bookkeeping.RingBuffer.{RingBuffer}
use Rattle.ring_buffer.specs.Ring.{Sound, from_cache, nth, nths, held, first_part, second_part, around, ring, over, pushed, popped, truncated, prepared, fresh, reset_to}
use Rattle.ring_buffer.specs.Around.{length-around, around-out, around-in}
use Rattle.octets.specs.Cases.{order, mod-apart}

-- ---- reads

-- every offset from the first index upward is the cache's, above its length too
pub from-cache : (r : RingBuffer) (o : ℕ) → r.first ≤ o → from_cache r o ≡ true
from-cache r o h = le-leb r.first o h

-- and none below it
pub not-from-cache : (r : RingBuffer) (o : ℕ) → o < r.first → from_cache r o ≡ false
not-from-cache r o h = lt-leb r.first o h

-- ---- a run of the tape

pub nths-zero : (r : RingBuffer) (bytes : List ℕ) (k : ℕ) → nths r bytes k 0 ≡ []
unfolding nths
nths-zero r bytes k = refl

pub length-nths : (r : RingBuffer) (bytes : List ℕ) (k n : ℕ) → length (nths r bytes k n) ≡ n
unfolding nths
length-nths r bytes k zero = refl
length-nths r bytes k (suc n) = ap suc (length-nths r bytes (k + 1) n)

pub get_or-nths : (r : RingBuffer) (bytes : List ℕ) (k n i : ℕ) → i < n → slice_index (nths r bytes k n) i ≡ nth r bytes (k + i)
unfolding nths
get_or-nths r bytes k zero i h = absurd (omega arith)
get_or-nths r bytes k (suc n) zero h = rw add-zero
get_or-nths r bytes k (suc n) (suc i) h =
    let e : k + suc i ≡ k + 1 + i = omega arith in
    rw e (get_or-nths r bytes (k + 1) n i (omega arith))

pub get_or-held : (r : RingBuffer) (bytes : List ℕ) (i : ℕ) → i < r.len → slice_index (held r bytes) i ≡ nth r bytes i
get_or-held r bytes i h = get_or-nths r bytes 0 r.len i h ∙ ap (λ (k : ℕ). nth r bytes k) (zero-add i)

pub nths-append : (r : RingBuffer) (bytes : List ℕ) (k a b : ℕ) → nths r bytes k (a + b) ≡ nths r bytes k a ++ nths r bytes (k + a) b
unfolding nths
nths-append r bytes k zero b =
    let e : 0 + b ≡ b = omega arith in
    rw (e, add-zero)
nths-append r bytes k (suc a) b =
    let e : suc a + b ≡ suc (a + b) = omega arith in
    let f : k + suc a ≡ k + 1 + a = omega arith in
    rw (e, f) (ap (λ (l : List ℕ). nth r bytes k ∷ l) (nths-append r bytes (k + 1) a b))

pub nths-take : (r : RingBuffer) (bytes : List ℕ) (k n a : ℕ) → take a (nths r bytes k n) ≡ nths r bytes k (min a n)
nths-take r bytes k n a =
    ext_get_or 0 (take a (nths r bytes k n)) (nths r bytes k (min a n))
    (simp (length-take, length-nths))
    (λ i l.
    let low : i < min a n = simp (length-take, length-nths) at l in
    get_or-take a (nths r bytes k n) i 0 (omega arith)
    ∙ get_or-nths r bytes k n i (omega arith)
    ∙ sym (get_or-nths r bytes k (min a n) i low))

pub nths-drop : (r : RingBuffer) (bytes : List ℕ) (k n a : ℕ) → drop a (nths r bytes k n) ≡ nths r bytes (k + a) (n - a)
nths-drop r bytes k n a =
    ext_get_or 0 (drop a (nths r bytes k n)) (nths r bytes (k + a) (n - a))
    (simp (length-drop, length-nths))
    (λ i l.
    let low : i < n - a = simp (length-drop, length-nths) at l in
    get_or-drop a (nths r bytes k n) i 0
    ∙ get_or-nths r bytes k n (a + i) (omega arith)
    ∙ rw (← add_assoc) (sym (get_or-nths r bytes (k + a) (n - a) i low)))

-- only the start and the capacity say where a run stands
pub nths-same : (r q : RingBuffer) (bytes : List ℕ) → r.start ≡ q.start → r.capacity ≡ q.capacity → (k n : ℕ) → nths r bytes k n ≡ nths q bytes k n
unfolding nths nth
nths-same r q bytes s c k zero = refl
nths-same r q bytes s c k (suc n) = cc (nths-same r q bytes s c (k + 1) n)

nth-from : (r : RingBuffer) (bytes : List ℕ) (k i : ℕ) → nth r bytes (k + i) ≡ nth (ring r.capacity ((r.start + k % r.capacity) % r.capacity) 0 0) bytes i
unfolding nth
nth-from r bytes k i = rw (add-mod-mod, mod-add-mod, add_assoc)

-- a run from the k-th byte on is that from the first byte of a ring that starts there
pub nths-from : (r : RingBuffer) (bytes : List ℕ) (k n : ℕ)
    → nths r bytes k n ≡ nths (ring r.capacity ((r.start + k % r.capacity) % r.capacity) 0 0) bytes 0 n
nths-from r bytes k n =
    let q = ring r.capacity ((r.start + k % r.capacity) % r.capacity) 0 0 in
    ext_get_or 0 (nths r bytes k n) (nths q bytes 0 n)
    (length-nths r bytes k n ∙ sym (length-nths q bytes 0 n))
    (λ i l.
    let low : i < n = simp length-nths at l in
    get_or-nths r bytes k n i low ∙ nth-from r bytes k i ∙ sym (get_or-nths q bytes 0 n i low ∙ ap (λ (j : ℕ). nth q bytes j) (zero-add i)))

-- a byte before the ring's end, counted from the place of the k-th
nth_inside : (r : RingBuffer) (bytes : List ℕ) (k i : ℕ) → (r.start + k) % r.capacity + i < r.capacity
    → nth r bytes (k + i) ≡ slice_index bytes ((r.start + k) % r.capacity + i)
unfolding nth
nth_inside r bytes k i h =
    ap (λ (p : ℕ). slice_index bytes p)
    (ap (λ (p : ℕ). p % r.capacity) (sym (add_assoc r.start k i)) ∙ sym (mod-add-mod (r.start + k) r.capacity i) ∙ mod-eq_of_lt h)

-- a run that does not come to the ring's end stands in one piece
pub nths-piece : (r : RingBuffer) (bytes : List ℕ) (k n : ℕ) → (r.start + k) % r.capacity + n ≤ r.capacity → r.capacity ≤ length bytes
    → nths r bytes k n ≡ take n (drop ((r.start + k) % r.capacity) bytes)
nths-piece r bytes k n h b =
    let p = (r.start + k) % r.capacity in
    let long : length (take n (drop p bytes)) ≡ n = length-take-le n (drop p bytes) (simp length-drop (omega arith)) in
    ext_get_or 0 (nths r bytes k n) (take n (drop p bytes))
    (length-nths r bytes k n ∙ sym long)
    (λ i l.
    let low : i < n = simp length-nths at l in
    get_or-nths r bytes k n i low
    ∙ nth_inside r bytes k i (omega arith)
    ∙ sym (get_or-take n (drop p bytes) i 0 low ∙ get_or-drop p bytes i 0))

-- the two parts, joined, are the held bytes
pub parts_held : (r : RingBuffer) (bytes : List ℕ) → Sound r (length bytes) → first_part r bytes ++ second_part r bytes ≡ held r bytes
unfolding first_part second_part
parts_held r bytes sound =
    let a = min r.len (r.capacity - r.start) in
    let b = r.len - (r.capacity - r.start) in
    let e : r.len ≡ a + b = omega arith in
    let here : (r.start + 0) % r.capacity ≡ r.start = rw add-zero (mod-eq_of_lt sound.inside) in
    let front : nths r bytes 0 a ≡ take a (drop r.start bytes)
    = nths-piece r bytes 0 a (rw here (omega (arith, sound.inside))) sound.room ∙ rw here in
    let back : nths r bytes a b ≡ take b bytes
    = order 0 b
    (λ some.
    let start : (r.start + a) % r.capacity ≡ 0 = ap (λ (p : ℕ). p % r.capacity) (omega (arith, sound.inside)) ∙ mod_self r.capacity in
    nths-piece r bytes a b (rw start (omega (arith, sound.inside, sound.short))) sound.room ∙ rw start)
    (λ none. let z : b ≡ 0 = omega arith in ap (λ (n : ℕ). nths r bytes a n) z ∙ nths-zero r bytes a ∙ ap (λ (n : ℕ). take n bytes) (sym z)) in
    sym (ap (λ (n : ℕ). nths r bytes 0 n) e ∙ nths-append r bytes 0 a b ∙ rw (front, zero-add, back))

-- ---- the fields after a pop, a cut and a prepared write

module _ (r : RingBuffer) where
  pub len-popped : (n : ℕ) → (popped r n).len ≡ r.len - n
  unfolding popped
  len-popped n = refl

  pub first_popped : (n : ℕ) → (popped r n).first ≡ r.first - (n - r.len)
  unfolding popped
  first_popped n = refl

  -- the end of what is cached goes back by what was popped, also by more than was held
  pub end-popped : (n : ℕ) → n ≤ r.first + r.len → (popped r n).first + (popped r n).len ≡ r.first + r.len - n
  unfolding popped
  end-popped n h = omega arith

  pub len-truncated : (len : ℕ) → (truncated r len).len ≡ min r.len (len - r.first)
  unfolding truncated
  len-truncated len = refl

  pub first-truncated : (len : ℕ) → (truncated r len).first ≡ r.first
  unfolding truncated
  first-truncated len = refl

  pub len-prepared : (len : ℕ) → (prepared r len).len ≡ r.len
  unfolding prepared
  len-prepared len = refl

-- ---- a pop, a cut, a prepared write and a reset: the bytes stand where they stood, also those above the length

module _ (r : RingBuffer) (bytes : List ℕ) where
  pub nths-popped : (n k m : ℕ) → nths (popped r n) bytes k m ≡ nths r bytes k m
  unfolding popped
  nths-popped n k m = nths-same (popped r n) r bytes refl refl k m

  pub nths-truncated : (len k m : ℕ) → nths (truncated r len) bytes k m ≡ nths r bytes k m
  unfolding truncated
  nths-truncated len k m = nths-same (truncated r len) r bytes refl refl k m

  pub nths-prepared : (len k m : ℕ) → nths (prepared r len) bytes k m ≡ nths r bytes k m
  unfolding prepared
  nths-prepared len k m = nths-same (prepared r len) r bytes refl refl k m

  pub held-popped : (n : ℕ) → held (popped r n) bytes ≡ take (r.len - n) (held r bytes)
  held-popped n =
      let e : (popped r n).len ≡ min (r.len - n) r.len = len-popped r n ∙ omega arith in
      nths-popped n 0 (popped r n).len
      ∙ ap (λ (m : ℕ). nths r bytes 0 m) e
      ∙ sym (nths-take r bytes 0 r.len (r.len - n))

  pub held-truncated : (len : ℕ) → held (truncated r len) bytes ≡ take (len - r.first) (held r bytes)
  held-truncated len =
      let e : (truncated r len).len ≡ min (len - r.first) r.len = len-truncated r len ∙ omega arith in
      nths-truncated len 0 (truncated r len).len
      ∙ ap (λ (m : ℕ). nths r bytes 0 m) e
      ∙ sym (nths-take r bytes 0 r.len (len - r.first))

  pub held-prepared : (len : ℕ) → held (prepared r len) bytes ≡ held r bytes
  held-prepared len = nths-prepared len 0 (prepared r len).len ∙ ap (λ (m : ℕ). nths r bytes 0 m) (len-prepared r len)

  pub held-reset : (len first : ℕ) → Sound r (length bytes) → len ≤ r.capacity → held (reset_to r len first) bytes ≡ take len bytes
  held-reset len first sound h =
      let start : (0 + 0) % r.capacity ≡ 0 = mod-eq_of_lt (omega (arith, sound.inside)) in
      nths-piece (reset_to r len first) bytes 0 len (rw start (omega arith)) sound.room ∙ rw start

-- ---- a ring stays inside its bytes

module _ (r : RingBuffer) (n : ℕ) (sound : Sound r n) where
  pub sound-pushed : (k missed : ℕ) → Sound (pushed r k missed) n
  unfolding pushed
  sound-pushed k missed =
      record {
        inside = mod-lt (r.start + over r k) (omega (arith, sound.inside));
        short = min-le_right (r.len + k) r.capacity;
        small = sound.small;
        room = sound.room;
      }

  pub sound-popped : (k : ℕ) → Sound (popped r k) n
  unfolding popped
  sound-popped k = record { inside = sound.inside; short = omega (arith, sound.short); small = sound.small; room = sound.room }

  pub sound-truncated : (len : ℕ) → Sound (truncated r len) n
  unfolding truncated
  sound-truncated len = record { inside = sound.inside; short = omega (arith, sound.short); small = sound.small; room = sound.room }

  pub sound-prepared : (len : ℕ) → Sound (prepared r len) n
  unfolding prepared
  sound-prepared len = record { inside = sound.inside; short = sound.short; small = sound.small; room = sound.room }

  pub sound-reset : (len first : ℕ) → len ≤ r.capacity → Sound (reset_to r len first) n
  sound-reset len first h = record { inside = omega (arith, sound.inside); short = h; small = sound.small; room = sound.room }

pub sound-fresh : (capacity first n : ℕ) → 1 ≤ capacity → capacity ≤ 4096 → capacity ≤ n → Sound (fresh capacity first) n
sound-fresh capacity first n some small room = record { inside = omega arith; short = omega arith; small = small; room = room }

-- ---- a push

module _ (r : RingBuffer) (bytes d : List ℕ) (missed : ℕ) (sound : Sound r (length bytes)) (fits : length d ≤ r.capacity) where
  -- a held byte that is not pushed out
  pub push-old : (k : ℕ) → over r (length d) + k < r.len
      → nth (pushed r (length d) missed) (around r.capacity bytes (r.start + r.len) d) k ≡ nth r bytes (over r (length d) + k)
  unfolding pushed nth
  push-old k h =
      rw (mod-add-mod, add_assoc)
      (around-out r.capacity bytes (r.start + r.len) d ((r.start + (over r (length d) + k)) % r.capacity)
      (λ i s z. mod-apart r.capacity (r.start + (over r (length d) + k)) (r.start + r.len + i) (omega arith) (omega arith) (sym z)))

  -- a pushed byte
  pub push-new : (i k : ℕ) → i < length d → over r (length d) + k ≡ r.len + i
      → nth (pushed r (length d) missed) (around r.capacity bytes (r.start + r.len) d) k ≡ slice_index d i
  unfolding pushed nth
  push-new i k h e =
      rw (mod-add-mod, add_assoc, e, ← add_assoc)
      (around-in r.capacity bytes (r.start + r.len) d i sound.room fits h)

  pub len-pushed : (pushed r (length d) missed).len ≡ r.len - over r (length d) + length d
  unfolding pushed
  len-pushed = omega (arith, sound.short)

  -- the held bytes afterwards: what is not pushed out, and the pushed
  pub held-pushed : held (pushed r (length d) missed) (around r.capacity bytes (r.start + r.len) d) ≡ drop (over r (length d)) (held r bytes) ++ d
  held-pushed =
      let q = pushed r (length d) missed in
      let after = around r.capacity bytes (r.start + r.len) d in
      let o = over r (length d) in
      let kept = drop o (held r bytes) in
      let short : r.len ≤ r.capacity = sound.short in
      let long : length kept ≡ r.len - o = simp (length-drop, length-nths) in
      let all : q.len ≡ r.len - o + length d = len-pushed in
      ext_get_or 0 (held q after) (kept ++ d)
      (length-nths q after 0 q.len ∙ all ∙ sym (length-append kept d ∙ ap (λ (n : ℕ). n + length d) long))
      (λ i l.
      let low : i < q.len = simp length-nths at l in
      get_or-held q after i low
      ∙ order i (r.len - o)
      (λ old.
      push-old i (omega arith)
      ∙ sym (get_or-append kept d 0 i (omega arith) ∙ get_or-drop o (held r bytes) i 0 ∙ get_or-held r bytes (o + i) (omega arith)))
      (λ new.
      let j = i - length kept in
      let e : i ≡ length kept + j = omega arith in
      push-new j i (omega arith) (omega arith)
      ∙ sym (ap (λ (n : ℕ). slice_index (kept ++ d) n) e ∙ get_or-append-add kept d j 0)))

  -- a read of what was pushed
  pub nths-pushed : nths (pushed r (length d) missed) (around r.capacity bytes (r.start + r.len) d) ((pushed r (length d) missed).len - length d) (length d) ≡ d
  nths-pushed =
      let q = pushed r (length d) missed in
      let after = around r.capacity bytes (r.start + r.len) d in
      let short : r.len ≤ r.capacity = sound.short in
      let all : q.len ≡ r.len - over r (length d) + length d = len-pushed in
      ext_get_or 0 (nths q after (q.len - length d) (length d)) d
      (length-nths q after (q.len - length d) (length d))
      (λ i l.
      let low : i < length d = simp length-nths at l in
      get_or-nths q after (q.len - length d) (length d) i low ∙ push-new i (q.len - length d + i) low (omega arith))

  -- a pop of the pushed: the held bytes are those that were not pushed out
  pub held-push-pop : held (popped (pushed r (length d) missed) (length d)) (around r.capacity bytes (r.start + r.len) d) ≡ drop (over r (length d)) (held r bytes)
  held-push-pop =
      let q = pushed r (length d) missed in
      let after = around r.capacity bytes (r.start + r.len) d in
      let kept = drop (over r (length d)) (held r bytes) in
      let long : length kept ≡ r.len - over r (length d) = simp (length-drop, length-nths) in
      let e : length kept ≡ q.len - length d = omega (arith, len-pushed) in
      held-popped q after (length d)
      ∙ ap (λ (l : List ℕ). take (q.len - length d) l) held-pushed
      ∙ take_at kept d (q.len - length d) e

  -- and its first index is that of the push
  pub first-push-pop : (popped (pushed r (length d) missed) (length d)).first ≡ (pushed r (length d) missed).first
  first-push-pop = first_popped (pushed r (length d) missed) (length d) ∙ omega (arith, len-pushed)

  pub sound-push : Sound (pushed r (length d) missed) (length (around r.capacity bytes (r.start + r.len) d))
  sound-push = rw length-around (sound-pushed r (length bytes) sound (length d) missed)

-- in a legal state no index wraps
pub no_wrap : (r : RingBuffer) (n missed : ℕ) → r.first + r.len + missed + n < 2 ^ 64 → (r.first + over r n + missed) % 2 ^ 64 ≡ r.first + over r n + missed
no_wrap r n missed h = mod-eq_of_lt (omega arith)

pub first-pushed : (r : RingBuffer) (n missed : ℕ) → r.first + r.len + missed + n < 2 ^ 64 → (pushed r n missed).first ≡ r.first + over r n + missed
unfolding pushed
first-pushed r n missed h = no_wrap r n missed h
