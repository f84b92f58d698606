-- A put through the cache. Document 01, "Cache steps": "Files get staged bytes when the next append would push unwritten ones out, when one append fills
-- the cache, or at commit." Assumes nothing.
use Rattle.std.specs.Prelude.{◌≡◌, ℕ, ◌+◌, ◌-◌, ◌%◌, ◌≤◌, Bool, cond, List, [], ◌++◌, length, drop, nat_le, nat_lt, refl}
use Rattle.std.proofs.Common.{sym, ap, ◌∙◌, mod-lt, arith, length-drop}
use Rattle.std.proofs.Math.Nat.{add-mod-mod}
use Rattle.ring_buffer.specs.declared.bookkeeping.RingBuffer.{RingBuffer}
use Rattle.ring_buffer.specs.Ring.{Sound, held, nths, around, ring, over, pushed, prepared, last_held}
use Rattle.ring_buffer.specs.RingLaws.{nths-same, nths-from, sound-pushed, sound-prepared, held-pushed, held-prepared}

-- n bytes in one put fill the cache
abbrev pub fills : RingBuffer → ℕ → Bool
fills r n = nat_le r.capacity n

-- n bytes would push unwritten ones out
abbrev pub pushes_out : RingBuffer → ℕ → ℕ → Bool
pushes_out r unwritten n = nat_lt r.capacity (unwritten + n)

-- the last bytes of a put, as many as the ring has room for; the others go by it
abbrev pub last_of : RingBuffer → List ℕ → List ℕ
last_of r d = drop (length d - r.capacity) d

abbrev pub go_by : RingBuffer → List ℕ → ℕ
go_by r d = length d - r.capacity

-- the ring, and its bytes, after a put to a tape of a length
unfoldable pub after_put : RingBuffer → ℕ → List ℕ → RingBuffer
after_put r len d = pushed (prepared r len) (length (last_of r d)) (go_by r d)

unfoldable pub bytes_after_put : RingBuffer → List ℕ → List ℕ → List ℕ
bytes_after_put r bytes d = around r.capacity bytes (r.start + r.len) (last_of r d)

-- the unwritten bytes: the last that are held
unfoldable pub unwritten_of : RingBuffer → List ℕ → ℕ → List ℕ
unwritten_of r bytes unwritten = nths r bytes (r.len - unwritten) unwritten

-- what a put sends to the files, from the first unwritten byte on: its own bytes too if it fills the cache, else only what it would push out
unfoldable pub sent : RingBuffer → List ℕ → ℕ → List ℕ → List ℕ
sent r bytes unwritten d =
    cond (fills r (length d)) (unwritten_of r bytes unwritten ++ d)
    (cond (pushes_out r unwritten (length d)) (unwritten_of r bytes unwritten) [])

-- how many bytes are unwritten after it
unfoldable pub unwritten_after : RingBuffer → ℕ → ℕ → ℕ
unwritten_after r unwritten n = cond (fills r n) 0 (cond (pushes_out r unwritten n) n (unwritten + n))

-- ---- laws

-- the ring never gets more than it has room for
pub last_fits : (r : RingBuffer) (d : List ℕ) → length (last_of r d) ≤ r.capacity
last_fits r d = omega (arith, length-drop (length d - r.capacity) d)

pub sound-put : (r : RingBuffer) (n len : ℕ) (d : List ℕ) → Sound r n → Sound (after_put r len d) n
unfolding after_put
sound-put r n len d sound = sound-pushed (prepared r len) n (sound-prepared r n sound len) (length (last_of r d)) (go_by r d)

-- after a put the ring holds what it kept, and then the last of the new bytes
pub held-put : (r : RingBuffer) (bytes : List ℕ) (len : ℕ) (d : List ℕ) → Sound r (length bytes)
    → held (after_put r len d) (bytes_after_put r bytes d) ≡ drop (over r (length (last_of r d))) (held r bytes) ++ last_of r d
unfolding after_put bytes_after_put prepared
held-put r bytes len d sound =
    held-pushed (prepared r len) bytes (last_of r d) (go_by r d) (sound-prepared r (length bytes) sound len) (last_fits r d)
    ∙ ap (λ (l : List ℕ). drop (over r (length (last_of r d))) l ++ last_of r d) (held-prepared r bytes len)

-- a ring over the last held bytes lies in the same bytes ..
pub sound-last : (r : RingBuffer) (n : ℕ) → Sound r n → (k : ℕ) → k ≤ r.len → Sound (last_held r k) n
unfolding last_held
sound-last r n sound k h =
    record {
      inside = mod-lt (r.start + (r.len - k)) (omega (arith, sound.inside));
      short = omega (arith, sound.short);
      small = sound.small;
      room = sound.room;
    }

-- .. and what it holds are the unwritten ones
pub held-last : (r : RingBuffer) (bytes : List ℕ) (n : ℕ) → held (last_held r n) bytes ≡ unwritten_of r bytes n
unfolding last_held unwritten_of
held-last r bytes n =
    let k = r.len - n in
    let from = ring r.capacity ((r.start + k % r.capacity) % r.capacity) 0 0 in
    sym (nths-from r bytes k n ∙ nths-same from (last_held r n) bytes (add-mod-mod r.start k r.capacity) refl 0 n)
