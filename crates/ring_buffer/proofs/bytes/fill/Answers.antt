use Rattle.std.proofs.Common.{◌≡◌, ℕ, ◌+◌, ◌-◌, ◌%◌, ◌<◌, ◌≤◌, min, List, ◌++◌, length, take, drop, sym, refl, ap, ◌∙◌, append-nil, add-zero, mod-lt, mod-eq_of_lt, zero-add, arith, drop_of_length-le}
use native.Mathlib.Nat.{mod_self, mod-add-mod}
use Rattle.octets.specs.Bytes.{put, length-put, put-append, put_front}
use Rattle.ring_buffer.specs.Ring.{nths}
use Rattle.ring_buffer.specs.RingLaws.{length-nths, nths-zero, nths-append, nths-piece, nths-from}
use Rattle.ring_buffer.proofs.bytes.fill.Invariants.{from, Inv}
use Rattle.ring_buffer.proofs.bytes.fill.Goals as goal

-- one more piece, as long as the ring's end and the slice's allow
turn : (bytes out₀ : List ℕ) (c p : ℕ) (out : List ℕ) (place done n : ℕ) → c ≤ length bytes → Inv bytes out₀ c p out place done → done < length out₀
    → n ≡ min (c - place) (length out₀ - done) → Inv bytes out₀ c p (put out done (take n (drop place bytes))) 0 (done + n)
turn bytes out₀ c p out place done n room inv more e =
    let at : (p + done) % c ≡ place = inv.here more in
    let run = nths (from c p) bytes 0 done in
    let piece : nths (from c p) bytes done n ≡ take n (drop place bytes)
    = nths-piece (from c p) bytes done n (rw at (omega arith)) room ∙ rw at in
    let all : nths (from c p) bytes 0 (done + n) ≡ run ++ take n (drop place bytes)
    = nths-append (from c p) bytes 0 done n ∙ rw (zero-add done, piece) in
    record {
      long = length-put out done (take n (drop place bytes)) ∙ inv.long;
      within = omega arith;
      inside = omega arith;
      here = λ l.
          let v : place + n ≡ c = omega arith in
          let w : p + (done + n) ≡ p + done + n = omega arith in
          ap (λ (x : ℕ). x % c) w ∙ sym (mod-add-mod (p + done) c n) ∙ ap (λ (x : ℕ). (x + n) % c) at ∙ ap (λ (x : ℕ). x % c) v ∙ mod_self c;
      filled = ap (λ (l : List ℕ). put l done (take n (drop place bytes))) inv.filled
          ∙ ap (λ (k : ℕ). put (put out₀ 0 run) k (take n (drop place bytes))) (sym (length-nths (from c p) bytes 0 done))
          ∙ ap (λ (k : ℕ). put (put out₀ 0 run) k (take n (drop place bytes))) (sym (zero-add (length run)))
          ∙ sym (ap (λ (l : List ℕ). put out₀ 0 l) all ∙ put-append out₀ 0 run (take n (drop place bytes)));
    }

-- a slice that is full holds the run and nothing else
full : (bytes out₀ : List ℕ) (c p : ℕ) (out : List ℕ) (place done : ℕ) → Inv bytes out₀ c p out place done → length out₀ ≤ done
    → out ≡ nths (from c p) bytes 0 (length out₀)
full bytes out₀ c p out place done inv h =
    let e : done ≡ length out₀ = omega arith in
    let run = nths (from c p) bytes 0 (length out₀) in
    let long : length run ≡ length out₀ = length-nths (from c p) bytes 0 (length out₀) in
    inv.filled
    ∙ ap (λ (k : ℕ). put out₀ 0 (nths (from c p) bytes 0 k)) e
    ∙ put_front out₀ run (omega arith)
    ∙ ap (λ (l : List ℕ). run ++ l) (drop_of_length-le out₀ {i = length run} (omega arith))
    ∙ append-nil run

pub overflow_add-place : goal.overflow_add-place
overflow_add-place c =
    omega (arith, mod-lt c.args.k {m = c.args.ring.capacity} (omega arith))

pub loop-done-init : goal.loop-done-init
unfolding put
loop-done-init c =
    let ring = c.args.ring in
    let p = (ring.start + c.args.k % ring.capacity) % ring.capacity in
    let low : p < ring.capacity = mod-lt (ring.start + c.args.k % ring.capacity) (omega arith) in
    record {
      long = refl;
      within = omega arith;
      inside = low;
      here = λ l. ap (λ (x : ℕ). x % ring.capacity) (add-zero p) ∙ mod-eq_of_lt low;
      filled = sym (ap (λ (l : List ℕ). put c.args.out.now 0 l) (nths-zero (from ring.capacity p) c.args.bytes.now 0));
    }

pub loop-done-preserved : goal.loop-done-preserved
loop-done-preserved c =
    let ring = c.args.ring in
    let n = c.min-n.result in
    let p = (ring.start + c.args.k % ring.capacity) % ring.capacity in
    let least : n ≡ min (ring.capacity - c.loop-done.place) (length c.args.out.now - c.loop-done.done) = c.min-n.ensures in
    let e : c.loop-done.place + n - c.loop-done.place ≡ n = omega arith in
    let copied : c.copy_in.new.s ≡ put c.loop-done.out c.loop-done.done (take (c.loop-done.place + n - c.loop-done.place) (drop c.loop-done.place c.args.bytes.now)) = c.copy_in.ensures in
    let more : c.loop-done.done < length c.args.out.now = omega arith in
    rw (copied, e) (turn c.args.bytes.now c.args.out.now ring.capacity p c.loop-done.out c.loop-done.place c.loop-done.done n (omega arith) c.loop-done.invariant more least)

pub returns : goal.returns
returns c =
    let ring = c.args.ring in
    let p = (ring.start + c.args.k % ring.capacity) % ring.capacity in
    full c.args.bytes.now c.args.out.now ring.capacity p c.loop-done.out c.loop-done.place c.loop-done.done c.loop-done.invariant (omega arith)
    ∙ sym (nths-from ring c.args.bytes.now c.args.k (length c.args.out.now))
