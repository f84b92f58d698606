-- `put_bytes` leaves `put_in`: what was sent has changed tracking alone, so the cache is still that of an open tape. Assumes nothing.
use Rattle.std.proofs.Common.{length, ◌≡◌, sym, ap, ◌∙◌, true, ℕ, ◌+◌, arith}
use Rattle.ring_buffer.specs.Put.{unwritten_after}
use Rattle.ring_buffer.specs.declared.bookkeeping.RingBuffer.{RingBuffer}
use Rattle.session.specs.Rows.{ring_of, put_staged}
use Rattle.session.specs.declared.tape_rows.Staged.{Staged}
use Rattle.rolling_tape.specs.Removal.{areas}
use Rattle.cached_tape.specs.Putting.{sent_to, cached_in}
use Rattle.cached_tape.specs.FlushLaws.{begun_kept, number-kept}
use Rattle.cached_tape.specs.PutLaws.{kept-sent, put_as}
use Rattle.rolling_tape.specs.Kept.{KeptSound}
use Rattle.cached_tape.proofs.putting.put_bytes.Goals as goal

pub unwritten_after-unwritten-requires : goal.unwritten_after-unwritten-requires
unfolding ring_of
unwritten_after-unwritten-requires c =
    let s = c.args.session.now in
    let same : c.get_ring-ring.result.capacity ≡ (ring_of s c.args.tape).capacity = ap (λ (r : RingBuffer). r.capacity) c.get_ring-ring.ensures in
    let fits = c.requires.0.0.1.tapes c.args.tape c.requires.0.1.1 c.requires.1.0 in
    omega arith

pub cache-requires : goal.cache-requires
cache-requires c =
    let d = c.args.disk.now in
    let s = c.args.session.now in
    let p = c.args.tape in
    let d₁ = c.send.new.disk in
    let s₁ = c.send.new.session in
    let e : sent_to (areas d s) c.args.place p c.args.row c.args.src.now ≡ areas d₁ s₁ = c.send.ensures in
    let kept : KeptSound (areas d s) (areas d₁ s₁) = rw e at (kept-sent (areas d s) c.args.place p c.args.row c.requires.0.0.0 c.requires.0.0.1 c.requires.0.1.0 c.requires.0.1.1 c.requires.1.0 c.requires.1.1.0 c.args.src.now c.requires.1.1.1) in
    let held = c.requires.1.0 in
    (begun_kept s s₁ kept.only c.requires.0.0.1, (c.requires.0.1.1, rw (number-kept s s₁ kept.only p c.requires.0.1.1) held))

pub put_staged-requires : goal.put_staged-requires
put_staged-requires c =
    let long = c.cache.auto.session in
    let same = c.send.auto.session in
    (omega arith, c.requires.0.1.1)

pub returns : goal.returns
returns c =
    let d = c.args.disk.now in
    let s = c.args.session.now in
    let p = c.args.tape in
    let d₁ = c.send.new.disk in
    let s₁ = c.send.new.session in
    let e : sent_to (areas d s) c.args.place p c.args.row c.args.src.now ≡ areas d₁ s₁ = c.send.ensures in
    let row = c.args.row in
    let src = c.args.src.now in
    let s₂ = c.cache.new.session in
    let cached : s₂ ≡ cached_in s₁ p row.len src = c.cache.ensures in
    let left : c.unwritten_after-unwritten.result ≡ unwritten_after (ring_of s p) row.unwritten (length src)
    = c.unwritten_after-unwritten.ensures ∙ ap (λ (r : RingBuffer). unwritten_after r row.unwritten (length src)) c.get_ring-ring.ensures in
    let staged : ℕ → Staged = λ n. record { touched = true; base = row.base; len = row.len + length src; start = row.start; unwritten = n } in
    let put : c.put_staged.new.session ≡ put_staged s₂ p (staged c.unwritten_after-unwritten.result) = c.put_staged.ensures in
    put_as (areas d s) c.args.place p row src d₁ s₁ e
    ∙ ap (areas d₁) (sym (put ∙ rw (cached, left)))
