-- `send` leaves `sent_to`: what was flushed has changed no row of a tape, so the handle that is read afterwards has the same file size. Assumes nothing.
use Rattle.std.proofs.Common.{◌≡◌, sym, ap, ◌∙◌, ℕ, arith}
use Rattle.layout.specs.Session.{file_size_of}
use Rattle.ring_buffer.specs.declared.bookkeeping.RingBuffer.{RingBuffer}
use Rattle.session.specs.Rows.{ring_of}
use Rattle.session.specs.RowLaws.{handle-size}
use Rattle.rolling_tape.specs.Removal.{Areas, areas}
use Rattle.cached_tape.specs.Flushing.{wrote, flushed}
use Rattle.cached_tape.specs.FlushLaws.{file_size_of-kept}
use Rattle.cached_tape.specs.PutLaws.{kept-flushed, sent-fills, sent-out, sent-none}
use Rattle.rolling_tape.specs.Kept.{KeptSound}
use Rattle.cached_tape.proofs.putting.send.Goals as goal

pub write_through-requires : goal.write_through-requires
write_through-requires c =
    let d = c.args.disk.now in
    let s = c.args.session.now in
    let p = c.args.tape in
    let d₁ = c.flush.new.disk in
    let s₁ = c.flush.new.session in
    let e : flushed (areas d s) c.args.place p c.args.row ≡ areas d₁ s₁ = c.flush.ensures in
    let kept : KeptSound (areas d s) (areas d₁ s₁) = rw e at (kept-flushed (areas d s) c.args.place p c.args.row c.requires.0.0.0 c.requires.0.0.1 c.requires.0.1.0 c.requires.0.1.1 c.requires.1.0 c.requires.1.1.0 (omega arith)) in
    let size : c.get_handle-file_size.result.file_size ≡ file_size_of s p = handle-size s₁ p c.get_handle-file_size.result c.get_handle-file_size.ensures ∙ file_size_of-kept s s₁ kept.only p c.requires.0.1.1 in
    let fits = c.requires.0.0.1.tapes p c.requires.0.1.1 c.requires.1.0 in
    ((kept.sound, rw kept.only.long c.requires.0.0.1.long), (c.requires.0.1.0, ((omega arith, omega arith), c.requires.1.1.1)))

pub returns-then-capacity-n : goal.returns-then-capacity-n
returns-then-capacity-n c =
    let d = c.args.disk.now in
    let s = c.args.session.now in
    let p = c.args.tape in
    let d₁ = c.flush.new.disk in
    let s₁ = c.flush.new.session in
    let e : flushed (areas d s) c.args.place p c.args.row ≡ areas d₁ s₁ = c.flush.ensures in
    let kept : KeptSound (areas d s) (areas d₁ s₁) = rw e at (kept-flushed (areas d s) c.args.place p c.args.row c.requires.0.0.0 c.requires.0.0.1 c.requires.0.1.0 c.requires.0.1.1 c.requires.1.0 c.requires.1.1.0 (omega arith)) in
    let size : c.get_handle-file_size.result.file_size ≡ file_size_of s p = handle-size s₁ p c.get_handle-file_size.result c.get_handle-file_size.ensures ∙ file_size_of-kept s s₁ kept.only p c.requires.0.1.1 in
    let same : c.get_ring-capacity.result.capacity ≡ (ring_of s p).capacity = ap (λ (r : RingBuffer). r.capacity) c.get_ring-capacity.ensures in
    sent-fills (areas d s) c.args.place p c.args.row c.args.src.now (omega arith)
    ∙ ap (λ (b : Areas). wrote b c.args.place (file_size_of s p) c.args.row.len c.args.src.now) e
    ∙ ap (λ (k : ℕ). wrote (areas d₁ s₁) c.args.place k c.args.row.len c.args.src.now) (sym size)
    ∙ c.write_through.ensures

pub returns-then-capacity-n-2 : goal.returns-then-capacity-n-2
returns-then-capacity-n-2 c =
    let d = c.args.disk.now in
    let s = c.args.session.now in
    let p = c.args.tape in
    let same : c.get_ring-capacity.result.capacity ≡ (ring_of s p).capacity = ap (λ (r : RingBuffer). r.capacity) c.get_ring-capacity.ensures in
    sent-out (areas d s) c.args.place p c.args.row c.args.src.now (omega arith) (omega arith) ∙ c.flush-then-capacity-n-2.ensures

pub returns-else-capacity-n-2 : goal.returns-else-capacity-n-2
returns-else-capacity-n-2 c =
    let d = c.args.disk.now in
    let s = c.args.session.now in
    let p = c.args.tape in
    let same : c.get_ring-capacity.result.capacity ≡ (ring_of s p).capacity = ap (λ (r : RingBuffer). r.capacity) c.get_ring-capacity.ensures in
    sent-none (areas d s) c.args.place p c.args.row c.args.src.now (omega arith) (omega arith)
