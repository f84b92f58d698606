-- `write_last` writes the unwritten bytes: the two parts of the ring over them alone, one behind the other, are one run. Assumes nothing.
-- what the calls answer, for a tape that is open
use Rattle.std.proofs.Common.{length, ◌≡◌, ap, ◌∙◌, ◌≢◌, List, ℕ, ◌+◌, ◌≤◌, ◌<◌, arith}
use Rattle.layout.specs.Disk.{Sound}
use Rattle.layout.specs.Session.{Begun, handle_number, file_size_of, ring_len}
use Rattle.ring_buffer.specs.Ring.{first_part, second_part, last_held, Sound as RingSound}
use Rattle.ring_buffer.specs.declared.bookkeeping.RingBuffer.{RingBuffer}
use Rattle.session.specs.KeepLaws.{ring-sound}
use Rattle.session.specs.Rows.{handle_of, ring_of, ring_bytes}
use Rattle.session.specs.declared.tape_rows.Handle.{Handle}
use Rattle.session.specs.RowLaws.{handle-size}
use Rattle.rolling_tape.specs.Writing.{write_run}
use Rattle.rolling_tape.specs.WritingLaws.{sound-write_run}
use Rattle.cached_tape.specs.FlushLaws.{pending-ring, sound-last_ring, length-parts, write-parts}
use Rattle.cached_tape.proofs.flushing.write_last.Goals as goal

record Got (s : List ℕ) (p n : ℕ) (handle : Handle) (last : RingBuffer) (bytes : List ℕ) : Type 0 where
  size : handle.file_size ≡ file_size_of s p
  some : 0 < handle.file_size
  small : handle.file_size ≤ 4096
  ring : last ≡ last_held (ring_of s p) n
  part : bytes ≡ ring_bytes s p
  sound : RingSound last (length bytes)
  short : length (first_part last bytes) + length (second_part last bytes) ≡ n

module _ (s : List ℕ) (p n : ℕ) (begun : Begun s) (tape : p < 8) (held : handle_number s p ≢ 0) (pending : n ≤ ring_len s p) where
  got : (handle : Handle) (ring last : RingBuffer) (bytes : List ℕ) → handle ≡ handle_of s p → ring ≡ ring_of s p → last ≡ last_held ring n → bytes ≡ ring_bytes s p
      → Got s p n handle last bytes
  got handle ring last bytes h r l b =
      let row = begun.tapes p tape held in
      let size : handle.file_size ≡ file_size_of s p = handle-size s p handle h in
      let e : last ≡ last_held (ring_of s p) n = l ∙ ap (λ (x : RingBuffer). last_held x n) r in
      record {
        size = size;
        some = omega (arith, row.file-some);
        small = omega (arith, row.file-small);
        ring = e;
        part = b;
        sound = rw (e, b) (sound-last_ring s p n begun tape held pending);
        short = rw (e, b) (length-parts s p n begun tape held pending);
      }

pub last-last-requires : goal.last-last-requires
last-last-requires c =
    let s = c.args.session.now in
    let r : c.get_ring.result ≡ ring_of s c.args.tape = c.get_ring.ensures in
    let sound = ring-sound s c.requires.0.0.1 c.args.tape c.requires.0.1.1 c.requires.1.0 in
    let held = pending-ring s c.args.tape c.args.count c.requires.1.1.0 in
    rw r (record { inside = sound.inside; short = sound.short; small = sound.small; room = omega arith }, held)

pub first_part-first-requires : goal.first_part-first-requires
first_part-first-requires c =
    let g = got c.args.session.now c.args.tape c.args.count c.requires.0.0.1 c.requires.0.1.1 c.requires.1.0 c.requires.1.1.0
    c.get_handle-file_size.result c.get_ring.result c.last-last.result c.ring_part-bytes.result.now c.get_handle-file_size.ensures c.get_ring.ensures c.last-last.ensures c.ring_part-bytes.ensures in
    g.sound

pub write_run-requires : goal.write_run-requires
write_run-requires c =
    let g = got c.args.session.now c.args.tape c.args.count c.requires.0.0.1 c.requires.0.1.1 c.requires.1.0 c.requires.1.1.0
    c.get_handle-file_size.result c.get_ring.result c.last-last.result c.ring_part-bytes.result.now c.get_handle-file_size.ensures c.get_ring.ensures c.last-last.ensures c.ring_part-bytes.ensures in
    let f : length c.first_part-first.result.now ≡ length (first_part c.last-last.result c.ring_part-bytes.result.now) = ap length c.first_part-first.ensures in
    let short = g.short in
    ((c.requires.0.0.0, c.requires.0.1.0), ((g.some, g.small), omega arith))

pub overflow_add-behind : goal.overflow_add-behind
overflow_add-behind c =
    let g = got c.args.session.now c.args.tape c.args.count c.requires.0.0.1 c.requires.0.1.1 c.requires.1.0 c.requires.1.1.0
    c.get_handle-file_size.result c.get_ring.result c.last-last.result c.ring_part-bytes.result.now c.get_handle-file_size.ensures c.get_ring.ensures c.last-last.ensures c.ring_part-bytes.ensures in
    let f : length c.first_part-first.result.now ≡ length (first_part c.last-last.result c.ring_part-bytes.result.now) = ap length c.first_part-first.ensures in
    let short = g.short in
    omega arith

pub second_part-second-requires : goal.second_part-second-requires
second_part-second-requires c =
    let g = got c.args.session.now c.args.tape c.args.count c.requires.0.0.1 c.requires.0.1.1 c.requires.1.0 c.requires.1.1.0
    c.get_handle-file_size.result c.get_ring.result c.last-last.result c.ring_part-bytes.result.now c.get_handle-file_size.ensures c.get_ring.ensures c.last-last.ensures c.ring_part-bytes.ensures in
    g.sound

pub write_run-requires-2 : goal.write_run-requires-2
write_run-requires-2 c =
    let g = got c.args.session.now c.args.tape c.args.count c.requires.0.0.1 c.requires.0.1.1 c.requires.1.0 c.requires.1.1.0
    c.get_handle-file_size.result c.get_ring.result c.last-last.result c.ring_part-bytes.result.now c.get_handle-file_size.ensures c.get_ring.ensures c.last-last.ensures c.ring_part-bytes.ensures in
    let fs = c.get_handle-file_size.result.file_size in
    let w : c.write_run.new.disk ≡ write_run c.args.disk.now c.args.place fs c.args.offset c.first_part-first.result.now = c.write_run.ensures in
    let sound : Sound c.write_run.new.disk
    = rw w (sound-write_run c.args.disk.now c.args.place fs c.args.offset c.first_part-first.result.now c.requires.0.0.0 g.some g.small) in
    let f : length c.first_part-first.result.now ≡ length (first_part c.last-last.result c.ring_part-bytes.result.now) = ap length c.first_part-first.ensures in
    let b : length c.second_part-second.result.now ≡ length (second_part c.last-last.result c.ring_part-bytes.result.now) = ap length c.second_part-second.ensures in
    let short = g.short in
    ((sound, c.requires.0.1.0), ((g.some, g.small), omega arith))

pub returns : goal.returns
returns c =
    let s = c.args.session.now in
    let p = c.args.tape in
    let g = got s p c.args.count c.requires.0.0.1 c.requires.0.1.1 c.requires.1.0 c.requires.1.1.0
    c.get_handle-file_size.result c.get_ring.result c.last-last.result c.ring_part-bytes.result.now c.get_handle-file_size.ensures c.get_ring.ensures c.last-last.ensures c.ring_part-bytes.ensures in
    let fs = c.get_handle-file_size.result.file_size in
    let size : fs ≡ file_size_of s p = g.size in
    let bytes = c.ring_part-bytes.result.now in
    let f : c.first_part-first.result.now ≡ first_part c.last-last.result bytes = c.first_part-first.ensures in
    let b : c.second_part-second.result.now ≡ second_part c.last-last.result bytes = c.second_part-second.ensures in
    let w : c.write_run.new.disk ≡ write_run c.args.disk.now c.args.place fs c.args.offset c.first_part-first.result.now = c.write_run.ensures in
    let v : c.write_run-2.new.disk ≡ write_run c.write_run.new.disk c.args.place fs (c.args.offset + length c.first_part-first.result.now) c.second_part-second.result.now
    = c.write_run-2.ensures in
    let law = write-parts s p c.args.count c.requires.0.0.1 c.requires.0.1.1 c.requires.1.0 c.requires.1.1.0
    c.args.disk.now c.args.place fs c.args.offset c.requires.0.0.0 g.some g.small in
    let ring = g.ring in
    let part = g.part in
    rw (v, w, f, b, ring, part) (law ∙ rw size)
