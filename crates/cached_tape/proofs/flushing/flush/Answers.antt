-- `flush` leaves `flushed`: covering the files changes rows of tracking alone, so the unwritten bytes are then still those of before. Assumes nothing.
-- the unwritten bytes end where the tape does
use Rattle.std.proofs.Common.{◌≡◌, sym, ap, ◌∙◌, ◌≢◌, List, ℕ, ◌+◌, ◌≤◌, ◌<◌, ◌^◌, arith}
use Rattle.octets.specs.Only.{OnlyIn}
use Rattle.layout.specs.Disk.{Sound}
use Rattle.layout.specs.Session.{Begun, handle_number, file_size_of, ring_len}
use Rattle.session.specs.declared.tape_rows.Staged.{Staged}
use Rattle.session.specs.RowLaws.{handle-size}
use Rattle.rolling_tape.specs.Removal.{Areas, areas}
use Rattle.rolling_tape.specs.Writing.{write_run}
use Rattle.cached_tape.specs.Flushing.{cover_run, unwritten_from, unwritten_bytes}
use Rattle.cached_tape.specs.FlushLaws.{begun_kept, number-kept, ring_len-kept, only-cover_run, sound-cover_run, flushed-after}
use Rattle.cached_tape.proofs.flushing.flush.Goals as goal

end_fits : (s : List ℕ) (p : ℕ) (row : Staged) → Begun s → p < 8 → handle_number s p ≢ 0 → row.unwritten ≤ ring_len s p → row.len < 2 ^ 64
    → unwritten_from row + row.unwritten < 2 ^ 64
end_fits s p row begun tape held pending fits =
    let ring = (begun.tapes p tape held).ring in
    omega (arith, ring.short, ring.small)

-- what covering leaves
record Ready (p : ℕ) (row : Staged) (t u : List ℕ) : Type 0 where
  sound : Sound t
  begun : Begun u
  held : handle_number u p ≢ 0
  pending : row.unwritten ≤ ring_len u p

module _ (a : Areas) (place p : ℕ) (row : Staged) (sound : Sound a.disk) (begun : Begun a.session) (low : place < 8) (tape : p < 8)
    (held : handle_number a.session p ≢ 0) (pending : row.unwritten ≤ ring_len a.session p) (fits : row.len < 2 ^ 64) where
  ready : (t u : List ℕ) → cover_run a place (file_size_of a.session p) (unwritten_from row) row.unwritten ≡ areas t u → Ready p row t u
  ready t u e =
      let s = a.session in
      let fs = file_size_of s p in
      let end = end_fits s p row begun tape held pending fits in
      let disk : (cover_run a place fs (unwritten_from row) row.unwritten).disk ≡ t = ap (λ (x : Areas). x.disk) e in
      let session : (cover_run a place fs (unwritten_from row) row.unwritten).session ≡ u = ap (λ (x : Areas). x.session) e in
      let only : OnlyIn 4936 5960 s u = rw session at (only-cover_run a place fs (unwritten_from row) row.unwritten sound.head.few) in
      let kept = sound-cover_run a place fs (unwritten_from row) row.unwritten sound low (begun.tapes p tape held).file-some (omega arith) in
      record {
        sound = rw disk at kept;
        begun = begun_kept s u only begun;
        held = rw (number-kept s u only p tape) held;
        pending = rw (ring_len-kept s u only p tape) pending;
      }

pub cover_run-requires : goal.cover_run-requires
cover_run-requires c =
    let s = c.args.session.now in
    let p = c.args.tape in
    let size : c.get_handle-file_size.result.file_size ≡ file_size_of s p = handle-size s p c.get_handle-file_size.result c.get_handle-file_size.ensures in
    let row_fits = c.requires.0.0.1.tapes p c.requires.0.1.1 c.requires.1.0 in
    let off : c.saturating_sub-offset.result ≡ unwritten_from c.args.row = c.saturating_sub-offset.ensures in
    let end = end_fits s p c.args.row c.requires.0.0.1 c.requires.0.1.1 c.requires.1.0 c.requires.1.1 (omega arith) in
    ((c.requires.0.0.0, c.requires.0.0.1.long), (c.requires.0.1.0, (omega (arith, row_fits.file-some), omega arith)))

pub write_last-requires : goal.write_last-requires
write_last-requires c =
    let s = c.args.session.now in
    let p = c.args.tape in
    let a = areas c.args.disk.now s in
    let t = c.cover_run.new.disk in
    let u = c.cover_run.new.session in
    let size : c.get_handle-file_size.result.file_size ≡ file_size_of s p = handle-size s p c.get_handle-file_size.result c.get_handle-file_size.ensures in
    let off : c.saturating_sub-offset.result ≡ unwritten_from c.args.row = c.saturating_sub-offset.ensures in
    let e : cover_run a c.args.place c.get_handle-file_size.result.file_size c.saturating_sub-offset.result c.args.row.unwritten ≡ areas t u = c.cover_run.ensures in
    let r = ready a c.args.place p c.args.row c.requires.0.0.0 c.requires.0.0.1 c.requires.0.1.0 c.requires.0.1.1 c.requires.1.0 c.requires.1.1
    (omega arith) t u (rw (size, off) at e) in
    let end = end_fits s p c.args.row c.requires.0.0.1 c.requires.0.1.1 c.requires.1.0 c.requires.1.1 (omega arith) in
    (((r.sound, r.begun), (c.requires.0.1.0, c.requires.0.1.1)), (r.held, (r.pending, omega arith)))

pub returns : goal.returns
returns c =
    let s = c.args.session.now in
    let p = c.args.tape in
    let a = areas c.args.disk.now s in
    let t = c.cover_run.new.disk in
    let u = c.cover_run.new.session in
    let size : c.get_handle-file_size.result.file_size ≡ file_size_of s p = handle-size s p c.get_handle-file_size.result c.get_handle-file_size.ensures in
    let off : c.saturating_sub-offset.result ≡ unwritten_from c.args.row = c.saturating_sub-offset.ensures in
    let e : cover_run a c.args.place c.get_handle-file_size.result.file_size c.saturating_sub-offset.result c.args.row.unwritten ≡ areas t u = c.cover_run.ensures in
    let w : c.write_last.new.disk ≡ write_run t c.args.place (file_size_of u p) c.saturating_sub-offset.result (unwritten_bytes u p c.args.row.unwritten) = c.write_last.ensures in
    flushed-after a c.args.place p c.args.row t u c.requires.0.0.0.head.few c.requires.0.1.1 (rw (size, off) at e)
    ∙ ap (λ (d : List ℕ). areas d u) (sym (rw off at w))
