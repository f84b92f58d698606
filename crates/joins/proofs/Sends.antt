-- What goes to a tape's files, at a flush and at a put: over the two areas it is `flush` and `put_held` of `held`. Assumes nothing.
use Rattle.std.specs.Prelude.{◌≡◌, true, false, List, [], ◌++◌, ℕ, ◌+◌, ◌≤◌, length}
use Rattle.std.proofs.Math.Path.{refl, sym, ap}
use Rattle.std.proofs.Common.{◌∙◌, arith}
use Rattle.octets.specs.Cases.{decide}
use Rattle.components.specs.Pieces.{file_of}
use Rattle.components.specs.PiecesLaws.{file-mono}
use Rattle.components.specs.Files.{Files, write}
use Rattle.components.proofs.WriteLaws.{write-append}
use Rattle.components.specs.Slots.{covered as files_covered}
use Rattle.components.proofs.SlotsLaws.{lacking-mono, covered-mono}
use Rattle.layout.specs.Disk.{slots}
use Rattle.layout.specs.Session.{file_size_of, TapeFits}
use Rattle.ring_buffer.specs.Put.{fills, pushes_out, sent}
use Rattle.ring_buffer.specs.declared.bookkeeping.RingBuffer.{RingBuffer}
use Rattle.session.specs.Rows.{ring_of}
use Rattle.session.specs.declared.tape_rows.Staged.{Staged}
use Rattle.rolling_tape.specs.Removal.{Areas}
use Rattle.rolling_tape.specs.Room.{on_disk}
use Rattle.cached_tape.specs.Flushing.{wrote, unwritten_from, unwritten_bytes, flushed}
use Rattle.cached_tape.specs.FlushLaws.{length-unwritten, slots-flushed}
use Rattle.cached_tape.specs.Putting.{sent_to}
use Rattle.held.specs.Held.{flush, put_held}
use Rattle.joins.specs.FilesAt.{files_at, held_at}
use Rattle.joins.specs.Ranges.{last-part, lacking-within}
use Rattle.joins.specs.Writes.{Clean, Grown, Ready, Wrote, wrote-files, clean-wrote}
use Rattle.joins.specs.Sends.{Lacks}

-- ---- a tape that may send bytes to its files: what they lack, and more up to an end

module _ (a : Areas) (place p : ℕ) (row : Staged) where
  abbrev fs : ℕ
  fs = file_size_of a.session p

  abbrev from : ℕ
  from = unwritten_from row

  abbrev lacked : List ℕ
  lacked = unwritten_bytes a.session p row.unwritten

  long : length lacked ≡ row.unwritten
  long = length-unwritten a.session p row.unwritten

  module _ (end : ℕ) (lacks : Lacks a place p row end) where
    sizes : TapeFits a.session p
    sizes = lacks.clean.begun.tapes p lacks.tape lacks.held

    up-to : from + length lacked ≡ row.len
    up-to = omega (arith, long, lacks.inside)

    module _ (past : row.len ≤ end) where
      ready : Ready a place fs from lacked
      ready =
          record {
            clean = lacks.clean;
            directory = lacks.directory;
            some = sizes.file-some;
            small = sizes.file-small;
            fits = omega (arith, up-to, lacks.fits);
            room = rw up-to (omega (arith, lacks.room, lacking-mono fs sizes.file-some (on_disk a.disk place) from row.len end past));
          }

      flushed-up-to : Grown a (flushed a place p row) place (file_of fs from) (files_covered fs from row.len) (flush fs row.len (held_at a place p row.unwritten))
      unfolding flushed flush
      flushed-up-to = rw up-to at (wrote-files a place fs from lacked ready)

      clean-up-to : Clean (flushed a place p row)
      unfolding flushed
      clean-up-to = clean-wrote a place fs from lacked ready

-- ---- a flush

module _ (a : Areas) (place p : ℕ) (row : Staged) (lacks : Lacks a place p row row.len) where
  pub flushed-files : Grown a (flushed a place p row) place (file_of (file_size_of a.session p) (unwritten_from row))
      (files_covered (file_size_of a.session p) (unwritten_from row) row.len)
      (flush (file_size_of a.session p) row.len (held_at a place p row.unwritten))
  flushed-files = flushed-up-to a place p row row.len lacks (omega arith)

-- ---- a put

module _ (a : Areas) (place p : ℕ) (row : Staged) (bs : List ℕ) (lacks : Lacks a place p row (row.len + length bs)) where
  abbrev end : ℕ
  end = row.len + length bs

  abbrev size : ℕ
  size = file_size_of a.session p

  abbrev first : ℕ
  first = file_of (file_size_of a.session p) (unwritten_from row)

  abbrev all : ℕ
  all = files_covered (file_size_of a.session p) (unwritten_from row) (row.len + length bs)

  abbrev then : Areas
  then = flushed a place p row

  abbrev last : Areas
  last = wrote (flushed a place p row) place (file_size_of a.session p) row.len bs

  abbrev flush_bytes : List ℕ
  flush_bytes = unwritten_bytes a.session p row.unwritten

  fit : TapeFits a.session p
  fit = sizes a place p row end lacks

  -- what the files lacked, written
  flush-part : Grown a then place first (files_covered size (unwritten_from row) row.len) (flush size row.len (held_at a place p row.unwritten))
  flush-part = flushed-up-to a place p row end lacks (omega arith)

  -- its numbers are among all
  fewer : files_covered size (unwritten_from row) row.len ≤ all
  fewer = covered-mono size fit.file-some (unwritten_from row) row.len end (omega arith)

  -- and those of the put too
  behind : file_of size row.len + files_covered size row.len end ≤ first + all
  behind = last-part size fit.file-some (unwritten_from row) row.len end (omega arith) (omega arith)

  above : first ≤ file_of size row.len
  above = file-mono size fit.file-some (unwritten_from row) row.len (omega arith)

  same-slots : slots then.disk ≡ slots a.disk
  same-slots = slots-flushed a place p row lacks.clean.sound lacks.clean.begun lacks.directory lacks.tape lacks.held lacks.pending (omega (arith, lacks.fits))

  then_ready : Ready then place size row.len bs
  then_ready =
      record {
        clean = clean-up-to a place p row end lacks (omega arith);
        directory = lacks.directory;
        some = fit.file-some;
        small = fit.file-small;
        fits = omega (arith, lacks.fits);
        room = omega (
          arith,
          same-slots,
          lacks.room,
          flush-part.count first all (omega arith) (omega (arith, fewer)),
          lacking-within (on_disk then.disk place) first all (file_of size row.len) (files_covered size row.len end) above behind,
        );
      }

  last-part-of : Wrote then last place size row.len bs
  last-part-of = wrote-files then place size row.len bs then_ready

  -- all of it at once
  wrote-both : write size (flush size row.len (held_at a place p row.unwritten)) row.len bs ≡ write size (files_at a place) (unwritten_from row) (flush_bytes ++ bs)
  unfolding flush
  wrote-both =
      sym
      (write-append size flush_bytes bs (files_at a place) (unwritten_from row)
      ∙ ap (λ (o : ℕ). write size (write size (files_at a place) (unwritten_from row) flush_bytes) o bs) (up-to a place p row end lacks))

  -- a put that fills the cache
  sent-all : Grown a last place first all (write size (files_at a place) (unwritten_from row) (flush_bytes ++ bs))
  sent-all =
      record {
        own = last-part-of.own ∙ ap (λ (f : Files). write size f row.len bs) flush-part.own ∙ wrote-both;
        other = λ q h. last-part-of.other q h ∙ flush-part.other q h;
        once = last-part-of.once;
        count = λ k e l m. last-part-of.count k e (omega (arith, above)) (omega (arith, behind)) ∙ flush-part.count k e l (omega (arith, fewer));
        there = λ q h j. last-part-of.there q h j ∙ flush-part.there q h j;
      }

  -- one that would push unwritten bytes out
  sent-lacked : Grown a then place first all (write size (files_at a place) (unwritten_from row) flush_bytes)
  unfolding flush
  sent-lacked =
      record {
        own = flush-part.own;
        other = flush-part.other;
        once = flush-part.once;
        count = λ k e l m. flush-part.count k e l (omega (arith, fewer));
        there = flush-part.there;
      }

  -- and one that the cache takes
  sent-nothing : Grown a a place first all (write size (files_at a place) (unwritten_from row) [])
  unfolding write
  sent-nothing = record { own = refl; other = λ q h. refl; once = lacks.clean.once; count = λ k e l m. refl; there = λ q h j. refl }

  abbrev ring : RingBuffer
  ring = ring_of a.session p

  pub sent-files : Grown a (sent_to a place p row bs) place (file_of (file_size_of a.session p) (unwritten_from row))
      (files_covered (file_size_of a.session p) (unwritten_from row) (row.len + length bs))
      (put_held (file_size_of a.session p) row.len (held_at a place p row.unwritten) bs).files
  unfolding sent_to put_held sent
  sent-files =
      decide (fills ring (length bs))
      (λ (e : fills ring (length bs) ≡ true). rw e sent-all)
      (λ (e : fills ring (length bs) ≡ false).
      rw e
      (decide (pushes_out ring row.unwritten (length bs))
      (λ (h : pushes_out ring row.unwritten (length bs) ≡ true). rw h sent-lacked)
      (λ (h : pushes_out ring row.unwritten (length bs) ≡ false). rw h sent-nothing)))
