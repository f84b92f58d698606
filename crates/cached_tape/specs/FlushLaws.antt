-- Bytes that go to a tape's files: of the session only the rows of tracking change, so the tape's row and its ring are as before; both areas stay
-- sound, as long as they were, and bytes. Assumes nothing.
use Rattle.std.specs.Prelude.{◌≡◌, ◌≢◌, true, List, ◌++◌, ℕ, zero, suc, ◌+◌, ◌*◌, ◌-◌, ◌%◌, ◌≤◌, ◌<◌, ◌^◌, ltb, length}
use Rattle.std.proofs.Common.{sym, ◌∙◌, div-le_self, arith, ltb-true, length-append}
use Rattle.std.proofs.Math.Path.{ap}
use Rattle.octets.specs.Cases.{picked}
use Rattle.octets.specs.Number.{Bytes}
use Rattle.octets.specs.Only.{OnlyIn, only_then, only_wider, num_at-only}
use Rattle.components.specs.Pieces.{file_of}
use Rattle.components.specs.PiecesLaws.{file-mono}
use Rattle.components.specs.Slots.{covered as files_covered}
use Rattle.layout.specs.Disk.{data_at, slots, Sound}
use Rattle.layout.specs.Session.{session_bytes, tape_at, handle_number, file_size_of, ring_len, Begun, TapeFits}
use Rattle.ring_buffer.specs.Put.{unwritten_of, sound-last, held-last}
use Rattle.ring_buffer.specs.Ring.{nth, nths, first_part, second_part, last_held, Sound as RingSound}
use Rattle.ring_buffer.specs.RingLaws.{length-nths, parts_held}
use Rattle.ring_buffer.specs.declared.bookkeeping.RingBuffer.{RingBuffer}
use Rattle.session.specs.Rows.{handle_of, ring_of, staged_of, ring_bytes}
use Rattle.session.specs.RowLaws.{handle-only, ring-only, staged-only, ring_bytes-only, length-ring_bytes}
use Rattle.session.specs.KeepLaws.{ring-sound, begun-only, bytes-ring_bytes}
use Rattle.session.specs.declared.tape_rows.Staged.{Staged}
use Rattle.rolling_tape.specs.AppendLaws.{write_run-append}
use Rattle.rolling_tape.specs.Removal.{Areas, areas}
use Rattle.rolling_tape.specs.Writing.{write_run}
use Rattle.rolling_tape.specs.WritingLaws.{length-covered-disk, length-covered-session, slots-covered, sound-covered, only-covered-disk, only-covered-session, bytes-covered-disk, bytes-covered-session, length-write_run, sound-write_run, slots-write_run, only-write_run, bytes-write_run}
use Rattle.cached_tape.specs.Flushing.{cover_run, wrote, unwritten_from, unwritten_bytes, flushed}

-- ---- a step inside the rows of tracking: the rows of the tapes and the rings' bytes are as before

module _ (s t : List ℕ) (only : OnlyIn 4936 5960 s t) where
  pub begun_kept : Begun s → Begun t
  begun_kept begun = begun-only 4936 5960 s t only (λ q. omega arith) (λ q. omega arith) (λ q. omega arith) begun

  pub ring_bytes-kept : (p : ℕ) → ring_bytes t p ≡ ring_bytes s p
  ring_bytes-kept p = ring_bytes-only 4936 5960 s t only p (λ q. omega arith)

  module _ (p : ℕ) (low : p < 8) where
    pub handle-kept : handle_of t p ≡ handle_of s p
    handle-kept = handle-only 4936 5960 s t only p (λ q. omega arith)

    pub ring-kept : ring_of t p ≡ ring_of s p
    ring-kept = ring-only 4936 5960 s t only p (λ q. omega arith)

    pub staged-kept : staged_of t p ≡ staged_of s p
    staged-kept = staged-only 4936 5960 s t only p (λ q. omega arith)

    pub number-kept : handle_number t p ≡ handle_number s p
    number-kept = num_at-only 4936 5960 s t only 8 (tape_at p) (λ q. omega arith)

    pub file_size_of-kept : file_size_of t p ≡ file_size_of s p
    file_size_of-kept = num_at-only 4936 5960 s t only 8 (tape_at p + 2 * 8) (λ q. omega arith)

    pub ring_len-kept : ring_len t p ≡ ring_len s p
    ring_len-kept = num_at-only 4936 5960 s t only 8 (tape_at p + 5 * 8) (λ q. omega arith)

    pub unwritten-kept : (n : ℕ) → unwritten_bytes t p n ≡ unwritten_bytes s p n
    unwritten-kept n = rw (ring-kept, ring_bytes-kept p)

-- ---- the files of a run

-- their numbers are no higher than its offsets
pub files-fit : (fs o n : ℕ) → 0 < fs → o + n ≤ 2 ^ 64 → file_of fs o + files_covered fs o (o + n) ≤ 2 ^ 64
unfolding files_covered
files-fit fs o n z fits =
    picked (λ (k : ℕ). file_of fs o + k ≤ 2 ^ 64) (ltb o (o + n)) (file_of fs (o + n - 1) - file_of fs o + 1) 0
    (λ (e : ltb o (o + n) ≡ true).
    let some : o < o + n = ltb-true o (o + n) e in
    omega (arith, file-mono fs z o (o + n - 1) (omega arith), div-le_self (o + n - 1) fs))
    (λ e. omega (arith, div-le_self o fs))

module _ (a : Areas) (place fs o n : ℕ) where
  pub length-cover_run-disk : length (cover_run a place fs o n).disk ≡ length a.disk
  unfolding cover_run
  length-cover_run-disk = length-covered-disk a place (file_of fs o) (files_covered fs o (o + n))

  pub length-cover_run-session : length (cover_run a place fs o n).session ≡ length a.session
  unfolding cover_run
  length-cover_run-session = length-covered-session a place (file_of fs o) (files_covered fs o (o + n))

  pub slots-cover_run : slots (cover_run a place fs o n).disk ≡ slots a.disk
  unfolding cover_run
  slots-cover_run = slots-covered a place (file_of fs o) (files_covered fs o (o + n))

  module _ (few : slots a.disk ≤ 64) where
    pub only-cover_run-disk : OnlyIn 1312 2848 a.disk (cover_run a place fs o n).disk
    unfolding cover_run
    only-cover_run-disk = only-covered-disk a place (file_of fs o) (files_covered fs o (o + n)) few

    pub only-cover_run : OnlyIn 4936 5960 a.session (cover_run a place fs o n).session
    unfolding cover_run
    only-cover_run = only-covered-session a place (file_of fs o) (files_covered fs o (o + n)) few

    pub bytes-cover_run-session : session_bytes ≤ length a.session → Bytes a.session → Bytes (cover_run a place fs o n).session
    unfolding cover_run
    bytes-cover_run-session long bytes = bytes-covered-session a place (file_of fs o) (files_covered fs o (o + n)) few long bytes

  module _ (sound : Sound a.disk) (low : place < 8) (z : 0 < fs) (fits : o + n ≤ 2 ^ 64) where
    numbers : file_of fs o + files_covered fs o (o + n) ≤ 256 ^ 8
    numbers = files-fit fs o n z fits

    pub sound-cover_run : Sound (cover_run a place fs o n).disk
    unfolding cover_run
    sound-cover_run = sound-covered a place (file_of fs o) (files_covered fs o (o + n)) sound low numbers

    pub bytes-cover_run-disk : Bytes a.disk → Bytes (cover_run a place fs o n).disk
    unfolding cover_run
    bytes-cover_run-disk bytes = bytes-covered-disk a place (file_of fs o) (files_covered fs o (o + n)) sound low numbers bytes

-- ---- bytes written

module _ (a : Areas) (place fs o : ℕ) (bs : List ℕ) where
  -- the files covered
  abbrev covering : Areas
  covering = cover_run a place fs o (length bs)

  pub length-wrote-disk : length (wrote a place fs o bs).disk ≡ length a.disk
  unfolding wrote
  length-wrote-disk = length-write_run covering.disk place fs o bs ∙ length-cover_run-disk a place fs o (length bs)

  pub length-wrote-session : length (wrote a place fs o bs).session ≡ length a.session
  unfolding wrote
  length-wrote-session = length-cover_run-session a place fs o (length bs)

  module _ (few : slots a.disk ≤ 64) where
    pub only_wrote : OnlyIn 4936 5960 a.session (wrote a place fs o bs).session
    unfolding wrote
    only_wrote = only-cover_run a place fs o (length bs) few

    pub begun-wrote : Begun a.session → Begun (wrote a place fs o bs).session
    begun-wrote begun = begun_kept a.session (wrote a place fs o bs).session only_wrote begun

    pub bytes-wrote-session : session_bytes ≤ length a.session → Bytes a.session → Bytes (wrote a place fs o bs).session
    unfolding wrote
    bytes-wrote-session long bytes = bytes-cover_run-session a place fs o (length bs) few long bytes

  module _ (sound : Sound a.disk) (low : place < 8) (z : 0 < fs) (small : fs ≤ 4096) (fits : o + length bs ≤ 2 ^ 64) where
    still : Sound covering.disk
    still = sound-cover_run a place fs o (length bs) sound low z fits

    pub sound-wrote : Sound (wrote a place fs o bs).disk
    unfolding wrote
    sound-wrote = sound-write_run covering.disk place fs o bs still z small

    pub slots-wrote : slots (wrote a place fs o bs).disk ≡ slots a.disk
    unfolding wrote
    slots-wrote = slots-write_run covering.disk place fs o bs still z small ∙ slots-cover_run a place fs o (length bs)

    -- only the file table and the slots' data
    pub only-wrote-disk : OnlyIn 1312 (data_at (slots a.disk)) a.disk (wrote a place fs o bs).disk
    unfolding wrote
    only-wrote-disk =
        let end = data_at (slots a.disk) in
        let run : OnlyIn 1312 end covering.disk (write_run covering.disk place fs o bs)
        = rw (slots-cover_run a place fs o (length bs)) at (only-write_run covering.disk place fs o bs still z small) in
        only_then 1312 end a.disk covering.disk _
        (only_wider 1312 2848 1312 end a.disk covering.disk (omega arith) (omega arith) (only-cover_run-disk a place fs o (length bs) sound.head.few))
        run

    pub bytes-wrote-disk : Bytes a.disk → Bytes bs → Bytes (wrote a place fs o bs).disk
    unfolding wrote
    bytes-wrote-disk old new =
        bytes-write_run covering.disk place fs o bs still z small (bytes-cover_run-disk a place fs o (length bs) sound low z fits old) new

-- ---- the bytes that the files lack, written

pub length-unwritten : (s : List ℕ) (p n : ℕ) → length (unwritten_bytes s p n) ≡ n
unfolding unwritten_of
length-unwritten s p n = length-nths (ring_of s p) (ring_bytes s p) ((ring_of s p).len - n) n

bytes-nths : (r : RingBuffer) (bytes : List ℕ) (k n : ℕ) → Bytes bytes → Bytes (nths r bytes k n)
unfolding nths nth
bytes-nths r bytes k zero b i = omega arith
bytes-nths r bytes k (suc n) b zero = b ((r.start + k) % r.capacity)
bytes-nths r bytes k (suc n) b (suc i) = bytes-nths r bytes (k + 1) n b i

pub bytes-unwritten : (s : List ℕ) (p n : ℕ) → Bytes s → Bytes (unwritten_bytes s p n)
unfolding unwritten_of
bytes-unwritten s p n bytes = bytes-nths (ring_of s p) (ring_bytes s p) ((ring_of s p).len - n) n (bytes-ring_bytes s bytes p)

pub pending-ring : (s : List ℕ) (p n : ℕ) → n ≤ ring_len s p → n ≤ (ring_of s p).len
unfolding ring_of
pending-ring s p n pending = pending

-- in the ring they are two parts: the ring over them alone has them so
module _ (s : List ℕ) (p n : ℕ) (begun : Begun s) (tape : p < 8) (held : handle_number s p ≢ 0) (pending : n ≤ ring_len s p) where
  abbrev last_ring : RingBuffer
  last_ring = last_held (ring_of s p) n

  pub sound-last_ring : RingSound last_ring (length (ring_bytes s p))
  sound-last_ring =
      rw (length-ring_bytes s p (omega (arith, begun.long)))
      (sound-last (ring_of s p) 4096 (ring-sound s begun p tape held) n (pending-ring s p n pending))

  pub parts-unwritten : first_part last_ring (ring_bytes s p) ++ second_part last_ring (ring_bytes s p) ≡ unwritten_bytes s p n
  parts-unwritten = parts_held last_ring (ring_bytes s p) sound-last_ring ∙ held-last (ring_of s p) (ring_bytes s p) n

  pub length-parts : length (first_part last_ring (ring_bytes s p)) + length (second_part last_ring (ring_bytes s p)) ≡ n
  length-parts =
      sym (length-append (first_part last_ring (ring_bytes s p)) (second_part last_ring (ring_bytes s p)))
      ∙ ap length parts-unwritten
      ∙ length-unwritten s p n

  -- one part written behind the other
  pub write-parts : (d : List ℕ) (place fs o : ℕ) → Sound d → 0 < fs → fs ≤ 4096
      → write_run (write_run d place fs o (first_part last_ring (ring_bytes s p))) place fs (o + length (first_part last_ring (ring_bytes s p))) (second_part last_ring (ring_bytes s p))
      ≡ write_run d place fs o (unwritten_bytes s p n)
  write-parts d place fs o sound z small =
      sym (write_run-append d place fs o (first_part last_ring (ring_bytes s p)) (second_part last_ring (ring_bytes s p)) sound z small)
      ∙ ap (λ (bs : List ℕ). write_run d place fs o bs) parts-unwritten

module _ (a : Areas) (place p : ℕ) (row : Staged) where
  abbrev lacked : List ℕ
  lacked = unwritten_bytes a.session p row.unwritten

  -- the files covered first, the bytes then taken from the session as it is by now
  pub flushed-after : (t u : List ℕ) → slots a.disk ≤ 64 → p < 8 → cover_run a place (file_size_of a.session p) (unwritten_from row) row.unwritten ≡ areas t u
      → flushed a place p row ≡ areas (write_run t place (file_size_of u p) (unwritten_from row) (unwritten_bytes u p row.unwritten)) u
  unfolding flushed wrote
  flushed-after t u few tape e =
      let s = a.session in
      let b = cover_run a place (file_size_of s p) (unwritten_from row) row.unwritten in
      let same : b.session ≡ u = ap (λ (x : Areas). x.session) e in
      let only : OnlyIn 4936 5960 s u = rw same at (only-cover_run a place (file_size_of s p) (unwritten_from row) row.unwritten few) in
      rw (length-unwritten s p row.unwritten, e, file_size_of-kept s u only p tape, unwritten-kept s u only p tape row.unwritten)

  pub length-flushed-disk : length (flushed a place p row).disk ≡ length a.disk
  unfolding flushed
  length-flushed-disk = length-wrote-disk a place (file_size_of a.session p) (unwritten_from row) lacked

  pub length-flushed-session : length (flushed a place p row).session ≡ length a.session
  unfolding flushed
  length-flushed-session = length-wrote-session a place (file_size_of a.session p) (unwritten_from row) lacked

  module _ (few : slots a.disk ≤ 64) where
    pub only-flushed : OnlyIn 4936 5960 a.session (flushed a place p row).session
    unfolding flushed
    only-flushed = only_wrote a place (file_size_of a.session p) (unwritten_from row) lacked few

    pub begun-flushed : Begun a.session → Begun (flushed a place p row).session
    begun-flushed begun = begun_kept a.session (flushed a place p row).session only-flushed begun

    pub bytes-flushed-session : session_bytes ≤ length a.session → Bytes a.session → Bytes (flushed a place p row).session
    unfolding flushed
    bytes-flushed-session long bytes = bytes-wrote-session a place (file_size_of a.session p) (unwritten_from row) lacked few long bytes

  module _ (sound : Sound a.disk) (begun : Begun a.session) (low : place < 8) (tape : p < 8) (held : handle_number a.session p ≢ 0)
      (pending : row.unwritten ≤ ring_len a.session p) (fits : row.len < 2 ^ 64) where
    row_fits : TapeFits a.session p
    row_fits = begun.tapes p tape held

    -- the run's end is the tape's
    pub run_fits : unwritten_from row + length lacked ≤ 2 ^ 64
    run_fits =
        let short : ring_len a.session p ≤ 4096 = omega (arith, row_fits.ring.short, row_fits.ring.small) in
        omega (arith, length-unwritten a.session p row.unwritten)

    pub sound-flushed : Sound (flushed a place p row).disk
    unfolding flushed
    sound-flushed =
        sound-wrote a place (file_size_of a.session p) (unwritten_from row) lacked sound low row_fits.file-some row_fits.file-small run_fits

    pub slots-flushed : slots (flushed a place p row).disk ≡ slots a.disk
    unfolding flushed
    slots-flushed =
        slots-wrote a place (file_size_of a.session p) (unwritten_from row) lacked sound low row_fits.file-some row_fits.file-small run_fits

    pub only-flushed-disk : OnlyIn 1312 (data_at (slots a.disk)) a.disk (flushed a place p row).disk
    unfolding flushed
    only-flushed-disk =
        only-wrote-disk a place (file_size_of a.session p) (unwritten_from row) lacked sound low row_fits.file-some row_fits.file-small run_fits

    pub bytes-flushed-disk : Bytes a.disk → Bytes a.session → Bytes (flushed a place p row).disk
    unfolding flushed
    bytes-flushed-disk old bytes =
        bytes-wrote-disk a place (file_size_of a.session p) (unwritten_from row) lacked sound low row_fits.file-some row_fits.file-small run_fits old
        (bytes-unwritten a.session p row.unwritten bytes)
