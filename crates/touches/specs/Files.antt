-- Bytes that go to a tape's files, whatever numbers damaged memory gives those files: the session's tracking and the disk's files are touched, no more. The
-- laws of `cached_tape` say the same of offsets below 2^64; here the file table's lengths alone are asked for. Assumes nothing.
use Rattle.std.specs.Prelude.{◌≡◌, refl, ◌≢◌, ℕ, zero, suc, ◌+◌, ◌≤◌, ◌<◌, length, take, drop, Option, Some, None}
use Rattle.std.proofs.Common.{◌∙◌, arith, length-take}
use mathlib.Core.List.{List, [], ◌∷◌, Memᴰ}
use Rattle.octets.specs.Cases.{equal}
use Rattle.octets.specs.Only.{OnlyIn, only_none, only_then, only_wider, num_at-only}
use Rattle.components.specs.Pieces.{Piece, pieces, file_of}
use Rattle.components.specs.PiecesLaws.{Inside, pieces-inside}
use Rattle.components.specs.Slots as Slots
use Rattle.layout.specs.Disk.{entry_at, data_at, slots, len, Sound}
use Rattle.layout.specs.Session.{file_size_of}
use Rattle.disk.specs.Steps.{put_entry, find_in, free_slot, make_new, make_unless, make_file, write_at}
use Rattle.disk.specs.StepLaws.{only-put_entry, len-put_entry, filled, only-filled, only-length, len-write_at, word-write_at, find-low, free-low}
use Rattle.disk.specs.SoundLaws.{slots-only}
use Rattle.disk.specs.declared.files.Entry.{Entry}
use Rattle.rolling_tape.specs.Removal.{Areas}
use Rattle.rolling_tape.specs.Writing.{make_tracked, covered, write_found, write_piece, write_pieces, write_run}
use Rattle.rolling_tape.specs.WritingLaws.{disk-make_tracked}
use Rattle.session.specs.declared.tape_rows.Staged.{Staged}
use Rattle.cached_tape.specs.Flushing.{cover_run, wrote, flushed}
use Rattle.cached_tape.specs.FlushLaws.{only-cover_run-disk}

-- what is asked of a disk
pub record Lengths (d : List ℕ) : Type 0 where
  pub few : slots d ≤ 64
  pub room : 2848 ≤ length d
  pub lengths : (i : ℕ) → i < slots d → len d i ≤ 4096

pub sound-lengths : (d : List ℕ) → Sound d → Lengths d
sound-lengths d sound = record { few = sound.head.few; room = omega (arith, sound.head.room); lengths = sound.lengths }

-- ---- files made

lengths-put_entry : (d : List ℕ) (i : ℕ) (e : Entry) → Lengths d → i < slots d → e.len ≤ 4096 → Lengths (put_entry d i e)
lengths-put_entry d i e r low short =
    let only = only-put_entry d i e in
    let same = slots-only _ _ d _ only (omega arith) in
    let few = r.few in
    let room = r.room in
    record {
      few = rw same r.few;
      room = rw only.long r.room;
      lengths = λ j l.
          let under : j < slots d = rw same at l in
          equal j i
          (λ (q : j ≡ i). rw (q, len-put_entry d i e (omega arith) (omega arith)) short)
          (λ (n : j ≢ i). rw (num_at-only _ _ d _ only 8 (entry_at j + 16) (λ q. omega arith)) (r.lengths j under));
    }

lengths-make_file : (d : List ℕ) (place n : ℕ) → Lengths d → Lengths (make_file d place n).area
unfolding make_file
lengths-make_file d place n r = by (find_in d place n)
  where
    new : (f : Option ℕ) → free_slot d ≡ f → Lengths (make_new d place n f).area
    new (Some i) e = lengths-put_entry d i _ r (free-low d i e) (omega arith)
    new None e = r

    by : (f : Option ℕ) → Lengths (make_unless d place n f).area
    by (Some i) = r
    by None = new (free_slot d) refl

lengths-covered : (a : Areas) (place first count : ℕ) → Lengths a.disk → Lengths (covered a place first count).disk
unfolding covered
lengths-covered a place first zero r = r
lengths-covered a place first (suc k) r =
    lengths-covered (make_tracked a place first) place (first + 1) k (rw (disk-make_tracked a place first) (lengths-make_file a.disk place first r))

lengths-cover_run : (a : Areas) (place fs o n : ℕ) → Lengths a.disk → Lengths (cover_run a place fs o n).disk
unfolding cover_run
lengths-cover_run a place fs o n r = lengths-covered a place (file_of fs o) (Slots.covered fs o (o + n)) r

-- ---- bytes written

-- t, as far as d is written
pub record Written (d t : List ℕ) : Type 0 where
  pub table : Lengths t
  pub same : slots t ≡ slots d
  pub only : OnlyIn 1312 (data_at (slots d)) d t

pub written_none : (d : List ℕ) → Lengths d → Written d d
written_none d r = record { table = r; same = refl; only = only_none _ _ d }

pub written_then : (d t u : List ℕ) → Written d t → Written t u → Written d u
written_then d t u v w =
    record {
      table = w.table;
      same = w.same ∙ v.same;
      only = only_then 1312 (data_at (slots d)) d t u v.only (rw v.same at w.only);
    }

written_at : (d : List ℕ) → Lengths d → (i at : ℕ) (bs : List ℕ) → i < slots d → at + length bs ≤ 4096 → Written d (write_at d i at bs)
written_at d r i at bs low fit =
    let few = r.few in
    let room = r.room in
    let short = r.lengths i low in
    let end = data_at (slots d) in
    let u = filled d i at bs in
    let t = write_at d i at bs in
    let only : OnlyIn 1312 end d t
    = only_then 1312 end d u t
    (only_wider _ _ 1312 end d u (omega arith) (omega arith) (only-filled d i at bs short fit))
    (only_wider _ _ 1312 end u t (omega arith) (omega arith) (only-length d i at bs)) in
    let same : slots t ≡ slots d = slots-only _ _ d t only (omega arith) in
    record {
      table = record {
        few = rw same r.few;
        room = rw only.long r.room;
        lengths = λ j l.
            let under : j < slots d = rw same at l in
            equal j i
            (λ (q : j ≡ i). rw (q, len-write_at d i at bs (omega arith) (omega arith) (omega arith)) (omega arith))
            (λ (n : j ≢ i). rw (word-write_at d i at bs short fit (entry_at j + 16) (omega arith) (λ q. omega arith)) (r.lengths j under));
      };
      same = same;
      only = only;
    }

written-piece : (d : List ℕ) (place n at : ℕ) (bs : List ℕ) → Lengths d → at + length bs ≤ 4096 → Written d (write_piece d place n at bs)
unfolding write_piece
written-piece d place n at bs r fit = by (find_in d place n) refl
  where
    by : (f : Option ℕ) → find_in d place n ≡ f → Written d (write_found d at bs f)
    by (Some i) e = written_at d r i at bs (find-low d place n i e) fit
    by None e = written_none d r

written-pieces : (place fs : ℕ) → fs ≤ 4096 → (d : List ℕ) (ps : List Piece) (bs : List ℕ) → ((p : Piece) → Memᴰ p ps → Inside fs p) → Lengths d
    → Written d (write_pieces d place ps bs)
unfolding write_pieces
written-pieces place fs small d [] bs inside r = written_none d r
written-pieces place fs small d (p ∷ ps) bs inside r =
    let part = take p.count bs in
    let its = inside p (Memᴰ.head refl) in
    let fit : p.place + length part ≤ 4096 = simp length-take (omega arith) in
    let u = write_piece d place p.file p.place part in
    let first = written-piece d place p.file p.place part r fit in
    written_then d u _ first (written-pieces place fs small u ps (drop p.count bs) (λ q m. inside q (Memᴰ.tail m)) first.table)

-- the files of a run covered, and its bytes written
pub written-wrote : (a : Areas) (place fs o : ℕ) (bs : List ℕ) → Lengths a.disk → 0 < fs → fs ≤ 4096 → Written a.disk (wrote a place fs o bs).disk
unfolding wrote write_run
written-wrote a place fs o bs r z small =
    let d = a.disk in
    let t = (cover_run a place fs o (length bs)).disk in
    let only = only-cover_run-disk a place fs o (length bs) r.few in
    written_then d t _
    (record {
      table = lengths-cover_run a place fs o (length bs) r;
      same = slots-only _ _ d t only (omega arith);
      only = only_wider 1312 2848 1312 (data_at (slots d)) d t (omega arith) (omega arith) only;
    })
    (written-pieces place fs small t (pieces fs o (length bs)) bs (λ p m. pieces-inside fs z o (length bs) m) (lengths-cover_run a place fs o (length bs) r))

-- the bytes that the files of tape p lack
pub written-flushed : (a : Areas) (place p : ℕ) (row : Staged) → Lengths a.disk → 0 < file_size_of a.session p → file_size_of a.session p ≤ 4096
    → Written a.disk (flushed a place p row).disk
unfolding flushed
written-flushed a place p row r z small = written-wrote a place (file_size_of a.session p) _ _ r z small
