-- Covering a run's files and writing its bytes: where they write, and that both areas stay sound, as long as they were, and bytes. Assumes nothing.
use Rattle.std.specs.Prelude.{◌≡◌, Bool, ℕ, zero, suc, ◌+◌, ◌≤◌, ◌<◌, ◌^◌, drop, Option, Some, None}
use Rattle.std.proofs.Math.Path.{refl}
use Rattle.std.proofs.Common.{◌∙◌, arith, length-take}
use mathlib.Core.List.{List, [], ◌∷◌, Memᴰ}
use Rattle.std.proofs.Math.ListN.{length, take}
use Rattle.octets.specs.Number.{Bytes, bytes_take, bytes_drop}
use Rattle.octets.specs.Only.{OnlyIn, only_none, only_then, only_wider}
use Rattle.octets.specs.Cases.{picked}
use Rattle.components.specs.Pieces.{Piece, pieces}
use Rattle.components.specs.PiecesLaws.{Inside, pieces-inside}
use Rattle.layout.specs.Disk.{data_at, slots, Sound}
use Rattle.layout.specs.Session.{session_bytes, Begun}
use Rattle.disk.specs.Steps.{find_in, free_slot, make_new, make_unless, make_file, write_at}
use Rattle.disk.specs.StepLaws.{only-put_entry, length-make_file, filled, only-filled, only-length, bytes-write_at, find-low, free-low}
use Rattle.disk.specs.SoundLaws.{slots-only, data-room, sound-make_file, bytes-make_file}
use Rattle.session.specs.Rows.{put_tracking}
use Rattle.session.specs.RowLaws.{only-put_tracking, length-put_tracking}
use Rattle.session.specs.KeepLaws.{begun-only, begun-put_tracking, bytes-put_tracking}
use Rattle.session.specs.declared.tracking.Tracking.TheVariants.{Tracked}
use Rattle.rolling_tape.specs.declared.tracking.Change.TheVariants.{UntrackAbove}
use Rattle.rolling_tape.specs.Tracking.{retracked}
use Rattle.rolling_tape.specs.TrackingLaws.{only-rows, length-retracked, only-retracked, bytes-retracked}
use Rattle.rolling_tape.specs.Removal.{Areas}
use Rattle.rolling_tape.specs.Room.{on_disk}
use Rattle.rolling_tape.specs.Writing.{was_tracked, track_file, track_found, make_tracked, covered, write_found, write_piece, write_pieces, write_run}
use Rattle.rolling_tape.specs.WritingWays.{slots-make_file, made-low, length-write_piece, sound-write_piece}

-- ---- a file tracked

module _ (d s : List ℕ) (place n : ℕ) (there : Bool) (i : ℕ) where
  -- those above, untracked
  abbrev above : List ℕ
  above = retracked d s place (UntrackAbove n)

  pub length-track_file : length (track_file d s place n there i) ≡ length s
  unfolding track_file
  length-track_file =
      picked (λ (t : List ℕ). length t ≡ length s) (was_tracked s there i) s (put_tracking above i Tracked) (λ e. refl)
      (λ e. length-put_tracking above i Tracked ∙ length-retracked d s place (UntrackAbove n))

  pub begun-track_file : Begun s → Begun (track_file d s place n there i)
  unfolding track_file
  begun-track_file begun =
      let only = only-rows d s place (UntrackAbove n) in
      picked Begun (was_tracked s there i) s (put_tracking above i Tracked) (λ e. begun)
      (λ e. begun-put_tracking above (begun-only _ _ s above only (λ q. omega arith) (λ q. omega arith) (λ q. omega arith) begun) i Tracked)

  module _ (few : slots d ≤ 64) (low : i < 64) where
    pub only-track_file : OnlyIn 4936 5960 s (track_file d s place n there i)
    unfolding track_file
    only-track_file =
        picked (λ (t : List ℕ). OnlyIn 4936 5960 s t) (was_tracked s there i) s (put_tracking above i Tracked) (λ e. only_none 4936 5960 s)
        (λ e.
        only_then 4936 5960 s above _ (only-retracked d s place (UntrackAbove n) few)
        (only_wider _ _ 4936 5960 above _ (omega arith) (omega arith) (only-put_tracking above i Tracked)))

    pub bytes-track_file : session_bytes ≤ length s → Bytes s → Bytes (track_file d s place n there i)
    unfolding track_file
    bytes-track_file long bytes =
        let same = length-retracked d s place (UntrackAbove n) in
        picked Bytes (was_tracked s there i) s (put_tracking above i Tracked) (λ e. bytes)
        (λ e. bytes-put_tracking above (bytes-retracked d s place (UntrackAbove n) few long bytes) i Tracked (omega arith))

-- ---- a file made

module _ (d : List ℕ) (place n : ℕ) where
  pub only-make_file : slots d ≤ 64 → OnlyIn 1312 2848 d (make_file d place n).area
  unfolding make_file
  only-make_file few = by (find_in d place n)
    where
      new : (f : Option ℕ) → free_slot d ≡ f → OnlyIn 1312 2848 d (make_new d place n f).area
      new (Some i) e =
          let low = free-low d i e in
          only_wider _ _ 1312 2848 d _ (omega arith) (omega arith) (only-put_entry d i _)
      new None e = only_none 1312 2848 d

      by : (f : Option ℕ) → OnlyIn 1312 2848 d (make_unless d place n f).area
      by (Some i) = only_none 1312 2848 d
      by None = new (free_slot d) refl

-- ---- a file made and tracked

module _ (a : Areas) (place n : ℕ) where
  -- the disk with the file
  abbrev made : List ℕ
  made = (make_file a.disk place n).area

  pub disk-make_tracked : (make_tracked a place n).disk ≡ made
  unfolding make_tracked
  disk-make_tracked = by (make_file a.disk place n).answer
    where
      by : (f : Option ℕ) → (track_found made a.session place n (on_disk a.disk place n) f).disk ≡ made
      by (Some i) = refl
      by None = refl

  pub length-make_tracked-disk : length (make_tracked a place n).disk ≡ length a.disk
  length-make_tracked-disk = rw disk-make_tracked (length-make_file a.disk place n)

  pub slots-make_tracked : slots (make_tracked a place n).disk ≡ slots a.disk
  slots-make_tracked = rw disk-make_tracked (slots-make_file a.disk place n)

  pub only-make_tracked-disk : slots a.disk ≤ 64 → OnlyIn 1312 2848 a.disk (make_tracked a place n).disk
  only-make_tracked-disk few = rw disk-make_tracked (only-make_file a.disk place n few)

  pub sound-make_tracked : Sound a.disk → place < 8 → n < 256 ^ 8 → Sound (make_tracked a place n).disk
  sound-make_tracked sound low fits = rw disk-make_tracked (sound-make_file a.disk sound place n low fits)

  pub bytes-make_tracked-disk : Sound a.disk → Bytes a.disk → Bytes (make_tracked a place n).disk
  bytes-make_tracked-disk sound bytes = rw disk-make_tracked (bytes-make_file a.disk sound place n bytes)

  pub length-make_tracked-session : length (make_tracked a place n).session ≡ length a.session
  unfolding make_tracked
  length-make_tracked-session = by (make_file a.disk place n).answer
    where
      by : (f : Option ℕ) → length (track_found made a.session place n (on_disk a.disk place n) f).session ≡ length a.session
      by (Some i) = length-track_file made a.session place n (on_disk a.disk place n) i
      by None = refl

  pub begun-make_tracked : Begun a.session → Begun (make_tracked a place n).session
  unfolding make_tracked
  begun-make_tracked begun = by (make_file a.disk place n).answer
    where
      by : (f : Option ℕ) → Begun (track_found made a.session place n (on_disk a.disk place n) f).session
      by (Some i) = begun-track_file made a.session place n (on_disk a.disk place n) i begun
      by None = begun

  module _ (few : slots a.disk ≤ 64) where
    still-few : slots made ≤ 64
    still-few = rw (slots-make_file a.disk place n) few

    slot-low : (i : ℕ) → (make_file a.disk place n).answer ≡ Some i → i < 64
    slot-low i e = omega (arith, made-low a.disk place n i e)

    pub only-make_tracked-session : OnlyIn 4936 5960 a.session (make_tracked a place n).session
    unfolding make_tracked
    only-make_tracked-session = by (make_file a.disk place n).answer refl
      where
        by : (f : Option ℕ) → (make_file a.disk place n).answer ≡ f → OnlyIn 4936 5960 a.session (track_found made a.session place n (on_disk a.disk place n) f).session
        by (Some i) e = only-track_file made a.session place n (on_disk a.disk place n) i still-few (slot-low i e)
        by None e = only_none 4936 5960 a.session

    pub bytes-make_tracked-session : session_bytes ≤ length a.session → Bytes a.session → Bytes (make_tracked a place n).session
    unfolding make_tracked
    bytes-make_tracked-session long bytes = by (make_file a.disk place n).answer refl
      where
        by : (f : Option ℕ) → (make_file a.disk place n).answer ≡ f → Bytes (track_found made a.session place n (on_disk a.disk place n) f).session
        by (Some i) e = bytes-track_file made a.session place n (on_disk a.disk place n) i still-few (slot-low i e) long bytes
        by None e = bytes

-- ---- some numbers covered

pub length-covered-disk : (a : Areas) (place first count : ℕ) → length (covered a place first count).disk ≡ length a.disk
unfolding covered
length-covered-disk a place first zero = refl
length-covered-disk a place first (suc k) = length-covered-disk (make_tracked a place first) place (first + 1) k ∙ length-make_tracked-disk a place first

pub length-covered-session : (a : Areas) (place first count : ℕ) → length (covered a place first count).session ≡ length a.session
unfolding covered
length-covered-session a place first zero = refl
length-covered-session a place first (suc k) = length-covered-session (make_tracked a place first) place (first + 1) k ∙ length-make_tracked-session a place first

pub slots-covered : (a : Areas) (place first count : ℕ) → slots (covered a place first count).disk ≡ slots a.disk
unfolding covered
slots-covered a place first zero = refl
slots-covered a place first (suc k) = slots-covered (make_tracked a place first) place (first + 1) k ∙ slots-make_tracked a place first

pub sound-covered : (a : Areas) (place first count : ℕ) → Sound a.disk → place < 8 → first + count ≤ 256 ^ 8 → Sound (covered a place first count).disk
unfolding covered
sound-covered a place first zero sound low fits = sound
sound-covered a place first (suc k) sound low fits =
    sound-covered (make_tracked a place first) place (first + 1) k (sound-make_tracked a place first sound low (omega arith)) low (omega arith)

pub begun-covered : (a : Areas) (place first count : ℕ) → Begun a.session → Begun (covered a place first count).session
unfolding covered
begun-covered a place first zero begun = begun
begun-covered a place first (suc k) begun = begun-covered (make_tracked a place first) place (first + 1) k (begun-make_tracked a place first begun)

-- only the file table ..
pub only-covered-disk : (a : Areas) (place first count : ℕ) → slots a.disk ≤ 64 → OnlyIn 1312 2848 a.disk (covered a place first count).disk
unfolding covered
only-covered-disk a place first zero few = only_none 1312 2848 a.disk
only-covered-disk a place first (suc k) few =
    let b = make_tracked a place first in
    only_then 1312 2848 a.disk b.disk _ (only-make_tracked-disk a place first few)
    (only-covered-disk b place (first + 1) k (rw (slots-make_tracked a place first) few))

-- .. and only the rows of tracking
pub only-covered-session : (a : Areas) (place first count : ℕ) → slots a.disk ≤ 64 → OnlyIn 4936 5960 a.session (covered a place first count).session
unfolding covered
only-covered-session a place first zero few = only_none 4936 5960 a.session
only-covered-session a place first (suc k) few =
    let b = make_tracked a place first in
    only_then 4936 5960 a.session b.session _ (only-make_tracked-session a place first few)
    (only-covered-session b place (first + 1) k (rw (slots-make_tracked a place first) few))

pub bytes-covered-disk : (a : Areas) (place first count : ℕ) → Sound a.disk → place < 8 → first + count ≤ 256 ^ 8 → Bytes a.disk → Bytes (covered a place first count).disk
unfolding covered
bytes-covered-disk a place first zero sound low fits bytes = bytes
bytes-covered-disk a place first (suc k) sound low fits bytes =
    bytes-covered-disk (make_tracked a place first) place (first + 1) k (sound-make_tracked a place first sound low (omega arith)) low (omega arith)
    (bytes-make_tracked-disk a place first sound bytes)

pub bytes-covered-session : (a : Areas) (place first count : ℕ) → slots a.disk ≤ 64 → session_bytes ≤ length a.session → Bytes a.session
    → Bytes (covered a place first count).session
unfolding covered
bytes-covered-session a place first zero few long bytes = bytes
bytes-covered-session a place first (suc k) few long bytes =
    bytes-covered-session (make_tracked a place first) place (first + 1) k (rw (slots-make_tracked a place first) few)
    (rw (length-make_tracked-session a place first) long) (bytes-make_tracked-session a place first few long bytes)

-- ---- the bytes written

-- only a slot's row and its data
only-write_at : (d : List ℕ) → Sound d → (i at : ℕ) (bs : List ℕ) → i < slots d → at + length bs ≤ 4096 → OnlyIn 1312 (data_at (slots d)) d (write_at d i at bs)
only-write_at d sound i at bs low fit =
    let end = data_at (slots d) in
    let few = sound.head.few in
    let u = filled d i at bs in
    only_then 1312 end d u _
    (only_wider _ _ 1312 end d u (omega arith) (omega arith) (only-filled d i at bs (sound.lengths i low) fit))
    (only_wider _ _ 1312 end u _ (omega arith) (omega arith) (only-length d i at bs))

module _ (d : List ℕ) (place n at : ℕ) (bs : List ℕ) (sound : Sound d) (fit : at + length bs ≤ 4096) where
  pub only-write_piece : OnlyIn 1312 (data_at (slots d)) d (write_piece d place n at bs)
  unfolding write_piece
  only-write_piece = by (find_in d place n) refl
    where
      by : (f : Option ℕ) → find_in d place n ≡ f → OnlyIn 1312 (data_at (slots d)) d (write_found d at bs f)
      by (Some i) e = only-write_at d sound i at bs (find-low d place n i e) fit
      by None e = only_none _ _ d

  pub slots-write_piece : slots (write_piece d place n at bs) ≡ slots d
  slots-write_piece = slots-only _ _ d _ only-write_piece (omega arith)

  pub bytes-write_piece : Bytes d → Bytes bs → Bytes (write_piece d place n at bs)
  unfolding write_piece
  bytes-write_piece old new = by (find_in d place n) refl
    where
      by : (f : Option ℕ) → find_in d place n ≡ f → Bytes (write_found d at bs f)
      by (Some i) e =
          let low = find-low d place n i e in
          bytes-write_at d i at bs (sound.lengths i low) fit (data-room d sound i low) old new
      by None e = old

length-pieces : (d : List ℕ) (place : ℕ) (ps : List Piece) (bs : List ℕ) → length (write_pieces d place ps bs) ≡ length d
unfolding write_pieces
length-pieces d place [] bs = refl
length-pieces d place (p ∷ ps) bs =
    let part = take p.count bs in
    length-pieces (write_piece d place p.file p.place part) place ps (drop p.count bs) ∙ length-write_piece d place p.file p.place part

pub length-write_run : (d : List ℕ) (place fs o : ℕ) (bs : List ℕ) → length (write_run d place fs o bs) ≡ length d
unfolding write_run
length-write_run d place fs o bs = length-pieces d place (pieces fs o (length bs)) bs

-- t, as far as d is written
record Written (d t : List ℕ) : Type 0 where
  sound : Sound t
  same : slots t ≡ slots d
  only : OnlyIn 1312 (data_at (slots d)) d t

-- pieces inside their files, one after the other
module _ (place fs : ℕ) (small : fs ≤ 4096) where
  part-fits : (p : Piece) (bs : List ℕ) → Inside fs p → p.place + length (take p.count bs) ≤ 4096
  part-fits p bs inside = simp length-take (omega arith)

  written-pieces : (d t : List ℕ) (ps : List Piece) (bs : List ℕ) → ((p : Piece) → Memᴰ p ps → Inside fs p) → Written d t → Written d (write_pieces t place ps bs)
  unfolding write_pieces
  written-pieces d t [] bs inside w = w
  written-pieces d t (p ∷ ps) bs inside w =
      let part = take p.count bs in
      let fit = part-fits p bs (inside p (Memᴰ.head refl)) in
      let u = write_piece t place p.file p.place part in
      let step : OnlyIn 1312 (data_at (slots d)) t u = rw w.same at (only-write_piece t place p.file p.place part w.sound fit) in
      written-pieces d u ps (drop p.count bs) (λ q m. inside q (Memᴰ.tail m))
      (record {
        sound = sound-write_piece t place p.file p.place part w.sound fit;
        same = slots-write_piece t place p.file p.place part w.sound fit ∙ w.same;
        only = only_then 1312 (data_at (slots d)) d t u w.only step;
      })

  bytes-pieces : (d : List ℕ) (ps : List Piece) (bs : List ℕ) → ((p : Piece) → Memᴰ p ps → Inside fs p) → Sound d → Bytes d → Bytes bs
      → Bytes (write_pieces d place ps bs)
  unfolding write_pieces
  bytes-pieces d [] bs inside sound old new = old
  bytes-pieces d (p ∷ ps) bs inside sound old new =
      let part = take p.count bs in
      let fit = part-fits p bs (inside p (Memᴰ.head refl)) in
      let u = write_piece d place p.file p.place part in
      bytes-pieces u ps (drop p.count bs) (λ q m. inside q (Memᴰ.tail m)) (sound-write_piece d place p.file p.place part sound fit)
      (bytes-write_piece d place p.file p.place part sound fit old (bytes_take p.count bs new))
      (bytes_drop p.count bs new)

module _ (d : List ℕ) (place fs o : ℕ) (bs : List ℕ) (sound : Sound d) (z : 0 < fs) (small : fs ≤ 4096) where
  written-run : Written d (write_run d place fs o bs)
  unfolding write_run
  written-run =
      written-pieces place fs small d d (pieces fs o (length bs)) bs (λ p m. pieces-inside fs z o (length bs) m)
      (record { sound = sound; same = refl; only = only_none _ _ d })

  pub sound-write_run : Sound (write_run d place fs o bs)
  sound-write_run = written-run.sound

  pub slots-write_run : slots (write_run d place fs o bs) ≡ slots d
  slots-write_run = written-run.same

  -- only the file table and the slots' data
  pub only-write_run : OnlyIn 1312 (data_at (slots d)) d (write_run d place fs o bs)
  only-write_run = written-run.only

  pub bytes-write_run : Bytes d → Bytes bs → Bytes (write_run d place fs o bs)
  unfolding write_run
  bytes-write_run old new = bytes-pieces place fs small d (pieces fs o (length bs)) bs (λ p m. pieces-inside fs z o (length bs) m) sound old new
