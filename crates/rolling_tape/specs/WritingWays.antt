-- The ways out of the functions that write a run, and the turns of their loops. Assumes nothing.
use Rattle.std.specs.Prelude.{◌≡◌, Bool, true, false, List, [], take, drop, Option, Some, None}
use Rattle.std.proofs.Math.Path.{refl, ap}
use Rattle.std.proofs.Common.{sym, ◌∙◌, add_assoc, drop_of_length-le, drop-drop}
use Prim.Native.Nat.{ℕ, suc, ◌+◌, ◌-◌, ◌≤◌, ◌<◌, ◌^◌}
use native.Mathlib.Omega.{arith}
use Rattle.std.proofs.Math.ListN.{length, length-drop}
use Rattle.components.specs.Pieces.{file_of, place_in}
use Rattle.components.specs.PiecesLaws.{left-some, place-left, first_count, pieces-some, pieces_none}
use Rattle.layout.specs.Disk.{slots, Sound}
use Rattle.disk.specs.Steps.{After, after, find_in, free_slot, make_new, make_unless, make_file, write_at}
use Rattle.disk.specs.StepLaws.{only-put_entry, length-write_at, find-low, free-low}
use Rattle.disk.specs.SoundLaws.{slots-only, sound-write_at, sound-make_file}
use Rattle.session.specs.Rows.{put_tracking}
use Rattle.session.specs.declared.tracking.Tracking.TheVariants.{Tracked}
use Rattle.rolling_tape.specs.declared.tracking.Change.TheVariants.{UntrackAbove}
use Rattle.rolling_tape.specs.Tracking.{retracked}
use Rattle.rolling_tape.specs.Removal.{Areas, areas}
use Rattle.rolling_tape.specs.Room.{on_disk}
use Rattle.rolling_tape.specs.Writing.{was_tracked, track_file, track_found, make_tracked, covered, write_found, write_piece, write_pieces, write_run}

-- ---- one piece

module _ (d : List ℕ) (place n at : ℕ) (bs : List ℕ) where
  pub write-found : (i : ℕ) → find_in d place n ≡ Some i → write_piece d place n at bs ≡ write_at d i at bs
  unfolding write_piece
  write-found i e = ap (write_found d at bs) e

  pub write-nothing : find_in d place n ≡ None → write_piece d place n at bs ≡ d
  unfolding write_piece
  write-nothing e = ap (write_found d at bs) e

  pub length-write_piece : length (write_piece d place n at bs) ≡ length d
  unfolding write_piece
  length-write_piece = by (find_in d place n)
    where
      by : (f : Option ℕ) → length (write_found d at bs f) ≡ length d
      by (Some i) = length-write_at d i at bs
      by None = refl

  pub sound-write_piece : Sound d → at + length bs ≤ 4096 → Sound (write_piece d place n at bs)
  unfolding write_piece
  sound-write_piece sound fit = by (find_in d place n) refl
    where
      by : (f : Option ℕ) → find_in d place n ≡ f → Sound (write_found d at bs f)
      by (Some i) e = sound-write_at d sound i at bs (find-low d place n i e) fit
      by None e = sound

-- ---- a run: its first piece, and the rest

module _ (d : List ℕ) (place fs o : ℕ) where
  pub run_none : write_run d place fs o [] ≡ d
  unfolding write_run write_pieces
  run_none = rw (pieces_none fs o)

  pub run-some : (bs : List ℕ) (c : ℕ) → 0 < fs → 0 < length bs → c ≡ first_count fs o (length bs)
      → write_run d place fs o bs ≡ write_run (write_piece d place (file_of fs o) (place_in fs o) (take c bs)) place fs (o + c) (drop c bs)
  unfolding write_run write_pieces
  run-some bs c z some e = rw (pieces-some fs z o (length bs) some, ← e, length-drop c bs)

-- what is left behind done bytes of a source
module _ (d : List ℕ) (place fs o : ℕ) (src : List ℕ) (done : ℕ) where
  pub run-turn : (c : ℕ) → 0 < fs → done < length src → c ≡ first_count fs (o + done) (length src - done)
      → write_run d place fs (o + done) (drop done src)
      ≡ write_run (write_piece d place (file_of fs (o + done)) (place_in fs (o + done)) (take c (drop done src))) place fs (o + (done + c)) (drop (done + c) src)
  run-turn c z l e =
      let left = drop done src in
      let then = write_piece d place (file_of fs (o + done)) (place_in fs (o + done)) (take c left) in
      let long : length left ≡ length src - done = length-drop done src in
      run-some d place fs (o + done) left c z (omega arith) (e ∙ ap (λ (k : ℕ). first_count fs (o + done) k) (sym long))
      ∙ ap (λ (k : ℕ). write_run then place fs k (drop c left)) (add_assoc o done c)
      ∙ ap (λ (l : List ℕ). write_run then place fs (o + (done + c)) l) (drop-drop c done src)

  pub run_end : length src ≤ done → write_run d place fs (o + done) (drop done src) ≡ d
  run_end l = ap (write_run d place fs (o + done)) (drop_of_length-le src l) ∙ run_none d place fs (o + done)

-- the first piece has bytes and lies inside its file
module _ (fs o n : ℕ) (z : 0 < fs) where
  pub piece-some : 0 < n → 0 < first_count fs o n
  piece-some h = omega (arith, left-some fs z o)

  pub piece-fits : place_in fs o + first_count fs o n ≤ fs
  piece-fits = omega (arith, place-left fs z o)

-- ---- a file made

module _ (d : List ℕ) (place n : ℕ) where
  pub slots-make_file : slots (make_file d place n).area ≡ slots d
  unfolding make_file
  slots-make_file = by (find_in d place n)
    where
      new : (f : Option ℕ) → slots (make_new d place n f).area ≡ slots d
      new (Some i) = slots-only _ _ d _ (only-put_entry d i _) (omega arith)
      new None = refl

      by : (f : Option ℕ) → slots (make_unless d place n f).area ≡ slots d
      by (Some i) = refl
      by None = new (free_slot d)

  pub made-low : (i : ℕ) → (make_file d place n).answer ≡ Some i → i < slots d
  unfolding make_file
  made-low i = by (find_in d place n) refl
    where
      new : (f : Option ℕ) → free_slot d ≡ f → (make_new d place n f).answer ≡ Some i → i < slots d
      new (Some j) e q = free-low d i (e ∙ q)
      new None e q = free-low d i (e ∙ q)

      by : (f : Option ℕ) → find_in d place n ≡ f → (make_unless d place n f).answer ≡ Some i → i < slots d
      by (Some j) e q = find-low d place n i (e ∙ q)
      by None e q = new (free_slot d) refl q

  -- the slot of an answer, in the area as it then is
  pub slot-made : (i : ℕ) (t : List ℕ) → make_file d place n ≡ after (Some i) t → i < slots t
  slot-made i t e =
      let same : (make_file d place n).area ≡ t = ap (λ (r : After). r.area) e in
      let low : i < slots d = made-low i (ap (λ (r : After). r.answer) e) in
      let count : slots t ≡ slots d = ap (λ (s : List ℕ). slots s) (sym same) ∙ slots-make_file in
      omega arith

  pub sound-made : (r : Option ℕ) (t : List ℕ) → make_file d place n ≡ after r t → Sound d → place < 8 → n < 256 ^ 8 → Sound t
  sound-made r t e sound low fits =
      let same : (make_file d place n).area ≡ t = ap (λ (x : After). x.area) e in
      rw same at (sound-make_file d sound place n low fits)

-- ---- a file tracked

module _ (d s : List ℕ) (place n : ℕ) (there : Bool) (i : ℕ) where
  pub track-kept : was_tracked s there i ≡ true → track_file d s place n there i ≡ s
  unfolding track_file
  track-kept e = rw e

  pub track-new : was_tracked s there i ≡ false → track_file d s place n there i ≡ put_tracking (retracked d s place (UntrackAbove n)) i Tracked
  unfolding track_file
  track-new e = rw e

module _ (d s : List ℕ) (place n : ℕ) (t : List ℕ) where
  pub tracked-made : (i : ℕ) → make_file d place n ≡ after (Some i) t → make_tracked (areas d s) place n ≡ areas t (track_file t s place n (on_disk d place n) i)
  unfolding make_tracked
  tracked-made i e = ap (λ (r : After). track_found r.area s place n (on_disk d place n) r.answer) e

  pub tracked-full : make_file d place n ≡ after None t → make_tracked (areas d s) place n ≡ areas t s
  unfolding make_tracked
  tracked-full e = ap (λ (r : After). track_found r.area s place n (on_disk d place n) r.answer) e

module _ (a : Areas) (place first count done : ℕ) where
  pub cover-turn : done < count
      → covered a place (first + done) (count - done) ≡ covered (make_tracked a place (first + done)) place (first + (done + 1)) (count - (done + 1))
  unfolding covered
  cover-turn l =
      let k : count - done ≡ suc (count - (done + 1)) = omega arith in
      rw k (ap (λ (n : ℕ). covered (make_tracked a place (first + done)) place n (count - (done + 1))) (add_assoc first done 1))

  pub cover-end : count ≤ done → covered a place (first + done) (count - done) ≡ a
  unfolding covered
  cover-end l =
      let k : count - done ≡ 0 = omega arith in
      rw k
