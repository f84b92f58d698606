-- A run of bytes written over the two areas, where there is room for the files that it lacks, is `write` of `components`: it changes the files of its own
-- directory and no others. Files on the disk and numbers that it lacks, together, stay as many. Assumes nothing.
use Rattle.std.specs.Prelude.{◌≡◌, ◌≢◌, true, false, cond, List, ℕ, zero, suc, ◌+◌, ◌≤◌, ◌<◌, ◌^◌, length}
use Rattle.std.proofs.Math.Path.{refl}
use Rattle.std.proofs.Common.{sym, ap, ◌∙◌}
use native.Mathlib.Omega.{arith}
use Rattle.octets.specs.Number.{Bytes}
use Rattle.octets.specs.Cases.{decide, equal}
use Rattle.components.specs.Pieces.{file_of}
use Rattle.components.specs.Files.{Files, write}
use Rattle.components.specs.Slots.{lacking_from, covered as files_covered}
use Rattle.components.proofs.SlotsLaws.{lacking-same, lacking-made, covers}
use Rattle.layout.specs.Disk.{slots, Sound}
use Rattle.layout.specs.Session.{Begun}
use Rattle.disk.specs.Steps.{files}
use Rattle.session.specs.Meaning.{session_of}
use Rattle.rolling_tape.specs.Removal.{Areas, areas}
use Rattle.rolling_tape.specs.Room.{on_disk}
use Rattle.rolling_tape.specs.Writing.{make_tracked, covered, write_run}
use Rattle.rolling_tape.specs.WritingLaws.{slots-make_tracked, sound-make_tracked, begun-make_tracked, bytes-make_tracked-session}
use Rattle.cached_tape.specs.Flushing.{cover_run, wrote}
use Rattle.cached_tape.specs.FlushLaws.{files-fit, begun-wrote, bytes-wrote-session, sound-wrote}
use Rattle.joins.specs.FilesAt.{files_at, Once}
use Rattle.joins.specs.Covers.{reached_from, set_bytes, from-none, from_some, write-steps}
use Rattle.joins.specs.Making.{Made, made}
use Rattle.joins.specs.Setting.{Set, set-run, on-table, files-table, once-table}

-- ---- what a step does to the files of its own directory, and leaves of the others

-- both areas as our calls leave them
pub record Clean (a : Areas) : Type 0 where
  pub sound : Sound a.disk
  pub begun : Begun a.session
  pub bytes : Bytes a.session
  pub once : Once a.disk

-- every file of c numbers from n on may be made
abbrev pub Room : Areas → (place n c : ℕ) → Type 0
Room a place n c = files a.disk + lacking_from (on_disk a.disk place) n c ≤ slots a.disk

-- the files of a directory changed, those of c numbers from n on perhaps made: over any numbers among which those are, files on the disk and numbers
-- that lack one stay, together, as many
pub record Grown (a b : Areas) (place n c : ℕ) (now : Files) : Type 0 where
  pub own : files_at b place ≡ now
  pub other : (q : ℕ) → q ≢ place → files_at b q ≡ files_at a q
  pub once : Once b.disk
  pub count : (k e : ℕ) → k ≤ n → n + c ≤ k + e
      → files b.disk + lacking_from (on_disk b.disk place) k e ≡ files a.disk + lacking_from (on_disk a.disk place) k e
  pub there : (q : ℕ) → q ≢ place → (j : ℕ) → on_disk b.disk q j ≡ on_disk a.disk q j

-- ---- one number

module _ (a : Areas) (place n : ℕ) (clean : Clean a) (directory : place < 8) (fits : n < 256 ^ 8) (room : Room a place n 1) where
  abbrev next : Areas
  next = make_tracked a place n

  room-here : files a.disk + cond (on_disk a.disk place n) 0 1 ≤ slots a.disk
  unfolding lacking_from
  room-here = omega arith

  one : Made a next place n
  one = made a.disk a.session place n clean.sound clean.begun clean.bytes clean.once directory fits room-here

  clean-one : Clean next
  clean-one =
      record {
        sound = sound-make_tracked a place n clean.sound directory fits;
        begun = begun-make_tracked a place n clean.begun;
        bytes = bytes-make_tracked-session a place n clean.sound.head.few clean.begun.long clean.bytes;
        once = one.once;
      }

  -- what is there stays
  kept-one : (j : ℕ) → on_disk a.disk place j ≡ true → on_disk next.disk place j ≡ true
  kept-one j h = equal j n (λ (e : j ≡ n). rw e one.here) (λ (d : j ≢ n). one.elsewhere place j (λ _. d) ∙ h)

  count-one : (k e : ℕ) → k ≤ n → n < k + e
      → files next.disk + lacking_from (on_disk next.disk place) k e ≡ files a.disk + lacking_from (on_disk a.disk place) k e
  count-one k e low high =
      decide (on_disk a.disk place n)
      (λ (t : on_disk a.disk place n ≡ true).
      let more : files next.disk ≡ files a.disk + 0 = rw t at one.count in
      let same = lacking-same (on_disk a.disk place) (on_disk next.disk place) k e
      (λ j l m. equal j n (λ (p : j ≡ n). rw p (one.here ∙ sym t)) (λ (d : j ≢ n). one.elsewhere place j (λ _. d))) in
      omega arith)
      (λ (t : on_disk a.disk place n ≡ false).
      let more : files next.disk ≡ files a.disk + 1 = rw t at one.count in
      let less = lacking-made (on_disk a.disk place) (on_disk next.disk place) n t one.here (λ j d. one.elsewhere place j (λ _. d)) k e low high in
      omega arith)

  -- room for the numbers behind it
  room-one : (c : ℕ) → Room a place n (suc c) → Room next place (n + 1) c
  unfolding lacking_from
  room-one c h =
      let same = lacking-same (on_disk a.disk place) (on_disk next.disk place) (n + 1) c (λ j l m. one.elsewhere place j (λ _ e. omega arith)) in
      omega (arith, one.count, slots-make_tracked a place n)

-- ---- some numbers

room-first : (a : Areas) (place n c : ℕ) → Room a place n (suc c) → Room a place n 1
unfolding lacking_from
room-first a place n c h = omega arith

record Covered (a b : Areas) (place n c : ℕ) : Type 0 where
  clean : Clean b
  here : (j : ℕ) → n ≤ j → j < n + c → on_disk b.disk place j ≡ true
  kept : (j : ℕ) → on_disk a.disk place j ≡ true → on_disk b.disk place j ≡ true
  step : Grown a b place n c (reached_from (files_at a place) n c)

covers-all : (place : ℕ) → place < 8 → (c : ℕ) (a : Areas) (n : ℕ) → Clean a → n + c ≤ 256 ^ 8 → Room a place n c → Covered a (covered a place n c) place n c
unfolding covered
covers-all place directory zero a n clean fits room =
    record {
      clean = clean;
      here = λ j l m. absurd (omega arith);
      kept = λ j h. h;
      step = record {
        own = sym (from-none (files_at a place) n);
        other = λ q h. refl;
        once = clean.once;
        count = λ k e l m. refl;
        there = λ q h j. refl;
      };
    }
covers-all place directory (suc c) a n clean fits room =
    let b = make_tracked a place n in
    let first = room-first a place n c room in
    let low : n < 256 ^ 8 = omega arith in
    let now = one a place n clean directory low first in
    let rest = covers-all place directory c b (n + 1) (clean-one a place n clean directory low first) (omega arith) (room-one a place n clean directory low first c room) in
    record {
      clean = rest.clean;
      here = λ j l m. equal j n (λ (e : j ≡ n). rest.kept j (rw e now.here)) (λ (d : j ≢ n). rest.here j (omega arith) (omega arith));
      kept = λ j h. rest.kept j (kept-one a place n clean directory low first j h);
      step = record {
        own = rest.step.own ∙ ap (λ (f : Files). reached_from f (n + 1) c) now.own ∙ sym (from_some (files_at a place) n c);
        other = λ q h. rest.step.other q h ∙ now.other q h;
        once = rest.step.once;
        count = λ k e l m. rest.step.count k e (omega arith) (omega arith) ∙ count-one a place n clean directory low first k e l (omega arith);
        there = λ q h j. rest.step.there q h j ∙ now.elsewhere q j (λ p. absurd (h p));
      };
    }

-- ---- a run

pub record Ready (a : Areas) (place fs o : ℕ) (bs : List ℕ) : Type 0 where
  pub clean : Clean a
  pub directory : place < 8
  pub some : 0 < fs
  pub small : fs ≤ 4096
  pub fits : o + length bs ≤ 2 ^ 64
  pub room : Room a place (file_of fs o) (files_covered fs o (o + length bs))

-- it is written, as the files' own rule says
abbrev pub Wrote : Areas → Areas → (place fs o : ℕ) → List ℕ → Type 0
Wrote a b place fs o bs = Grown a b place (file_of fs o) (files_covered fs o (o + length bs)) (write fs (files_at a place) o bs)

module _ (a : Areas) (place fs o : ℕ) (bs : List ℕ) (ready : Ready a place fs o bs) where
  abbrev n : ℕ
  n = file_of fs o

  abbrev c : ℕ
  c = files_covered fs o (o + length bs)

  abbrev ground : Areas
  ground = covered a place n c

  abbrev end : List ℕ
  end = write_run ground.disk place fs o bs

  numbers : n + c ≤ 256 ^ 8
  numbers = files-fit fs o (length bs) ready.some ready.fits

  cover : Covered a ground place n c
  cover = covers-all place ready.directory c a n ready.clean numbers ready.room

  set : Set ground.disk end place fs o bs
  set =
      set-run place fs ready.some ready.small bs ground.disk o cover.clean.sound
      (λ j l. let inside = covers fs ready.some o (o + length bs) (o + j) (omega arith) (omega arith) in cover.here (file_of fs (o + j)) inside.0 inside.1)

  is-wrote : wrote a place fs o bs ≡ areas end ground.session
  unfolding wrote cover_run
  is-wrote = refl

  pub wrote-files : Wrote a (wrote a place fs o bs) place fs o bs
  wrote-files =
      let rows = (session_of ground.session).tracking in
      let same = set.table in
      rw is-wrote
      (record {
        own = set.own rows ∙ ap (λ (f : Files). set_bytes fs f o bs) cover.step.own ∙ sym (write-steps fs ready.some bs (files_at a place) o);
        other = λ q h. set.other rows q h ∙ cover.step.other q h;
        once = once-table ground.disk end same cover.step.once;
        count = λ k e l m.
            let before = cover.step.count k e l m in
            let lack = lacking-same (on_disk ground.disk place) (on_disk end place) k e (λ j _ _. on-table ground.disk end same place j) in
            omega (arith, files-table ground.disk end same);
        there = λ q h j. on-table ground.disk end same q j ∙ cover.step.there q h j;
      })

  pub clean-wrote : Clean (wrote a place fs o bs)
  clean-wrote =
      let few = ready.clean.sound.head.few in
      record {
        sound = sound-wrote a place fs o bs ready.clean.sound ready.directory ready.some ready.small ready.fits;
        begun = begun-wrote a place fs o bs few ready.clean.begun;
        bytes = bytes-wrote-session a place fs o bs few ready.clean.begun.long ready.clean.bytes;
        once = wrote-files.once;
      }
