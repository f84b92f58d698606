-- A file made, or met again, and tracked: in the files of its directory its number is reached (`Covers.antt`), those of other directories stay, each file
-- still stands in one slot, and there is one file more if it was not there. Assumes nothing.
use Rattle.std.specs.Prelude.{◌≡◌, refl, ◌≢◌, Bool, true, false, cond, not, List, ℕ, zero, suc, ◌+◌, ◌≤◌, ◌<◌, ◌^◌, Option, Some, None}
use Rattle.std.proofs.Common.{sym, ap, ◌∙◌, arith, eq-eqb}
use Rattle.std.proofs.Math.Path.{fun_ext}
use Rattle.octets.specs.Number.{Bytes}
use Rattle.octets.specs.Only.{num_at-only}
use Rattle.octets.specs.Words.{with_row}
use Rattle.octets.specs.First.{first-misses, count}
use Rattle.octets.specs.Cases.{decide, equal}
use Rattle.components.specs.Files.{File, gone}
use Rattle.layout.specs.Disk.{entry_at, slots, owner, number, Sound}
use Rattle.layout.specs.Session.{Begun}
use Rattle.disk.specs.declared.files.Entry.{Entry}
use Rattle.disk.specs.Steps.{put_entry, is_file, is_free, find_in, free_slot, files}
use Rattle.disk.specs.StepLaws.{only-put_entry, owner-put_entry, number-put_entry, find-low, free-low, free-is}
use Rattle.disk.specs.SoundLaws.{slots-only, entry-room}
use Rattle.disk.specs.Ways.{make-met, make-new}
use Rattle.disk.specs.Meaning.{Disk, slot_with, disk_of, file_count, with_slot}
use Rattle.disk.specs.MeaningLaws.{owner-in, slots-in, find-slot, files-count, disk-put_entry}
use Rattle.disk.specs.FileLaws.{new_file, count-made}
use Rattle.session.specs.Rows.{tracking_of, put_tracking}
use Rattle.session.specs.Meaning.{session_of}
use Rattle.session.specs.MeaningLaws.{tracking-at}
use Rattle.session.specs.declared.tracking.Tracking.{Tracking}
use Rattle.session.specs.declared.tracking.Tracking.TheVariants.{Tracked}
use Rattle.rolling_tape.specs.declared.tracking.Change.TheVariants.{UntrackAbove}
use Rattle.rolling_tape.specs.Tracking.{is_tracked, retracked}
use Rattle.rolling_tape.specs.Files.{file_with, files_of, changed_in, file-in, file-out}
use Rattle.rolling_tape.specs.Removal.{Areas, areas}
use Rattle.rolling_tape.specs.Room.{is_found, on_disk}
use Rattle.rolling_tape.specs.RoomWays.{on-disk, not-on-disk}
use Rattle.rolling_tape.specs.Writing.{make_tracked}
use Rattle.rolling_tape.specs.WritingWays.{tracked-made, track-kept, track-new}
use Rattle.joins.specs.FilesAt.{files_at, Once}
use Rattle.joins.specs.Covers.{reached, reached-kept}
use Rattle.joins.specs.Slots.{tracks-own, tracks-other, made_found, made-else, files-else, tracking-new}

-- ---- searches

on-slot : (d : List ℕ) (q k : ℕ) → on_disk d q k ≡ is_found (slot_with (disk_of d) q k)
unfolding on_disk
on-slot d q k = ap is_found (find-slot d q k)

-- a number that the search misses, no slot has
missed : (d : List ℕ) (place n : ℕ) → find_in d place n ≡ None → (j : ℕ) → j < slots d → owner d j ≡ place + 1 → number d j ≡ n → ⊥
unfolding find_in
missed d place n e j l own same =
    let no_hit : is_file d place n j ≡ false = first-misses (is_file d place n) (slots d) 0 e j (omega arith) (omega arith) in
    let hit : is_file d place n j ≡ true = rw (eq-eqb (owner d j) (place + 1) own, eq-eqb (number d j) n same) in
    let z : ◌≡◌ {A = ℕ} 0 1 = cc in
    omega arith

count-all : (p : ℕ → Bool) (k i : ℕ) → ((j : ℕ) → i ≤ j → j < i + k → p j ≡ true) → count p k i ≡ k
unfolding count
count-all p zero i h = refl
count-all p (suc k) i h = rw (h i (omega arith) (omega arith), count-all p k (i + 1) (λ j l m. h j (omega arith) (omega arith))) (omega arith)

-- where the files are fewer than the slots, one is free
free-there : (d : List ℕ) → files d < slots d → free_slot d ≡ None → ⊥
unfolding files free_slot
free-there d few e =
    let all = count-all (λ i. not (is_free d i)) (slots d) 0 (λ j l h. rw (first-misses (is_free d) (slots d) 0 e j l h)) in
    omega arith

-- ---- the step

pub record Made (a b : Areas) (place n : ℕ) : Type 0 where
  pub own : files_at b place ≡ reached (files_at a place) n
  pub other : (q : ℕ) → q ≢ place → files_at b q ≡ files_at a q
  pub once : Once b.disk
  pub here : on_disk b.disk place n ≡ true
  pub elsewhere : (q j : ℕ) → (q ≡ place → j ≢ n) → on_disk b.disk q j ≡ on_disk a.disk q j
  pub count : files b.disk ≡ files a.disk + cond (on_disk a.disk place n) 0 1

module _ (d s : List ℕ) (place n : ℕ) (sound : Sound d) (begun : Begun s) (bytes : Bytes s) (once : Once d) where
  abbrev a : Areas
  a = areas d s

  abbrev rows : ℕ → Tracking
  rows = (session_of s).tracking

  -- its file is there
  module _ (i : ℕ) (e : find_in d place n ≡ Some i) where
    low : i < 64
    low = omega (arith, find-low d place n i e, sound.head.few)

    met : slot_with (disk_of d) place n ≡ Some i
    met = sym (find-slot d place n) ∙ e

    is-there : on_disk d place n ≡ true
    is-there = on-disk d place n i e

    same_count : files d ≡ files d + cond (on_disk d place n) 0 1
    same_count = rw is-there (omega arith)

    file-here : files_at a place n ≡ file_with ((disk_of d).slot i).bytes (tracking_of s i)
    file-here = file-in (disk_of d) rows place n i met ∙ ap (file_with ((disk_of d).slot i).bytes) (tracking-at s i low)

    -- and tracked
    made_kept : is_tracked (tracking_of s i) ≡ true → Made a (make_tracked a place n) place n
    made_kept t =
        let same : make_tracked a place n ≡ a
        = tracked-made d s place n d i (make-met d place n i e)
        ∙ ap (areas d) (track-kept d s place n (on_disk d place n) i (rw is-there t)) in
        rw same
        (record {
          own = sym (reached-kept (files_at a place) n (ap (λ (f : File). f.there) file-here) (ap (λ (f : File). f.tracked) file-here ∙ t));
          other = λ q h. refl;
          once = once;
          here = is-there;
          elsewhere = λ q j h. refl;
          count = same_count;
        })

    -- or not
    made-met : is_tracked (tracking_of s i) ≡ false → Made a (make_tracked a place n) place n
    made-met t =
        let u = put_tracking (retracked d s place (UntrackAbove n)) i Tracked in
        let same : make_tracked a place n ≡ areas d u
        = tracked-made d s place n d i (make-met d place n i e)
        ∙ ap (areas d) (track-new d s place n (on_disk d place n) i (rw is-there t)) in
        let new = tracking-new d s place n i sound.head.few begun bytes low in
        rw same
        (record {
          own = ap (λ (t : ℕ → Tracking). files_of (disk_of d) t place) new
              ∙ tracks-own (disk_of d) rows place n i met (files_at a place) (λ k h. refl)
              (ap (λ (f : File). f.tracked) file-here ∙ t) (ap (λ (f : File). f.bytes) file-here);
          other = λ q h.
              ap (λ (t : ℕ → Tracking). files_of (disk_of d) t q) new
              ∙ fun_ext (λ (k : ℕ). tracks-other (disk_of d) rows place n i met q k h);
          once = once;
          here = is-there;
          elsewhere = λ q j h. refl;
          count = same_count;
        })

  -- it is not, and is made in a free slot
  module _ (i : ℕ) (missing : find_in d place n ≡ None) (spare : free_slot d ≡ Some i) (directory : place < 8) (fits : n < 256 ^ 8) where
    abbrev entry : Entry
    entry = record { owner = place + 1; number = n; len = 0 }

    abbrev new : List ℕ
    new = put_entry d i entry

    room : i < slots d
    room = free-low d i spare

    was_free : ((disk_of d).slot i).owner ≡ 0
    was_free = owner-in d i room ∙ free-is d i spare

    no-slot : slot_with (disk_of d) place n ≡ None
    no-slot = sym (find-slot d place n) ∙ missing

    room_in : i < (disk_of d).slots
    room_in = rw (slots-in d) room

    now : disk_of new ≡ with_slot (disk_of d) i (new_file place n)
    now = disk-put_entry d sound i (place + 1) n room (omega arith) fits

    same-slots : slots new ≡ slots d
    same-slots = slots-only _ _ d new (only-put_entry d i entry) (omega arith)

    new-owner : owner new i ≡ place + 1
    new-owner = owner-put_entry d i entry (entry-room d sound i room) (omega arith)

    new-number : number new i ≡ n
    new-number = number-put_entry d i entry (entry-room d sound i room) fits

    old-owner : (j : ℕ) → j ≢ i → owner new j ≡ owner d j
    old-owner j h = num_at-only _ _ d new (only-put_entry d i entry) 8 (entry_at j) (λ q. omega arith)

    old-number : (j : ℕ) → j ≢ i → number new j ≡ number d j
    old-number j h = num_at-only _ _ d new (only-put_entry d i entry) 8 (entry_at j + 8) (λ q. omega arith)

    once-new : Once new
    once-new =
        record {
          once = λ x y l m some (o : owner new x ≡ owner new y) (k : number new x ≡ number new y).
              let l' : x < slots d = omega (arith, same-slots) in
              let m' : y < slots d = omega (arith, same-slots) in
              equal x i
              (λ (p : x ≡ i).
              equal y i
              (λ (r : y ≡ i). p ∙ sym r)
              (λ (r : y ≢ i).
              absurd
              (missed d place n missing y m' (sym (old-owner y r) ∙ sym o ∙ ap (owner new) p ∙ new-owner)
              (sym (old-number y r) ∙ sym k ∙ ap (number new) p ∙ new-number))))
              (λ (p : x ≢ i).
              equal y i
              (λ (r : y ≡ i).
              absurd
              (missed d place n missing x l' (sym (old-owner x p) ∙ o ∙ ap (owner new) r ∙ new-owner)
              (sym (old-number x p) ∙ k ∙ ap (number new) r ∙ new-number)))
              (λ (r : y ≢ i).
              once.once x y l' m' (λ q. some (old-owner x p ∙ q)) (sym (old-owner x p) ∙ o ∙ old-owner y r)
              (sym (old-number x p) ∙ k ∙ old-number y r)));
        }

    made-new : Made a (make_tracked a place n) place n
    made-new =
        let u = put_tracking (retracked new s place (UntrackAbove n)) i Tracked in
        let out : on_disk d place n ≡ false = not-on-disk d place n missing in
        let same : make_tracked a place n ≡ areas new u
        = tracked-made d s place n new i (make-new d place n i missing spare)
        ∙ ap (areas new) (track-new new s place n (on_disk d place n) i (rw out)) in
        let m = disk_of d in
        let few : slots new ≤ 64 = omega (arith, same-slots, sound.head.few) in
        let there = tracking-new new s place n i few begun bytes (omega (arith, room, sound.head.few)) in
        let was : files_at a place n ≡ gone = file-out m rows place n no-slot in
        let c = UntrackAbove n in
        let found = made_found m place n i no-slot room_in was_free in
        rw same
        (record {
          own = ap (λ (t : ℕ → Tracking). files_of (disk_of new) t place) there
              ∙ ap (λ (x : Disk). files_of x (with_row (changed_in x place c rows) i Tracked) place) now
              ∙ tracks-own (with_slot m i (new_file place n)) rows place n i found (files_at a place)
              (λ k h. files-else m place n i no-slot room_in was_free rows place k (λ _. h))
              (ap (λ (f : File). f.tracked) was) (ap (λ (f : File). f.bytes) was ∙ rw (eq-eqb i i refl));
          other = λ q h.
              ap (λ (t : ℕ → Tracking). files_of (disk_of new) t q) there
              ∙ ap (λ (x : Disk). files_of x (with_row (changed_in x place c rows) i Tracked) q) now
              ∙ fun_ext
              (λ (k : ℕ).
              tracks-other (with_slot m i (new_file place n)) rows place n i found q k h
              ∙ files-else m place n i no-slot room_in was_free rows q k (λ e. absurd (h e)));
          once = once-new;
          here = on-slot new place n ∙ ap (λ (x : Disk). is_found (slot_with x place n)) now ∙ ap is_found found;
          elsewhere = λ q j h.
              on-slot new q j
              ∙ ap (λ (x : Disk). is_found (slot_with x q j)) now
              ∙ ap is_found (made-else m place n i no-slot room_in was_free q j h)
              ∙ sym (on-slot d q j);
          count = files-count new
              ∙ ap file_count now
              ∙ count-made m i (new_file place n) room_in was_free (omega arith)
              ∙ ap (λ (k : ℕ). k + 1) (sym (files-count d))
              ∙ rw out;
        })

  -- there is room for it
  pub made : place < 8 → n < 256 ^ 8 → files d + cond (on_disk d place n) 0 1 ≤ slots d → Made a (make_tracked a place n) place n
  made directory fits room = by (find_in d place n) refl
    where
      fresh : find_in d place n ≡ None → (f : Option ℕ) → free_slot d ≡ f → Made a (make_tracked a place n) place n
      fresh e (Some i) h = made-new i e h directory fits
      fresh e None h =
          let out : on_disk d place n ≡ false = not-on-disk d place n e in
          let more : files d + 1 ≤ slots d = rw out at room in
          absurd (free-there d (omega arith) h)

      by : (f : Option ℕ) → find_in d place n ≡ f → Made a (make_tracked a place n) place n
      by (Some i) e = decide (is_tracked (tracking_of s i)) (made_kept i e) (made-met i e)
      by None e = fresh e (free_slot d) refl
