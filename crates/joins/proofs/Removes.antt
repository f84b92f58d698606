-- Removal over the slots is document 01's over the numbers. The step sweeps the slots and asks at each whether its file goes, of the areas as they are at
-- that moment; a file that went was ripe, so it stopped nobody, and every slot is asked as at the start. Assumes nothing.
use Rattle.std.specs.Prelude.{◌≡◌, ◌≢◌, ◌⊎◌, Bool, true, false, ◌&&◌, ℕ, ◌+◌, ◌≤◌, ◌<◌, Option, Some, None}
use Rattle.std.proofs.Math.Path.{refl, ap, fun_ext}
use Rattle.std.proofs.Common.{sym, ◌∙◌, inr, ⊎_elim, arith, eq-eqb, ne_eqb}
use Rattle.std.proofs.Math.Logic.{inl}
use Rattle.std.proofs.Math.Bool.{cond, not}
use Rattle.std.proofs.Math.Dec.{eqb}
use Rattle.octets.specs.First.{all}
use Rattle.octets.specs.Sweep.{Rowwise, sweep-row}
use Rattle.octets.specs.Cases.{picked, decide, equal}
use Rattle.layout.specs.Disk.{slots, Sound}
use Rattle.components.specs.Files.{File, gone, remove}
use Rattle.components.proofs.MarkLaws.{remove-gone, remove-kept, kept-untracked}
use Rattle.disk.specs.Steps.{removed}
use Rattle.disk.specs.Meaning.{Disk, free, disk_of, slot_with}
use Rattle.disk.specs.MeaningLaws.{owner-in, slots-in, disk-removed}
use Rattle.disk.specs.FileLaws.{with-low}
use Rattle.session.specs.Meaning.{Session, session_of}
use Rattle.session.specs.MeaningLaws.{Ready, ready-put_tracking, session-put_tracking}
use Rattle.session.specs.KeepLaws.{begun-ready}
use Rattle.session.specs.Rows.{put_tracking}
use Rattle.session.specs.declared.tracking.Tracking.TheVariants.{Untracked}
use Rattle.rolling_tape.specs.Tracking.{is_ripe}
use Rattle.rolling_tape.specs.Removal.{Areas, areas, goes, remove_slot, remove_ripe}
use Rattle.rolling_tape.specs.RemovalLaws.{slots-remove_slot, sound-remove_slot, slots-remove_ripe}
use Rattle.rolling_tape.specs.Files.{file_with, file-in, file-out}
use Rattle.ending.specs.StepLaws.{Whole}
use Rattle.joins.specs.FilesAt.{files_at, Once}
use Rattle.joins.specs.Tracks.{Changed}
use Rattle.joins.specs.Freed.{once-single, slot-left, slot-stays, slot-never, Thinned, changed-thinned}
use Rattle.joins.specs.Ripe.{SlotRow, no_slot_row, row_at, stops_row, stopping, going, going-mine, going-ripe, ripe-stops, going-bytes, all_same}
use Rattle.joins.proofs.Ripe.{going-removes}

-- ---- the sweep

-- which slots' files go, as the areas are
abbrev goes_at : Areas → ℕ → ℕ → ℕ → Bool
goes_at a place oldest i = going (disk_of a.disk) (session_of a.session).tracking place oldest i

-- one file removed
abbrev without : Areas → ℕ → Areas
without a i = areas (removed a.disk i) (put_tracking a.session i Untracked)

module _ (a : Areas) (i : ℕ) (sound : Sound a.disk) (ready : Ready a.session) (low : i < slots a.disk) where
  slot-without : (j : ℕ) → (disk_of (without a i).disk).slot j ≡ cond (eqb j i) free ((disk_of a.disk).slot j)
  slot-without j = ap (λ (m : Disk). m.slot j) (disk-removed a.disk sound i low)

  tracking-without : (j : ℕ) → (session_of (without a i).session).tracking j ≡ cond (eqb j i) Untracked ((session_of a.session).tracking j)
  tracking-without j =
      let few = sound.head.few in
      ap (λ (m : Session). m.tracking j) (session-put_tracking a.session i Untracked ready (omega arith) (record { epoch = omega arith }))

  row_new : row_at (without a i) i ≡ no_slot_row
  row_new = rw (slot-without i, tracking-without i, eq-eqb i i refl)

  row_old : (j : ℕ) → j ≢ i → row_at (without a i) j ≡ row_at a j
  row_old j d = rw (slot-without j, tracking-without j, ne_eqb j i d)

-- what the sweep has made of the areas: each row is as it was, or its file, which was to go, is gone
record Swept (a b : Areas) (place oldest : ℕ) : Type 0 where
  sound : Sound b.disk
  ready : Ready b.session
  same : slots b.disk ≡ slots a.disk
  rows : (i : ℕ) → i < slots a.disk → (row_at b i ≡ row_at a i) ⊎ ((goes_at a place oldest i ≡ true) × (row_at b i ≡ no_slot_row))

module _ (a b : Areas) (place oldest : ℕ) (swept : Swept a b place oldest) where
  -- a file that went stopped nobody
  stops_same : (n j : ℕ) → j < slots a.disk
      → stopping (disk_of b.disk) (session_of b.session).tracking place oldest n j ≡ stopping (disk_of a.disk) (session_of a.session).tracking place oldest n j
  stops_same n j low =
      ⊎_elim
      (λ (e : row_at b j ≡ row_at a j). ap (stops_row place oldest n) e)
      (λ (e : (goes_at a place oldest j ≡ true) × (row_at b j ≡ no_slot_row)).
      ap (stops_row place oldest n) e.1
      ∙ (rw (ne_eqb 0 (place + 1) (λ z. omega arith)))
      ∙ sym (ripe-stops (disk_of a.disk) (session_of a.session).tracking place oldest n j (going-ripe (disk_of a.disk) (session_of a.session).tracking place oldest j e.0)))
      (swept.rows j low)

  goes_same : (i : ℕ) → i < slots a.disk → row_at b i ≡ row_at a i → goes_at b place oldest i ≡ goes_at a place oldest i
  unfolding going
  goes_same i low e =
      let old = row_at a i in
      ap
      (λ (r : SlotRow).
      eqb r.slot.owner (place + 1)
      && (is_ripe oldest r.tracking && all (λ j. not (stops_row place oldest r.slot.number (row_at b j))) (disk_of b.disk).slots 0)) e
      ∙ ap (λ (x : Bool). eqb old.slot.owner (place + 1) && (is_ripe oldest old.tracking && x)) (clear old.slot.number)
    where
      clear : (n : ℕ)
          → all (λ j. not (stops_row place oldest n (row_at b j))) (disk_of b.disk).slots 0 ≡ all (λ j. not (stops_row place oldest n (row_at a j))) (disk_of a.disk).slots 0
      clear n =
          rw (slots-in b.disk, slots-in a.disk, swept.same)
          (all_same _ _ (slots a.disk) (λ j l. ap not (stops_same n j l)))

-- both ways out of a turn
turn : (place oldest i : ℕ) (b : Areas) (P : Areas → Type 0) → (goes b.disk b.session place oldest i ≡ true → P (without b i))
    → (goes b.disk b.session place oldest i ≡ false → P b)
    → P (remove_slot place oldest i b)
unfolding remove_slot
turn place oldest i b P f g = picked P (goes b.disk b.session place oldest i) (without b i) b f g

module _ (a : Areas) (place oldest : ℕ) (few : slots a.disk ≤ 64) where
  module _ (b : Areas) (swept : Swept a b place oldest) (i : ℕ) (l : i < slots a.disk) where
    low : i < slots b.disk
    low = rw swept.same l

    now : goes b.disk b.session place oldest i ≡ goes_at b place oldest i
    now = going-bytes b.disk b.session place oldest i (rw swept.same few) low

    -- a file that goes now was to go at the start; one that stays was to stay, or is gone
    went : goes b.disk b.session place oldest i ≡ true → goes_at a place oldest i ≡ true
    went t =
        ⊎_elim
        (λ (e : row_at b i ≡ row_at a i). sym (goes_same a b place oldest swept i l e) ∙ sym now ∙ t)
        (λ (e : (goes_at a place oldest i ≡ true) × (row_at b i ≡ no_slot_row)). e.0)
        (swept.rows i l)

    stayed : goes b.disk b.session place oldest i ≡ false → row_at b i ≡ cond (goes_at a place oldest i) no_slot_row (row_at b i)
    stayed t =
        ⊎_elim
        (λ (e : row_at b i ≡ row_at a i). rw (sym (goes_same a b place oldest swept i l e) ∙ sym now ∙ t))
        (λ (e : (goes_at a place oldest i ≡ true) × (row_at b i ≡ no_slot_row)). rw e.0 e.1)
        (swept.rows i l)

  each : Rowwise (λ b. Swept a b place oldest) row_at (remove_slot place oldest) (λ i r. cond (goes_at a place oldest i) no_slot_row r) (slots a.disk)
  each =
      record {
        keeps = λ i b l p.
            let in_b = low b p i l in
            record {
              sound = sound-remove_slot place oldest i b p.sound in_b;
              ready = turn place oldest i b (λ c. Ready c.session) (λ t. ready-put_tracking b.session i Untracked p.ready (omega arith)) (λ t. p.ready);
              same = slots-remove_slot place oldest i b ∙ p.same;
              rows = λ j m.
                  turn place oldest i b (λ c. (row_at c j ≡ row_at a j) ⊎ ((goes_at a place oldest j ≡ true) × (row_at c j ≡ no_slot_row)))
                  (λ t.
                  equal j i
                  (λ (e : j ≡ i). rw e (inr (went b p i l t, row_new b i p.sound p.ready in_b)))
                  (λ (d : j ≢ i). rw (row_old b i p.sound p.ready in_b j d) (p.rows j m)))
                  (λ t. p.rows j m);
            };
        own = λ i b l p.
            turn place oldest i b (λ c. row_at c i ≡ cond (goes_at a place oldest i) no_slot_row (row_at b i))
            (λ t. rw (went b p i l t) (row_new b i p.sound p.ready (low b p i l)))
            (λ t. stayed b p i l t);
        other = λ i j b l m d p.
            turn place oldest i b (λ c. row_at c j ≡ row_at b j) (λ t. row_old b i p.sound p.ready (low b p i l) j d) (λ t. refl);
      }

-- ---- the whole of it

module _ (a : Areas) (place oldest : ℕ) (whole : Whole a) where
  row-removed : (i : ℕ) → i < slots a.disk → row_at (remove_ripe a place oldest) i ≡ cond (goes_at a place oldest i) no_slot_row (row_at a i)
  unfolding remove_ripe
  row-removed i l =
      sweep-row (λ b. Swept a b place oldest) row_at (remove_slot place oldest) (λ i r. cond (goes_at a place oldest i) no_slot_row r) (slots a.disk)
      (each a place oldest whole.sound.head.few) (slots a.disk) 0 a i (omega arith)
      (record { sound = whole.sound; ready = begun-ready a.session whole.begun; same = refl; rows = λ j m. inl refl })
      (omega arith)
      (omega arith)

  row-left : (i : ℕ) → i < slots a.disk → goes_at a place oldest i ≡ true → row_at (remove_ripe a place oldest) i ≡ no_slot_row
  row-left i l e = row-removed i l ∙ rw e

  row_kept : (i : ℕ) → i < slots a.disk → goes_at a place oldest i ≡ false → row_at (remove_ripe a place oldest) i ≡ row_at a i
  row_kept i l e = row-removed i l ∙ rw e

  thinned-removed : Thinned a (remove_ripe a place oldest) place (goes_at a place oldest)
  thinned-removed =
      let b = remove_ripe a place oldest in
      record {
        freed = record {
          same = slots-in b.disk ∙ slots-remove_ripe a place oldest ∙ sym (slots-in a.disk);
          slot = λ i l.
              let low : i < slots a.disk = rw (slots-in a.disk) at l in
              decide (goes_at a place oldest i)
              (λ (e : goes_at a place oldest i ≡ true). rw e (ap (λ (r : SlotRow). r.slot) (row-left i low e)))
              (λ (e : goes_at a place oldest i ≡ false). rw e (ap (λ (r : SlotRow). r.slot) (row_kept i low e)));
          mine = λ i l e. going-mine (disk_of a.disk) (session_of a.session).tracking place oldest i e;
        };
        rest = λ i l away.
            decide (goes_at a place oldest i)
            (λ (e : goes_at a place oldest i ≡ true).
            absurd (away (sym (owner-in a.disk i l) ∙ going-mine (disk_of a.disk) (session_of a.session).tracking place oldest i e)))
            (λ (e : goes_at a place oldest i ≡ false). ap (λ (r : SlotRow). r.tracking) (row_kept i l e));
      }

  module _ (once : Once a.disk) where
    own-removed : files_at (remove_ripe a place oldest) place ≡ remove oldest (files_at a place)
    own-removed = fun_ext (λ (k : ℕ). by k (slot_with (disk_of a.disk) place k) refl)
      where
        by : (k : ℕ) (f : Option ℕ) → slot_with (disk_of a.disk) place k ≡ f → files_at (remove_ripe a place oldest) place k ≡ remove oldest (files_at a place) k
        by k (Some i) e =
            let m = disk_of a.disk in
            let t = (session_of a.session).tracking in
            let n = disk_of (remove_ripe a place oldest).disk in
            let u = (session_of (remove_ripe a place oldest).session).tracking in
            let freed = thinned-removed.freed in
            let single = once-single a.disk once in
            let low : i < slots a.disk = rw (slots-in a.disk) at (with-low m place k i e) in
            let same = going-removes m t place oldest single k i e in
            decide (goes_at a place oldest i)
            (λ (g : goes_at a place oldest i ≡ true).
            file-out n u place k (slot-left m n place (goes_at a place oldest) freed k single i e g)
            ∙ sym (remove-gone oldest (files_at a place) k (sym same ∙ g)))
            (λ (g : goes_at a place oldest i ≡ false).
            file-in n u place k i (slot-stays m n place (goes_at a place oldest) freed k i e g)
            ∙ ap (λ (r : SlotRow). file_with r.slot.bytes r.tracking) (row_kept i low g)
            ∙ sym (file-in m t place k i e)
            ∙ sym (remove-kept oldest (files_at a place) k (sym same ∙ g)))
        by k None e =
            let m = disk_of a.disk in
            let t = (session_of a.session).tracking in
            let n = disk_of (remove_ripe a place oldest).disk in
            let u = (session_of (remove_ripe a place oldest).session).tracking in
            let none : files_at a place k ≡ gone = file-out m t place k e in
            file-out n u place k (slot-never m n place (goes_at a place oldest) thinned-removed.freed k e)
            ∙ sym none
            ∙ sym (remove-kept oldest (files_at a place) k (kept-untracked oldest (files_at a place) k (ap (λ (f : File). f.tracked) none)))

    pub changed-removed : Changed a (remove_ripe a place oldest) place (remove oldest (files_at a place))
    changed-removed = changed-thinned a (remove_ripe a place oldest) place (goes_at a place oldest) (remove oldest (files_at a place)) once thinned-removed own-removed
