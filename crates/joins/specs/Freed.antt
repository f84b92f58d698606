-- Some files of one directory gone from a disk, each with its slot: what the rest of the disk then shows. Removal and emptying are such steps. Said of the
-- meaning; the last section brings it to the bytes. Assumes nothing.
use Rattle.std.specs.Prelude.{◌≡◌, refl, ◌≢◌, Bool, true, false, cond, not, List, ℕ, ◌+◌, ◌≤◌, ◌<◌, eqb, Option, Some, None}
use Rattle.std.proofs.Common.{sym, ap, ◌∙◌, true≢false, arith, eqb-true, ne_eqb}
use Rattle.std.proofs.Math.Path.{fun_ext}
use Rattle.octets.specs.First.{first, first-same, first-never, first-at, first-hits, first-misses, count-within}
use Rattle.octets.specs.Cases.{decide, and_l, and_r}
use Rattle.layout.specs.Disk.{slots, owner}
use Rattle.disk.specs.Meaning.{Slot, Disk, free, disk_of, slot_with, file_count}
use Rattle.disk.specs.MeaningLaws.{owner-in, number_in_lem, slots-in, find-slot, files-count}
use Rattle.disk.specs.FileLaws.{has, with-low, with-is}
use Rattle.components.specs.Files.{Files}
use Rattle.session.specs.Meaning.{session_of}
use Rattle.session.specs.declared.tracking.Tracking.{Tracking}
use Rattle.rolling_tape.specs.Room.{is_found, on_disk}
use Rattle.rolling_tape.specs.Files.{files_of, file-in, file-out}
use Rattle.rolling_tape.specs.Removal.{Areas}
use Rattle.joins.specs.FilesAt.{files_at, Once}
use Rattle.joins.specs.Tracks.{Changed}

-- ---- each file in one slot

-- `Once`, of the meaning
pub record Single (m : Disk) : Type 0 where
  pub single : (i j : ℕ) → i < m.slots → j < m.slots → (m.slot i).owner ≢ 0 → (m.slot i).owner ≡ (m.slot j).owner → (m.slot i).number ≡ (m.slot j).number → i ≡ j

pub once-single : (d : List ℕ) → Once d → Single (disk_of d)
once-single d h =
    record {
      single = λ i j l k used o n.
          let below : i < slots d = rw (slots-in d) at l in
          let under : j < slots d = rw (slots-in d) at k in
          h.once i j below under (rw (owner-in d i below) at used) (rw (owner-in d i below, owner-in d j under) at o) (rw (number_in_lem d i below, number_in_lem d j under) at n);
    }

pub single-once : (d : List ℕ) → Single (disk_of d) → Once d
single-once d h =
    record {
      once = λ i j l k used o n.
          h.single i j (rw (slots-in d) l) (rw (slots-in d) k) (rw (owner-in d i l) used) (rw (owner-in d i l, owner-in d j k) o) (rw (number_in_lem d i l, number_in_lem d j k) n);
    }

module _ (m : Disk) (h : Single m) (place k : ℕ) where
  -- a slot with the directory's number k is the one that is found
  pub has_one : (i j : ℕ) → slot_with m place k ≡ Some i → j < m.slots → has m place k j ≡ true → i ≡ j
  has_one i j e low t =
      let found = with-is m place k i e in
      let mine : (m.slot j).owner ≡ place + 1 = eqb-true _ _ (and_l _ _ t) in
      let same : (m.slot j).number ≡ k = eqb-true _ _ (and_r (eqb (m.slot j).owner (place + 1)) _ t) in
      h.single i j (with-low m place k i e) low (λ z. omega arith) (found.0 ∙ sym mine) (found.1 ∙ sym same)

  pub slot_is : (i : ℕ) → i < m.slots → has m place k i ≡ true → slot_with m place k ≡ Some i
  slot_is i low t = by (slot_with m place k) refl
    where
      by : (f : Option ℕ) → slot_with m place k ≡ f → slot_with m place k ≡ Some i
      by (Some j) e = e ∙ ap Some (has_one j i e low t)
      by None e = absurd (true≢false (sym t ∙ first-misses (has m place k) m.slots 0 e i (omega arith) (omega arith)))

-- ---- some slots of a directory freed

pub record Freed (m n : Disk) (place : ℕ) (goes : ℕ → Bool) : Type 0 where
  pub same : n.slots ≡ m.slots
  pub slot : (i : ℕ) → i < m.slots → n.slot i ≡ cond (goes i) free (m.slot i)
  pub mine : (i : ℕ) → i < m.slots → goes i ≡ true → (m.slot i).owner ≡ place + 1

module _ (m n : Disk) (place : ℕ) (goes : ℕ → Bool) (freed : Freed m n place goes) where
  slot_kept : (i : ℕ) → i < m.slots → goes i ≡ false → n.slot i ≡ m.slot i
  slot_kept i l e = freed.slot i l ∙ rw e

  slot-gone : (i : ℕ) → i < m.slots → goes i ≡ true → n.slot i ≡ free
  slot-gone i l e = freed.slot i l ∙ rw e

  has-gone : (q k i : ℕ) → i < m.slots → goes i ≡ true → has n q k i ≡ false
  has-gone q k i l e = rw (slot-gone i l e, ne_eqb 0 (q + 1) (λ z. omega arith))

  has_kept : (q k i : ℕ) → i < m.slots → goes i ≡ false → has n q k i ≡ has m q k i
  has_kept q k i l e = rw (slot_kept i l e)

  -- a search over the slots
  among : (q k : ℕ) → slot_with n q k ≡ first (has n q k) m.slots 0
  among q k = ap (λ (c : ℕ). first (has n q k) c 0) freed.same

  -- a file of another directory
  pub slot-other : (q k : ℕ) → q ≢ place → slot_with n q k ≡ slot_with m q k
  slot-other q k apart =
      among q k
      ∙ first-same (has n q k) (has m q k) m.slots 0
      (λ i l h.
      let low : i < m.slots = omega arith in
      decide (goes i)
      (λ (e : goes i ≡ true).
      let mine = freed.mine i low e in
      has-gone q k i low e ∙ sym (rw (ne_eqb (m.slot i).owner (q + 1) (λ z. apart (omega arith)))))
      (λ (e : goes i ≡ false). has_kept q k i low e))

  -- one of the directory: it is gone, or it stays, or it never was
  module _ (k : ℕ) where
    pub slot-left : Single m → (i : ℕ) → slot_with m place k ≡ Some i → goes i ≡ true → slot_with n place k ≡ None
    slot-left h i e g =
        among place k
        ∙ first-never (has n place k) m.slots 0
        (λ j l u.
        let low : j < m.slots = omega arith in
        decide (goes j)
        (λ (t : goes j ≡ true). has-gone place k j low t)
        (λ (t : goes j ≡ false).
        has_kept place k j low t
        ∙ decide (has m place k j)
        (λ (x : has m place k j ≡ true).
        let same : i ≡ j = has_one m h place k i j e low x in
        absurd (true≢false (sym g ∙ ap goes same ∙ t)))
        (λ x. x)))

    pub slot-stays : (i : ℕ) → slot_with m place k ≡ Some i → goes i ≡ false → slot_with n place k ≡ Some i
    slot-stays i e g =
        let hit = first-hits (has m place k) m.slots 0 i e in
        let low = with-low m place k i e in
        among place k
        ∙ first-at (has n place k) m.slots 0 i
        (record {
          low = omega arith;
          high = hit.high;
          holds = has_kept place k i low g ∙ hit.holds;
          before = λ j l u.
              decide (goes j)
              (λ (t : goes j ≡ true). has-gone place k j (omega arith) t)
              (λ (t : goes j ≡ false). has_kept place k j (omega arith) t ∙ hit.before j l u);
        })

    pub slot-never : slot_with m place k ≡ None → slot_with n place k ≡ None
    slot-never e =
        among place k
        ∙ first-never (has n place k) m.slots 0
        (λ j l u.
        decide (goes j)
        (λ (t : goes j ≡ true). has-gone place k j (omega arith) t)
        (λ (t : goes j ≡ false). has_kept place k j (omega arith) t ∙ first-misses (has m place k) m.slots 0 e j l u))

  -- ---- each file still in one slot, and no more of them

  kept-used : (i : ℕ) → i < m.slots → (n.slot i).owner ≢ 0 → n.slot i ≡ m.slot i
  kept-used i l used =
      decide (goes i)
      (λ (e : goes i ≡ true). absurd (used (ap (λ (r : Slot). r.owner) (slot-gone i l e))))
      (λ (e : goes i ≡ false). slot_kept i l e)

  pub single-freed : Single m → Single n
  single-freed h =
      record {
        single = λ i j l u used o k.
            let low : i < m.slots = rw freed.same at l in
            let under : j < m.slots = rw freed.same at u in
            let p : n.slot i ≡ m.slot i = kept-used i low used in
            let q : n.slot j ≡ m.slot j = kept-used j under (λ z. used (o ∙ z)) in
            h.single i j low under (rw p at used) (rw (p, q) at o) (rw (p, q) at k);
      }

  pub count-freed : file_count n ≤ file_count m
  count-freed =
      rw freed.same
      (count-within (λ i. not (eqb (m.slot i).owner 0)) (λ i. not (eqb (n.slot i).owner 0)) m.slots 0
      (λ i l h t.
      let low : i < m.slots = omega arith in
      decide (goes i)
      (λ (e : goes i ≡ true). absurd (true≢false (sym t ∙ rw (slot-gone i low e))))
      (λ (e : goes i ≡ false). rw (slot_kept i low e) at t)))

-- ---- the files of the other directories

files-other : (m n : Disk) (t u : ℕ → Tracking) (place : ℕ) (goes : ℕ → Bool) → Freed m n place goes
    → ((i : ℕ) → i < m.slots → (m.slot i).owner ≢ place + 1 → u i ≡ t i)
    → (q : ℕ) → q ≢ place → files_of n u q ≡ files_of m t q
files-other m n t u place goes freed rest q apart = fun_ext (λ (k : ℕ). by k (slot_with m q k) refl)
  where
    by : (k : ℕ) (f : Option ℕ) → slot_with m q k ≡ f → files_of n u q k ≡ files_of m t q k
    by k (Some i) e =
        let found = with-is m q k i e in
        let low = with-low m q k i e in
        let away : (m.slot i).owner ≢ place + 1 = λ z. apart (omega arith) in
        let stays : goes i ≡ false = decide (goes i) (λ g. absurd (away (freed.mine i low g))) (λ g. g) in
        file-in n u q k i (slot-other m n place goes freed q k apart ∙ e)
        ∙ (rw (slot_kept m n place goes freed i low stays, rest i low away))
        ∙ sym (file-in m t q k i e)
    by k None e = file-out n u q k (slot-other m n place goes freed q k apart ∙ e) ∙ sym (file-out m t q k e)

-- ---- both areas

-- some files of the directory are gone, and the other directories' are tracked as they were
pub record Thinned (a b : Areas) (place : ℕ) (goes : ℕ → Bool) : Type 0 where
  pub freed : Freed (disk_of a.disk) (disk_of b.disk) place goes
  pub rest : (i : ℕ) → i < slots a.disk → owner a.disk i ≢ place + 1 → (session_of b.session).tracking i ≡ (session_of a.session).tracking i

pub changed-thinned : (a b : Areas) (place : ℕ) (goes : ℕ → Bool) (f : Files) → Once a.disk → Thinned a b place goes → files_at b place ≡ f → Changed a b place f
unfolding on_disk
changed-thinned a b place goes f once thinned own =
    let d = a.disk in
    let e = b.disk in
    let freed = thinned.freed in
    let counted = count-freed (disk_of d) (disk_of e) place goes freed in
    record {
      own = own;
      other = λ q apart.
          files-other (disk_of d) (disk_of e) (session_of a.session).tracking (session_of b.session).tracking place goes freed
          (λ i l away. let low : i < slots d = rw (slots-in d) at l in thinned.rest i low (rw (owner-in d i low) at away)) q apart;
      once = single-once e (single-freed (disk_of d) (disk_of e) place goes freed (once-single d once));
      fewer = rw (files-count d, files-count e) counted;
      there = λ q apart j.
          ap is_found (find-slot e q j ∙ slot-other (disk_of d) (disk_of e) place goes freed q j apart ∙ sym (find-slot d q j));
    }
