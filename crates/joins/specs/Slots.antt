-- A directory's file tracked in its slot, and one made in a free slot, as the meaning of the two areas has them: what becomes of the files of that directory
-- and of the others. Assumes nothing.
use Rattle.std.specs.Prelude.{◌≡◌, refl, ◌≢◌, false, cond, ◌&&◌, List, ℕ, ◌+◌, ◌≤◌, ◌<◌, eqb, ltb, Option, Some, None}
use Rattle.std.proofs.Common.{sym, ap, ◌∙◌, arith, eq-eqb, ne_eqb, lt-ltb, le-ltb}
use Rattle.std.proofs.Math.Path.{fun_ext}
use Rattle.octets.specs.Number.{Bytes}
use Rattle.octets.specs.Words.{with_row, table-out}
use Rattle.octets.specs.First.{first-same, first-at, first-misses}
use Rattle.octets.specs.Cases.{order, equal}
use Rattle.components.specs.Files.{File, Files, untracked}
use Rattle.layout.specs.Disk.{slots}
use Rattle.layout.specs.Session.{Begun}
use Rattle.disk.specs.Meaning.{Slot, Disk, free, slot_of, slot_with, disk_of, with_slot}
use Rattle.disk.specs.MeaningLaws.{owner-in, number_in_lem}
use Rattle.disk.specs.FileLaws.{has, with-is, new_file}
use Rattle.session.specs.Rows.{put_tracking}
use Rattle.session.specs.KeepLaws.{begun-ready}
use Rattle.session.specs.Meaning.{Session, session_of}
use Rattle.session.specs.MeaningLaws.{ready-only, session-put_tracking}
use Rattle.session.specs.declared.tracking.Tracking.{Tracking}
use Rattle.session.specs.declared.tracking.Tracking.TheVariants.{Tracked}
use Rattle.rolling_tape.specs.declared.tracking.Change.{Change}
use Rattle.rolling_tape.specs.declared.tracking.Change.TheVariants.{UntrackAbove}
use Rattle.rolling_tape.specs.Tracking.{retracked}
use Rattle.rolling_tape.specs.TrackingLaws.{only-retracked, retracks, session-retracked}
use Rattle.rolling_tape.specs.Files.{file_with, files_of, changed_in, file-in, file-out, files-changed, files-unchanged}
use Rattle.joins.specs.Covers.{reached, reached-own, reached-other}

-- ---- a slot's tracking set

module _ (m : Disk) (t : ℕ → Tracking) (i : ℕ) (r : Tracking) (q k : ℕ) where
  -- the file of another slot
  row_other : (slot_with m q k ≡ Some i → ⊥) → files_of m (with_row t i r) q k ≡ files_of m t q k
  row_other apart = by (slot_with m q k) refl
    where
      by : (found : Option ℕ) → slot_with m q k ≡ found → files_of m (with_row t i r) q k ≡ files_of m t q k
      by (Some j) e =
          let other : with_row t i r j ≡ t j = rw (ne_eqb j i (λ (same : j ≡ i). apart (e ∙ ap Some same))) in
          file-in m (with_row t i r) q k j e ∙ ap (file_with (m.slot j).bytes) other ∙ sym (file-in m t q k j e)
      by None e = file-out m (with_row t i r) q k e ∙ sym (file-out m t q k e)

  row-own : slot_with m q k ≡ Some i → files_of m (with_row t i r) q k ≡ file_with (m.slot i).bytes r
  row-own e =
      let own : with_row t i r i ≡ r = rw (eq-eqb i i refl) in
      file-in m (with_row t i r) q k i e ∙ ap (file_with (m.slot i).bytes) own

-- slot i has file n of the directory, untracked so far: with it tracked and those above untracked, its number is reached
module _ (m : Disk) (t : ℕ → Tracking) (place n i : ℕ) (e : slot_with m place n ≡ Some i) where
  abbrev tracks : ℕ → Tracking
  tracks = with_row (changed_in m place (UntrackAbove n) t) i Tracked

  not-its-slot : (q k : ℕ) → (q ≡ place → k ≢ n) → slot_with m q k ≡ Some i → ⊥
  not-its-slot q k apart h =
      let old = with-is m place n i e in
      let new = with-is m q k i h in
      apart (omega arith) (omega arith)

  pub tracks-own : (f : Files) → ((k : ℕ) → k ≢ n → files_of m t place k ≡ f k) → (f n).tracked ≡ false → (f n).bytes ≡ (m.slot i).bytes
      → files_of m tracks place ≡ reached f n
  tracks-own f same out bytes =
      fun_ext
      (λ (k : ℕ).
      equal k n
      (λ (h : k ≡ n). rw h (row-own m (changed_in m place (UntrackAbove n) t) i Tracked place n e ∙ sym (reached-own f n ∙ rw (out, bytes))))
      (λ (d : k ≢ n).
      row_other m (changed_in m place (UntrackAbove n) t) i Tracked place k (not-its-slot place k (λ _. d))
      ∙ files-changed m t place (UntrackAbove n) k
      ∙ ap (λ (g : File). cond (ltb n k) (untracked g) g) (same k d)
      ∙ sym (reached-other f n k d ∙ rw out)))

  pub tracks-other : (q k : ℕ) → q ≢ place → files_of m tracks q k ≡ files_of m t q k
  tracks-other q k apart =
      row_other m (changed_in m place (UntrackAbove n) t) i Tracked q k (not-its-slot q k (λ h. absurd (apart h)))
      ∙ files-unchanged m t place q (UntrackAbove n) k apart

-- ---- a file made in a free slot

module _ (m : Disk) (place n i : ℕ) (missing : slot_with m place n ≡ None) (low : i < m.slots) (was_free : (m.slot i).owner ≡ 0) where
  abbrev with_file : Disk
  with_file = with_slot m i (new_file place n)

  pub made_found : slot_with with_file place n ≡ Some i
  made_found =
      first-at (has with_file place n) m.slots 0 i
      (record {
        low = omega arith;
        high = omega arith;
        holds = rw (eq-eqb i i refl, eq-eqb (place + 1) (place + 1) refl, eq-eqb n n refl);
        before = λ j a b.
            rw (ne_eqb j i (λ e. omega arith)) (first-misses (has m place n) m.slots 0 missing j (omega arith) (omega arith));
      })

  pub made-else : (q k : ℕ) → (q ≡ place → k ≢ n) → slot_with with_file q k ≡ slot_with m q k
  made-else q k other =
      first-same _ (has m q k) m.slots 0
      (λ j l h.
      equal j i
      (λ (e : j ≡ i). rw (e, eq-eqb i i refl) (differs ∙ sym free-differs))
      (λ (d : j ≢ i). rw (ne_eqb j i d)))
    where
      differs : (eqb (place + 1) (q + 1) && eqb n k) ≡ false
      differs =
          equal place q
          (λ (p : place ≡ q). rw (eq-eqb (place + 1) (q + 1) (omega arith), ne_eqb n k (λ h. other (sym p) (sym h))))
          (λ (p : place ≢ q). rw (ne_eqb (place + 1) (q + 1) (λ h. p (omega arith))))

      free-differs : has m q k i ≡ false
      free-differs = rw (ne_eqb (m.slot i).owner (q + 1) (λ h. omega arith))

  pub files-else : (t : ℕ → Tracking) (q k : ℕ) → (q ≡ place → k ≢ n) → files_of with_file t q k ≡ files_of m t q k
  files-else t q k other = by (slot_with m q k) refl
    where
      by : (found : Option ℕ) → slot_with m q k ≡ found → files_of with_file t q k ≡ files_of m t q k
      by (Some j) e =
          let found = with-is m q k j e in
          let apart : j ≢ i = λ (h : j ≡ i). let own : (m.slot j).owner ≡ 0 = ap (λ (x : ℕ). (m.slot x).owner) h ∙ was_free in omega arith in
          let kept : with_file.slot j ≡ m.slot j = rw (ne_eqb j i apart) in
          file-in with_file t q k j (made-else q k other ∙ e) ∙ ap (λ (x : Slot). file_with x.bytes (t j)) kept ∙ sym (file-in m t q k j e)
      by None e = file-out with_file t q k (made-else q k other ∙ e) ∙ sym (file-out m t q k e)

-- ---- the session's rows

owner-out : (d : List ℕ) (j : ℕ) → slots d ≤ j → ((disk_of d).slot j).owner ≡ 0
unfolding disk_of
owner-out d j l = ap (λ (r : Slot). r.owner) (table-out (slots d) free (slot_of d) j l)

-- a change of tracking, said of the bytes and of the meaning, is the same: a slot beyond the disk's is nobody's
pub retracks-in : (d : List ℕ) (place : ℕ) (c : Change) (t : ℕ → Tracking) → retracks d place c t ≡ changed_in (disk_of d) place c t
retracks-in d place c t =
    fun_ext
    (λ (j : ℕ).
    order j (slots d)
    (λ (l : j < slots d). rw (lt-ltb j (slots d) l, owner-in d j l, number_in_lem d j l))
    (λ (l : slots d ≤ j). rw (le-ltb j (slots d) l, ne_eqb ((disk_of d).slot j).owner (place + 1) (λ h. omega (arith, owner-out d j l)))))

-- those above untracked, and a slot's file tracked
pub tracking-new : (d s : List ℕ) (place n i : ℕ) → slots d ≤ 64 → Begun s → Bytes s → i < 64
    → (session_of (put_tracking (retracked d s place (UntrackAbove n)) i Tracked)).tracking
    ≡ with_row (changed_in (disk_of d) place (UntrackAbove n) (session_of s).tracking) i Tracked
tracking-new d s place n i few begun bytes low =
    let above = retracked d s place (UntrackAbove n) in
    let ready = begun-ready s begun in
    let ready' = ready-only 4936 5960 s above (only-retracked d s place (UntrackAbove n) few) (λ l. omega arith) ready in
    ap (λ (m : Session). m.tracking) (session-put_tracking above i Tracked ready' low (record { epoch = omega arith }))
    ∙ ap (λ (m : Session). with_row m.tracking i Tracked) (session-retracked d s place (UntrackAbove n) few ready bytes (record { epoch = omega arith }))
    ∙ ap (λ (t : ℕ → Tracking). with_row t i Tracked) (retracks-in d place (UntrackAbove n) (session_of s).tracking)
