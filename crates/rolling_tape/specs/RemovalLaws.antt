-- Laws of removal: where it writes, and that it keeps the disk sound, the session begun, and both areas' lengths. Assumes nothing.
use Rattle.std.specs.Prelude.{◌≡◌, refl, true, false, List, ℕ, ◌+◌, ◌≤◌, ◌<◌}
use Rattle.std.proofs.Common.{◌∙◌, arith}
use Rattle.std.proofs.Math.ListN.{length}
use Rattle.octets.specs.Number.{Bytes}
use Rattle.octets.specs.Only.{OnlyIn, only_none, only_then, only_wider}
use Rattle.octets.specs.Sweep.{sweep-keeps}
use Rattle.octets.specs.Cases.{picked}
use Rattle.layout.specs.Disk.{entry_at, slots, Sound}
use Rattle.layout.specs.Session.{session_bytes, tracking_at, Begun}
use Rattle.disk.specs.Steps.{removed}
use Rattle.disk.specs.StepLaws.{only-removed, bytes-removed}
use Rattle.disk.specs.SoundLaws.{slots-only, entry-room, sound-removed}
use Rattle.session.specs.Rows.{put_tracking}
use Rattle.session.specs.RowLaws.{only-put_tracking}
use Rattle.session.specs.KeepLaws.{begun-only, bytes-put_tracking}
use Rattle.session.specs.declared.tracking.Tracking.TheVariants.{Untracked}
use Rattle.rolling_tape.specs.Removal.{Areas, areas, goes, remove_slot, remove_ripe}

-- ---- one slot

module _ (place oldest i : ℕ) (d s : List ℕ) where
  pub slot-goes : goes d s place oldest i ≡ true → remove_slot place oldest i (areas d s) ≡ areas (removed d i) (put_tracking s i Untracked)
  unfolding remove_slot
  slot-goes e = rw e

  pub slot-stays : goes d s place oldest i ≡ false → remove_slot place oldest i (areas d s) ≡ areas d s
  unfolding remove_slot
  slot-stays e = rw e

module _ (place oldest i : ℕ) (a : Areas) where
  -- what holds after both ways out
  slot-either : (P : Areas → Type 0) → P (areas (removed a.disk i) (put_tracking a.session i Untracked)) → P a → P (remove_slot place oldest i a)
  unfolding remove_slot
  slot-either P p q = picked P (goes a.disk a.session place oldest i) _ a (λ e. p) (λ e. q)

  pub only-slot-disk : OnlyIn (entry_at i) (entry_at i + 24) a.disk (remove_slot place oldest i a).disk
  only-slot-disk = slot-either (λ (b : Areas). OnlyIn (entry_at i) (entry_at i + 24) a.disk b.disk) (only-removed a.disk i) (only_none _ _ a.disk)

  pub only-slot-session : OnlyIn (tracking_at i) (tracking_at i + 16) a.session (remove_slot place oldest i a).session
  only-slot-session =
      slot-either (λ (b : Areas). OnlyIn (tracking_at i) (tracking_at i + 16) a.session b.session) (only-put_tracking a.session i Untracked) (only_none _ _ a.session)

  pub slots-remove_slot : slots (remove_slot place oldest i a).disk ≡ slots a.disk
  slots-remove_slot = slots-only _ _ a.disk _ only-slot-disk (omega arith)

  pub sound-remove_slot : Sound a.disk → i < slots a.disk → Sound (remove_slot place oldest i a).disk
  sound-remove_slot sound low = slot-either (λ (b : Areas). Sound b.disk) (sound-removed a.disk sound i low) sound

  pub bytes-slot-disk : entry_at i + 24 ≤ length a.disk → Bytes a.disk → Bytes (remove_slot place oldest i a).disk
  bytes-slot-disk room bytes = slot-either (λ (b : Areas). Bytes b.disk) (bytes-removed a.disk i room bytes) bytes

  pub bytes-slot-session : tracking_at i + 16 ≤ length a.session → Bytes a.session → Bytes (remove_slot place oldest i a).session
  bytes-slot-session room bytes = slot-either (λ (b : Areas). Bytes b.session) (bytes-put_tracking a.session bytes i Untracked room) bytes

-- ---- every slot

module _ (a : Areas) (place oldest : ℕ) where
  -- only the entries, and the rows of tracking, of the disk's slots
  pub only-entries : OnlyIn 1312 (entry_at (slots a.disk)) a.disk (remove_ripe a place oldest).disk
  unfolding remove_ripe
  only-entries =
      let end = entry_at (slots a.disk) in
      sweep-keeps (λ (b : Areas). OnlyIn 1312 end a.disk b.disk) (remove_slot place oldest) (slots a.disk) 0 a
      (λ j b l h only. only_then 1312 end _ _ _ only (only_wider _ _ 1312 end _ _ (omega arith) (omega arith) (only-slot-disk place oldest j b)))
      (only_none 1312 end a.disk)

  pub only-marks : OnlyIn 4936 (tracking_at (slots a.disk)) a.session (remove_ripe a place oldest).session
  unfolding remove_ripe
  only-marks =
      let end = tracking_at (slots a.disk) in
      sweep-keeps (λ (b : Areas). OnlyIn 4936 end a.session b.session) (remove_slot place oldest) (slots a.disk) 0 a
      (λ j b l h only. only_then 4936 end _ _ _ only (only_wider _ _ 4936 end _ _ (omega arith) (omega arith) (only-slot-session place oldest j b)))
      (only_none 4936 end a.session)

  pub length-remove_ripe-disk : length (remove_ripe a place oldest).disk ≡ length a.disk
  length-remove_ripe-disk = only-entries.long

  pub length-remove_ripe-session : length (remove_ripe a place oldest).session ≡ length a.session
  length-remove_ripe-session = only-marks.long

  pub slots-remove_ripe : slots (remove_ripe a place oldest).disk ≡ slots a.disk
  slots-remove_ripe = slots-only _ _ a.disk _ only-entries (omega arith)

  pub sound-remove_ripe : Sound a.disk → Sound (remove_ripe a place oldest).disk
  unfolding remove_ripe
  sound-remove_ripe sound =
      (sweep-keeps (λ (b : Areas). Sound b.disk × (slots b.disk ≡ slots a.disk)) (remove_slot place oldest) (slots a.disk) 0 a
      (λ j b l h p.
      (sound-remove_slot place oldest j b p.0 (rw p.1 (omega arith)), slots-remove_slot place oldest j b ∙ p.1))
      (sound, refl)).0

  pub bytes-remove_ripe-disk : Sound a.disk → Bytes a.disk → Bytes (remove_ripe a place oldest).disk
  unfolding remove_ripe
  bytes-remove_ripe-disk sound bytes =
      (sweep-keeps (λ (b : Areas). (length b.disk ≡ length a.disk) × Bytes b.disk) (remove_slot place oldest) (slots a.disk) 0 a
      (λ j b l h p.
      let room : entry_at j + 24 ≤ length b.disk = rw p.0 (entry-room a.disk sound j (omega arith)) in
      ((only-slot-disk place oldest j b).long ∙ p.0, bytes-slot-disk place oldest j b room p.1))
      (refl, bytes)).1

  module _ (few : slots a.disk ≤ 64) where
    pub only-remove_ripe-session : OnlyIn 4936 5960 a.session (remove_ripe a place oldest).session
    only-remove_ripe-session = only_wider _ _ 4936 5960 a.session _ (omega arith) (omega arith) only-marks

    pub begun-remove_ripe : Begun a.session → Begun (remove_ripe a place oldest).session
    begun-remove_ripe = begun-only 4936 5960 a.session _ only-remove_ripe-session (λ q. omega arith) (λ q. omega arith) (λ q. omega arith)

    pub bytes-remove_ripe-session : session_bytes ≤ length a.session → Bytes a.session → Bytes (remove_ripe a place oldest).session
    unfolding remove_ripe
    bytes-remove_ripe-session long bytes =
        (sweep-keeps (λ (b : Areas). (length b.session ≡ length a.session) × Bytes b.session) (remove_slot place oldest) (slots a.disk) 0 a
        (λ j b l h p.
        let same = p.0 in
        ((only-slot-session place oldest j b).long ∙ p.0, bytes-slot-session place oldest j b (omega arith) p.1))
        (refl, bytes)).1
