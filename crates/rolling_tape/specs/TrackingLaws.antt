-- Laws of a change of what is tracked: where it writes, what each slot has afterwards, and that nothing else of the session changes. Assumes nothing.
use Rattle.std.specs.Prelude.{◌≡◌, true, false, ◌&&◌, eqb, ltb, leb}
use Rattle.std.proofs.Common.{sym, ap, ◌∙◌, lt-ltb, le-ltb}
use Rattle.std.proofs.Math.Path.{fun_ext}
use Rattle.std.proofs.Math.Bool.{cond}
use mathlib.Core.List.{List}
use Prim.Native.Nat.{ℕ, ◌+◌, ◌≤◌, ◌<◌, ◌^◌}
use native.Mathlib.Omega.{arith}
use Rattle.std.proofs.Math.ListN.{length}
use Rattle.octets.specs.Number.{Bytes, num_at, num_at-lt}
use Rattle.octets.specs.Only.{OnlyIn, only_none, only_then, only_wider}
use Rattle.octets.specs.Words.{table-out}
use Rattle.octets.specs.Sweep.{sweep-keeps, Rowwise, sweep-row}
use Rattle.octets.specs.Cases.{picked, decide, order}
use Rattle.layout.specs.NamesLaws.{names-only}
use Rattle.layout.specs.Disk.{slots, number}
use Rattle.layout.specs.Session.{session_bytes, names_at, tracking_at, Begun}
use Rattle.disk.specs.Steps.{entry_of}
use Rattle.disk.specs.declared.files.Entry.{Entry}
use Rattle.session.specs.Rows.{tracking_of}
use Rattle.session.specs.RowLaws.{TrackingFits, head-only, only-put_tracking, tracking-same, tracking-only}
use Rattle.session.specs.KeepLaws.{begun-only, bytes-put_tracking}
use Rattle.session.specs.Meaning.{Session, session_of}
use Rattle.session.specs.MeaningLaws.{Ready, same-session, tracking-at, views-only, transactions-only, handles-only, rings-only, stageds-only, caches-only}
use Rattle.session.specs.declared.tracking.Tracking.{Tracking}
use Rattle.session.specs.declared.tracking.Tracking.TheVariants.{Untracked, Tracked, Marked}
use Rattle.rolling_tape.specs.declared.tracking.Change.{Change}
use Rattle.rolling_tape.specs.declared.tracking.Change.TheVariants.{UntrackAbove, TrackUpTo, MarkBelow, ClearFrom, UntrackAll}
use Rattle.rolling_tape.specs.Tracking.{marked, cleared, changed, is_of, retrack_slot, retracked}

-- the number of an entry that was read
pub entry-number : (d : List ℕ) (i : ℕ) (e : Entry) → e ≡ entry_of d i → e.number ≡ number d i
unfolding entry_of
entry-number d i e read = ap (λ (x : Entry). x.number) read

-- ---- marks of 64 bits

abbrev pub change_epoch : Change → ℕ
change_epoch (UntrackAbove n) = 0
change_epoch (TrackUpTo n) = 0
change_epoch (MarkBelow n e) = e
change_epoch (ClearFrom n) = 0
change_epoch UntrackAll = 0

pub record ChangeFits (c : Change) : Type 0 where
  pub epoch : change_epoch c < 256 ^ 8

fits-untracked : TrackingFits Untracked
fits-untracked = record { epoch = omega arith }

fits-tracked : TrackingFits Tracked
fits-tracked = record { epoch = omega arith }

fits-marked : (e : ℕ) (t : Tracking) → e < 256 ^ 8 → TrackingFits t → TrackingFits (marked e t)
fits-marked e Untracked f g = g
fits-marked e Tracked f g = record { epoch = f }
fits-marked e (Marked k) f g = g

fits-cleared : (t : Tracking) → TrackingFits (cleared t)
fits-cleared Untracked = fits-untracked
fits-cleared Tracked = fits-tracked
fits-cleared (Marked e) = fits-tracked

pub fits-changed : (c : Change) (k : ℕ) (t : Tracking) → ChangeFits c → TrackingFits t → TrackingFits (changed c k t)
fits-changed (UntrackAbove n) k t f g = picked TrackingFits (ltb n k) Untracked t (λ e. fits-untracked) (λ e. g)
fits-changed (TrackUpTo n) k t f g = picked TrackingFits (leb k n) Tracked Untracked (λ e. fits-tracked) (λ e. fits-untracked)
fits-changed (MarkBelow n e) k t f g = picked TrackingFits (ltb k n) (marked e t) t (λ q. fits-marked e t f.epoch g) (λ q. g)
fits-changed (ClearFrom n) k t f g = picked TrackingFits (leb n k) (cleared t) t (λ e. fits-cleared t) (λ e. g)
fits-changed UntrackAll k t f g = fits-untracked

-- those that stand in bytes are
pub fits-stored : (s : List ℕ) (i : ℕ) → Bytes s → TrackingFits (tracking_of s i)
unfolding tracking_of
fits-stored s i bytes =
    let word = num_at 8 s (tracking_at i) in
    let there = num_at 8 s (tracking_at i + 8) in
    picked TrackingFits (eqb word 0) Untracked (cond (eqb word 1) Tracked (Marked there)) (λ e. fits-untracked)
    (λ e.
    picked TrackingFits (eqb word 1) Tracked (Marked there) (λ q. fits-tracked)
    (λ q. record { epoch = num_at-lt 8 s (tracking_at i + 8) bytes }))

-- ---- one slot

module _ (d : List ℕ) (place : ℕ) (c : Change) (i : ℕ) (s : List ℕ) where
  pub only-retrack_slot : OnlyIn (tracking_at i) (tracking_at i + 16) s (retrack_slot d place c i s)
  unfolding retrack_slot
  only-retrack_slot = picked (λ (t : List ℕ). OnlyIn (tracking_at i) (tracking_at i + 16) s t) (is_of d place i) _ s (λ e. only-put_tracking s i _) (λ e. only_none _ _ s)

  module _ (room : tracking_at i + 16 ≤ length s) (bytes : Bytes s) where
    pub bytes-retrack_slot : Bytes (retrack_slot d place c i s)
    unfolding retrack_slot
    bytes-retrack_slot = picked Bytes (is_of d place i) _ s (λ e. bytes-put_tracking s bytes i _ room) (λ e. bytes)

    pub tracking-retrack_slot : ChangeFits c → tracking_of (retrack_slot d place c i s) i ≡ cond (is_of d place i) (changed c (number d i) (tracking_of s i)) (tracking_of s i)
    unfolding retrack_slot
    tracking-retrack_slot f =
        decide (is_of d place i)
        (λ (e : is_of d place i ≡ true). rw e (tracking-same s i _ room (fits-changed c (number d i) (tracking_of s i) f (fits-stored s i bytes))))
        (λ (e : is_of d place i ≡ false). rw e)

-- ---- every slot

module _ (d s : List ℕ) (place : ℕ) (c : Change) where
  -- only the rows of the disk's slots
  pub only-rows : OnlyIn 4936 (tracking_at (slots d)) s (retracked d s place c)
  unfolding retracked
  only-rows =
      let end = tracking_at (slots d) in
      sweep-keeps (λ (t : List ℕ). OnlyIn 4936 end s t) (retrack_slot d place c) (slots d) 0 s
      (λ j t l h only. only_then 4936 end s t _ only (only_wider _ _ 4936 end t _ (omega arith) (omega arith) (only-retrack_slot d place c j t)))
      (only_none 4936 end s)

  pub length-retracked : length (retracked d s place c) ≡ length s
  length-retracked = only-rows.long

  module _ (few : slots d ≤ 64) where
    pub only-retracked : OnlyIn 4936 5960 s (retracked d s place c)
    only-retracked = only_wider _ _ 4936 5960 s _ (omega arith) (omega arith) only-rows

    pub begun-retracked : Begun s → Begun (retracked d s place c)
    begun-retracked = begun-only 4936 5960 s _ only-retracked (λ q. omega arith) (λ q. omega arith) (λ q. omega arith)

    module _ (long : session_bytes ≤ length s) (bytes : Bytes s) where
      pub bytes-retracked : Bytes (retracked d s place c)
      unfolding retracked
      bytes-retracked =
          (sweep-keeps (λ (t : List ℕ). (session_bytes ≤ length t) × Bytes t) (retrack_slot d place c) (slots d) 0 s
          (λ j t l h p.
          let same = (only-retrack_slot d place c j t).long in
          let wide = p.0 in
          (omega arith, bytes-retrack_slot d place c j t (omega arith) p.1))
          (long, bytes)).1

      module _ (fits : ChangeFits c) where
        -- a slot of the disk: as the change says of its file's number, where the file is the directory's
        pub tracking-retracked : (i : ℕ) → i < slots d
            → tracking_of (retracked d s place c) i ≡ cond (is_of d place i) (changed c (number d i) (tracking_of s i)) (tracking_of s i)
        unfolding retracked
        tracking-retracked i low =
            let P : List ℕ → Type 0 = λ t. (session_bytes ≤ length t) × Bytes t in
            let f = retrack_slot d place c in
            let g : ℕ → Tracking → Tracking = λ j t. cond (is_of d place j) (changed c (number d j) t) t in
            let each : Rowwise P tracking_of f g (slots d)
            = record {
              keeps = λ j t l p.
                  let same = (only-retrack_slot d place c j t).long in
                  let wide = p.0 in
                  (omega arith, bytes-retrack_slot d place c j t (omega arith) p.1);
              own = λ j t l p. let wide = p.0 in tracking-retrack_slot d place c j t (omega arith) p.1 fits;
              other = λ j k t l m e p. tracking-only _ _ t _ (only-retrack_slot d place c j t) k (λ q. omega arith);
            } in
            sweep-row P tracking_of f g (slots d) each (slots d) 0 s i (omega arith) (long, bytes) (omega arith) (omega arith)

-- a row that no slot of the disk has
pub tracking-beyond : (d s : List ℕ) (place : ℕ) (c : Change) (i : ℕ) → slots d ≤ i → tracking_of (retracked d s place c) i ≡ tracking_of s i
tracking-beyond d s place c i above = tracking-only _ _ s _ (only-rows d s place c) i (λ q. omega arith)

-- ---- the session

abbrev pub with_trackings : Session → (ℕ → Tracking) → Session
with_trackings m rows =
    record { head = m.head; name = m.name; view = m.view; transaction = m.transaction; handle = m.handle; ring = m.ring; cache = m.cache; staged = m.staged; tracking = rows }

-- a step in the rows of tracking changes nothing else
pub session-rows : (s t : List ℕ) → Ready s → OnlyIn 4936 5960 s t → (rows : ℕ → Tracking) → (session_of t).tracking ≡ rows → session_of t ≡ with_trackings (session_of s) rows
unfolding session_of
session-rows s t ready only rows own =
    same-session (session_of t) (with_trackings (session_of s) rows)
    (head-only _ _ s t only (λ l. omega arith)) (names-only _ _ s t names_at only (λ l. omega arith) ready.names) (views-only _ _ s t only (λ l. omega arith))
    (transactions-only _ _ s t only (λ l. omega arith)) (handles-only _ _ s t only (λ q m l. omega arith)) (rings-only _ _ s t only (λ q m l. omega arith))
    (caches-only _ _ s t only (λ l. omega arith)) (stageds-only _ _ s t only (λ q m l. omega arith)) own

-- what a change makes of the tracking
abbrev pub retracks : List ℕ → ℕ → Change → (ℕ → Tracking) → ℕ → Tracking
retracks d place c rows i = cond (ltb i (slots d) && is_of d place i) (changed c (number d i) (rows i)) (rows i)

-- beyond the session's rows there is nothing
unlisted : (s t : List ℕ) (i : ℕ) → 64 ≤ i → (session_of t).tracking i ≡ (session_of s).tracking i
unfolding session_of
unlisted s t i l = table-out 64 Untracked (tracking_of t) i l ∙ sym (table-out 64 Untracked (tracking_of s) i l)

pub session-retracked : (d s : List ℕ) (place : ℕ) (c : Change) → slots d ≤ 64 → Ready s → Bytes s → ChangeFits c
    → session_of (retracked d s place c) ≡ with_trackings (session_of s) (retracks d place c (session_of s).tracking)
session-retracked d s place c few ready bytes fits =
    let t = retracked d s place c in
    session-rows s t ready (only-retracked d s place c few) (retracks d place c (session_of s).tracking)
    (fun_ext
    (λ (i : ℕ).
    order i (slots d)
    (λ (l : i < slots d).
    rw (lt-ltb i (slots d) l, tracking-at t i (omega arith), tracking-at s i (omega arith)) (tracking-retracked d s place c few ready.long bytes fits i l))
    (λ (l : slots d ≤ i).
    rw (le-ltb i (slots d) l)
    (order i 64
    (λ (h : i < 64). tracking-at t i h ∙ tracking-beyond d s place c i l ∙ sym (tracking-at s i h))
    (λ (h : 64 ≤ i). unlisted s t i h)))))
