-- What the steps of a commit touch, one by one and together: of an append data, list, record and removal, of a truncate list, record and the rings that
-- are cut. Assumes nothing.
use Prim.{tt}
use Rattle.std.specs.Prelude.{◌≡◌, refl, List, [], ◌∷◌, ℕ, ◌≤◌, ◌<◌, length, Option, Some, None}
use Rattle.std.proofs.Math.Path.{ap}
use Rattle.std.proofs.Common.{◌∙◌, arith}
use Rattle.std.proofs.Math.Bool.{true, false}
use Rattle.octets.specs.Bytes.{put}
use Rattle.octets.specs.Cases.{picked}
use Rattle.octets.specs.Only.{OnlyIn, only_none, only_then, only_wider}
use Rattle.octets.specs.Sweep.{sweep-keeps}
use Rattle.components.specs.Pieces.{file_of}
use Rattle.metadata.specs.Struct.{storable}
use Rattle.metadata.specs.declared.list.TapeList.{TapeList}
use Rattle.metadata.specs.declared.choice.Side.{Side}
use Rattle.layout.specs.Disk as D
use Rattle.layout.specs.Session.{file_size_of, Begun}
use Rattle.disk.specs.Steps.{side_at, write_side}
use Rattle.disk.specs.StepLaws.{only-side_len, only-side_data}
use Rattle.session.specs.Rows.{head_of, view_of, transaction_of, staged_of, put_staged}
use Rattle.session.specs.RowLaws.{only-put_head, only-put_ring, only-put_staged, head-only}
use Rattle.session.specs.Meaning.{untouched}
use Rattle.session.specs.declared.head.Head.{Head}
use Rattle.rolling_tape.specs.Removal.{Areas, areas}
use Rattle.rolling_tape.specs.RemovalLaws.{only-entries, slots-remove_ripe, only-remove_ripe-session}
use Rattle.rolling_tape.specs.Tracking.{retracked}
use Rattle.rolling_tape.specs.TrackingLaws.{only-retracked}
use Rattle.rolling_tape.specs.declared.tracking.Change.TheVariants.{MarkBelow, ClearFrom}
use Rattle.cached_tape.specs.FlushLaws.{begun_kept, only-flushed}
use Rattle.staging.specs.Seeing.{directory_of}
use Rattle.ending.specs.Listing.{is_touched}
use Rattle.ending.specs.Oldest.{oldest_of}
use Rattle.ending.specs.Steps.{flush_in, flush_tape, flush_all, publish_all, recorded, advanced, ripened_at, ripen_in, ripen_tape, ripen_all, cut_ring, clear_in, cut_tape, cut_all}
use Rattle.ending.specs.Committing.{stored, stored_append, ripened_append, appended, truncated_by}
use Rattle.ending.specs.StepLaws.{touched-held, only-publish_all, record-short, slots-recorded}
use Rattle.touches.specs.Parts.{Part, Outside, Touches, head, bookkeepings, stageds, tracking, side_of, side_length_of, files, touches_none, touches-then, touches-only, touches-more}
use Rattle.touches.specs.Parts as P
use Rattle.touches.specs.Files.{Lengths, sound-lengths, Written, written_none, written_then, written-flushed}
use Rattle.touches.specs.Drops.{close_parts, touches-close_writer}

-- ---- the parts

abbrev pub append_parts : List Part
append_parts = P.transaction_of 16 ∷ stageds ∷ head ∷ P.view_of 17 ∷ tracking ∷ []

abbrev pub truncate_parts : List Part
truncate_parts = P.transaction_of 16 ∷ stageds ∷ head ∷ P.view_of 17 ∷ tracking ∷ bookkeepings ∷ []

abbrev pub record_parts : Side → List Part
record_parts side = side_length_of side ∷ side_of side ∷ []

abbrev pub append_disk_parts : List ℕ → Side → List Part
append_disk_parts d side = side_length_of side ∷ side_of side ∷ files d ∷ []

-- ---- data to the files

-- what an append has flushed of both areas
record Flushed (a b : Areas) : Type 0 where
  written : Written a.disk b.disk
  only : OnlyIn 4936 5960 a.session b.session

flushed-none : (a : Areas) → Lengths a.disk → Flushed a a
flushed-none a r = record { written = written_none a.disk r; only = only_none 4936 5960 a.session }

flushed-then : (a b c : Areas) → Flushed a b → Flushed b c → Flushed a c
flushed-then a b c f g =
    record {
      written = written_then a.disk b.disk c.disk f.written g.written;
      only = only_then 4936 5960 a.session b.session c.session f.only g.only;
    }

flushed-tape : (a : Areas) → Lengths a.disk → Begun a.session → (p : ℕ) → p < 8 → Flushed a (flush_tape p a)
unfolding flush_tape
flushed-tape a r begun p low =
    picked (Flushed a) (is_touched a.session p) _ _ (λ e. by e (directory_of a.disk a.session p)) (λ e. flushed-none a r)
  where
    by : is_touched a.session p ≡ true → (f : Option ℕ) → Flushed a (flush_in a p f)
    by e (Some place) =
        let t = begun.tapes p low (touched-held a.session p e) in
        record {
          written = written-flushed a place p (staged_of a.session p) r t.file-some t.file-small;
          only = only-flushed a place p (staged_of a.session p) r.few;
        }
    by e None = flushed-none a r

flushed-all : (a : Areas) → Lengths a.disk → Begun a.session → Flushed a (flush_all a)
flushed-all a r begun =
    sweep-keeps (Flushed a) flush_tape 8 0 a
    (λ j b l h f.
    flushed-then a b _ f (flushed-tape b f.written.table (begun_kept a.session b.session f.only begun) j (omega arith)))
    (flushed-none a r)

-- ---- list and record

touches-write_side : (d : List ℕ) (side : Side) (bs : List ℕ) → length bs ≤ 512 → Touches (record_parts side) d (write_side d side bs)
touches-write_side d side bs fit =
    let t = put d (side_at side) bs in
    touches-then (record_parts side) d t _
    (touches-only (record_parts side) _ _ d t (only-side_data d bs fit side) (λ i o l. o.1.0 l))
    (touches-only (record_parts side) _ _ t _ (only-side_len d side bs) (λ i o l. o.0 l))

module _ (d s : List ℕ) (list : TapeList) (ok : storable list ≡ true) where
  touches-recorded : Touches (record_parts (head_of s).side) d (recorded d s list)
  unfolding recorded
  touches-recorded = touches-write_side d (head_of s).side _ (record-short d s list ok)

-- ---- removal

-- both areas, as far as files are marked and removed
record Ripened (a b : Areas) : Type 0 where
  same : D.slots b.disk ≡ D.slots a.disk
  disk : OnlyIn 1312 (D.data_at (D.slots a.disk)) a.disk b.disk
  session : OnlyIn 4936 5960 a.session b.session

ripened-none : (a : Areas) → Ripened a a
ripened-none a = record { same = refl; disk = only_none _ _ a.disk; session = only_none 4936 5960 a.session }

ripened-then : (a b c : Areas) → Ripened a b → Ripened b c → Ripened a c
ripened-then a b c f g =
    record {
      same = g.same ∙ f.same;
      disk = only_then 1312 (D.data_at (D.slots a.disk)) a.disk b.disk c.disk f.disk (rw f.same at g.disk);
      session = only_then 4936 5960 a.session b.session c.session f.session g.session;
    }

ripened-at : (a : Areas) (began oldest p place : ℕ) → D.slots a.disk ≤ 64 → Ripened a (ripened_at a began oldest p place)
unfolding ripened_at
ripened-at a began oldest p place few =
    let c = MarkBelow (file_of (file_size_of a.session p) (view_of a.session 17 p).start) began in
    let marked = areas a.disk (retracked a.disk a.session place c) in
    record {
      same = slots-remove_ripe marked place oldest;
      disk = only_wider _ _ 1312 (D.data_at (D.slots a.disk)) a.disk _ (omega arith) (omega arith) (only-entries marked place oldest);
      session = only_then 4936 5960 a.session marked.session _ (only-retracked a.disk a.session place c few) (only-remove_ripe-session marked place oldest few);
    }

ripened-tape : (a : Areas) (began oldest p : ℕ) → D.slots a.disk ≤ 64 → Ripened a (ripen_tape began oldest p a)
unfolding ripen_tape
ripened-tape a began oldest p few =
    picked (Ripened a) (is_touched a.session p) _ _ (λ e. by (directory_of a.disk a.session p)) (λ e. ripened-none a)
  where
    by : (f : Option ℕ) → Ripened a (ripen_in a began oldest p f)
    by (Some place) = ripened-at a began oldest p place few
    by None = ripened-none a

ripened-all : (a : Areas) (began oldest : ℕ) → D.slots a.disk ≤ 64 → Ripened a (ripen_all began oldest a)
ripened-all a began oldest few =
    sweep-keeps (Ripened a) (ripen_tape began oldest) 8 0 a
    (λ j b l h f. ripened-then a b _ f (ripened-tape b began oldest j (rw f.same few)))
    (ripened-none a)

-- ---- an append's commit

-- the parts of a closed writer are among them
close-in-append : (i : ℕ) → Outside i append_parts → Outside i close_parts
close-in-append i o = (o.0, (o.1.0, tt))

module _ (d s : List ℕ) (list : TapeList) (sound : D.Sound d) (begun : Begun s) (ok : storable list ≡ true) where
  -- flushed, published, recorded
  abbrev a₁ : Areas
  a₁ = flush_all (areas d s)

  f₁ : Flushed (areas d s) a₁
  f₁ = flushed-all (areas d s) (sound-lengths d sound) begun

  abbrev s₂ : List ℕ
  s₂ = publish_all false a₁.session

  head-same : head_of s₂ ≡ head_of s
  head-same =
      head-only _ _ a₁.session s₂ (only-publish_all false a₁.session) (λ q. omega arith)
      ∙ head-only _ _ s a₁.session f₁.only (λ q. omega arith)

  abbrev a₃ : Areas
  a₃ = stored_append d s list

  slots-stored : D.slots a₃.disk ≡ D.slots d
  unfolding stored_append stored
  slots-stored = slots-recorded a₁.disk s₂ list ok ∙ f₁.written.same

  f₄ : Ripened a₃ (ripened_append d s list)
  unfolding ripened_append
  f₄ = ripened-all a₃ (transaction_of s 16).epoch (oldest_of s) (rw slots-stored sound.head.few)

  touches-stored-session : Touches append_parts s a₃.session
  unfolding stored_append stored advanced
  touches-stored-session =
      touches-then append_parts s a₁.session _ (touches-only append_parts _ _ s _ f₁.only (λ i o l. o.1.1.1.1.0 l))
      (touches-then append_parts a₁.session s₂ _ (touches-only append_parts _ _ a₁.session s₂ (only-publish_all false a₁.session) (λ i o l. o.1.1.1.0 l))
      (touches-only append_parts _ _ s₂ _ (only-put_head s₂ _) (λ i o l. o.1.1.0 l)))

  touches-stored-disk : Touches (append_disk_parts d (head_of s).side) d a₃.disk
  unfolding stored_append stored
  touches-stored-disk =
      let parts = append_disk_parts d (head_of s).side in
      let side : (head_of s₂).side ≡ (head_of s).side = ap (λ (h : Head). h.side) head-same in
      touches-then parts d a₁.disk _ (touches-only parts _ _ d a₁.disk f₁.written.only (λ i o l. o.1.1.0 l))
      (touches-more (record_parts (head_of s).side) parts a₁.disk _ (λ i o. (o.0, (o.1.0, tt))) (rw side at (touches-recorded a₁.disk s₂ list ok)))

  pub touches-appended-session : Touches append_parts s (appended d s list).session
  unfolding appended
  touches-appended-session =
      let u = (ripened_append d s list).session in
      touches-then append_parts s a₃.session _ touches-stored-session
      (touches-then append_parts a₃.session u _ (touches-only append_parts _ _ a₃.session u f₄.session (λ i o l. o.1.1.1.1.0 l))
      (touches-more close_parts append_parts u _ close-in-append (touches-close_writer u)))

  pub touches-appended-disk : Touches (append_disk_parts d (head_of s).side) d (appended d s list).disk
  unfolding appended
  touches-appended-disk =
      let parts = append_disk_parts d (head_of s).side in
      touches-then parts d a₃.disk _ touches-stored-disk
      (touches-only parts _ _ a₃.disk _ (rw slots-stored at f₄.disk) (λ i o l. o.1.1.0 l))

-- ---- a truncate's commit

touches-cut_tape : (d s : List ℕ) → D.slots d ≤ 64 → (p : ℕ) → p < 8 → Touches truncate_parts s (cut_tape d p s)
unfolding cut_tape cut_ring
touches-cut_tape d s few p low =
    let t = put_staged s p untouched in
    let u = cut_ring p s in
    let ring : Touches truncate_parts s u
    = touches-then truncate_parts s t u
    (touches-only truncate_parts _ _ s t (only-put_staged s p untouched) (λ i o l. omega (arith, o.1.0 p low (omega arith))))
    (touches-only truncate_parts _ _ t u (only-put_ring t p _) (λ i o l. omega (arith, o.1.1.1.1.1.0 p low (omega arith)))) in
    picked (λ (v : List ℕ). Touches truncate_parts s v) (is_touched s p) _ _
    (λ e. touches-then truncate_parts s u _ ring (by u (file_size_of s p) (staged_of s p).len (directory_of d s p)))
    (λ e. touches_none truncate_parts s)
  where
    by : (u : List ℕ) (fs len : ℕ) (f : Option ℕ) → Touches truncate_parts u (clear_in d u fs len f)
    by u fs len (Some place) = touches-only truncate_parts _ _ u _ (only-retracked d u place (ClearFrom (file_of fs len)) few) (λ i o l. o.1.1.1.1.0 l)
    by u fs len None = touches_none truncate_parts u

touches-cut_all : (d s : List ℕ) → D.slots d ≤ 64 → Touches truncate_parts s (cut_all d s)
touches-cut_all d s few =
    sweep-keeps (λ (t : List ℕ). Touches truncate_parts s t) (cut_tape d) 8 0 s
    (λ j t l h a. touches-then truncate_parts s t _ a (touches-cut_tape d t few j (omega arith)))
    (touches_none truncate_parts s)

module _ (d s : List ℕ) (list : TapeList) (few : D.slots d ≤ 64) (ok : storable list ≡ true) where
  abbrev p₁ : List ℕ
  p₁ = publish_all true s

  pub touches-truncated-session : Touches truncate_parts s (truncated_by d s list).session
  unfolding truncated_by stored advanced
  touches-truncated-session =
      let p₂ = advanced true p₁ in
      let e = recorded d p₁ list in
      let p₃ = cut_all e p₂ in
      touches-then truncate_parts s p₁ _ (touches-only truncate_parts _ _ s p₁ (only-publish_all true s) (λ i o l. o.1.1.1.0 l))
      (touches-then truncate_parts p₁ p₂ _ (touches-only truncate_parts _ _ p₁ p₂ (only-put_head p₁ _) (λ i o l. o.1.1.0 l))
      (touches-then truncate_parts p₂ p₃ _ (touches-cut_all e p₂ (rw (slots-recorded d p₁ list ok) few))
      (touches-more close_parts truncate_parts p₃ _ (λ i o. (o.0, (o.1.0, tt))) (touches-close_writer p₃))))

  pub touches-truncated-disk : Touches (record_parts (head_of s).side) d (truncated_by d s list).disk
  unfolding truncated_by stored
  touches-truncated-disk =
      let side : (head_of p₁).side ≡ (head_of s).side
      = ap (λ (h : Head). h.side) (head-only _ _ s p₁ (only-publish_all true s) (λ q. omega arith)) in
      rw side at (touches-recorded d p₁ list ok)
