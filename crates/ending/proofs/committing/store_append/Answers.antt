-- `store_append` leaves `ripened_append`: what each step leaves is whole, so that the next may be made. Assumes nothing.
use Rattle.std.proofs.Common.{◌≡◌, sym, ap, ◌∙◌, true, false, List, ℕ}
use Rattle.octets.specs.Number.{Bytes}
use Rattle.metadata.specs.declared.list.TapeList.{TapeList}
use Rattle.metadata.specs.Struct.{storable}
use Rattle.layout.specs.Disk.{Sound}
use Rattle.layout.specs.Session.{Begun}
use Rattle.session.specs.Rows.{head_of}
use Rattle.rolling_tape.specs.Removal.{Areas, areas}
use Rattle.ending.specs.Steps.{flush_all}
use Rattle.ending.specs.StepLaws.{Whole, whole-kept, kept-flush_all, head-flush_all}
use Rattle.ending.specs.Committing.{stored}
use Rattle.ending.specs.CommitLaws.{whole-stored}
use Rattle.ending.proofs.committing.store_append.Goals as goal

module _ (d s : List ℕ) (sound : Sound d) (begun : Begun s) (bytes : Bytes s) where
  abbrev first : Areas
  first = areas d s

  whole : Whole first
  whole = record { sound = sound; begun = begun; bytes = bytes }

  module _ (d₁ s₁ : List ℕ) (e : flush_all first ≡ areas d₁ s₁) where
    flushed-whole : Whole (areas d₁ s₁)
    flushed-whole = rw e at (whole-kept first whole (flush_all first) (kept-flush_all first whole))

    flushed-head : head_of s₁ ≡ head_of s
    flushed-head = ap (λ (a : Areas). head_of a.session) (sym e) ∙ head-flush_all first whole

    stored-whole : (list : TapeList) → storable list ≡ true → (d₂ s₂ : List ℕ) → stored d₁ s₁ false list ≡ areas d₂ s₂ → Whole (areas d₂ s₂)
    stored-whole list ok d₂ s₂ q = rw q at (whole-stored (areas d₁ s₁) false list ok flushed-whole)

pub store_list-requires : goal.store_list-requires
store_list-requires c =
    let bytes : Bytes c.args.session.now = λ i. (c.slice_known-2-1.given i).fits in
    let w = flushed-whole c.args.disk.now c.args.session.now c.requires.0.0 c.requires.0.1 bytes c.flush_all.new.disk c.flush_all.new.session c.flush_all.ensures in
    let head = flushed-head c.args.disk.now c.args.session.now c.requires.0.0 c.requires.0.1 bytes c.flush_all.new.disk c.flush_all.new.session c.flush_all.ensures in
    ((w.sound, w.begun), (c.requires.1.0, rw head c.requires.1.1))

pub ripen_all-requires : goal.ripen_all-requires
ripen_all-requires c =
    let bytes : Bytes c.args.session.now = λ i. (c.slice_known-2-1.given i).fits in
    let w = stored-whole c.args.disk.now c.args.session.now c.requires.0.0 c.requires.0.1 bytes c.flush_all.new.disk c.flush_all.new.session c.flush_all.ensures
    c.args.list c.requires.1.0 c.store_list.new.disk c.store_list.new.session c.store_list.ensures in
    (w.sound, w.begun)
