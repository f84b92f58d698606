-- `retrack_slot` is `retrack_slot`: both ways out of the test of the owner are a law's. Assumes nothing.
use Rattle.std.proofs.Common.{◌≡◌, sym, ◌∙◌, ◌≢◌, List, ℕ, ◌+◌, eq-eqb, ne_eqb}
use Rattle.layout.specs.Disk.{owner}
use Rattle.disk.specs.Steps.{entry_of}
use Rattle.disk.specs.Ways.{entry-owner}
use Rattle.disk.specs.declared.files.Entry.{Entry}
use Rattle.session.specs.Rows.{tracking_of, put_tracking}
use Rattle.session.specs.declared.tracking.Tracking.{Tracking}
use Rattle.rolling_tape.specs.declared.tracking.Change.{Change}
use Rattle.rolling_tape.specs.Tracking.{changed, retrack_slot}
use Rattle.rolling_tape.proofs.tracking.retrack_slot.Goals as goal

module _ (d s : List ℕ) (place i : ℕ) (c : Change) (e : Entry) (read : e ≡ entry_of d i) where
  slot-changes : (t r : Tracking) → e.owner ≡ place + 1 → t ≡ tracking_of s i → r ≡ changed c e.number t → put_tracking s i r ≡ retrack_slot d place c i s
  unfolding retrack_slot entry_of
  slot-changes t r own here new = rw (eq-eqb (owner d i) (place + 1) (sym (entry-owner d i e read) ∙ own), new, here, read)

  slot-stays : e.owner ≢ place + 1 → s ≡ retrack_slot d place c i s
  unfolding retrack_slot
  slot-stays other = rw (ne_eqb (owner d i) (place + 1) (λ q. other (entry-owner d i e read ∙ q)))

pub returns-then-file-place : goal.returns-then-file-place
returns-then-file-place c =
    slot-stays c.args.disk.now c.args.session.now c.args.place c.args.slot c.args.change _ c.get_entry-file.ensures c.if-file-place.true

pub returns : goal.returns
returns c =
    c.put_tracking.ensures
    ∙ slot-changes c.args.disk.now c.args.session.now c.args.place c.args.slot c.args.change _ c.get_entry-file.ensures _ _ c.if-file-place.false c.get_tracking-now.ensures
    c.change_one.ensures
