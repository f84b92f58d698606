-- `goes_now` is `goes`: each test that fails makes the conjunction false, and behind both stands the answer. Assumes nothing.
use Rattle.std.proofs.Common.{◌≡◌, sym, ◌∙◌, ◌≢◌, true, false, List, ℕ, ◌+◌, eq-eqb, ne_eqb}
use Rattle.layout.specs.Disk.{owner}
use Rattle.disk.specs.Steps.{entry_of}
use Rattle.disk.specs.Ways.{entry-owner}
use Rattle.disk.specs.declared.files.Entry.{Entry}
use Rattle.session.specs.Rows.{tracking_of}
use Rattle.session.specs.declared.tracking.Tracking.{Tracking}
use Rattle.rolling_tape.specs.Tracking.{is_ripe}
use Rattle.rolling_tape.specs.TrackingLaws.{entry-number}
use Rattle.rolling_tape.specs.Removal.{clear_below, goes}
use Rattle.rolling_tape.proofs.removal.goes_now.Goals as goal

module _ (d s : List ℕ) (place oldest i : ℕ) (e : Entry) (read : e ≡ entry_of d i) where
  another : e.owner ≢ place + 1 → false ≡ goes d s place oldest i
  unfolding goes
  another other = rw (ne_eqb (owner d i) (place + 1) (λ q. other (entry-owner d i e read ∙ q)))

  module _ (own : e.owner ≡ place + 1) (t : Tracking) (here : t ≡ tracking_of s i) where
    owned : owner d i ≡ place + 1
    owned = sym (entry-owner d i e read) ∙ own

    unripe : is_ripe oldest t ≡ false → false ≡ goes d s place oldest i
    unfolding goes
    unripe f = rw (eq-eqb (owner d i) (place + 1) owned, ← here, f)

    ripe : is_ripe oldest t ≡ true → clear_below d s place oldest e.number ≡ goes d s place oldest i
    unfolding goes
    ripe f = rw (eq-eqb (owner d i) (place + 1) owned, ← here, f, entry-number d i e read)

pub returns-then-file-place : goal.returns-then-file-place
returns-then-file-place c =
    another c.args.disk.now c.args.session.now c.args.place c.args.oldest c.args.slot _ c.get_entry-file.ensures c.if-file-place.true

pub returns-then-is_ripe : goal.returns-then-is_ripe
returns-then-is_ripe c =
    c.clear_below.ensures
    ∙ ripe c.args.disk.now c.args.session.now c.args.place c.args.oldest c.args.slot _ c.get_entry-file.ensures c.if-file-place.false _ c.get_tracking.ensures
    (sym c.is_ripe.ensures ∙ c.if-is_ripe.true)

pub returns-else-is_ripe : goal.returns-else-is_ripe
returns-else-is_ripe c =
    c.if-is_ripe.false
    ∙ unripe c.args.disk.now c.args.session.now c.args.place c.args.oldest c.args.slot _ c.get_entry-file.ensures c.if-file-place.false _ c.get_tracking.ensures
    (sym c.is_ripe.ensures ∙ c.if-is_ripe.false)
