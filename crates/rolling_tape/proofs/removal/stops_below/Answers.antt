-- `stops_below` is `stops`: each test that fails makes the conjunction false, and behind all of them stands the answer. Assumes nothing.
use Rattle.std.proofs.Common.{◌≡◌, sym, ap, ◌∙◌, ◌≢◌, true, false, not, List, ℕ, ◌+◌, ◌≤◌, ◌<◌, eq-eqb, ne_eqb, le-leb}
use borrow.Author.Tests.{lt-leb}
use Rattle.layout.specs.Disk.{owner, number}
use Rattle.disk.specs.Steps.{entry_of}
use Rattle.disk.specs.Ways.{entry-owner}
use Rattle.disk.specs.declared.files.Entry.{Entry}
use Rattle.session.specs.Rows.{tracking_of}
use Rattle.session.specs.declared.tracking.Tracking.{Tracking}
use Rattle.rolling_tape.specs.Tracking.{is_tracked, is_ripe}
use Rattle.rolling_tape.specs.TrackingLaws.{entry-number}
use Rattle.rolling_tape.specs.Removal.{stops}
use Rattle.rolling_tape.proofs.removal.stops_below.Goals.{then-file-place-via-then-file-place, then-file-place-via-else-file-place+then-number-file}
use Rattle.rolling_tape.proofs.removal.stops_below.Goals as goal

module _ (d s : List ℕ) (place oldest n i : ℕ) (e : Entry) (read : e ≡ entry_of d i) where
  another : e.owner ≢ place + 1 → false ≡ stops d s place oldest n i
  unfolding stops
  another other = rw (ne_eqb (owner d i) (place + 1) (λ q. other (entry-owner d i e read ∙ q)))

  module _ (own : e.owner ≡ place + 1) where
    owned : owner d i ≡ place + 1
    owned = sym (entry-owner d i e read) ∙ own

    above : n < e.number → false ≡ stops d s place oldest n i
    unfolding stops
    above l = rw (eq-eqb (owner d i) (place + 1) owned, lt-leb (number d i) n (rw (entry-number d i e read) at l))

    module _ (l : e.number ≤ n) (t : Tracking) (here : t ≡ tracking_of s i) where
      untracked : is_tracked t ≡ false → false ≡ stops d s place oldest n i
      unfolding stops
      untracked f = rw (eq-eqb (owner d i) (place + 1) owned, le-leb (number d i) n (rw (entry-number d i e read) at l), ← here, f)

      tracked : is_tracked t ≡ true → not (is_ripe oldest t) ≡ stops d s place oldest n i
      unfolding stops
      tracked f = rw (eq-eqb (owner d i) (place + 1) owned, le-leb (number d i) n (rw (entry-number d i e read) at l), ← here, f)

pub returns-then-file-place : goal.returns-then-file-place
returns-then-file-place c =
    let d = c.args.disk.now in
    let s = c.args.session.now in
    let other = another d s c.args.place c.args.oldest c.args.number c.args.slot _ c.get_entry-file.ensures in
    let higher = above d s c.args.place c.args.oldest c.args.number c.args.slot _ c.get_entry-file.ensures in
    elim c.then-file-place.branch [
      | then-file-place-via-then-file-place w ↦ other w.if-file-place.true
      | then-file-place-via-else-file-place+then-number-file w ↦ higher w.if-file-place.false w.if-number-file.true
    ]

pub returns-then-is_tracked : goal.returns-then-is_tracked
returns-then-is_tracked c =
    ap not c.is_ripe.ensures
    ∙ tracked c.args.disk.now c.args.session.now c.args.place c.args.oldest c.args.number c.args.slot _ c.get_entry-file.ensures c.if-file-place.false c.if-number-file.false _
    c.get_tracking-now.ensures (sym c.is_tracked.ensures ∙ c.if-is_tracked.true)

pub returns-else-is_tracked : goal.returns-else-is_tracked
returns-else-is_tracked c =
    c.if-is_tracked.false
    ∙ untracked c.args.disk.now c.args.session.now c.args.place c.args.oldest c.args.number c.args.slot _ c.get_entry-file.ensures c.if-file-place.false c.if-number-file.false _
    c.get_tracking-now.ensures (sym c.is_tracked.ensures ∙ c.if-is_tracked.false)
