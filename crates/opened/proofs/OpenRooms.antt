-- The rule of 15 behind a served open: nothing is staged of its tape yet, no file is made, and the files of every other tape stay, so what had room in the
-- slots still has. Assumes nothing.
use Rattle.std.specs.Prelude.{◌≡◌, refl, ◌≢◌, true, false, List, ℕ, ◌≤◌, ◌<◌, ◌^◌, Option, Some, None}
use Rattle.std.proofs.Common.{arith}
use Rattle.std.proofs.Math.Dec.{eqb}
use Rattle.octets.specs.Cases.{decide, equal}
use Rattle.octets.specs.Number.{Bytes}
use Rattle.answers.specs.Answers.{code_of}
use Rattle.components.specs.Pieces.{file_of}
use Rattle.components.specs.Slots.{covered}
use Rattle.components.proofs.SlotsLaws.{lacking-same}
use Rattle.layout.specs.Disk.{slots}
use Rattle.layout.specs.Names.{name}
use Rattle.layout.specs.Session.{names_at, handle_number, file_size_of}
use Rattle.session.specs.Rows.{transaction_of}
use Rattle.rolling_tape.specs.Room.{on_disk}
use Rattle.staging.specs.Seeing.{is_append, directory_of, touched_as}
use Rattle.appending.specs.Room.{lacking_in, is_staged, lacking_of}
use Rattle.appending.specs.RoomWays.{staged-held}
use Rattle.opening.specs.Calls.{open_call, opened, row_staged}
use Rattle.touches.specs.Opens.{open-leaves-disk}
use Rattle.touches.specs.Rows.{num_at-stays}
use Rattle.seen.specs.Orderly.{Orderly}
use Rattle.seen.specs.Lacking.{none-lacking}
use Rattle.seen.specs.Rooms.{Roomy}
use Rattle.seen.specs.Rows.{size-row, touched-as}
use Rattle.opened.specs.OpensServed.{ServedOpen, open-served}
use Rattle.opened.specs.OpensOrder.{other-number, name-other, folder-same}
use Rattle.opened.specs.OpenRooms.{fewer-lacking}

module _ (d s : List ℕ) (t : ℕ) (wanted : List ℕ) (entry fs cache start : ℕ) (e u : List ℕ) (orderly : Orderly d s) (sv : ServedOpen d s t wanted entry fs cache start e u) where
  open sv use {place as p, rows}

  -- its own bytes are all in its files
  own-staged : touched_as u p ≡ row_staged (opened s wanted entry fs cache start)
  unfolding touched_as
  own-staged = rw rows.own-staged

  own-lacking : lacking_of e u 8 0 p ≡ 0
  unfolding lacking_of
  own-lacking =
      decide (is_staged u 8 p)
      (λ (is : is_staged u 8 p ≡ true).
      rw (is, own-staged)
      (none-lacking e (file_size_of u p) _ _ (directory_of e u p) (decide (eqb p 8) (λ (z : eqb p 8 ≡ true). rw z (omega arith)) (λ (z : eqb p 8 ≡ false). rw z (omega arith)))))
      (λ (none : is_staged u 8 p ≡ false). rw none)

  -- another tape
  module _ (q : ℕ) (low : q < 8) (apart : q ≢ p) where
    staged-same : is_staged u 8 q ≡ is_staged s 8 q
    staged-same = rw (other-number d s t wanted entry fs cache start e u orderly sv q low apart, rows.stageds q low apart)

    in-same : handle_number s q ≢ 0 → (size from to : ℕ) → lacking_in e size from to (directory_of d s q) ≡ lacking_in d size from to (directory_of d s q)
    in-same held size from to = by (directory_of d s q) refl
      where
        by : (f : Option ℕ) → directory_of d s q ≡ f → lacking_in e size from to f ≡ lacking_in d size from to f
        by (Some place) there =
            let other = name-other d s t wanted entry fs cache start e u orderly sv q low apart held in
            lacking-same (on_disk d place) (on_disk e place) (file_of size from) (covered size from to)
            (λ j a b. sv.readied.changed.there place (sv.readied.apart (name s names_at q) other.0 other.1 place there) j)
        by None there = refl

    other-lacking : lacking_of e u 8 0 q ≡ lacking_of d s 8 0 q
    unfolding lacking_of
    other-lacking =
        decide (is_staged s 8 q)
        (λ (is : is_staged s 8 q ≡ true).
        let held = staged-held s 8 q is in
        rw (
          staged-same,
          is,
          size-row s u q (rows.handles q low apart),
          touched-as s u q (rows.stageds q low apart) (rows.views 16 q (omega arith) low),
          folder-same d s t wanted entry fs cache start e u orderly sv q low apart held,
        )
        (in-same held (file_size_of s q) _ _))
        (λ (none : is_staged s 8 q ≡ false). rw (staged-same, none))

  less-lacking : (q : ℕ) → q < 8 → lacking_of e u 8 0 q ≤ lacking_of d s 8 0 q
  less-lacking q low =
      equal q p
      (λ (at : q ≡ p). rw at (omega (arith, own-lacking)))
      (λ (apart : q ≢ p). omega (arith, other-lacking q low apart))

  roomy-opened : slots e ≡ slots d → Roomy d s → Roomy e u
  roomy-opened same roomy append =
      let was : is_append (transaction_of s 16).kind ≡ true = rw sv.kind in
      omega (arith, roomy was, sv.readied.changed.fewer, fewer-lacking d s e u less-lacking 8 0 (omega arith))

module _ (d s : List ℕ) (t : ℕ) (wanted : List ℕ) (entry fs cache start : ℕ) (orderly : Orderly d s) (new : Bytes wanted) (small : start < 2 ^ 64)
    (served : code_of (open_call d s t wanted entry fs cache start).answer ≡ 0) where
  pub open-roomy : Roomy d s → Roomy (open_call d s t wanted entry fs cache start).disk (open_call d s t wanted entry fs cache start).session
  open-roomy =
      let e = (open_call d s t wanted entry fs cache start).disk in
      roomy-opened d s t wanted entry fs cache start e _ orderly (open-served d s t wanted entry fs cache start orderly new small served)
      (num_at-stays 0 32 d e (open-leaves-disk d s t wanted entry fs cache start).fields-stay 8 8 (omega arith) (omega arith))
