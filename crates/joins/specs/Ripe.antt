-- Which files a removal takes, said of the slots. Assumes nothing.
use Rattle.std.specs.Prelude.{◌≡◌, refl, Bool, true, false, not, ◌&&◌, List, ℕ, ◌+◌, ◌≤◌, ◌<◌, eqb, leb}
use Rattle.std.proofs.Math.Path.{sym}
use Rattle.std.proofs.Common.{ap, ◌∙◌, arith}
use Rattle.std.proofs.Math.Bool.{and-false}
use borrow.Author.Tests.{eqb-true}
use Rattle.octets.specs.First.{all, all_true, all-holds}
use Rattle.octets.specs.Cases.{and_l, and_r}
use Rattle.layout.specs.Disk.{slots, owner}
use Rattle.disk.specs.Meaning.{Slot, Disk, free, disk_of}
use Rattle.disk.specs.MeaningLaws.{owner-in, number_in_lem, slots-in}
use Rattle.session.specs.Meaning.{session_of}
use Rattle.session.specs.MeaningLaws.{tracking-at}
use Rattle.session.specs.Rows.{tracking_of}
use Rattle.session.specs.declared.tracking.Tracking.{Tracking}
use Rattle.session.specs.declared.tracking.Tracking.TheVariants.{Untracked}
use Rattle.rolling_tape.specs.Tracking.{is_tracked, is_ripe}
use Rattle.rolling_tape.specs.Removal.{Areas, stops, clear_below, goes}

-- ---- tests that agree

pub agree : (p q : Bool) → (p ≡ true → q ≡ true) → (q ≡ true → p ≡ true) → p ≡ q
agree true q f g = sym (f refl)
agree false true f g = g refl
agree false false f g = refl

pub all_same : (p q : ℕ → Bool) (k : ℕ) → ((j : ℕ) → j < k → p j ≡ q j) → all p k 0 ≡ all q k 0
all_same p q k h =
    agree (all p k 0) (all q k 0)
    (λ e. all_true q k 0 (λ j l u. sym (h j (omega arith)) ∙ all-holds p k 0 e j l u))
    (λ e. all_true p k 0 (λ j l u. h j (omega arith) ∙ all-holds q k 0 e j l u))

-- ---- which files go, of the meaning

-- a slot, and the tracking of its file
pub record SlotRow : Type 0 where
  pub slot : Slot
  pub tracking : Tracking

abbrev pub no_slot_row : SlotRow
no_slot_row = record { slot = free; tracking = Untracked }

abbrev pub row_at : Areas → ℕ → SlotRow
row_at a i = record { slot = (disk_of a.disk).slot i; tracking = (session_of a.session).tracking i }

-- a row has a tracked file, up to number n, that may not go
abbrev pub stops_row : (place oldest n : ℕ) → SlotRow → Bool
stops_row place oldest n r = eqb r.slot.owner (place + 1) && (leb r.slot.number n && (is_tracked r.tracking && not (is_ripe oldest r.tracking)))

module _ (m : Disk) (t : ℕ → Tracking) (place oldest : ℕ) where
  abbrev pub stopping : ℕ → ℕ → Bool
  stopping n j = stops_row place oldest n (record { slot = m.slot j; tracking = t j })

  -- the file of slot i goes
  unfoldable pub going : ℕ → Bool
  going i = eqb (m.slot i).owner (place + 1) && (is_ripe oldest (t i) && all (λ j. not (stopping (m.slot i).number j)) m.slots 0)

  pub going-mine : (i : ℕ) → going i ≡ true → (m.slot i).owner ≡ place + 1
  unfolding going
  going-mine i e = eqb-true _ _ (and_l _ _ e)

  pub going-ripe : (i : ℕ) → going i ≡ true → is_ripe oldest (t i) ≡ true
  unfolding going
  going-ripe i e = and_l _ _ (and_r (eqb (m.slot i).owner (place + 1)) _ e)

  pub ripe-stops : (n i : ℕ) → is_ripe oldest (t i) ≡ true → stopping n i ≡ false
  ripe-stops n i e = rw (e, and-false (is_tracked (t i)), and-false (leb (m.slot i).number n), and-false (eqb (m.slot i).owner (place + 1)))

-- the bytes say the same
pub going-bytes : (d s : List ℕ) (place oldest i : ℕ) → slots d ≤ 64 → i < slots d → goes d s place oldest i ≡ going (disk_of d) (session_of s).tracking place oldest i
unfolding goes going clear_below stops
going-bytes d s place oldest i few low =
    rw (owner-in d i low, number_in_lem d i low, tracking-at s i (omega arith), slots-in d)
    (ap (λ (b : Bool). eqb (owner d i) (place + 1) && (is_ripe oldest (tracking_of s i) && b))
    (all_same _ _ (slots d) (λ j l. rw (owner-in d j l, number_in_lem d j l, tracking-at s j (omega arith)))))
