-- Which files a removal takes, said of the slots and said of the numbers: they are the same, where each file has one slot. Assumes nothing.
use Rattle.std.specs.Prelude.{◌≡◌, refl, ◌≢◌, true, false, not, ℕ, ◌+◌, ◌≤◌, ◌<◌, eqb, leb, Option, Some, None}
use Rattle.std.proofs.Math.Path.{sym}
use Rattle.std.proofs.Common.{◌∙◌, true≢false, arith}
use Rattle.std.proofs.lemmas.Bool.{false≢true}
use Rattle.std.proofs.Math.Bool.{and-false}
use borrow.Author.Tests.{eq-eqb, le-leb, leb-true}
use Rattle.octets.specs.First.{all, all_true, all-holds}
use Rattle.octets.specs.Cases.{decide, equal, and_l, and_r, and_both}
use Rattle.components.specs.Files.{Files, marked_below, ripe_below, removes}
use Rattle.components.proofs.MarkLaws.{ripe-at, →ripe}
use Rattle.disk.specs.Meaning.{Disk, slot_with}
use Rattle.disk.specs.FileLaws.{with-low, with-is}
use Rattle.session.specs.declared.tracking.Tracking.{Tracking}
use Rattle.session.specs.declared.tracking.Tracking.TheVariants.{Untracked, Tracked, Marked}
use Rattle.rolling_tape.specs.Tracking.{is_tracked, is_ripe}
use Rattle.rolling_tape.specs.Files.{mark_of, files_of, file-in, file-out}
use Rattle.joins.specs.Freed.{Single, slot_is}
use Rattle.joins.specs.Ripe.{agree, stopping, going, ripe-stops}

ripe-marked : (oldest : ℕ) (r : Tracking) → is_ripe oldest r ≡ marked_below oldest (mark_of r)
ripe-marked oldest Untracked = refl
ripe-marked oldest Tracked = refl
ripe-marked oldest (Marked e) = refl

ripe-tracked : (oldest : ℕ) (r : Tracking) → is_ripe oldest r ≡ true → is_tracked r ≡ true
ripe-tracked oldest Untracked e = absurd (false≢true e)
ripe-tracked oldest Tracked e = refl
ripe-tracked oldest (Marked d) e = refl

module _ (m : Disk) (t : ℕ → Tracking) (place oldest : ℕ) (single : Single m) where
  abbrev f : Files
  f = files_of m t place

  -- a slot that stops is a number that stops
  clear-ripe : (k : ℕ) → all (λ j. not (stopping m t place oldest k j)) m.slots 0 ≡ true → ripe_below oldest f k ≡ true
  clear-ripe k e = →ripe oldest f k (λ n l u. by n l u (slot_with m place n) refl)
    where
      by : (n : ℕ) → n < k → (f n).tracked ≡ true → (s : Option ℕ) → slot_with m place n ≡ s → marked_below oldest (f n).mark ≡ true
      by n l u (Some j) s =
          let here = file-in m t place n j s in
          let found = with-is m place n j s in
          let its : is_tracked (t j) ≡ true = rw here at u in
          rw here
          (sym (ripe-marked oldest (t j))
          ∙ decide (is_ripe oldest (t j))
          (λ (r : is_ripe oldest (t j) ≡ true). r)
          (λ (r : is_ripe oldest (t j) ≡ false).
          let hit : stopping m t place oldest k j ≡ true
          = rw (eq-eqb (m.slot j).owner (place + 1) found.0, le-leb (m.slot j).number k (omega arith), its, r) in
          let none = all-holds (λ j. not (stopping m t place oldest k j)) m.slots 0 e j (omega arith) (omega (arith, with-low m place n j s)) in
          absurd (false≢true (rw hit at none))))
      by n l u None s = absurd (false≢true (rw (file-out m t place n s) at u))

  ripe-clear : (k i : ℕ) → slot_with m place k ≡ Some i → is_ripe oldest (t i) ≡ true → ripe_below oldest f k ≡ true
      → all (λ j. not (stopping m t place oldest k j)) m.slots 0 ≡ true
  ripe-clear k i e ripe below =
      all_true (λ j. not (stopping m t place oldest k j)) m.slots 0
      (λ j l u. decide (stopping m t place oldest k j) (λ x. absurd (true≢false (sym x ∙ ripe-stops m t place oldest k j (by j (omega arith) x)))) (λ x. rw x))
    where
      by : (j : ℕ) → j < m.slots → stopping m t place oldest k j ≡ true → is_ripe oldest (t j) ≡ true
      by j low x =
          let n = (m.slot j).number in
          let mine : eqb (m.slot j).owner (place + 1) ≡ true = and_l _ _ x in
          let rest = and_r (eqb (m.slot j).owner (place + 1)) _ x in
          let under : n ≤ k = leb-true n k (and_l _ _ rest) in
          let its : is_tracked (t j) ≡ true = and_l _ _ (and_r (leb n k) _ rest) in
          let found : slot_with m place n ≡ Some j = slot_is m single place n j low (and_both _ _ mine (eq-eqb n n refl)) in
          equal n k
          (λ (q : n ≡ k).
          let same : slot_with m place k ≡ Some j = rw q at found in
          let one : j ≡ i = cc in
          rw one ripe)
          (λ (d : n ≢ k).
          let here = file-in m t place n j found in
          let below-k = ripe-at oldest f k n (omega arith) (rw here its) below in
          ripe-marked oldest (t j) ∙ (rw here at below-k))

  pub going-removes : (k i : ℕ) → slot_with m place k ≡ Some i → going m t place oldest i ≡ removes oldest f k
  unfolding going
  going-removes k i e =
      let here = file-in m t place k i e in
      let found = with-is m place k i e in
      decide (is_ripe oldest (t i))
      (λ (r : is_ripe oldest (t i) ≡ true).
      rw (here, eq-eqb (m.slot i).owner (place + 1) found.0, found.1, r, ripe-tracked oldest (t i) r, sym (ripe-marked oldest (t i)) ∙ r)
      (agree _ _ (clear-ripe k) (ripe-clear k i e r)))
      (λ (r : is_ripe oldest (t i) ≡ false).
      rw (here, eq-eqb (m.slot i).owner (place + 1) found.0, r, sym (ripe-marked oldest (t i)) ∙ r, and-false (is_tracked (t i))))
