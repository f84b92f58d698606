-- Files that staged bytes lack (rule of 15): over a later part of a run, of one tape, of one tape among all, and of all. Assumes nothing.
use Rattle.std.specs.Prelude.{◌≡◌, ◌≢◌, true, false, List, eqb, Option, Some, None}
use Rattle.std.proofs.Math.Path.{refl}
use Rattle.std.proofs.Common.{sym, ap, ◌∙◌}
use Prim.Native.Nat.{ℕ, zero, suc, ◌+◌, ◌≤◌, ◌<◌}
use native.Mathlib.Omega.{arith}
use borrow.Author.Tests.{ltb-false, eq-eqb, ne_eqb}
use Rattle.octets.specs.Cases.{equal, decide}
use Rattle.components.specs.Pieces.{file_of}
use Rattle.components.specs.Slots.{covered}
use Rattle.components.proofs.SlotsLaws.{covered_none, lacking-empty, lacking-same}
use Rattle.layout.specs.Disk.{slots}
use Rattle.disk.specs.Steps.{files}
use Rattle.appending.specs.Room.{lacking_of, lacking_all, no_room, low_of, end_of, lacking_in}
use Rattle.layout.specs.Session.{handle_number, file_size_of}
use Rattle.session.specs.declared.tape_rows.Staged.{Staged}
use Rattle.session.specs.Rows.{view_of, handle_of, staged_of}
use Rattle.rolling_tape.specs.Room.{on_disk}
use Rattle.staging.specs.Seeing.{directory_of, touched_as}
use Rattle.staging.specs.Ways.{touched-now}
use Rattle.seen.specs.Rows.{size-row}

-- ---- one tape among all

module _ (d s : List ℕ) (to more : ℕ) where
  lacking-in : (n p q : ℕ) → p ≤ q → q < p + n → lacking_of d s to more q ≤ lacking_all d s to more n p
  unfolding lacking_all
  lacking-in zero p q l m = absurd (omega arith)
  lacking-in (suc n) p q l m =
      equal p q
      (λ (e : p ≡ q). rw e (omega arith))
      (λ (e : p ≢ q). omega (arith, lacking-in n (p + 1) q (omega arith) (omega arith)))

  pub lacking-each : (q : ℕ) → q < 8 → lacking_of d s to more q ≤ lacking_all d s to more 8 0
  lacking-each q l = lacking-in 8 0 q (omega arith) (omega arith)

  pub room-left : no_room d s to more ≡ false → files d + lacking_all d s to more 8 0 ≤ slots d
  unfolding no_room
  room-left e = ltb-false (slots d) (files d + lacking_all d s to more 8 0) e

-- ---- one tape

-- no bytes lack no file
pub none-lacking : (d : List ℕ) (fs low end : ℕ) (place : Option ℕ) → end ≤ low → lacking_in d fs low end place ≡ 0
none-lacking d fs low end (Some place) l = rw (covered_none fs low end l) (lacking-empty (on_disk d place) (file_of fs low))
none-lacking d fs low end None l = covered_none fs low end l

module _ (d s : List ℕ) (q : ℕ) (small : q < 8) where
  pub shut-lacking : handle_number s q ≡ 0 → lacking_of d s 8 0 q ≡ 0
  unfolding lacking_of
  shut-lacking e = rw (eq-eqb (handle_number s q) 0 e)

  pub untouched-lacking : (staged_of s q).touched ≡ false → lacking_of d s 8 0 q ≡ 0
  unfolding lacking_of
  untouched-lacking e =
      let apart : q ≢ 8 = λ z. omega arith in
      decide (eqb (handle_number s q) 0) (λ z. rw z) (λ z. rw (z, e, ne_eqb q 8 apart))

  staged-lacking : handle_number s q ≢ 0 → (staged_of s q).touched ≡ true
      → lacking_of d s 8 0 q ≡ lacking_in d (file_size_of s q) (low_of (touched_as s q)) (end_of (touched_as s q) 0) (directory_of d s q)
  unfolding lacking_of
  staged-lacking held e =
      let apart : q ≢ 8 = λ z. omega arith in
      rw (ne_eqb (handle_number s q) 0 held, e, ne_eqb q 8 apart)

  -- of an open tape: nothing is staged of one that is not touched
  pub open-lacking : handle_number s q ≢ 0 → lacking_of d s 8 0 q ≡ lacking_in d (file_size_of s q) (low_of (touched_as s q)) (end_of (touched_as s q) 0) (directory_of d s q)
  open-lacking held =
      decide (staged_of s q).touched
      (λ e. staged-lacking held e)
      (λ e.
      let row = touched-now s q (staged_of s q) refl (view_of s 16 q) refl e in
      let base = sym (ap (λ (r : Staged). r.base) row) in
      let len = sym (ap (λ (r : Staged). r.len) row) in
      let unwritten = sym (ap (λ (r : Staged). r.unwritten) row) in
      untouched-lacking e ∙ sym (none-lacking d (file_size_of s q) (low_of (touched_as s q)) (end_of (touched_as s q) 0) (directory_of d s q) (omega (arith, base, len, unwritten))))

  -- bytes that another tape gets are none of its own
  pub other-lacking : (to more : ℕ) → q ≢ to → lacking_of d s to more q ≡ lacking_of d s 8 0 q
  unfolding lacking_of
  other-lacking to more apart =
      let none : q ≢ 8 = λ z. omega arith in
      rw (ne_eqb q to apart, ne_eqb q 8 none)

-- what a tape lacks depends on
pub record SameLack (d s e u : List ℕ) (q : ℕ) : Type 0 where
  pub handle : handle_of u q ≡ handle_of s q
  pub base : (touched_as u q).base ≡ (touched_as s q).base
  pub len : (touched_as u q).len ≡ (touched_as s q).len
  pub unwritten : (touched_as u q).unwritten ≡ (touched_as s q).unwritten
  pub folder : directory_of e u q ≡ directory_of d s q
  pub there : (place : ℕ) → directory_of d s q ≡ Some place → (j : ℕ) → on_disk e place j ≡ on_disk d place j

pub same-lacking : (d s e u : List ℕ) (q : ℕ) → q < 8 → (handle_number s q ≢ 0 → SameLack d s e u q) → handle_number u q ≡ handle_number s q
    → lacking_of e u 8 0 q ≡ lacking_of d s 8 0 q
same-lacking d s e u q small same number =
    equal (handle_number s q) 0
    (λ z. shut-lacking e u q small (number ∙ z) ∙ sym (shut-lacking d s q small z))
    (λ held.
    let r = same held in
    open-lacking e u q small (λ z. held (sym number ∙ z))
    ∙ rw (r.base, r.len, r.unwritten, r.folder, size-row s u q r.handle) (by r.there (directory_of d s q) refl)
    ∙ sym (open-lacking d s q small held))
  where
    by : ((place : ℕ) → directory_of d s q ≡ Some place → (j : ℕ) → on_disk e place j ≡ on_disk d place j) → (found : Option ℕ) → directory_of d s q ≡ found
        → lacking_in e (file_size_of s q) (low_of (touched_as s q)) (end_of (touched_as s q) 0) found ≡ lacking_in d (file_size_of s q) (low_of (touched_as s q)) (end_of (touched_as s q) 0) found
    by there (Some place) at =
        lacking-same (on_disk d place) (on_disk e place) (file_of (file_size_of s q) (low_of (touched_as s q))) (covered (file_size_of s q) (low_of (touched_as s q)) (end_of (touched_as s q) 0))
        (λ j l m. there place at j)
    by there None at = refl

-- ---- all tapes

module _ (d s e u : List ℕ) (to more : ℕ) where
  pub all_from : (n i : ℕ) → ((q : ℕ) → i ≤ q → q < i + n → lacking_of e u 8 0 q ≡ lacking_of d s to more q) → lacking_all e u 8 0 n i ≡ lacking_all d s to more n i
  unfolding lacking_all
  all_from zero i same = refl
  all_from (suc n) i same = rw (same i (omega arith) (omega arith), all_from n (i + 1) (λ q l m. same q (omega arith) (omega arith)))

  -- the same but for one
  pub but-one : (p n i : ℕ) → i ≤ p → p < i + n → ((q : ℕ) → i ≤ q → q < i + n → q ≢ p → lacking_of e u 8 0 q ≡ lacking_of d s to more q)
      → lacking_all e u 8 0 n i + lacking_of d s to more p ≡ lacking_all d s to more n i + lacking_of e u 8 0 p
  unfolding lacking_all
  but-one p zero i l m same = absurd (omega arith)
  but-one p (suc n) i l m same =
      equal i p
      (λ (z : i ≡ p).
      let rest = all_from n (i + 1) (λ q a b. same q (omega arith) (omega arith) (λ y. omega arith)) in
      rw (← z, rest) (omega arith))
      (λ (z : i ≢ p).
      let first = same i (omega arith) (omega arith) z in
      let ih = but-one p n (i + 1) (omega arith) (omega arith) (λ q a b. same q (omega arith) (omega arith)) in
      omega arith)

pub all-lacking : (d s e u : List ℕ) → ((q : ℕ) → q < 8 → lacking_of e u 8 0 q ≡ lacking_of d s 8 0 q) → lacking_all e u 8 0 8 0 ≡ lacking_all d s 8 0 8 0
all-lacking d s e u same = all_from d s e u 8 0 8 0 (λ q l m. same q (omega arith))

none_from : (d s : List ℕ) (n i : ℕ) → i + n ≤ 8 → ((q : ℕ) → q < 8 → (staged_of s q).touched ≡ false) → lacking_all d s 8 0 n i ≡ 0
unfolding lacking_all
none_from d s zero i few idle = refl
none_from d s (suc n) i few idle =
    let rest = none_from d s n (i + 1) (omega arith) idle in
    let here = untouched-lacking d s i (omega arith) (idle i (omega arith)) in
    omega arith

-- nothing is lacking where nothing is touched
pub idle-lacking : (d s : List ℕ) → ((q : ℕ) → q < 8 → (staged_of s q).touched ≡ false) → lacking_all d s 8 0 8 0 ≡ 0
idle-lacking d s idle = none_from d s 8 0 (omega arith) idle
