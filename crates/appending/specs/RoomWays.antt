-- The ways out of the functions of the rule of 15, the turns of its loop, and why counting up to 65 for each tape is enough. Assumes nothing.
use Rattle.std.specs.Prelude.{◌≡◌, refl, ◌≢◌, true, false, not, cond, ◌||◌, List, eqb, ltb, Option, Some, None}
use Rattle.std.specs.Option.{option_eq}
use Rattle.std.proofs.Common.{sym, ap, ◌∙◌, true≢false, div-le_self, lt-ltb, le-ltb, eq-eqb, ne_eqb}
use Prim.Native.Nat.{ℕ, suc, ◌+◌, ◌-◌, ◌≤◌, ◌<◌, ◌^◌, min}
use native.Mathlib.Omega.{arith}
use Rattle.octets.specs.Cases.{order, equal, and_l}
use Rattle.octets.specs.First.{count-le}
use Rattle.octets.specs.Number.{Bytes}
use Rattle.components.specs.Pieces.{file_of}
use Rattle.components.specs.PiecesLaws.{file-mono}
use Rattle.components.specs.Slots.{lacking_from, covered}
use Rattle.layout.specs.Disk.{slots}
use Rattle.layout.specs.Session.{handle_number, Begun}
use Rattle.disk.specs.Steps.{is_free, files}
use Rattle.session.specs.Rows.{handle_of, staged_of}
use Rattle.session.specs.declared.tape_rows.Handle.{Handle}
use Rattle.session.specs.declared.tape_rows.Staged.{Staged}
use Rattle.session.specs.RowLaws.{handle-numbered, handle-size}
use Rattle.rolling_tape.specs.Room.{on_disk}
use Rattle.staging.specs.Seeing.{directory_of, touched_as}
use Rattle.staging.specs.Laws.{touched-fits}
use Rattle.appending.specs.Room.{low_of, end_of, lacking_in, is_staged, lacking_of, lacking_all, place_of, no_room}

-- ---- one directory

module _ (d : List ℕ) (fs low end : ℕ) (q : Option ℕ) (first count : ℕ) (begins : first ≡ file_of fs low) (many : count ≡ covered fs low end) where
  pub lacking-there : (place : ℕ) → q ≡ Some place → min (lacking_from (on_disk d place) first count) 65 ≡ min (lacking_in d fs low end q) 65
  lacking-there place e = rw (e, begins, many)

  pub lacking-nowhere : q ≡ None → min count 65 ≡ min (lacking_in d fs low end q) 65
  lacking-nowhere e = rw (e, many)

-- the numbers of the files up to an end stay below it
pub numbers_fit : (fs low end : ℕ) → 0 < fs → low < 2 ^ 64 → end < 2 ^ 64 → file_of fs low + covered fs low end ≤ 2 ^ 64
unfolding covered
numbers_fit fs low end z a b =
    order low end
    (λ l. rw (lt-ltb low end l) (omega (arith, file-mono fs z low (end - 1) (omega arith), div-le_self (end - 1) fs)))
    (λ l. rw (le-ltb low end l) (omega (arith, div-le_self low fs)))

-- ---- a tape that is staged

module _ (s : List ℕ) (to p : ℕ) (h : Handle) (row : h ≡ handle_of s p) where
  pub staged-closed : h.number ≡ 0 → is_staged s to p ≡ false
  staged-closed e =
      let none : handle_number s p ≡ 0 = sym (handle-numbered s p h row) ∙ e in
      rw (eq-eqb (handle_number s p) 0 none)

  module _ (some : h.number ≢ 0) where
    opened : eqb (handle_number s p) 0 ≡ false
    opened = ne_eqb (handle_number s p) 0 (λ e. some (handle-numbered s p h row ∙ e))

    pub staged-to : p ≡ to → is_staged s to p ≡ true
    staged-to e = rw (opened, eq-eqb p to e)

    pub staged-other : p ≢ to → (r : Staged) → r ≡ staged_of s p → is_staged s to p ≡ r.touched
    staged-other n r e = rw (opened, ne_eqb p to n, e)

-- the tape that is appended to, as the code tests it
pub to_tape : (to : Option ℕ) (p : ℕ) → p < 8 → option_eq eqb to (Some p) ≡ eqb p (place_of to)
to_tape (Some q) p low = equal p q (λ (e : p ≡ q). rw (eq-eqb q p (sym e), eq-eqb p q e) refl) (λ n. rw (ne_eqb q p (λ e. n (sym e)), ne_eqb p q n) refl)
to_tape None p low = sym (ne_eqb p 8 (λ e. omega arith))

-- what holds of the tape that is appended to holds of its place, which is not 8
pub place-holds : (P : ℕ → Type 0) (to : Option ℕ) → ((p : ℕ) → to ≡ Some p → P p) → place_of to ≢ 8 → P (place_of to)
place-holds P (Some p) each n = each p refl
place-holds P None each n = absurd (n refl)

pub staged-held : (s : List ℕ) (to p : ℕ) → is_staged s to p ≡ true → handle_number s p ≢ 0
staged-held s to p e z =
    true≢false (sym (and_l (not (eqb (handle_number s p) 0)) (eqb p to || (staged_of s p).touched) e) ∙ ap not (eq-eqb (handle_number s p) 0 z))

-- an open tape's file size is no 0
pub file-some : (s : List ℕ) (p : ℕ) → Begun s → p < 8 → handle_number s p ≢ 0 → 0 < (handle_of s p).file_size
unfolding handle_of
file-some s p b low held = (b.tapes p low held).file-some

-- ---- what a tape lacks

module _ (d s : List ℕ) (to more p : ℕ) where
  pub lacking-idle : is_staged s to p ≡ false → lacking_of d s to more p ≡ 0
  unfolding lacking_of
  lacking-idle e = rw e

  module _ (r : Staged) (row : r ≡ touched_as s p) (h : Handle) (handle : h ≡ handle_of s p) (behind : ℕ) (adds : behind ≡ cond (eqb p to) more 0) where
    pub lacking-staged : (q : Option ℕ) → q ≡ directory_of d s p → (low end : ℕ) → low ≡ low_of r → end ≡ end_of r behind → is_staged s to p ≡ true
        → lacking_in d h.file_size low end q ≡ lacking_of d s to more p
    unfolding lacking_of
    lacking-staged q there low end a b e = rw (e, there, a, b, row, handle-size s p h handle, adds)

-- a length that more is put behind fits: that of the tape that is appended to by the caller, and every other because it was read out of bytes
pub ends-fit : (s : List ℕ) → Bytes s → (to more p : ℕ) → p < 8 → (to ≢ 8 → (to < 8) × ((touched_as s to).len + more < 2 ^ 64))
    → (touched_as s p).len + cond (eqb p to) more 0 < 2 ^ 64
ends-fit s bytes to more p low fits =
    equal p to
    (λ (e : p ≡ to).
    rw (eq-eqb p to e, e) (fits (λ z. omega arith)).1)
    (λ n. rw (ne_eqb p to n) (omega (arith, (touched-fits s bytes p).len)))

-- ---- all tapes

module _ (d s : List ℕ) (to more i : ℕ) where
  pub all-turn : i < 8 → lacking_all d s to more (8 - i) i ≡ lacking_of d s to more i + lacking_all d s to more (8 - (i + 1)) (i + 1)
  unfolding lacking_all
  all-turn l =
      let e : 8 - i ≡ suc (8 - (i + 1)) = omega arith in
      rw e

  pub all_end : 8 ≤ i → lacking_all d s to more (8 - i) i ≡ 0
  unfolding lacking_all
  all_end l =
      let e : 8 - i ≡ 0 = omega arith in
      rw e

pub files-few : (d : List ℕ) → files d ≤ slots d
unfolding files
files-few d = count-le (λ i. not (is_free d i)) (slots d) 0

-- a disk has no more than 64 slots: a count that is right up to 65 and never too high decides as the true one does
pub room_by : (d s : List ℕ) (to more n : ℕ) → slots d ≤ 64 → min (lacking_all d s to more 8 0) 65 ≤ n → n ≤ lacking_all d s to more 8 0
    → ltb (slots d) (files d + n) ≡ no_room d s to more
unfolding no_room
room_by d s to more n few up low =
    let all = lacking_all d s to more 8 0 in
    order (slots d) (files d + n)
    (λ l. rw (lt-ltb (slots d) (files d + n) l, lt-ltb (slots d) (files d + all) (omega arith)))
    (λ l. rw (le-ltb (slots d) (files d + n) l, le-ltb (slots d) (files d + all) (omega (arith, files-few d))))
