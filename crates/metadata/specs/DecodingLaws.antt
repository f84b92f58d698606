-- The ways out of reading one tape, the next one and the list, and the turns of the loop that reads one after the other. Assumes nothing.
use Rattle.std.specs.Prelude.{◌≡◌, refl, ◌≢◌, true, false, Some, None, List, [], ◌∷◌, ◌++◌, ℕ, suc, ◌+◌, ◌-◌, ◌≤◌, ◌<◌, length, take, drop}
use Rattle.std.proofs.Math.Path.{ap}
use Rattle.std.proofs.Common.{◌∙◌}
use native.Mathlib.Omega.{arith}
use borrow.Author.Tests.{le-leb, lt-leb, eq-eqb, ne_eqb}
use Rattle.borsh.specs.Taking.{span, take_number, take_vec}
use Rattle.metadata.specs.Tapes.{Tape, tape_at, fits}
use Rattle.metadata.specs.Decoding.{found_tape, Listing, tapes, unreadable, with_name, with_len, with_start, take_tape, next_tape, allowed, prepend, decode_from, decode_list}

-- ---- one tape

module _ (s : List ℕ) (at : ℕ) where
  pub tape-no-name : take_vec s at ≡ None → take_tape s at ≡ None
  unfolding take_tape
  tape-no-name e = ap (with_name s) e

  pub tape-no-len : {place letters : ℕ} {after_name : ℕ} → take_vec s at ≡ Some (span place letters after_name) → take_number 8 s after_name ≡ None → take_tape s at ≡ None
  unfolding take_tape
  tape-no-len {place} {letters} e f = ap (with_name s) e ∙ ap (with_len s place letters) f

  pub tape-no-start : {place letters len : ℕ} {after_name after_len : ℕ} → take_vec s at ≡ Some (span place letters after_name) → take_number 8 s after_name ≡ Some (len, after_len) → take_number 8 s after_len ≡ None → take_tape s at ≡ None
  unfolding take_tape
  tape-no-start {place} {letters} {len} e f g = ap (with_name s) e ∙ ap (with_len s place letters) f ∙ ap (with_start place letters len) g

  pub tape-found : {place letters len start : ℕ} {after_name after_len next : ℕ} → take_vec s at ≡ Some (span place letters after_name) → take_number 8 s after_name ≡ Some (len, after_len) → take_number 8 s after_len ≡ Some (start, next) → take_tape s at ≡ Some (found_tape place letters len start next)
  unfolding take_tape
  tape-found {place} {letters} {len} e f g = ap (with_name s) e ∙ ap (with_len s place letters) f ∙ ap (with_start place letters len) g

-- ---- the next tape

pub next-none : (before s : List ℕ) (at : ℕ) → take_tape s at ≡ None → next_tape before s at ≡ None
unfolding next_tape
next-none before s at e = ap (allowed before s) e

module _ (before s : List ℕ) (at : ℕ) {place letters len start : ℕ} {next : ℕ} where
  pub next-refused : take_tape s at ≡ Some (found_tape place letters len start next) → fits before (tape_at s place letters len start) ≡ false → next_tape before s at ≡ None
  unfolding next_tape
  next-refused e f = ap (allowed before s) e ∙ rw f

  pub next-found : take_tape s at ≡ Some (found_tape place letters len start next) → fits before (tape_at s place letters len start) ≡ true → next_tape before s at ≡ Some (found_tape place letters len start next)
  unfolding next_tape
  next-found e f = ap (allowed before s) e ∙ rw f

-- ---- tapes one after the other

-- tapes in front of the rest
unfoldable pub prepend_all : List Tape → Listing → Listing
prepend_all [] l = l
prepend_all (t ∷ ts) l = prepend t (prepend_all ts l)

pub prepend_all-snoc : (ts : List Tape) (t : Tape) (l : Listing) → prepend_all (ts ++ (t ∷ [])) l ≡ prepend_all ts (prepend t l)
unfolding prepend_all
prepend_all-snoc [] t l = refl
prepend_all-snoc (u ∷ ts) t l = ap (prepend u) (prepend_all-snoc ts t l)

pub prepend_all-tapes : (ts us : List Tape) → prepend_all ts (tapes us) ≡ tapes (ts ++ us)
unfolding prepend_all
prepend_all-tapes [] us = refl
prepend_all-tapes (t ∷ ts) us = ap (prepend t) (prepend_all-tapes ts us)

pub prepend_all-unreadable : (ts : List Tape) → prepend_all ts unreadable ≡ unreadable
unfolding prepend_all
prepend_all-unreadable [] = refl
prepend_all-unreadable (t ∷ ts) = ap (prepend t) (prepend_all-unreadable ts)

-- one more of them, or none where one is to come
module _ (k : ℕ) (before s : List ℕ) (at : ℕ) where
  pub decode-more : {place letters len start : ℕ} {next : ℕ} → next_tape before s at ≡ Some (found_tape place letters len start next)
      → decode_from (suc k) before s at ≡ prepend (tape_at s place letters len start) (decode_from k (take letters (drop place s)) s next)
  unfolding decode_from
  decode-more e = rw e

  pub decode-none : next_tape before s at ≡ None → decode_from (suc k) before s at ≡ unreadable
  unfolding decode_from
  decode-none e = rw e

-- the same as the loop has it, at tape i
module _ (count i : ℕ) (before s : List ℕ) (at : ℕ) where
  pub decode-step : {place letters len start : ℕ} {next : ℕ} → i < count → next_tape before s at ≡ Some (found_tape place letters len start next)
      → decode_from (count - i) before s at
      ≡ prepend (tape_at s place letters len start) (decode_from (count - (i + 1)) (take letters (drop place s)) s next)
  decode-step l e =
      let k : count - i ≡ suc (count - (i + 1)) = omega arith in
      rw k (decode-more (count - (i + 1)) before s at e)

  pub decode-stop : i < count → next_tape before s at ≡ None → decode_from (count - i) before s at ≡ unreadable
  decode-stop l e =
      let k : count - i ≡ suc (count - (i + 1)) = omega arith in
      rw k (decode-none (count - (i + 1)) before s at e)

  -- all of them: no byte is over
  pub decode-end : count ≤ i → at ≡ length s → decode_from (count - i) before s at ≡ tapes []
  unfolding decode_from
  decode-end l e =
      let k : count - i ≡ 0 = omega arith in
      rw (k, eq-eqb at (length s) e)

  pub decode-over : count ≤ i → at ≢ length s → decode_from (count - i) before s at ≡ unreadable
  unfolding decode_from
  decode-over l d =
      let k : count - i ≡ 0 = omega arith in
      rw (k, ne_eqb at (length s) d)

-- ---- the list

module _ (s : List ℕ) where
  pub list-short : take_number 4 s 0 ≡ None → decode_list s ≡ unreadable
  unfolding decode_list
  list-short e = rw e

  pub list-many : {count : ℕ} {next : ℕ} → take_number 4 s 0 ≡ Some (count, next) → 8 < count → decode_list s ≡ unreadable
  unfolding decode_list
  list-many {count} e l = rw (e, lt-leb count 8 l)

  pub list_counted : {count : ℕ} {next : ℕ} → take_number 4 s 0 ≡ Some (count, next) → count ≤ 8 → decode_list s ≡ decode_from count [] s next
  unfolding decode_list
  list_counted {count} e l = rw (e, le-leb count 8 l)
