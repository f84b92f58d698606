-- What a reading that succeeded says: a tape's fields and that its name lies inside, the next tape, and a list's count and tapes. Assumes nothing.
use Rattle.std.specs.Prelude.{◌≡◌, refl, Bool, true, false, cond, Option, Some, None, List, [], ◌∷◌, ℕ, zero, suc, ◌+◌, ◌≤◌, leb, eqb, length, take, drop}
use Rattle.std.proofs.Common.{sym, ap, subst, ◌∙◌, arith, leb-true, leb-false, eqb-true}
use Rattle.octets.specs.Bytes.{length_part}
use Rattle.borsh.specs.Taking.{Span, span, take_number, take_vec}
use Rattle.borsh.specs.Back.{take-vec-inside}
use Rattle.metadata.specs.Tapes.{Tape, fits, tape_at, Part}
use Rattle.metadata.specs.Rules.{fits-true}
use Rattle.metadata.specs.Decoding.{FoundTape, found_tape, Listing, tapes, unreadable, take_tape, next_tape, prepend, decode_from, decode_list}
use Rattle.metadata.specs.DecodingLaws.{tape-no-name, tape-no-len, tape-no-start, tape-found, next-none, next-refused, next-found, decode-more, decode-none, list-short, list-many, list_counted}

-- the other answers
not_found : {place letters len start : ℕ} {next : ℕ} → ◌≡◌ {A = Option FoundTape} None (Some (found_tape place letters len start next)) → ⊥
not_found q = let z : ◌≡◌ {A = ℕ} 0 1 = cc in omega arith

not-readable : {ts : List Tape} → unreadable ≡ tapes ts → ⊥
not-readable q = let z : ◌≡◌ {A = ℕ} 0 1 = cc in omega arith

-- ---- one tape

-- the three fields of a tape that was found
pub record Fields (s : List ℕ) (at place letters len start : ℕ) (c : ℕ) : Type 0 where
  pub middle : ℕ
  pub last : ℕ
  pub name : take_vec s at ≡ Some (span place letters middle)
  pub size : take_number 8 s middle ≡ Some (len, last)
  pub first : take_number 8 s last ≡ Some (start, c)

module _ (s : List ℕ) (at : ℕ) {place letters len start : ℕ} {c : ℕ} where
  pub fields : take_tape s at ≡ Some (found_tape place letters len start c) → Fields s at place letters len start c
  fields e = by_name (take_vec s at) refl
    where
      by-start : (a b v : ℕ) (m l : ℕ) (r : Option (ℕ × ℕ)) → take_vec s at ≡ Some (span a b m) → take_number 8 s m ≡ Some (v, l) → take_number 8 s l ≡ r
          → Fields s at place letters len start c
      by-start a b v m l (Some n) p q o =
          let same : ◌≡◌ {A = Option FoundTape} (Some (found_tape a b v n.0 n.1)) (Some (found_tape place letters len start c)) = sym (tape-found s at p q o) ∙ e in
          let all : found_tape a b v n.0 n.1 ≡ found_tape place letters len start c = cc in
          let here : Fields s at a b v n.0 n.1 = record { middle = m; last = l; name = p; size = q; first = o } in
          subst (λ (t : FoundTape). Fields s at t.place t.letters t.len t.start t.next) all here
      by-start a b v m l None p q o = absurd (not_found (sym (tape-no-start s at p q o) ∙ e))

      by-len : (a b : ℕ) (m : ℕ) (r : Option (ℕ × ℕ)) → take_vec s at ≡ Some (span a b m) → take_number 8 s m ≡ r → Fields s at place letters len start c
      by-len a b m (Some n) p q = by-start a b n.0 m n.1 (take_number 8 s n.1) p q refl
      by-len a b m None p q = absurd (not_found (sym (tape-no-len s at p q) ∙ e))

      by_name : (r : Option Span) → take_vec s at ≡ r → Fields s at place letters len start c
      by_name (Some x) p = by-len x.start x.len x.next (take_number 8 s x.next) p refl
      by_name None p = absurd (not_found (sym (tape-no-name s at p) ∙ e))

  -- its name lies inside
  pub tape-inside : take_tape s at ≡ Some (found_tape place letters len start c) → Part place (place + letters) (length s)
  tape-inside e = record { ordered = omega arith; inside = take-vec-inside s at (fields e).name }

-- ---- the next tape

-- what is found next was read, and may stand there
pub record NextTapeAt (before s : List ℕ) (at place letters len start : ℕ) (next : ℕ) : Type 0 where
  pub taken : take_tape s at ≡ Some (found_tape place letters len start next)
  pub follows : fits before (tape_at s place letters len start) ≡ true

module _ (before s : List ℕ) (at : ℕ) {place letters len start : ℕ} {next : ℕ} where
  pub next-was : next_tape before s at ≡ Some (found_tape place letters len start next) → NextTapeAt before s at place letters len start next
  next-was e = by (take_tape s at) refl
    where
      by₂ : (p n v w : ℕ) (c : ℕ) (t : Bool) → take_tape s at ≡ Some (found_tape p n v w c) → fits before (tape_at s p n v w) ≡ t → NextTapeAt before s at place letters len start next
      by₂ p n v w c true q f =
          let same : ◌≡◌ {A = Option FoundTape} (Some (found_tape p n v w c)) (Some (found_tape place letters len start next)) = sym (next-found before s at q f) ∙ e in
          let all : found_tape p n v w c ≡ found_tape place letters len start next = cc in
          let b : p ≡ place = ap (λ (t : FoundTape). t.place) all in
          let l : n ≡ letters = ap (λ (t : FoundTape). t.letters) all in
          let x : v ≡ len = ap (λ (t : FoundTape). t.len) all in
          let y : w ≡ start = ap (λ (t : FoundTape). t.start) all in
          record { taken = q ∙ same; follows = rw (← b, ← l, ← x, ← y) f }
      by₂ p n v w c false q f = absurd (not_found (sym (next-refused before s at q f) ∙ e))

      by : (x : Option FoundTape) → take_tape s at ≡ x → NextTapeAt before s at place letters len start next
      by (Some t) q = by₂ t.place t.letters t.len t.start t.next (fits before (tape_at s t.place t.letters t.len t.start)) q refl
      by None q = absurd (not_found (sym (next-none before s at q) ∙ e))

  -- its name lies inside, and has at most 24 bytes
  pub next-inside : next_tape before s at ≡ Some (found_tape place letters len start next) → Part place (place + letters) (length s)
  next-inside e = tape-inside s at (next-was e).taken

  pub next-short : next_tape before s at ≡ Some (found_tape place letters len start next) → letters ≤ 24
  next-short e =
      let t = tape_at s place letters len start in
      let n : length t.name ≤ 24 = (fits-true before t (next-was e).follows).short in
      let l : length t.name ≡ letters = length_part letters s place (next-inside e).inside in
      omega arith

-- ---- the list

-- the first tape of a list that was read, and the others
pub record Step (k : ℕ) (before s : List ℕ) (at : ℕ) (ts : List Tape) : Type 0 where
  pub place : ℕ
  pub letters : ℕ
  pub len : ℕ
  pub start : ℕ
  pub next : ℕ
  pub others : List Tape
  pub found : take_tape s at ≡ Some (found_tape place letters len start next)
  pub ok : fits before (tape_at s place letters len start) ≡ true
  pub all : ts ≡ tape_at s place letters len start ∷ others
  pub rest : decode_from k (take letters (drop place s)) s next ≡ tapes others

pub step : (k : ℕ) (before s : List ℕ) (at : ℕ) (ts : List Tape) → decode_from (suc k) before s at ≡ tapes ts → Step k before s at ts
step k before s at ts e = by (next_tape before s at) refl
  where
    by-rest : (place letters len start : ℕ) (next : ℕ) (r : Listing) → next_tape before s at ≡ Some (found_tape place letters len start next)
        → decode_from k (take letters (drop place s)) s next ≡ r → prepend (tape_at s place letters len start) r ≡ tapes ts → Step k before s at ts
    by-rest place letters len start next (tapes us) q r f =
        let n = next-was before s at q in
        record { place = place; letters = letters; len = len; start = start; next = next; others = us; found = n.taken; ok = n.follows; all = cc; rest = r }
    by-rest place letters len start next unreadable q r f = absurd (not-readable f)

    by : (r : Option FoundTape) → next_tape before s at ≡ r → Step k before s at ts
    by (Some t) q =
        by-rest t.place t.letters t.len t.start t.next (decode_from k (take t.letters (drop t.place s)) s t.next) q refl (sym (decode-more k before s at q) ∙ e)
    by None q = absurd (not-readable (sym (decode-none k before s at q) ∙ e))

-- the end of a list that was read
pub record End (s : List ℕ) (at : ℕ) (ts : List Tape) : Type 0 where
  pub none : ts ≡ []
  pub over : at ≡ length s

pub ended : (before s : List ℕ) (at : ℕ) (ts : List Tape) → decode_from zero before s at ≡ tapes ts → End s at ts
unfolding decode_from
ended before s at ts e = by (eqb at (length s)) refl
  where
    by : (b : Bool) → eqb at (length s) ≡ b → End s at ts
    by true q =
        let same : tapes [] ≡ tapes ts = ap (λ (b : Bool). cond b (tapes []) unreadable) (sym q) ∙ e in
        record { none = cc; over = eqb-true at (length s) q }
    by false q = absurd (not-readable (ap (λ (b : Bool). cond b (tapes []) unreadable) (sym q) ∙ e))

-- the count of a list that was read, and the tapes
pub record Head (s : List ℕ) (ts : List Tape) : Type 0 where
  pub count : ℕ
  pub next : ℕ
  pub found : take_number 4 s 0 ≡ Some (count, next)
  pub few : count ≤ 8
  pub rest : decode_from count [] s next ≡ tapes ts

pub head : (s : List ℕ) (ts : List Tape) → decode_list s ≡ tapes ts → Head s ts
head s ts e = by (take_number 4 s 0) refl
  where
    by-few : (count : ℕ) (next : ℕ) (b : Bool) → take_number 4 s 0 ≡ Some (count, next) → leb count 8 ≡ b → Head s ts
    by-few count next true q o =
        let few = leb-true count 8 o in
        record { count = count; next = next; found = q; few = few; rest = sym (list_counted s q few) ∙ e }
    by-few count next false q o = absurd (not-readable (sym (list-many s q (leb-false count 8 o)) ∙ e))

    by : (r : Option (ℕ × ℕ)) → take_number 4 s 0 ≡ r → Head s ts
    by (Some n) q = by-few n.0 n.1 (leb n.0 8) q refl
    by None q = absurd (not-readable (sym (list-short s q) ∙ e))
