-- Laws of the list and of the struct that holds it: how long an encoding is, that the struct and the list say the same, how its arrays are filled,
-- and the ways out of a request to write. Assumes nothing.
use Rattle.std.specs.Prelude.{◌≡◌, refl, true, false, ◌&&◌, Result, Ok, Err, ℕ, zero, suc, ◌+◌, ◌-◌, ◌*◌, ◌≤◌, ◌<◌, leb, drop, set, replicate}
use Rattle.std.proofs.Common.{sym, ap, ◌∙◌, arith, length-append, length-take, take_at}
use mathlib.Core.List.{List, [], ◌∷◌, ◌++◌, map, map-append, append_assoc}
use Rattle.std.proofs.Math.Nat.{sub-zero, zero-sub, suc-sub-suc}
use borrow.Author.Tests.{le-leb, lt-leb, leb-true}
use Rattle.std.proofs.Math.ListN.{length, take}
use Rattle.std.proofs.lemmas.List.{length-replicate, length-map, set_at}
use Rattle.std.proofs.Math.Seq.{take-append_seam}
use Rattle.octets.specs.Cases.{and_l, and_r, and_both}
use Rattle.octets.specs.Bytes.{put, put_front}
use Rattle.octets.specs.Number.{length-le}
use Rattle.borsh.specs.Encoding.{each}
use Rattle.borsh.specs.Laws.{length-vec, length-sorted_map}
use Rattle.metadata.specs.declared.list.TapeMetadata.{TapeMetadata}
use Rattle.metadata.specs.declared.list.TapeList.{TapeList}
use Rattle.metadata.specs.declared.encode.EncodeError.{EncodeError}
use Rattle.metadata.specs.declared.encode.EncodeError.TheVariants.{NotStorable, NoRoom}
use Rattle.metadata.specs.Tapes.{Tape, encode_tape, encode_list, fits, good_after, good_list}
use Rattle.metadata.specs.Rules.{fits-true, good-first, good_others, good-cons, good-few, good-tapes, good-list}
use Rattle.metadata.specs.Struct.{stored, blank, list_of, meaning, tapes_of, storable_after, storable}
use Rattle.metadata.specs.Encoding.{After, after, writes}

-- ---- how long

pub length-encode_tape : (t : Tape) → length (encode_tape t) ≡ 20 + length t.name
unfolding encode_tape
length-encode_tape t = simp (length-append, length-vec, length-le) (omega arith)

length-each : (before : List ℕ) (ts : List Tape) → good_after before ts ≡ true → length (each encode_tape ts) ≤ 44 * length ts
unfolding each
length-each before [] e = omega arith
length-each before (t ∷ ts) e =
    let first = (fits-true before t (good-first before t ts e)).short in
    let rest = length-each t.name ts (good_others before t ts e) in
    simp (length-append, length-encode_tape) (omega arith)

pub length-encode_list : (ts : List Tape) → good_list ts ≡ true → length (encode_list ts) ≤ 356
unfolding encode_list
length-encode_list ts e =
    let few = good-few ts e in
    let most = length-each [] ts (good-tapes ts e) in
    rw length-sorted_map (omega arith)

-- ---- a struct that may be stored holds a list that may be stored

-- the first of tapes that may be stored, and the others
module _ (before : List ℕ) (t : TapeMetadata) (ts : List TapeMetadata) (e : storable_after before (t ∷ ts) ≡ true) where
  pub storable-letters : t.letters ≤ 24
  unfolding storable_after
  storable-letters = leb-true t.letters 24 (and_l (leb t.letters 24) (fits before (meaning t) && storable_after (meaning t).name ts) e)

  behind-letters : (fits before (meaning t) && storable_after (meaning t).name ts) ≡ true
  unfolding storable_after
  behind-letters = and_r (leb t.letters 24) (fits before (meaning t) && storable_after (meaning t).name ts) e

  pub storable-fits : fits before (meaning t) ≡ true
  storable-fits = and_l (fits before (meaning t)) (storable_after (meaning t).name ts) behind-letters

  pub storable-others : storable_after (meaning t).name ts ≡ true
  storable-others = and_r (fits before (meaning t)) (storable_after (meaning t).name ts) behind-letters

good-after : (before : List ℕ) (ts : List TapeMetadata) → storable_after before ts ≡ true → good_after before (map meaning ts) ≡ true
unfolding good_after
good-after before [] e = refl
good-after before (t ∷ ts) e =
    good-cons before (meaning t) (map meaning ts) (storable-fits before t ts e) (good-after (meaning t).name ts (storable-others before t ts e))

module _ (l : TapeList) (e : storable l ≡ true) where
  pub storable-count : l.count ≤ 8
  unfolding storable
  storable-count = leb-true l.count 8 (and_l (leb l.count 8) (storable_after [] (take l.count l.tapes)) e)

  pub storable-tapes : storable_after [] (take l.count l.tapes) ≡ true
  unfolding storable
  storable-tapes = and_r (leb l.count 8) (storable_after [] (take l.count l.tapes)) e

  pub storable-good : good_list (tapes_of l) ≡ true
  unfolding tapes_of
  storable-good =
      let ts = take l.count l.tapes in
      let few : length (map meaning ts) ≤ 8 = let n = storable-count in simp (length-map, length-take) (omega arith) in
      good-list (map meaning ts) few (good-after [] ts storable-tapes)

-- ---- a list, held in a struct and taken out again

stored-letters : (t : Tape) → (stored t).letters ≡ length t.name
unfolding stored
stored-letters t = refl

pub meaning-stored : (t : Tape) → meaning (stored t) ≡ t
unfolding stored
meaning-stored t = rw (take-append_seam t.name (replicate (24 - length t.name) 0))

-- the first tapes of the struct that holds a list
take-list_of : (ts : List Tape) → take (length ts) (map stored ts ++ replicate (8 - length ts) blank) ≡ map stored ts
take-list_of ts = take_at (map stored ts) (replicate (8 - length ts) blank) (length ts) (length-map ts stored)

map-meaning-stored : (ts : List Tape) → map meaning (map stored ts) ≡ ts
map-meaning-stored [] = refl
map-meaning-stored (t ∷ ts) = rw (meaning-stored t, map-meaning-stored ts)

pub tapes-of-list : (ts : List Tape) → tapes_of (list_of ts) ≡ ts
unfolding tapes_of list_of
tapes-of-list ts = ap (map meaning) (take-list_of ts) ∙ map-meaning-stored ts

storable-after : (before : List ℕ) (ts : List Tape) → good_after before ts ≡ true → storable_after before (map stored ts) ≡ true
unfolding storable_after
storable-after before [] e = refl
storable-after before (t ∷ ts) e =
    let follows = good-first before t ts e in
    let rest = storable-after t.name ts (good_others before t ts e) in
    let same = meaning-stored t in
    let u = meaning (stored t) in
    let s = storable_after u.name (map stored ts) in
    and_both
    (leb (stored t).letters 24)
    (fits before u && s)
    (le-leb (stored t).letters 24 (rw (stored-letters t) (fits-true before t follows).short))
    (and_both (fits before u) s (ap (fits before) same ∙ follows) (ap (λ (x : Tape). storable_after x.name (map stored ts)) same ∙ rest))

pub storable-list : (ts : List Tape) → good_list ts ≡ true → storable (list_of ts) ≡ true
unfolding storable list_of
storable-list ts e = rw (le-leb (length ts) 8 (good-few ts e), take-list_of ts) (storable-after [] ts (good-tapes ts e))

-- ---- how the arrays are filled

drop-replicate : {A : Type 0} (k n : ℕ) (a : A) → drop k (replicate n a) ≡ replicate (n - k) a
drop-replicate zero n a = rw sub-zero
drop-replicate (suc k) zero a = rw zero-sub
drop-replicate (suc k) (suc n) a = rw suc-sub-suc (drop-replicate k n a)

-- a name put at the front of zeros is the name of the stored tape
pub stored-name : (name : List ℕ) → length name ≤ 24 → put (replicate 24 0) 0 name ≡ name ++ replicate (24 - length name) 0
stored-name name h =
    put_front (replicate 24 0) name (simp length-replicate (omega arith))
    ∙ ap (λ (l : List ℕ). name ++ l) (drop-replicate (length name) 24 0)

-- one more tape in the array, in the place of the first blank
pub store-next : (ts : List Tape) (t : Tape) (i : ℕ) → length ts ≡ i → i < 8
    → set (map stored ts ++ replicate (8 - i) blank) i (stored t) ≡ map stored (ts ++ (t ∷ [])) ++ replicate (8 - (i + 1)) blank
store-next ts t i e l =
    let k : 8 - i ≡ suc (8 - (i + 1)) = omega arith in
    let n : length (map stored ts) ≡ i = length-map ts stored ∙ e in
    ap (λ (m : ℕ). set (map stored ts ++ replicate m blank) i (stored t)) k
    ∙ set_at (map stored ts) blank (replicate (8 - (i + 1)) blank) (stored t) i n
    ∙ sym (ap (λ (l : List TapeMetadata). l ++ replicate (8 - (i + 1)) blank) (map-append stored ts (t ∷ [])) ∙ append_assoc (map stored ts) (stored t ∷ []) (replicate (8 - (i + 1)) blank))

-- ---- a request to write: the ways out, and that an answer is all that it comes to

module _ (l : TapeList) (b out : List ℕ) where
  pub writes-refused : storable l ≡ false → writes l b out ≡ after (Err NotStorable) out
  unfolding writes
  writes-refused e = rw e

  pub writes_short : storable l ≡ true → length out < length b → writes l b out ≡ after (Err NoRoom) out
  unfolding writes
  writes_short e h = rw (e, lt-leb (length b) (length out) h)

  pub writes-served : storable l ≡ true → length b ≤ length out → writes l b out ≡ after (Ok (length b)) (put out 0 b)
  unfolding writes
  writes-served e h = rw (e, le-leb (length b) (length out) h)

pub writes-unique : (l : TapeList) (b out : List ℕ) {r r' : Result ℕ EncodeError} {x x' : List ℕ} → writes l b out ≡ after r x → writes l b out ≡ after r' x' → (r ≡ r') × (x ≡ x')
writes-unique l b out p q =
    let e = sym p ∙ q in
    (ap (λ (a : After). a.answer) e, ap (λ (a : After). a.bytes) e)
