-- What the loops over a list's tapes come to, turn by turn: the test whether it may be stored, and its encoding. Assumes nothing.
use mathlib.Core.Path.{◌≡◌, refl, sym, ap, ◌∙◌}
use mathlib.Core.Bool.{Bool, true, false, ◌&&◌, and_assoc}
use mathlib.Core.List.{List, [], ◌∷◌, ◌++◌, map, map-append, append-nil}
use Prim.Native.Nat.{ℕ, zero, suc, ◌+◌, ◌-◌, ◌≤◌, ◌<◌}
use native.Mathlib.Numerals.{add-one}
use native.Mathlib.Omega.{arith}
use borrow.Author.Tests.{le-leb}
use lib.Dec.{leb}
use lib.ListN.{length, take, drop, get_or, length-append, length-map, drop_of_length-le}
use Rattle.std.proofs.Common.{take_all, length-take}
use lib.Seq.{drop-cons, take-suc, take-add, length-take-le}
use Rattle.octets.specs.Bytes.{put, put-append}
use Rattle.octets.specs.Number.{length-le}
use Rattle.borsh.specs.Encoding.{u32, u64, vec, each, sorted_map}
use Rattle.borsh.specs.Laws.{length-vec, each_append}
use Rattle.metadata.specs.contracts.list.TapeMetadata.{the_type}
use Rattle.metadata.specs.declared.list.TapeMetadata.{TapeMetadata}
use Rattle.metadata.specs.declared.list.TapeList.{TapeList}
use Rattle.metadata.specs.Tapes.{Tape, encode_tape, encode_list, fits}
use Rattle.metadata.specs.Struct.{meaning, tapes_of, storable_after, storable}
use Rattle.metadata.specs.StructLaws.{storable-count, storable-tapes, storable-letters, storable-others}

-- what is read past the end of an array of tapes
abbrev pub none : TapeMetadata
none = record { letters = 0; name = []; len = 0; start = 0 }

-- the struct's array has eight tapes: what a parameter's relation says of them, of which it holds each in the machine's form
pub eight : (ts : List TapeMetadata) → length (map the_type.to ts) ≡ 8 → length ts ≡ 8
eight ts e = sym (length-map ts the_type.to) ∙ e

-- a name that lies in its array is no longer than that
pub short-name : (t : TapeMetadata) → t.letters ≤ 24 → length (meaning t).name ≤ 24
short-name t h = rw length-take (omega arith)

-- ---- the test

pub storable-few : (l : TapeList) → l.count ≤ 8 → storable l ≡ storable_after [] (take l.count l.tapes)
unfolding storable
storable-few l h = rw (le-leb l.count 8 h)

-- the tapes of a struct, at tape i
module _ (ts : List TapeMetadata) (i : ℕ) (before : List ℕ) where
  pub storable-end : length ts ≤ i → storable_after before (drop i ts) ≡ true
  unfolding storable_after
  storable-end h = rw (drop_of_length-le ts {i = i} h)

  module _ (d : TapeMetadata) (inside : i < length ts) where
    turn : storable_after before (drop i ts) ≡ (leb (get_or ts i d).letters 24 && fits before (meaning (get_or ts i d)) && storable_after (meaning (get_or ts i d)).name (drop (i + 1) ts))
    unfolding storable_after
    turn =
        let t = get_or ts i d in
        let cut : drop i ts ≡ t ∷ drop (i + 1) ts = rw (add-one, drop-cons ts i d inside) in
        ap (storable_after before) cut
        ∙ sym (and_assoc (leb t.letters 24) (fits before (meaning t)) (storable_after (meaning t).name (drop (i + 1) ts)))

    pub storable-go : (leb (get_or ts i d).letters 24 && fits before (meaning (get_or ts i d))) ≡ true → storable_after before (drop i ts) ≡ storable_after (meaning (get_or ts i d)).name (drop (i + 1) ts)
    storable-go e = turn ∙ ap (λ (b : Bool). b && storable_after (meaning (get_or ts i d)).name (drop (i + 1) ts)) e

    pub storable-stop : (leb (get_or ts i d).letters 24 && fits before (meaning (get_or ts i d))) ≡ false → storable_after before (drop i ts) ≡ false
    storable-stop e = turn ∙ ap (λ (b : Bool). b && storable_after (meaning (get_or ts i d)).name (drop (i + 1) ts)) e

-- each tape of a list that may be stored has its name in its array
letters-after : (ts : List TapeMetadata) (i : ℕ) (before : List ℕ) (d : TapeMetadata) → storable_after before ts ≡ true → i < length ts → (get_or ts i d).letters ≤ 24
letters-after [] i before d e h = absurd (omega arith)
letters-after (t ∷ ts) zero before d e h = storable-letters before t ts e
letters-after (t ∷ ts) (suc i) before d e h = letters-after ts i (meaning t).name d (storable-others before t ts e) (omega arith)

-- ---- the encoding

-- the first i of them
unfoldable pub firsts : List TapeMetadata → ℕ → List ℕ
firsts ts i = each encode_tape (map meaning (take i ts))

module _ (ts : List TapeMetadata) where
  pub firsts-none : firsts ts 0 ≡ []
  unfolding firsts each
  firsts-none = refl

  firsts_more : (i : ℕ) (d : TapeMetadata) → i < length ts → firsts ts (i + 1) ≡ firsts ts i ++ encode_tape (meaning (get_or ts i d))
  unfolding firsts each
  firsts_more i d h =
      let t = get_or ts i d in
      rw (add-one, take-suc ts i d h, map-append meaning (take i ts) (t ∷ []))
      (each_append encode_tape (map meaning (take i ts)) (meaning t ∷ [])
      ∙ ap (λ (b : List ℕ). each encode_tape (map meaning (take i ts)) ++ b) (append-nil (encode_tape (meaning t))))

  firsts-grow : (i j : ℕ) → i ≤ j → length (firsts ts i) ≤ length (firsts ts j)
  unfolding firsts
  firsts-grow i j h =
      let a = take i ts in
      let b = take (j - i) (drop i ts) in
      let sum : j ≡ i + (j - i) = omega arith in
      let split : take j ts ≡ a ++ b = ap (λ (n : ℕ). take n ts) sum ∙ take-add i (j - i) ts in
      let longer : length (each encode_tape (map meaning (take j ts))) ≡ length (each encode_tape (map meaning a)) + length (each encode_tape (map meaning b))
      = rw (split, map-append meaning a b, each_append encode_tape (map meaning a) (map meaning b))
      (length-append (each encode_tape (map meaning a)) (each encode_tape (map meaning b))) in
      omega arith

-- a list, of which the code goes through the first tapes
module _ (l : TapeList) where
  firsts-all : l.count ≤ length l.tapes → encode_list (tapes_of l) ≡ u32 l.count ++ firsts (take l.count l.tapes) l.count
  unfolding firsts encode_list sorted_map tapes_of
  firsts-all h =
      let ts = take l.count l.tapes in
      let shown : length ts ≡ l.count = length-take-le l.count l.tapes h in
      let size : length (map meaning ts) ≡ l.count = length-map ts meaning ∙ shown in
      let all : take l.count ts ≡ ts = take_all l.count ts (omega (arith, shown)) in
      rw (all, size)

-- one that may be stored
module _ (l : TapeList) (e : storable l ≡ true) (long : length l.tapes ≡ 8) where
  pub shown-length : length (take l.count l.tapes) ≡ l.count
  shown-length = length-take-le l.count l.tapes (omega (arith, storable-count l e))

  pub length-all : length (encode_list (tapes_of l)) ≡ 4 + length (firsts (take l.count l.tapes) l.count)
  length-all = rw (firsts-all l (omega (arith, storable-count l e))) (length-append (u32 l.count) (firsts (take l.count l.tapes) l.count) ∙ rw length-le)

  module _ (i : ℕ) (d : TapeMetadata) (h : i < l.count) where
    pub tape-letters : (get_or (take l.count l.tapes) i d).letters ≤ 24
    tape-letters = letters-after (take l.count l.tapes) i [] d (storable-tapes l e) (omega (arith, shown-length))

    pub length_more : length (firsts (take l.count l.tapes) (i + 1)) ≡ length (firsts (take l.count l.tapes) i) + length (encode_tape (meaning (get_or (take l.count l.tapes) i d)))
    length_more =
        let ts = take l.count l.tapes in
        ap length (firsts_more ts i d (omega (arith, shown-length))) ∙ length-append (firsts ts i) (encode_tape (meaning (get_or ts i d)))

    pub length_most : 4 + length (firsts (take l.count l.tapes) (i + 1)) ≤ length (encode_list (tapes_of l))
    length_most = let m = firsts-grow (take l.count l.tapes) (i + 1) l.count (omega arith) in omega (arith, length-all)

-- ---- what is written, run by run

pub put-tape-runs : (s a b r : List ℕ) (at i j : ℕ) (t : Tape) → i ≡ at + 4 + length t.name → j ≡ i + 8 → a ≡ put s at (vec t.name) → b ≡ put a i (u64 t.len) → r ≡ put b j (u64 t.start) → r ≡ put s at (encode_tape t)
unfolding encode_tape
put-tape-runs s a b r at i j t p q x y z =
    let name = vec t.name in
    let len = u64 t.len in
    let start = u64 t.start in
    let first : at + length name ≡ i = omega (arith, length-vec t.name) in
    let second : i + length len ≡ j = omega (arith, length-le 8 t.len) in
    sym
    (put-append s at name (len ++ start)
    ∙ rw (first, ← x)
    (put-append a i len start ∙ rw (second, ← y) (sym z)))

pub put_first : (s : List ℕ) (ts : List TapeMetadata) → s ≡ put s 4 (firsts ts 0)
unfolding put
put_first s ts = rw (firsts-none ts)

pub put-more : (ts : List TapeMetadata) (i : ℕ) (d : TapeMetadata) (s a b : List ℕ) (at : ℕ) → i < length ts → at ≡ 4 + length (firsts ts i) → a ≡ put s 4 (firsts ts i) → b ≡ put a at (encode_tape (meaning (get_or ts i d))) → b ≡ put s 4 (firsts ts (i + 1))
put-more ts i d s a b at h p x y =
    let tape = encode_tape (meaning (get_or ts i d)) in
    sym (rw (firsts_more ts i d h) (put-append s 4 (firsts ts i) tape ∙ rw (← x, ← p) (sym y)))

pub put_all : (l : TapeList) (s a b : List ℕ) → l.count ≤ length l.tapes → a ≡ put s 0 (u32 l.count) → b ≡ put a 4 (firsts (take l.count l.tapes) l.count) → b ≡ put s 0 (encode_list (tapes_of l))
put_all l s a b h x y =
    sym (rw (firsts-all l h) (put-append s 0 (u32 l.count) (firsts (take l.count l.tapes) l.count) ∙ rw (← x, length-le 4 l.count) (sym y)))
