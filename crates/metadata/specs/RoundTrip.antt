-- The tape list written and read: what was written is read back, and what was read is written as it stood. Assumes nothing.
use Prim.{Unit, tt}
use Rattle.std.specs.Prelude.{◌≡◌, refl, true, Some, List, [], ◌∷◌, ◌++◌, ℕ, zero, suc, ◌+◌, ◌≤◌, ◌<◌, ◌^◌, length, take, drop}
use Rattle.std.proofs.Common.{sym, ap, ◌∙◌, subst, append_assoc, arith, eq-eqb, length-append, length-drop, take-append-drop, drop_at, take_at, drop-drop, length-take-le}
use Rattle.std.proofs.Math.Seq.{drop-length}
use Rattle.octets.specs.Number.{le, length-le, Bytes as AllBytes}
use Rattle.borsh.specs.Encoding.{vec, each, sorted_map}
use Rattle.borsh.specs.Taking.{span, take_number, take_vec}
use Rattle.borsh.specs.Back.{take-number-back, take-vec-back, take-number-was, take-vec-was}
use Rattle.metadata.specs.Tapes.{Tape, encode_tape, encode_list, fits, good_after, good_list, tape_at}
use Rattle.metadata.specs.Decoding.{found_tape, tapes, take_tape, prepend, decode_from, decode_list}
use Rattle.metadata.specs.DecodingLaws.{tape-found, next-found, decode-more, list_counted}
use Rattle.metadata.specs.Rules.{tape, tape-fields, fits-true, good-first, good_others, good-cons, good-few, good-tapes, good-list}
use Rattle.metadata.specs.Taken.{fields, step, ended, head}

-- each length is one that a u64 holds; a start is then one too, since it is not above its length
abbrev pub Sizes : List Tape → Type 0
Sizes [] = Unit {0}
Sizes (t ∷ ts) = (t.len < 2 ^ 64) × Sizes ts

-- ---- what stands at a place

-- the bytes from a place on
record Stands (s : List ℕ) (at : ℕ) (b : List ℕ) : Type 0 where
  inside : at ≤ length s
  bytes : drop at s ≡ b

-- behind the first of them
stands-behind : (s : List ℕ) (at : ℕ) (a b : List ℕ) (n : ℕ) → length a ≡ n → Stands s at (a ++ b) → Stands s (at + n) b
stands-behind s at a b n long here =
    let sum : length s ≡ at + (n + length b) = omega (arith, here.inside, sym (length-drop at s) ∙ ap length here.bytes ∙ length-append a b) in
    record {
      inside = omega arith;
      bytes = sym (drop-drop n at s) ∙ ap (drop n) here.bytes ∙ drop_at a b n long;
    }

-- a law of what follows a prefix is a law of what stands at a place
at_place : (P : List ℕ → ℕ → Type 0) (s : List ℕ) (at : ℕ) (b : List ℕ) → Stands s at b → ((pre : List ℕ) → P (pre ++ b) (length pre)) → P s at
at_place P s at b here law =
    let whole : take at s ++ b ≡ s = ap (λ (l : List ℕ). take at s ++ l) (sym here.bytes) ∙ take-append-drop at s in
    let long : length (take at s) ≡ at = length-take-le at s here.inside in
    subst (λ (n : ℕ). P s n) long (subst (λ (l : List ℕ). P l (length (take at s))) whole (law (take at s)))

number-stands : (k : ℕ) (s : List ℕ) (at v : ℕ) (rest : List ℕ) → v < 256 ^ k → Stands s at (le k v ++ rest) → take_number k s at ≡ Some (v, at + k)
number-stands k s at v rest f here =
    at_place (λ l n. take_number k l n ≡ Some (v, n + k)) s at (le k v ++ rest) here
    (λ pre. take-number-back k pre v rest f)

vec-stands : (s : List ℕ) (at : ℕ) (bs rest : List ℕ) → length bs < 256 ^ 4 → Stands s at (vec bs ++ rest) → take_vec s at ≡ Some (span (at + 4) (length bs) (at + 4 + length bs))
vec-stands s at bs rest f here =
    at_place (λ l n. take_vec l n ≡ Some (span (n + 4) (length bs) (n + 4 + length bs))) s at (vec bs ++ rest) here
    (λ pre. take-vec-back pre bs rest f)

-- ---- what was written is read

-- where the next tape stands
abbrev end : ℕ → Tape → ℕ
end at t = at + 4 + length t.name + 8 + 8

-- a tape that stands at a place, read
record Read (s : List ℕ) (at : ℕ) (t : Tape) (rest : List ℕ) : Type 0 where
  found : take_tape s at ≡ Some (found_tape (at + 4) (length t.name) t.len t.start (end at t))
  name : take (length t.name) (drop (at + 4) s) ≡ t.name
  next : Stands s (end at t) rest

read-tape : (s : List ℕ) (at : ℕ) (t : Tape) (rest : List ℕ) → length t.name < 256 ^ 4 → t.len < 256 ^ 8 → t.start < 256 ^ 8 → Stands s at (encode_tape t ++ rest) → Read s at t rest
unfolding vec
read-tape s at t rest short len start here =
    let second = le 8 t.start ++ rest in
    let first = le 8 t.len ++ second in
    let n = length t.name in
    let all : Stands s at (vec t.name ++ first) = record { inside = here.inside; bytes = here.bytes ∙ tape-fields t rest } in
    let letters : Stands s (at + 4) (t.name ++ first)
    = stands-behind s at (le 4 n) (t.name ++ first) 4 (length-le 4 n)
    (record { inside = here.inside; bytes = all.bytes ∙ append_assoc (le 4 n) t.name first }) in
    let one : Stands s (at + 4 + n) first = stands-behind s (at + 4) t.name first n refl letters in
    let two : Stands s (at + 4 + n + 8) second = stands-behind s (at + 4 + n) (le 8 t.len) second 8 (length-le 8 t.len) one in
    record {
      found = tape-found s at
          (vec-stands s at t.name first short all)
          (number-stands 8 s (at + 4 + n) t.len second len one)
          (number-stands 8 s (at + 4 + n + 8) t.start rest start two);
      name = ap (take n) letters.bytes ∙ take_at t.name first n refl;
      next = stands-behind s (at + 4 + n + 8) (le 8 t.start) rest 8 (length-le 8 t.start) two;
    }

-- a tape that may stand behind a name, and the tapes behind it
read_step : (k : ℕ) (before s : List ℕ) (at : ℕ) (t : Tape) (rest : List ℕ) → fits before t ≡ true → Read s at t rest
    → decode_from (suc k) before s at ≡ prepend t (decode_from k t.name s (end at t))
read_step k before s at t rest ok r =
    let n = length t.name in
    let same : tape_at s (at + 4) n t.len t.start ≡ t
    = ap (λ (l : List ℕ). tape l t.len t.start) r.name in
    decode-more k before s at (next-found before s at r.found (ap (fits before) same ∙ ok))
    ∙ ap (λ (u : Tape). prepend u (decode_from k u.name s (end at t))) same

-- the law that goes through an induction: good tapes that stand from a place on up to the end
decode-stands : (ts : List Tape) (before s : List ℕ) (at : ℕ) → good_after before ts ≡ true → Sizes ts → Stands s at (each encode_tape ts) → decode_from (length ts) before s at ≡ tapes ts
unfolding each decode_from
decode-stands [] before s at good sizes here =
    let over : length s ≡ at + 0 = omega (arith, here.inside, sym (length-drop at s) ∙ ap length here.bytes) in
    rw (eq-eqb at (length s) (omega arith))
decode-stands (t ∷ ts) before s at good sizes here =
    let ok = good-first before t ts good in
    let f = fits-true before t ok in
    let len : t.len < 2 ^ 64 = sizes.0 in
    let r = read-tape s at t (each encode_tape ts) (omega arith) (omega arith) (omega arith) here in
    read_step (length ts) before s at t (each encode_tape ts) ok r
    ∙ ap (prepend t) (decode-stands ts t.name s (end at t) (good_others before t ts good) sizes.1 r.next)

-- a good list is read back as it was written
pub decode-encode : (ts : List Tape) → good_list ts ≡ true → Sizes ts → decode_list (encode_list ts) ≡ tapes ts
unfolding encode_list sorted_map
decode-encode ts good sizes =
    let s = le 4 (length ts) ++ each encode_tape ts in
    let few : length ts ≤ 8 = good-few ts good in
    let here : Stands s 0 s = record { inside = omega arith; bytes = refl } in
    list_counted s (number-stands 4 s 0 (length ts) (each encode_tape ts) (omega arith) here) few
    ∙ decode-stands ts [] s 4 (good-tapes ts good) sizes
    (stands-behind s 0 (le 4 (length ts)) (each encode_tape ts) 4 (length-le 4 (length ts)) here)

-- ---- what is read is good

-- as many tapes as were asked for, each good behind the one before it
record Good (k : ℕ) (before : List ℕ) (ts : List Tape) : Type 0 where
  count : length ts ≡ k
  good : good_after before ts ≡ true

good-were : (k : ℕ) (before s : List ℕ) (at : ℕ) (ts : List Tape) → decode_from k before s at ≡ tapes ts → Good k before ts
unfolding good_after
good-were zero before s at ts e = rw (ended before s at ts e).none (record { count = refl; good = refl })
good-were (suc k) before s at ts e =
    let one = step k before s at ts e in
    let t = tape_at s one.place one.letters one.len one.start in
    let more = good-were k t.name s one.next one.others one.rest in
    rw one.all
    (record { count = ap suc more.count; good = good-cons before t one.others one.ok more.good })

-- a list that was read is good
pub decode-good : (s : List ℕ) (ts : List Tape) → decode_list s ≡ tapes ts → good_list ts ≡ true
decode-good s ts e =
    let h = head s ts e in
    let g = good-were h.count [] s h.next ts h.rest in
    good-list ts (rw g.count h.few) g.good

-- ---- what is read was written so

-- a tape that was found stands there, and what is behind it
record TakenTapeAt (s : List ℕ) (at : ℕ) (t : Tape) (next : ℕ) : Type 0 where
  bytes : drop at s ≡ encode_tape t ++ drop next s
  small : t.len < 2 ^ 64

take-tape-was : (s : List ℕ) (at place letters len start : ℕ) (c : ℕ) → AllBytes s → take_tape s at ≡ Some (found_tape place letters len start c)
    → TakenTapeAt s at (tape_at s place letters len start) c
take-tape-was s at place letters len start c p e =
    let f = fields s at e in
    let name = take-vec-was s at p f.name in
    let size = take-number-was 8 s f.middle p f.size in
    let first = take-number-was 8 s f.last p f.first in
    let t = tape_at s place letters len start in
    record {
      bytes = name.bytes
          ∙ ap (λ (l : List ℕ). vec t.name ++ l) (size.bytes ∙ ap (λ (l : List ℕ). le 8 len ++ l) first.bytes)
          ∙ sym (tape-fields t (drop c s));
      small = size.small;
    }

-- tapes that stand from a place on, and nothing behind them
record Written (s : List ℕ) (at : ℕ) (ts : List Tape) : Type 0 where
  bytes : drop at s ≡ each encode_tape ts
  sizes : Sizes ts

written : (k : ℕ) (before s : List ℕ) (at : ℕ) (ts : List Tape) → AllBytes s → decode_from k before s at ≡ tapes ts → Written s at ts
unfolding each
written zero before s at ts p e =
    let o = ended before s at ts e in
    rw o.none (record { bytes = ap (λ (n : ℕ). drop n s) o.over ∙ drop-length s; sizes = tt })
written (suc k) before s at ts p e =
    let one = step k before s at ts e in
    let t = tape_at s one.place one.letters one.len one.start in
    let here = take-tape-was s at one.place one.letters one.len one.start one.next p one.found in
    let more = written k t.name s one.next one.others p one.rest in
    rw one.all
    (record { bytes = here.bytes ∙ ap (λ (l : List ℕ). encode_tape t ++ l) more.bytes; sizes = (here.small, more.sizes) })

-- a list that was read is written as the bytes that it was read from
pub encode-decode : (s : List ℕ) (ts : List Tape) → AllBytes s → decode_list s ≡ tapes ts → encode_list ts ≡ s
unfolding encode_list sorted_map
encode-decode s ts p e =
    let h = head s ts e in
    let count : length ts ≡ h.count = (good-were h.count [] s h.next ts h.rest).count in
    let all : drop h.next s ≡ each encode_tape ts = (written h.count [] s h.next ts p h.rest).bytes in
    ap (λ (n : ℕ). le 4 n ++ each encode_tape ts) count
    ∙ ap (λ (l : List ℕ). le 4 h.count ++ l) (sym all)
    ∙ sym (take-number-was 4 s 0 p h.found).bytes

-- the lengths of a list that was read are u64
pub decode-sizes : (s : List ℕ) (ts : List Tape) → AllBytes s → decode_list s ≡ tapes ts → Sizes ts
decode-sizes s ts p e = let h = head s ts e in (written h.count [] s h.next ts p h.rest).sizes
