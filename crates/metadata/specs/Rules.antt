-- Which tapes may follow which, what a good list is, and that it is sorted by name and written as bytes. Assumes nothing.
use Rattle.std.specs.Prelude.{◌≡◌, false, ◌&&◌, ℕ, ◌≤◌, length}
use Rattle.std.proofs.Math.Bool.{true}
use mathlib.Core.List.{List, [], ◌∷◌, ◌++◌, append_assoc}
use Rattle.std.proofs.Common.{arith}
use borrow.Author.Tests.{le-leb, leb-true}
use Rattle.std.proofs.Math.Dec.{leb}
use Rattle.octets.specs.Cases.{and_l, and_r, and_both}
use Rattle.octets.specs.Number.{le, Bytes, bytes_le, bytes-append}
use Rattle.octets.specs.Compare.{comes_before}
use Rattle.borsh.specs.Encoding.{vec, each, sorted_map, ascending}
use Rattle.borsh.specs.Laws.{bytes-vec, ascending-nil, ascending-cons}
use Rattle.metadata.specs.Name.{name_rule}
use Rattle.metadata.specs.NameLaws.{rule_fits, bytes-name}
use Rattle.metadata.specs.Tapes.{Tape, encode_tape, encode_list, fits, good_after, good_list}

-- a tape of its parts
abbrev pub tape : List ℕ → ℕ → ℕ → Tape
tape name len start = record { name = name; len = len; start = start }

-- a tape's three fields and what follows them
pub tape-fields : (t : Tape) (rest : List ℕ) → encode_tape t ++ rest ≡ vec t.name ++ (le 8 t.len ++ (le 8 t.start ++ rest))
unfolding encode_tape
tape-fields t rest = rw (append_assoc, append_assoc)

-- ---- a tape that may stand behind a name

pub record Fits (before : List ℕ) (t : Tape) : Type 0 where
  pub order : comes_before before t.name ≡ true
  pub short : length t.name ≤ 24
  pub bytes : Bytes t.name
  pub inside : t.start ≤ t.len

module _ (before : List ℕ) (t : Tape) where
  -- the test's meaning
  pub fits-true : fits before t ≡ true → Fits before t
  unfolding fits
  fits-true e =
      let order = comes_before before t.name in
      let rule = name_rule t.name in
      let inside = leb t.start t.len in
      let others : (rule && inside) ≡ true = and_r order (rule && inside) e in
      let named : rule ≡ true = and_l rule inside others in
      record {
        order = and_l order (rule && inside) e;
        short = rule_fits t.name named;
        bytes = bytes-name t.name named;
        inside = leb-true t.start t.len (and_r rule inside others);
      }

  -- the ways out of the test
  pub fits-not-after : comes_before before t.name ≡ false → fits before t ≡ false
  unfolding fits
  fits-not-after e = rw e

  pub fits-no-name : comes_before before t.name ≡ true → name_rule t.name ≡ false → fits before t ≡ false
  unfolding fits
  fits-no-name e f = rw (e, f)

  pub fits-numbers : comes_before before t.name ≡ true → name_rule t.name ≡ true → fits before t ≡ leb t.start t.len
  unfolding fits
  fits-numbers e f = rw (e, f)

-- ---- good lists

module _ (before : List ℕ) (t : Tape) (ts : List Tape) where
  -- the first of good tapes, and the others
  pub good-first : good_after before (t ∷ ts) ≡ true → fits before t ≡ true
  unfolding good_after
  good-first = and_l (fits before t) (good_after t.name ts)

  pub good_others : good_after before (t ∷ ts) ≡ true → good_after t.name ts ≡ true
  unfolding good_after
  good_others = and_r (fits before t) (good_after t.name ts)

  pub good-cons : fits before t ≡ true → good_after t.name ts ≡ true → good_after before (t ∷ ts) ≡ true
  unfolding good_after
  good-cons = and_both (fits before t) (good_after t.name ts)

module _ (ts : List Tape) (good : good_list ts ≡ true) where
  -- a good list has at most eight tapes, and they are good
  pub good-few : length ts ≤ 8
  unfolding good_list
  good-few = leb-true (length ts) 8 (and_l (leb (length ts) 8) (good_after [] ts) good)

  pub good-tapes : good_after [] ts ≡ true
  unfolding good_list
  good-tapes = and_r (leb (length ts) 8) (good_after [] ts) good

-- and such a list is good
pub good-list : (ts : List Tape) → length ts ≤ 8 → good_after [] ts ≡ true → good_list ts ≡ true
unfolding good_list
good-list ts few = and_both (leb (length ts) 8) (good_after [] ts) (le-leb (length ts) 8 few)

-- ---- sorted

ascending-after : (before : List ℕ) (ts : List Tape) → good_after before ts ≡ true → ascending (λ (t : Tape). t.name) before ts ≡ true
ascending-after before [] good = ascending-nil (λ (t : Tape). t.name) before
ascending-after before (t ∷ ts) good =
    ascending-cons (λ (u : Tape). u.name) before t ts (fits-true before t (good-first before t ts good)).order
    (ascending-after t.name ts (good_others before t ts good))

-- a good list is sorted by name, and no name occurs twice
pub good-ascending : (ts : List Tape) → good_list ts ≡ true → ascending (λ (t : Tape). t.name) [] ts ≡ true
good-ascending ts good = ascending-after [] ts (good-tapes ts good)

-- ---- bytes only

bytes-tape : (t : Tape) → Bytes t.name → Bytes (encode_tape t)
unfolding encode_tape
bytes-tape t p =
    bytes-append (vec t.name) (le 8 t.len ++ le 8 t.start) (bytes-vec t.name p)
    (bytes-append (le 8 t.len) (le 8 t.start) (bytes_le 8 t.len) (bytes_le 8 t.start))

bytes-tapes : (before : List ℕ) (ts : List Tape) → good_after before ts ≡ true → Bytes (each encode_tape ts)
unfolding each
bytes-tapes before [] good i = omega arith
bytes-tapes before (t ∷ ts) good i =
    bytes-append (encode_tape t) (each encode_tape ts) (bytes-tape t (fits-true before t (good-first before t ts good)).bytes)
    (bytes-tapes t.name ts (good_others before t ts good))
    i

-- a good list is written as bytes
pub bytes-encode_list : (ts : List Tape) → good_list ts ≡ true → Bytes (encode_list ts)
unfolding encode_list sorted_map
bytes-encode_list ts good = bytes-append (le 4 (length ts)) (each encode_tape ts) (bytes_le 4 (length ts)) (bytes-tapes [] ts (good-tapes ts good))
