-- What the session's functions come to, turn by turn: the tapes of a list put into their places one after the other. Assumes nothing.
use Rattle.std.specs.Prelude.{◌≡◌, ℕ, ◌+◌, ◌≤◌, ◌<◌, min, get_or}
use Rattle.std.proofs.Common.{sym, ◌∙◌, add-one, arith, length-take, drop_of_length-le, take_all}
use Rattle.std.proofs.Math.Path.{ap}
use mathlib.Core.List.{List, ◌∷◌, map}
use Rattle.std.proofs.Math.Nat.{min-eq_left, min-eq_right}
use Rattle.std.proofs.Math.ListN.{length, take, drop, get_or-map}
use Rattle.std.proofs.lemmas.List.{length-map}
use Rattle.std.proofs.Math.Seq.{drop-cons, get_or-take}
use Rattle.octets.specs.Cases.{order}
use Rattle.metadata.specs.declared.list.TapeMetadata.{TapeMetadata}
use Rattle.metadata.specs.declared.list.TapeList.{TapeList}
use Rattle.metadata.specs.Tapes.{Tape}
use Rattle.metadata.specs.Struct.{meaning, tapes_of}
use Rattle.session.specs.Begin.{listed, listed_from}

-- a front part that is no longer than the list
pub take_min : {A : Type 0} (n m : ℕ) (l : List A) → length l ≡ m → take (min n m) l ≡ take n l
take_min {A} n m l e =
    order n m
    (λ (h : n < m). ap (λ (k : ℕ). take k l) (min-eq_left {n = n} {m = m} (omega arith)))
    (λ (h : m ≤ n). ap (λ (k : ℕ). take k l) (min-eq_right {n = m} {m = n} h) ∙ take_all m l (omega arith) ∙ sym (take_all n l (omega arith)))

-- the tapes of a struct from place i on
module _ (l : TapeList) (s : List ℕ) (i : ℕ) where
  pub listed-turn : (d : TapeMetadata) → i < l.count → i < length l.tapes
      → listed_from s i (drop i (tapes_of l)) ≡ listed_from (listed s i (meaning (get_or l.tapes i d))) (i + 1) (drop (i + 1) (tapes_of l))
  unfolding listed_from tapes_of
  listed-turn d low inside =
      let ts = take l.count l.tapes in
      let some : i < length (map meaning ts) = rw (length-map, length-take) (omega arith) in
      let cut : drop i (map meaning ts) ≡ meaning (get_or l.tapes i d) ∷ drop (i + 1) (map meaning ts)
      = drop-cons (map meaning ts) i (meaning d) some ∙ rw (add-one, get_or-map meaning ts i d, get_or-take l.count l.tapes i d low) in
      ap (λ (left : List Tape). listed_from s i left) cut

  pub listed-end : min l.count (length l.tapes) ≤ i → listed_from s i (drop i (tapes_of l)) ≡ s
  unfolding listed_from tapes_of
  listed-end h = rw (drop_of_length-le (map meaning (take l.count l.tapes)) {i = i} (rw (length-map, length-take) h))
