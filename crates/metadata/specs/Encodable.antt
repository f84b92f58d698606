-- No two lists are written alike, whatever their names and numbers are, if their parts fit the widths that they are written in. Assumes nothing.
use Prim.{Unit, tt}
use Rattle.std.specs.Prelude.{◌≡◌, refl, true, List, [], ◌∷◌, ◌++◌, ℕ, ◌≤◌, ◌<◌, ◌^◌, length}
use Rattle.std.proofs.Common.{sym, ap, ◌∙◌, arith}
use Rattle.octets.specs.Number.{le}
use Rattle.borsh.specs.Encoding.{each, sorted_map}
use Rattle.borsh.specs.Laws.{le-cons-inj, vec-inj}
use Rattle.metadata.specs.Tapes.{Tape, encode_tape, encode_list, good_after, good_list}
use Rattle.metadata.specs.Rules.{tape, tape-fields, fits-true, good-first, good_others, good-few, good-tapes}
use Rattle.metadata.specs.RoundTrip.{Sizes}

-- a tape whose parts fit: a u32 holds its name's length, a u64 each number
pub record EncodableTape (t : Tape) : Type 0 where
  pub name : length t.name < 2 ^ 32
  pub len : t.len < 2 ^ 64
  pub start : t.start < 2 ^ 64

-- each of the tapes
abbrev pub EncodableTapes : List Tape → Type 0
EncodableTapes [] = Unit {0}
EncodableTapes (t ∷ ts) = EncodableTape t × EncodableTapes ts

-- a list that can be written at all
pub record Encodable (ts : List Tape) : Type 0 where
  pub count : length ts < 2 ^ 32
  pub tapes : EncodableTapes ts

-- a tape followed by a rest tells both
pub tape-inj : (t u : Tape) (r q : List ℕ) → EncodableTape t → EncodableTape u → encode_tape t ++ r ≡ encode_tape u ++ q → (t ≡ u) × (r ≡ q)
tape-inj t u r q f g e =
    let one = vec-inj t.name u.name (le 8 t.len ++ (le 8 t.start ++ r)) (le 8 u.len ++ (le 8 u.start ++ q)) f.name g.name
    (sym (tape-fields t r) ∙ e ∙ tape-fields u q) in
    let two = le-cons-inj 8 t.len u.len (le 8 t.start ++ r) (le 8 u.start ++ q) f.len g.len one.1 in
    let three = le-cons-inj 8 t.start u.start r q f.start g.start two.1 in
    (same-tape one.0 two.0 three.0, three.1)
  where
    same-tape : t.name ≡ u.name → t.len ≡ u.len → t.start ≡ u.start → t ≡ u
    same-tape n l s =
        ap (λ (x : List ℕ). tape x t.len t.start) n ∙ ap (λ (x : ℕ). tape u.name x t.start) l ∙ ap (tape u.name u.len) s

each-inj : (ts us : List Tape) → length ts ≡ length us → EncodableTapes ts → EncodableTapes us → each encode_tape ts ≡ each encode_tape us → ts ≡ us
unfolding each
each-inj [] [] n f g e = refl
each-inj [] (u ∷ us) n f g e = absurd (omega arith)
each-inj (t ∷ ts) [] n f g e = absurd (omega arith)
each-inj (t ∷ ts) (u ∷ us) n f g e =
    let one = tape-inj t u (each encode_tape ts) (each encode_tape us) f.0 g.0 e in
    rw (one.0, each-inj ts us (omega arith) f.1 g.1 one.1)

-- lists that are written alike are the same
pub encode_inj : (ts us : List Tape) → Encodable ts → Encodable us → encode_list ts ≡ encode_list us → ts ≡ us
unfolding encode_list sorted_map
encode_inj ts us f g e =
    let q = le-cons-inj 4 (length ts) (length us) (each encode_tape ts) (each encode_tape us) f.count g.count e in
    each-inj ts us q.0 f.tapes g.tapes q.1

encodable-after : (before : List ℕ) (ts : List Tape) → good_after before ts ≡ true → Sizes ts → EncodableTapes ts
encodable-after before [] good sizes = tt
encodable-after before (t ∷ ts) good sizes =
    let f = fits-true before t (good-first before t ts good) in
    let small : t.len < 2 ^ 64 = sizes.0 in
    let one : EncodableTape t = record { name = omega arith; len = small; start = omega arith } in
    (one, encodable-after t.name ts (good_others before t ts good) sizes.1)

-- a good list can be written
pub good-encodable : (ts : List Tape) → good_list ts ≡ true → Sizes ts → Encodable ts
good-encodable ts good sizes =
    let few : length ts ≤ 8 = good-few ts good in
    record { count = omega arith; tapes = encodable-after [] ts (good-tapes ts good) sizes }
