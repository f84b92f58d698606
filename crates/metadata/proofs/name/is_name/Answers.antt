-- `metadata::is_name` answers `name_rule`: the length, and then each byte. Assumes nothing.
use Rattle.std.proofs.Common.{rules, ◌≡◌, refl, sym, ◌∙◌, Bool, true, false, List, [], ◌∷◌, ℕ, zero, suc, ◌<◌, length, get_or, arith}
use Rattle.std.specs.Prelude.{◌↔◌, IsTrue, EachIndex, slice_index}
use Rattle.std.proofs.lemmas.Grind.{common_steps}
use Rattle.octets.specs.Cases.{and_l, and_r, and_both}
use Rattle.metadata.specs.Name.{name_byte, name_bytes}
use Rattle.metadata.specs.NameLaws.{rule-bytes}
use Rattle.metadata.proofs.name.is_name.Goals as goal

-- each byte is one of a name's
bytes-all : (s : List ℕ) → ((i : ℕ) → i < length s → name_byte (get_or s i 0) ≡ true) → name_bytes s ≡ true
unfolding name_bytes
bytes-all [] h = refl
bytes-all (b ∷ bs) h = and_both (name_byte b) (name_bytes bs) (h 0 (omega arith)) (bytes-all bs (λ i l. h (suc i) (omega arith)))

bytes-each : (s : List ℕ) → name_bytes s ≡ true → (i : ℕ) → i < length s → name_byte (get_or s i 0) ≡ true
unfolding name_bytes
bytes-each [] e i l = absurd (omega arith)
bytes-each (b ∷ bs) e zero l = and_l (name_byte b) (name_bytes bs) e
bytes-each (b ∷ bs) e (suc i) l = bytes-each bs (and_r (name_byte b) (name_bytes bs) e) i (omega arith)

same : (a b : Bool) → (a ≡ true → b ≡ true) → (b ≡ true → a ≡ true) → a ≡ b
same true b f g = sym (f refl)
same false true f g = g refl
same false false f g = refl

pub returns : goal.returns
returns c =
    let each : IsTrue c.all.result ↔ EachIndex c.args.s.now (λ k. IsTrue (name_byte (slice_index c.args.s.now k))) = search rules in
    same (c.all.result) (name_bytes c.args.s.now) (λ e. bytes-all c.args.s.now (each.0 e)) (λ e. each.1 (bytes-each c.args.s.now e))
    ∙ sym (rule-bytes c.args.s.now (grind (arith, common_steps)) (omega arith))
