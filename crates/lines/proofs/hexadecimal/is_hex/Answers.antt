-- `lines::hexadecimal::is_hex`: pairs of digits with nothing over are digits alone, an even number of them. Assumes nothing.
use Rattle.std.specs.Prelude.{eqb, ◌&&◌}
use Rattle.std.specs.List.{list_all}
use Rattle.std.proofs.Common.{◌≡◌, refl, rules, true, false, Bool, List, [], ◌∷◌, ℕ, suc, ◌%◌, arith, length, eq-eqb, ne_eqb}
use Rattle.std.proofs.lemmas.Iterator.{YieldsList-from_slice}
use Rattle.std.proofs.lemmas.Iterator.Search.{all_from_yields_List}
use Rattle.lines.specs.Hex.{is_hex_digit, is_hex}
use Rattle.lines.proofs.hexadecimal.is_hex.Goals as goal

even_first : (a b e l : Bool) → (a && (b && (e && l))) ≡ (e && (a && (b && l)))
even_first true true e l = refl
even_first true false true l = refl
even_first true false false l = refl
even_first false b true l = refl
even_first false b false l = refl

pairs : (s : List ℕ) → is_hex s ≡ (eqb (length s % 2) 0 && list_all is_hex_digit s)
unfolding is_hex
pairs [] = refl
pairs (a ∷ []) = refl
pairs (a ∷ b ∷ s) =
    let two_more : suc (suc (length s)) % 2 ≡ length s % 2 = omega arith in
    rw (two_more, pairs s) (even_first (is_hex_digit a) (is_hex_digit b) (eqb (length s % 2) 0) (list_all is_hex_digit s))

pub returns-then-s-eq0 : goal.returns-then-s-eq0
returns-then-s-eq0 c =
    rw (pairs c.args.s.now, eq-eqb (length c.args.s.now % 2) 0 c.if-s-eq0.true)
    (all_from_yields_List is_hex_digit c.all.new.self _ c.all.result c.all.ensures.ran (YieldsList-from_slice c.args.s.now c.iter.ensures.rest) (λ x b q k. search rules))

pub returns-else-s-eq0 : goal.returns-else-s-eq0
returns-else-s-eq0 c =
    rw (pairs c.args.s.now, ne_eqb (length c.args.s.now % 2) 0 c.if-s-eq0.false)
