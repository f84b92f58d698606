-- Testing eight slots at each of some eights is testing all their slots. Assumes nothing.
use Rattle.std.proofs.Common.{rules, ◌≡◌, refl, sym, ◌∙◌, Bool, ◌&&◌, ℕ, zero, suc, ◌+◌, ◌*◌, arith}
use Rattle.octets.specs.First.{all, all_split}
use Rattle.layout.specs.Disk.{entry_fits}
use Rattle.layout.proofs.disk_area.Table.eights_fit.Goals as goal

turn : (q : ℕ → Bool) (k i : ℕ) → all q (suc k) i ≡ (q i && all q k (i + 1))
unfolding all
turn q k i = refl

none : (p q : ℕ → Bool) (i j : ℕ) → all p 0 i ≡ all q 0 j
unfolding all
none p q i j = refl

by-eights : (p : ℕ → Bool) (k i : ℕ) → all p (8 * k) (8 * i) ≡ all (λ j. all p 8 (8 * j)) k i
by-eights p zero i = none p (λ j. all p 8 (8 * j)) (8 * i) i
by-eights p (suc k) i =
    let e : 8 * suc k ≡ 8 + 8 * k = omega arith in
    let f : 8 * i + 8 ≡ 8 * (i + 1) = omega arith in
    rw (e, turn (λ j. all p 8 (8 * j)) k i) (all_split p 8 (8 * k) (8 * i) ∙ rw (f, by-eights p k (i + 1)))

pub returns : goal.returns
returns c =
    let s = c.args.self.now.disk.now in
    c.all.ensures (λ j. all (entry_fits s) 8 (8 * j)) (search rules) ∙ sym (by-eights (entry_fits s) _ c.args.from)
