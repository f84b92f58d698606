use Rattle.std.proofs.Common.{rules, not, ℕ, ◌∙◌, ap}
use native.Mathlib.Nat.{sub-zero}
use Rattle.octets.specs.First.{all}
use Rattle.rolling_tape.specs.Removal.{stops, clear_below}
use Rattle.rolling_tape.proofs.removal.clear_below.Goals as goal

pub returns : goal.returns
unfolding clear_below
returns c =
    let p = λ (i : ℕ). not (stops c.args.disk.now c.args.session.now c.args.place c.args.oldest c.args.number i) in
    c.all.ensures p (search rules) ∙ ap (λ n. all p n 0) (sub-zero _ ∙ c.slot_count.ensures)
