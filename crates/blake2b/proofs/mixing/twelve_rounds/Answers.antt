use Rattle.std.proofs.Common.{ℕ, ◌%◌, List, sym, refl, ap, ◌∙◌}
use Rattle.blake2b.specs.Blake2b.{round, rounds}
use Rattle.blake2b.proofs.Turns.{rounds-step}
use Rattle.blake2b.proofs.mixing.twelve_rounds.Goals as goal

pub loop-i-init : goal.loop-i-init
unfolding rounds
loop-i-init c = refl

pub loop-i-preserved : goal.loop-i-preserved
loop-i-preserved c =
    let m = c.args.m.now in
    c.round.ensures ∙ ap (λ (x : List ℕ). round m (c.loop-i.i % 10) x) c.loop-i.invariant ∙ sym (rounds-step m c.loop-i.i c.args.v.now)
