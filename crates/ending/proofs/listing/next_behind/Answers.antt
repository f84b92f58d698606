use Rattle.std.specs.Prelude.{Some, None}
use Rattle.std.proofs.Common.{◌≡◌, refl, sym, ◌∙◌, ℕ, arith}
use Rattle.ending.specs.Listing.{next_behind}
use Rattle.ending.specs.ListingLaws.{next-hit, next-miss, next-end}
use Rattle.ending.proofs.listing.next_behind.Goals as goal
use Rattle.ending.proofs.listing.next_behind.Goals.{then-is_next, else-is_next}

pub loop-tape-init : goal.loop-tape-init
unfolding next_behind
loop-tape-init c = (omega arith, ((λ (p : ℕ) (e : None ≡ Some p). let z : ◌≡◌ {A = ℕ} 0 1 = cc in absurd (omega arith)), refl))

pub loop-tape-preserved : goal.loop-tape-preserved
loop-tape-preserved c =
    elim c.if-is_next.branch [
      | then-is_next w ↦
          let turn = next-hit c.args.session.now c.args.cut c.args.before.now c.loop-tape.best c.loop-tape.tape (omega arith) (sym c.is_next.ensures ∙ w.if-is_next.true) in
          rw w.best-is (omega arith, ((λ (p : ℕ) (e : Some c.loop-tape.tape ≡ Some p). let same : c.loop-tape.tape ≡ p = cc in omega arith), sym turn ∙ c.loop-tape.invariant.1.1))
      | else-is_next w ↦
          let turn = next-miss c.args.session.now c.args.cut c.args.before.now c.loop-tape.best c.loop-tape.tape (omega arith) (sym c.is_next.ensures ∙ w.if-is_next.false) in
          rw w.best-is (omega arith, (c.loop-tape.invariant.1.0, sym turn ∙ c.loop-tape.invariant.1.1))
    ]

pub returns : goal.returns
returns c =
    sym (next-end c.args.session.now c.args.cut c.args.before.now c.loop-tape.best c.loop-tape.tape (omega arith)) ∙ c.loop-tape.invariant.1.1
