-- `is_open_tape` is `is_open_tape`: the handle's number is the one in its row. Assumes nothing.
use Rattle.std.specs.Prelude.{Option, Some, None, Bool, not, eqb}
use Rattle.std.specs.Option.{MatchOption}
use Rattle.std.proofs.Common.{◌≡◌, refl, ◌∙◌, ap, rules, List, ℕ, false}
use Rattle.session.specs.Rows.{handle_of}
use Rattle.session.specs.RowLaws.{handle-numbered}
use Rattle.opening.specs.Calls.{is_open_tape}
use Rattle.opening.proofs.calls.is_open_tape.Goals as goal

by_number : (s : List ℕ) (tape : Option ℕ) (r : Bool) → MatchOption tape (r ≡ false) (λ p. r ≡ not (eqb (handle_of s p).number 0)) → r ≡ is_open_tape s tape
by_number s None r e = e
by_number s (Some p) r e = e ∙ ap (λ (n : ℕ). not (eqb n 0)) (handle-numbered s p (handle_of s p) refl)

pub returns : goal.returns
returns c = by_number c.args.session.now c.args.tape c.is_some_and.result (search rules)
