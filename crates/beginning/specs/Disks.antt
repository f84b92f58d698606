-- `format` as a call: document 01's numbers for what `areas` answers. Assumes nothing.
use Rattle.std.specs.Prelude.{List, ℕ, Ok, Err}
use Rattle.answers.specs.Outcome.{Outcome, outcome}
use Rattle.answers.specs.Answers.{Answer}
use Rattle.answers.specs.declared.Refusal.TheVariants.{Unusable, BadSize}
use Rattle.areas.specs.Format.{Formatted, format_step}
use Rattle.areas.specs.declared.FormatError.TheVariants.{BadSlotCount, TooSmall}

abbrev pub answered : Formatted → Answer
answered (Ok _) = Ok 0
answered (Err BadSlotCount) = Err BadSize
answered (Err TooSmall) = Err Unusable

unfoldable pub format_call : List ℕ → List ℕ → ℕ → Outcome
format_call d s n = outcome (answered (format_step d s n).answer) (format_step d s n).disk (format_step d s n).session
