-- "`format` takes a slot count and areas with any bytes in them (its 1 is for size alone), makes an empty disk and ends the session"; it "tests 8 before
-- 1". Assumes nothing.
use Rattle.std.specs.Prelude.{cond, ◌||◌, List, ℕ, ltb, length, Result, Ok, Err}
use Rattle.layout.specs.Disk.{data_at}
use Rattle.layout.specs.Session.{session_bytes}
use Rattle.disk.specs.Steps.{formatted}
use Rattle.session.specs.Begin.{ended}
use Rattle.areas.specs.declared.FormatError.{FormatError}
use Rattle.areas.specs.declared.FormatError.TheVariants.{BadSlotCount, TooSmall}

-- what it answers
abbrev pub Formatted : Type 0
Formatted = Result Unit FormatError

-- an answer, and both areas then
pub record Outcome : Type 0 where
  pub answer : Formatted
  pub disk : List ℕ
  pub session : List ℕ

abbrev pub outcome : Formatted → List ℕ → List ℕ → Outcome
outcome a d s = record { answer = a; disk = d; session = s }

unfoldable pub format_step : List ℕ → List ℕ → ℕ → Outcome
format_step d s n =
    cond (ltb n 1 || ltb 64 n) (outcome (Err BadSlotCount) d s)
    (cond (ltb (length d) (data_at n) || ltb (length s) session_bytes) (outcome (Err TooSmall) d s)
    (outcome (Ok tt) (formatted d n) (ended s)))

-- document 01's numbers
abbrev pub code_of : Formatted → ℕ
code_of (Ok _) = 0
code_of (Err BadSlotCount) = 8
code_of (Err TooSmall) = 1
