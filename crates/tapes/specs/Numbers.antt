-- The calls as a C or Rust program sees them: an answer is its code and its value, document 01's numbers, and the lent memory is what the call leaves.
-- Assumes nothing.
use Rattle.std.specs.Prelude.{List, ℕ}
use Rattle.answers.specs.Answers.{code_of, value_of, entry_code_of, entry_value_of}
use Rattle.answers.specs.Outcome.{Outcome, Reading, Entering, Popping}
use Rattle.answers.specs.Answers.{Answer}
use Rattle.answers.specs.Answers.{OneEntry}
use Rattle.beginning.specs.Transactions.{After}
use Rattle.tapes.specs.declared.numbers.Reply.{Reply}

abbrev pub numbers : Answer → Reply
numbers a = record { code = code_of a; value = value_of a }

abbrev pub entry_numbers : OneEntry → Reply
entry_numbers a = record { code = entry_code_of a; value = entry_value_of a }

-- a reply, and what two lent areas then hold: disk and session, or session and buffer
pub record Pair : Type 0 where
  pub reply : Reply
  pub first : List ℕ
  pub second : List ℕ

abbrev pub pair : Reply → List ℕ → List ℕ → Pair
pair r a b = record { reply = r; first = a; second = b }

-- a reply, and what one lent area then holds
pub record Single : Type 0 where
  pub reply : Reply
  pub area : List ℕ

abbrev pub single : Reply → List ℕ → Single
single r a = record { reply = r; area = a }

-- ---- of each shape of call

abbrev pub outcome_numbers : Outcome → Pair
outcome_numbers o = pair (numbers o.answer) o.disk o.session

abbrev pub after_numbers : After → Single
after_numbers o = single (numbers o.answer) o.session

abbrev pub reading_numbers : Reading → Single
reading_numbers o = single (numbers o.answer) o.buffer

abbrev pub entering_numbers : Entering → Single
entering_numbers o = single (entry_numbers o.answer) o.buffer

abbrev pub popping_numbers : Popping → Pair
popping_numbers o = pair (entry_numbers o.answer) o.session o.buffer
