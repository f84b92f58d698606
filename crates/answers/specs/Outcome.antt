-- What a call answers, and what all the memory lent to it then holds. Assumes nothing.
use Rattle.std.specs.Prelude.{◌≡◌, ◌≢◌, List, ℕ, Err}
use Rattle.answers.specs.Answers.{Answer}
use Rattle.answers.specs.Answers.{OneEntry}
use Rattle.answers.specs.declared.Refusal.{Refusal}
use Rattle.answers.specs.Answers.{code_of}

-- of a call that may write both areas
pub record Outcome : Type 0 where
  pub answer : Answer
  pub disk : List ℕ
  pub session : List ℕ

abbrev pub outcome : Answer → List ℕ → List ℕ → Outcome
outcome a d s = record { answer = a; disk = d; session = s }

-- "A refused call .. changes no lent byte"
abbrev pub refused_at : Refusal → List ℕ → List ℕ → Outcome
refused_at why d s = outcome (Err why) d s

-- and of the outcome of any call: if it is a refusal, both areas are as they were
abbrev pub Unchanged : List ℕ → List ℕ → Outcome → Type 0
Unchanged d s o = code_of o.answer ≢ 0 → (o.disk ≡ d) × (o.session ≡ s)

-- of a read: the areas are lent to be read alone
pub record Reading : Type 0 where
  pub answer : Answer
  pub buffer : List ℕ

abbrev pub reading : Answer → List ℕ → Reading
reading a b = record { answer = a; buffer = b }

abbrev pub refused_read : Refusal → List ℕ → Reading
refused_read why b = reading (Err why) b

-- of a read of one entry
pub record Entering : Type 0 where
  pub answer : OneEntry
  pub buffer : List ℕ

abbrev pub entering : OneEntry → List ℕ → Entering
entering a b = record { answer = a; buffer = b }

-- of a pop, which stages a cut too
pub record Popping : Type 0 where
  pub answer : OneEntry
  pub session : List ℕ
  pub buffer : List ℕ

abbrev pub popping : OneEntry → List ℕ → List ℕ → Popping
popping a s b = record { answer = a; session = s; buffer = b }

abbrev pub refused_pop : Refusal → List ℕ → List ℕ → Popping
refused_pop why s b = popping (Err why) s b
