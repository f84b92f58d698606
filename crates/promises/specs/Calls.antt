-- Every call of the library with all its arguments, and a run of calls over the two lent areas: each step is the definition that the call's contract cites,
-- its answer in document 01's numbers. Assumes nothing.
use Rattle.std.specs.Prelude.{List, [], ◌∷◌, ℕ, ◌^◌, ◌<◌}
use Rattle.octets.specs.Number.{Bytes}
use Rattle.answers.specs.Answers.{Answer}
use Rattle.answers.specs.Answers.{code_of, value_of, entry_code_of, entry_value_of}
use Rattle.answers.specs.Outcome.{Outcome, Reading, Entering, Popping}
use Rattle.rolling_tape.specs.Removal.{Areas, areas}
use Rattle.beginning.specs.Transactions.{After}
use Rattle.beginning.specs.Disks.{format_call}
use Rattle.beginning.specs.Sessions.{store_call}
use Rattle.beginning.specs.Calls.{append_call, truncate_call, reader_call}
use Rattle.staging.specs.Seeing.{len_call, start_call}
use Rattle.staging.specs.Shifting.{shift_call}
use Rattle.staging.specs.Cutting.{cut_call, drop_call}
use Rattle.appending.specs.Calls.{put_call}
use Rattle.entries.specs.Reads.{read_call, entry_call}
use Rattle.entries.specs.Popping.{pop_call}
use Rattle.entries.specs.Existing.{exists_call}
use Rattle.opening.specs.Calls.{open_call}
use Rattle.ending.specs.Committing.{commit_call}
use Rattle.ending.specs.Dropping.{drop_transaction_call}

pub data Call : Type 0 where
  format : (slots : ℕ) → Call
  store append reader truncate : Call
  open_tape : (transaction : ℕ) → (name : List ℕ) → (entry file_size cache start : ℕ) → Call
  append_entries : (transaction handle : ℕ) → (bs : List ℕ) → Call
  shift_start truncate_tape drop_entries : (transaction handle n : ℕ) → Call
  pop_entry : (transaction handle : ℕ) → (buffer : List ℕ) → Call
  read_entries : (transaction handle index n : ℕ) → (buffer : List ℕ) → Call
  read_entry : (transaction handle index : ℕ) → (buffer : List ℕ) → Call
  tape_len tape_start : (transaction handle : ℕ) → Call
  tape_exists : (transaction : ℕ) → (name : List ℕ) → Call
  commit drop_transaction : (transaction : ℕ) → Call

-- numbers are 64-bit ones, and bytes are bytes: in code they are by their types
abbrev pub Word : ℕ → Type 0
Word n = n < 2 ^ 64

abbrev pub Fits : Call → Type 0
Fits (format n) = Word n
Fits store = Unit {0}
Fits append = Unit {0}
Fits reader = Unit {0}
Fits truncate = Unit {0}
Fits (open_tape t name entry size cache start) = Word t × (Bytes name × (Word entry × (Word size × (Word cache × Word start))))
Fits (append_entries t h bs) = Word t × (Word h × Bytes bs)
Fits (shift_start t h n) = Word t × (Word h × Word n)
Fits (truncate_tape t h n) = Word t × (Word h × Word n)
Fits (drop_entries t h n) = Word t × (Word h × Word n)
Fits (pop_entry t h buffer) = Word t × (Word h × Bytes buffer)
Fits (read_entries t h i n buffer) = Word t × (Word h × (Word i × (Word n × Bytes buffer)))
Fits (read_entry t h i buffer) = Word t × (Word h × (Word i × Bytes buffer))
Fits (tape_len t h) = Word t × Word h
Fits (tape_start t h) = Word t × Word h
Fits (tape_exists t name) = Word t × Bytes name
Fits (commit t) = Word t
Fits (drop_transaction t) = Word t

-- ---- one call

-- its answer in numbers, and all lent memory then; a call that takes no buffer leaves an empty one
pub record Result : Type 0 where
  pub code : ℕ
  pub value : ℕ
  pub areas : Areas
  pub buffer : List ℕ

abbrev pub result : ℕ → ℕ → Areas → List ℕ → Result
result code value a buffer = record { code = code; value = value; areas = a; buffer = buffer }

abbrev pub of_both : Outcome → Result
of_both o = result (code_of o.answer) (value_of o.answer) (areas o.disk o.session) []

abbrev pub of_session : List ℕ → After → Result
of_session d o = result (code_of o.answer) (value_of o.answer) (areas d o.session) []

abbrev pub of_answer : Areas → Answer → Result
of_answer a x = result (code_of x) (value_of x) a []

abbrev pub of_reading : Areas → Reading → Result
of_reading a o = result (code_of o.answer) (value_of o.answer) a o.buffer

abbrev pub of_entering : Areas → Entering → Result
of_entering a o = result (entry_code_of o.answer) (entry_value_of o.answer) a o.buffer

abbrev pub of_popping : List ℕ → Popping → Result
of_popping d o = result (entry_code_of o.answer) (entry_value_of o.answer) (areas d o.session) o.buffer

abbrev pub perform : Call → List ℕ → List ℕ → Result
perform (format n) d s = of_both (format_call d s n)
perform store d s = of_session d (store_call d s)
perform append d s = of_session d (append_call d s)
perform reader d s = of_session d (reader_call d s)
perform truncate d s = of_session d (truncate_call d s)
perform (open_tape t name entry size cache start) d s = of_both (open_call d s t name entry size cache start)
perform (append_entries t h bs) d s = of_both (put_call d s t h bs)
perform (shift_start t h n) d s = of_session d (shift_call d s t h n)
perform (truncate_tape t h n) d s = of_session d (cut_call d s t h n)
perform (drop_entries t h n) d s = of_session d (drop_call d s t h n)
perform (pop_entry t h buffer) d s = of_popping d (pop_call d s t h buffer)
perform (read_entries t h i n buffer) d s = of_reading (areas d s) (read_call d s t h i n buffer)
perform (read_entry t h i buffer) d s = of_entering (areas d s) (entry_call d s t h i buffer)
perform (tape_len t h) d s = of_answer (areas d s) (len_call d s t h)
perform (tape_start t h) d s = of_answer (areas d s) (start_call d s t h)
perform (tape_exists t name) d s = of_answer (areas d s) (exists_call d s t name)
perform (commit t) d s = of_both (commit_call d s t)
perform (drop_transaction t) d s = of_session d (drop_transaction_call d s t)

unfoldable pub step : Call → Areas → Result
step c a = perform c a.disk a.session

-- ---- a run

-- a call and its answer
pub record Exchange : Type 0 where
  pub call : Call
  pub code : ℕ
  pub value : ℕ

abbrev pub exchange : Call → Result → Exchange
exchange c r = record { call = c; code = r.code; value = r.value }

unfoldable pub run : List Call → Areas → Areas
run [] a = a
run (c ∷ cs) a = run cs (step c a).areas

unfoldable pub history : List Call → Areas → List Exchange
history [] a = []
history (c ∷ cs) a = exchange c (step c a) ∷ history cs (step c a).areas

abbrev pub AllFit : List Call → Type 0
AllFit [] = Unit {0}
AllFit (c ∷ cs) = Fits c × AllFit cs
