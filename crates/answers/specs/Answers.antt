-- Document 01, "Refusal numbers": "A refused call returns its number with value 0 (4 returns a count)". Assumes nothing.
use Rattle.std.specs.Prelude.{ℕ, Option, Some, None, Result, Ok, Err}
use Rattle.answers.specs.declared.Refusal.{Refusal}
use Rattle.answers.specs.declared.Refusal.TheVariants.{Unusable, Unknown, WriterOpen, Wait, Full, BadName, ReservedName, BadSize, AlreadyOpen, NotWhole, Absent, OutOfBounds, StartPastLength, LongerCut, NoSlot, Missing, BadList, TooLarge}

-- of a call
abbrev pub Answer : Type 0
Answer = Result ℕ Refusal

-- of a call for one entry: the index of the entry at the buffer's front, or that there is none
abbrev pub OneEntry : Type 0
OneEntry = Result (Option ℕ) Refusal

abbrev pub refusal_number : Refusal → ℕ
refusal_number Unusable = 1
refusal_number Unknown = 2
refusal_number WriterOpen = 3
refusal_number (Wait n) = 4
refusal_number Full = 5
refusal_number BadName = 6
refusal_number ReservedName = 7
refusal_number BadSize = 8
refusal_number AlreadyOpen = 9
refusal_number NotWhole = 10
refusal_number Absent = 11
refusal_number OutOfBounds = 12
refusal_number StartPastLength = 13
refusal_number LongerCut = 14
refusal_number NoSlot = 15
refusal_number Missing = 16
refusal_number BadList = 17
refusal_number TooLarge = 18

abbrev pub refusal_value : Refusal → ℕ
refusal_value Unusable = 0
refusal_value Unknown = 0
refusal_value WriterOpen = 0
refusal_value (Wait n) = n
refusal_value Full = 0
refusal_value BadName = 0
refusal_value ReservedName = 0
refusal_value BadSize = 0
refusal_value AlreadyOpen = 0
refusal_value NotWhole = 0
refusal_value Absent = 0
refusal_value OutOfBounds = 0
refusal_value StartPastLength = 0
refusal_value LongerCut = 0
refusal_value NoSlot = 0
refusal_value Missing = 0
refusal_value BadList = 0
refusal_value TooLarge = 0

abbrev pub code_of : Answer → ℕ
code_of (Ok v) = 0
code_of (Err why) = refusal_number why

abbrev pub value_of : Answer → ℕ
value_of (Ok v) = v
value_of (Err why) = refusal_value why

-- ---- of one entry: where there is none the value is 2^64-1, which no entry has as its index

abbrev pub entry_code_of : OneEntry → ℕ
entry_code_of (Ok (Some i)) = 0
entry_code_of (Ok None) = 0
entry_code_of (Err why) = refusal_number why

abbrev pub entry_value_of : OneEntry → ℕ
entry_value_of (Ok (Some i)) = i
entry_value_of (Ok None) = 0xffff_ffff_ffff_ffff
entry_value_of (Err why) = refusal_value why
