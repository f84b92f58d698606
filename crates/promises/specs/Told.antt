-- What is told of the tape of a name, from the calls' arguments and answers alone: a served call that concerns it is a call of `lives/specs/Told.antt` on its
-- one tape. Its committed bytes are a list from offset 0, of which those from `start` on may be read. Not one field is read off the store. Assumes nothing.
use Rattle.std.specs.Prelude.{◌≡◌, Bool, true, cond, not, ◌&&◌, List, [], ◌∷◌, ℕ, ◌*◌, ◌/◌, ◌-◌, eqb, length}
use Rattle.octets.specs.Compare.{same_bytes}
use Rattle.lives.specs.Life.{Done}
use Rattle.lives.specs.Life as L
use Rattle.lives.specs.Told.{Told, Staging, idle, appending, cutting, is_here, nothing}
use Rattle.lives.specs.Told as T
use Rattle.promises.specs.Calls.{Call, format, store, append, reader, truncate, open_tape, append_entries, shift_start, truncate_tape, drop_entries, pop_entry, read_entries, read_entry, tape_len, tape_start, tape_exists, commit, drop_transaction, Exchange}

-- of one tape: what is committed, the windows and the writer; its handle in this session, 0 if it has none, with the entry size; and the last transaction's number
pub record Known : Type 0 where
  pub tape : Told
  pub handle : ℕ
  pub entry : ℕ
  pub last : ℕ

-- of a formatted disk
unfoldable pub unknown : Known
unknown = record { tape = nothing; handle = 0; entry = 0; last = 0 }

-- ---- which call of one tape it is

-- the handle is this tape's
abbrev pub is_ours : Known → ℕ → Bool
is_ours k h = not (eqb h 0) && eqb h k.handle

-- what a served call is for one tape: nothing; a new beginning; an opening of this tape; or a call of `lives`
pub data Concern : Type 0 where
  apart anew : Concern
  opens : (t entry size cache start : ℕ) → Concern
  calls : L.TapeCall → Concern

abbrev pub if_ours : Known → ℕ → L.TapeCall → Concern
if_ours k h c = cond (is_ours k h) (calls c) apart

-- the length that the open writer has staged, in bytes
abbrev pub staged_length : Staging → ℕ
staged_length idle = 0
staged_length (appending m here c start) = length c
staged_length (cutting m c) = length c

-- "Drop stops at 0"
abbrev pub entries_left : Known → ℕ → ℕ
entries_left k n = staged_length k.tape.writer / k.entry - n

-- of the tape named n; v is the call's value. "Indexes, lengths, counts and shifted starts are in entries"; a pop that found none changes nothing
abbrev pub concerns : List ℕ → Known → Call → ℕ → Concern
concerns n k (format slots) v = anew
concerns n k store v = calls L.restart
concerns n k append v = calls L.append
concerns n k reader v = calls L.reader
concerns n k truncate v = calls L.truncate
concerns n k (open_tape t name entry size cache start) v = cond (same_bytes name n) (opens t entry size cache start) apart
concerns n k (append_entries t h bs) v = if_ours k h (L.put t bs)
concerns n k (shift_start t h i) v = if_ours k h (L.shift t (i * k.entry))
concerns n k (truncate_tape t h i) v = if_ours k h (L.cut t (i * k.entry))
concerns n k (drop_entries t h i) v = if_ours k h (L.cut t (entries_left k i * k.entry))
concerns n k (pop_entry t h buffer) v = cond (eqb v 0xffff_ffff_ffff_ffff) apart (if_ours k h (L.cut t (entries_left k 1 * k.entry)))
concerns n k (read_entries t h i count buffer) v = apart
concerns n k (read_entry t h i buffer) v = apart
concerns n k (tape_len t h) v = apart
concerns n k (tape_start t h) v = apart
concerns n k (tape_exists t name) v = apart
concerns n k (commit t) v = calls (L.commit t)
concerns n k (drop_transaction t) v = calls (L.drop' t)

-- ---- what is told then

-- the last transaction's number: begins give one, a new session starts again
abbrev pub last_after : ℕ → L.TapeCall → ℕ → ℕ
last_after last L.restart v = 0
last_after last L.reader v = v
last_after last L.append v = v
last_after last L.truncate v = v
last_after last (L.open' t size cache start memory) v = last
last_after last (L.put t bs) v = last
last_after last (L.shift t o) v = last
last_after last (L.cut t o) v = last
last_after last (L.read t o i) v = last
last_after last (L.commit t) v = last
last_after last (L.drop' t) v = last

-- a tape that is no longer open has no handle
abbrev pub afterwards : Known → Told → ℕ → Known
afterwards k t last = record { tape = t; handle = cond t.live k.handle 0; entry = k.entry; last = last }

abbrev pub tell_as : Known → ℕ → Concern → Known
tell_as k v apart = k
tell_as k v anew = unknown
tell_as k v (opens t entry size cache start) =
    record { tape = T.told k.tape (L.open' t size cache start []) (Done v); handle = v; entry = entry; last = k.last }
tell_as k v (calls c) = afterwards k (T.told k.tape c (Done v)) (last_after k.last c v)

-- an exchange, of the tape named n; a refused call says nothing
abbrev pub tell_one : List ℕ → Known → Exchange → Known
tell_one n k x = cond (eqb x.code 0) (tell_as k x.value (concerns n k x.call x.value)) k

unfoldable pub tell : List ℕ → List Exchange → Known → Known
tell n [] k = k
tell n (x ∷ xs) k = tell n xs (tell_one n k x)

-- ---- what demand 3 asks of the calls: "each tape reopened with its old file size"

-- an opening of a tape that its append sees already has the file size that it was made with
abbrev pub OldSize : Known → Concern → Type 0
OldSize k apart = Unit {0}
OldSize k anew = Unit {0}
OldSize k (opens t entry size cache start) = is_here t k.tape.writer ≡ true → size ≡ k.tape.size
OldSize k (calls c) = Unit {0}

abbrev pub OldSizes : List ℕ → List Exchange → Known → Type 0
OldSizes n [] k = Unit {0}
OldSizes n (x ∷ xs) k = (x.code ≡ 0 → OldSize k (concerns n k x.call x.value)) × OldSizes n xs (tell_one n k x)
