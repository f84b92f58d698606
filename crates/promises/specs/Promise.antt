-- Demand 3: the statements. A reviewer reads this file first. It rests on `Calls.antt` (the calls, their steps, which are the definitions that the contracts
-- cite, and a run of them), on `Told.antt` (what the calls' arguments and answers say of the tape of a name) and, for one tape, on `lives/specs/Told.antt`
-- (Told, told, page, before). The proofs stand in `proofs/Theorems.antt`, and behind it in `ended`, `opened`, `seen`, `joins`, `lives` and `held`. Assumes nothing.
use Rattle.std.specs.Prelude.{◌≡◌, Bool, true, false, not, ◌||◌, ◌≢◌, ◌⊎◌, ℕ, ◌+◌, ◌-◌, ◌*◌, ◌/◌, ◌%◌, ◌≤◌, ◌<◌, length, take, drop, eqb, Some, None}
use mathlib.Core.List.{List, [], ◌∷◌, ◌++◌, Memᴰ}
use Rattle.octets.specs.Number.{Bytes}
use Rattle.rolling_tape.specs.Removal.{Areas, areas}
use Rattle.lives.specs.Told.{Window, Staging, idle, appending, cutting, Page, page, before}
use Rattle.promises.specs.Calls.{Call, format, store, append, reader, truncate, open_tape, append_entries, shift_start, truncate_tape, drop_entries, pop_entry, read_entries, read_entry, tape_len, tape_start, tape_exists, commit, drop_transaction, Word, AllFit, Result, result, step, Exchange, run, history}
use Rattle.promises.specs.Told.{Known, unknown, tell, OldSizes}

-- ---- runs

-- from two areas of any bytes and any sufficient length, a served format with any slot count, and any calls with any arguments, refused ones among them, in
-- which every served reopening of a tape uses the file size that it was made with
pub record Run : Type 0 where
  pub disk : List ℕ
  pub session : List ℕ
  pub disk-bytes : Bytes disk
  pub session-bytes : Bytes session
  pub slots : ℕ
  pub formatted : (step (format slots) (areas disk session)).code ≡ 0
  pub calls : List Call
  pub fit : AllFit calls
  pub sizes : (n : List ℕ) → OldSizes n (history calls (step (format slots) (areas disk session)).areas) unknown

module _ (r : Run) where
  -- both areas as the format left them
  abbrev pub begins : Areas
  begins = (step (format r.slots) (areas r.disk r.session)).areas

  -- and as the run left them
  abbrev pub ends : Areas
  ends = run r.calls begins

  -- what is told then of the tape named n
  abbrev pub known : List ℕ → Known
  known n = tell n (history r.calls begins) unknown

-- further calls
pub record Further (r : Run) : Type 0 where
  pub calls : List Call
  pub fit : AllFit calls
  pub sizes : (n : List ℕ) → OldSizes n (history calls (ends r)) (known r n)

module _ (r : Run) (f : Further r) where
  abbrev pub ends_then : Areas
  ends_then = run f.calls (ends r)

  abbrev pub known_then : List ℕ → Known
  known_then n = tell n (history f.calls (ends r)) (known r n)

-- ---- (a) reads

-- any read of any number of entries, in any open transaction, on the handle of any tape, that lies inside told's bounds, with room in the buffer: it is
-- answered with that number, the buffer's front holds told's bytes, and the rest of it and both areas are unchanged. (Names have at least one byte: an opening
-- of the empty one is 6.)
abbrev pub Reads : Type 0
Reads = (r : Run) (n : List ℕ) → 0 < length n → (t i count : ℕ) (buffer : List ℕ) (q : Page)
    → (known r n).handle ≢ 0
    → page t (known r n).tape ≡ Some q → q.here ≡ true
    → q.start ≤ i * (known r n).entry → (i + count) * (known r n).entry ≤ length q.content
    → count * (known r n).entry ≤ length buffer
    → step (read_entries t (known r n).handle i count buffer) (ends r)
    ≡ result 0 count (ends r) (take (count * (known r n).entry) (drop (i * (known r n).entry) q.content) ++ drop (count * (known r n).entry) buffer)

-- ---- (b) whom an append waits for

-- a window of this number is open
unfoldable pub is_open : ℕ → List Window → Bool
is_open k [] = false
is_open k (w ∷ ws) = eqb k w.number || is_open k ws

-- no commit, format or store
abbrev pub is_quiet : Call → Bool
is_quiet (format n) = false
is_quiet store = false
is_quiet append = true
is_quiet reader = true
is_quiet truncate = true
is_quiet (open_tape t name entry size cache start) = true
is_quiet (append_entries t h bs) = true
is_quiet (shift_start t h n) = true
is_quiet (truncate_tape t h n) = true
is_quiet (drop_entries t h n) = true
is_quiet (pop_entry t h buffer) = true
is_quiet (read_entries t h i n buffer) = true
is_quiet (read_entry t h i buffer) = true
is_quiet (tape_len t h) = true
is_quiet (tape_start t h) = true
is_quiet (tape_exists t name) = true
is_quiet (commit t) = false
is_quiet (drop_transaction t) = true

-- what was served of some calls has a property
abbrev pub AllServed : (Call → Bool) → List Exchange → Type 0
AllServed has [] = Unit {0}
AllServed has (x ∷ xs) = (x.code ≡ 0 → has x.call ≡ true) × AllServed has xs

abbrev pub Quiet : List Exchange → Type 0
Quiet = AllServed is_quiet

module _ (r : Run) (n : List ℕ) where
  -- the open windows that began before the last commit
  abbrev pub earlier : List Window
  earlier = before (known r n).tape.epoch (known r n).tape.windows

-- an append was told to wait for w windows; n is any tape, since they all have the same windows
pub record Waiting (r : Run) (w : ℕ) (n : List ℕ) : Type 0 where
  -- no writer is open, the last commit was a cut, and w open windows began before it
  pub free : (known r n).tape.writer ≡ idle
  pub cut : (known r n).tape.cut ≡ true
  pub many : length (earlier r n) ≡ w
  pub more : 0 < w
  -- while one of them is open, no append is let in, whatever else is called
  pub waits : (f : Further r) → Quiet (history f.calls (ends r)) → (x : Window) → Memᴰ x (earlier r n)
      → is_open x.number (known_then r f n).tape.windows ≡ true → (step append (ends_then r f)).code ≢ 0
  -- when none is, no writer is open and transaction numbers remain, it is let in, however many windows opened since
  pub goes_in : (f : Further r) → Quiet (history f.calls (ends r))
      → ((x : Window) → Memᴰ x (earlier r n) → is_open x.number (known_then r f n).tape.windows ≡ false)
      → (known_then r f n).tape.writer ≡ idle → (known_then r f n).last ≢ 0xffff_ffff_ffff_ffff → (step append (ends_then r f)).code ≡ 0

abbrev pub Waits : Type 0
Waits = (r : Run) (w : ℕ) → (step append (ends r)).code ≡ 4 → (step append (ends r)).value ≡ w → (n : List ℕ) → 0 < length n → Waiting r w n

-- and it has to wait where such windows are open
abbrev pub AppendWaits : Type 0
AppendWaits = (r : Run) (n : List ℕ) → 0 < length n
    → (known r n).tape.writer ≡ idle → (known r n).tape.cut ≡ true → 0 < length (earlier r n)
    → ((step append (ends r)).code ≡ 4) × ((step append (ends r)).value ≡ length (earlier r n))

-- ---- nothing fails for want of room

-- what was put is committed: no commit is refused with 15 or 16
abbrev pub Commits : Type 0
Commits = (r : Run) (t : ℕ) → ((step (commit t) (ends r)).code ≢ 15) × ((step (commit t) (ends r)).code ≢ 16)

-- the open writer has this number
abbrev pub is_writer : ℕ → Staging → Bool
is_writer t idle = false
is_writer t (appending m here c start) = eqb t m
is_writer t (cutting m c) = eqb t m

-- nor with anything else: the writer's commit is served, as long as epochs remain
abbrev pub CommitsServed : Type 0
CommitsServed = (r : Run) (n : List ℕ) → 0 < length n → (t : ℕ)
    → is_writer t (known r n).tape.writer ≡ true → (known r n).tape.epoch ≢ 0xffff_ffff_ffff_ffff
    → ((step (commit t) (ends r)).code ≡ 0) × ((step (commit t) (ends r)).value ≡ (known r n).tape.epoch + 1)

-- ---- corollaries: the other reads

-- one entry
abbrev pub ReadsOne : Type 0
ReadsOne = (r : Run) (n : List ℕ) → 0 < length n → (t i : ℕ) (buffer : List ℕ) (q : Page)
    → (known r n).handle ≢ 0
    → page t (known r n).tape ≡ Some q → q.here ≡ true
    → q.start ≤ i * (known r n).entry → (i + 1) * (known r n).entry ≤ length q.content
    → (known r n).entry ≤ length buffer
    → step (read_entry t (known r n).handle i buffer) (ends r)
    ≡ result 0 i (ends r) (take (known r n).entry (drop (i * (known r n).entry) q.content) ++ drop (known r n).entry buffer)

-- the last entry popped, in a truncate: its index, and its bytes. What is then told of the tape is in `Told.antt`
abbrev pub Pops : Type 0
Pops = (r : Run) (n : List ℕ) → 0 < length n → (t : ℕ) (c buffer : List ℕ)
    → (known r n).handle ≢ 0
    → (known r n).tape.writer ≡ cutting t c
    → 0 < length c / (known r n).entry → (known r n).tape.start ≤ (length c / (known r n).entry - 1) * (known r n).entry
    → (known r n).entry ≤ length buffer
    → ((step (pop_entry t (known r n).handle buffer) (ends r)).code ≡ 0)
    × (((step (pop_entry t (known r n).handle buffer) (ends r)).value ≡ length c / (known r n).entry - 1)
    × ((step (pop_entry t (known r n).handle buffer) (ends r)).buffer
    ≡ take (known r n).entry (drop ((length c / (known r n).entry - 1) * (known r n).entry) c) ++ drop (known r n).entry buffer))

-- where there is none, told's length or start says so, and nothing is changed
abbrev pub PopsNone : Type 0
PopsNone = (r : Run) (n : List ℕ) → 0 < length n → (t : ℕ) (c buffer : List ℕ)
    → (known r n).handle ≢ 0
    → (known r n).tape.writer ≡ cutting t c
    → (length c / (known r n).entry ≡ 0) ⊎ ((length c / (known r n).entry - 1) * (known r n).entry < (known r n).tape.start)
    → step (pop_entry t (known r n).handle buffer) (ends r) ≡ result 0 0xffff_ffff_ffff_ffff (ends r) buffer

-- outside told's bounds a read is 12, of a tape that the transaction does not see 11, of no open transaction 2
abbrev pub ReadsElse : Type 0
ReadsElse = (r : Run) (n : List ℕ) → 0 < length n → (t i count : ℕ) (buffer : List ℕ)
    → (known r n).handle ≢ 0
    → (page t (known r n).tape ≡ None → (step (read_entries t (known r n).handle i count buffer) (ends r)).code ≡ 2)
    × ((q : Page) → page t (known r n).tape ≡ Some q
    → (q.here ≡ false → (step (read_entries t (known r n).handle i count buffer) (ends r)).code ≡ 11)
    × (q.here ≡ true → (i * (known r n).entry < q.start) ⊎ (length q.content < (i + count) * (known r n).entry)
    → (step (read_entries t (known r n).handle i count buffer) (ends r)).code ≡ 12))

-- and one entry is none
abbrev pub ReadsOneElse : Type 0
ReadsOneElse = (r : Run) (n : List ℕ) → 0 < length n → (t i : ℕ) (buffer : List ℕ) (q : Page)
    → (known r n).handle ≢ 0
    → page t (known r n).tape ≡ Some q → q.here ≡ true
    → (i * (known r n).entry < q.start) ⊎ (length q.content < (i + 1) * (known r n).entry)
    → step (read_entry t (known r n).handle i buffer) (ends r) ≡ result 0 0xffff_ffff_ffff_ffff (ends r) buffer

-- length and start, in entries
abbrev pub Lengths : Type 0
Lengths = (r : Run) (n : List ℕ) → 0 < length n → (t : ℕ) (q : Page)
    → (known r n).handle ≢ 0
    → page t (known r n).tape ≡ Some q → q.here ≡ true
    → (step (tape_len t (known r n).handle) (ends r) ≡ result 0 (length q.content / (known r n).entry) (ends r) [])
    × (step (tape_start t (known r n).handle) (ends r) ≡ result 0 (q.start / (known r n).entry) (ends r) [])

-- ---- corollaries: a page never changes

-- the transaction is not closed: neither dropped, nor committed, nor ended with its session
abbrev pub keeps_open : ℕ → Call → Bool
keeps_open t (format n) = false
keeps_open t store = false
keeps_open t append = true
keeps_open t reader = true
keeps_open t truncate = true
keeps_open t (open_tape u name entry size cache start) = true
keeps_open t (append_entries u h bs) = true
keeps_open t (shift_start u h n) = true
keeps_open t (truncate_tape u h n) = true
keeps_open t (drop_entries u h n) = true
keeps_open t (pop_entry u h buffer) = true
keeps_open t (read_entries u h i n buffer) = true
keeps_open t (read_entry u h i buffer) = true
keeps_open t (tape_len u h) = true
keeps_open t (tape_start u h) = true
keeps_open t (tape_exists u name) = true
keeps_open t (commit u) = not (eqb t u)
keeps_open t (drop_transaction u) = not (eqb t u)

-- what a window is told of a tape, whatever is called while it is open
abbrev pub PageStands : Type 0
PageStands = (r : Run) (f : Further r) (n : List ℕ) → 0 < length n → (t : ℕ)
    → is_open t (known r n).tape.windows ≡ true → AllServed (keeps_open t) (history f.calls (ends r))
    → page t (known_then r f n).tape ≡ page t (known r n).tape

-- so two equal reads in one window give equal bytes
abbrev pub ReadsAgain : Type 0
ReadsAgain = (r : Run) (f : Further r) (n : List ℕ) → 0 < length n → (t i count : ℕ) (buffer later : List ℕ) (q : Page)
    → is_open t (known r n).tape.windows ≡ true → AllServed (keeps_open t) (history f.calls (ends r))
    → (known r n).handle ≢ 0
    → page t (known r n).tape ≡ Some q → q.here ≡ true
    → q.start ≤ i * (known r n).entry → (i + count) * (known r n).entry ≤ length q.content
    → count * (known r n).entry ≤ length buffer → count * (known r n).entry ≤ length later
    → step (read_entries t (known r n).handle i count later) (ends_then r f)
    ≡ result 0 count (ends_then r f) (take (count * (known r n).entry) (step (read_entries t (known r n).handle i count buffer) (ends r)).buffer ++ drop (count * (known r n).entry) later)

-- ---- corollaries: a message is the place where it was appended

-- a put answers where its bytes stand: the index of the entry that begins where the staged bytes end
abbrev pub Puts : Type 0
Puts = (r : Run) (n : List ℕ) → 0 < length n → (t : ℕ) (bs c : List ℕ) (here : Bool) (start : ℕ)
    → (known r n).handle ≢ 0 → (known r n).tape.writer ≡ appending t here c start
    → (step (append_entries t (known r n).handle bs) (ends r)).code ≡ 0
    → (step (append_entries t (known r n).handle bs) (ends r)).value * (known r n).entry ≡ length c

-- two puts of the same bytes get two places, whatever is called between them in the same append. (A place that was dropped or cut off is given again.)
abbrev pub TwoPlaces : Type 0
TwoPlaces = (r : Run) (f : Further r) (n : List ℕ) → 0 < length n → (t : ℕ) (bs : List ℕ) (rest : List Call)
    → 0 < length bs → (known r n).handle ≢ 0
    → f.calls ≡ append_entries t (known r n).handle bs ∷ rest → AllServed (keeps_open t) (history f.calls (ends r))
    → (step (append_entries t (known r n).handle bs) (ends r)).code ≡ 0
    → (step (append_entries t (known r n).handle bs) (ends_then r f)).code ≡ 0
    → ((step (append_entries t (known r n).handle bs) (ends r)).value < (step (append_entries t (known r n).handle bs) (ends_then r f)).value)
    × ((step (append_entries t (known r n).handle bs) (ends r)).value + length bs / (known r n).entry ≤ (step (append_entries t (known r n).handle bs) (ends_then r f)).value)

-- the directory of an open tape is there: no put is refused with 16
abbrev pub PutsFind : Type 0
PutsFind = (r : Run) (t h : ℕ) (bs : List ℕ) → (step (append_entries t h bs) (ends r)).code ≢ 16

-- ---- corollaries: what is committed outlives the session

-- a `store`, and an append behind it
module _ (r : Run) where
  abbrev pub after_store : Result
  after_store = step store (ends r)

  abbrev pub after_append : Result
  after_append = step append after_store.areas

-- and an opening of a tape with its old file size
module _ (r : Run) (n : List ℕ) (entry cache start : ℕ) where
  abbrev pub after_open : Result
  after_open = step (open_tape 1 n entry (known r n).tape.size cache start) (after_append r).areas

-- from any run that has a listed tape, the three are served, and every committed byte from the start on is read; what was staged is gone
abbrev pub StillRead : Type 0
StillRead = (r : Run) (n : List ℕ) → 0 < length n → (entry cache start : ℕ) (buffer : List ℕ)
    → (known r n).tape.listed ≡ true
    → 1 ≤ entry → entry ≤ 256 → length (known r n).tape.content % entry ≡ 0 → (known r n).tape.start % entry ≡ 0
    → 1 ≤ cache → cache ≤ 4096 → Word start → Bytes n → length (known r n).tape.content - (known r n).tape.start ≤ length buffer
    → ((after_store r).code ≡ 0) × (((after_store r).value ≡ (known r n).tape.epoch)
    × (((after_append r).code ≡ 0) × (((after_append r).value ≡ 1)
    × (((after_open r n entry cache start).code ≡ 0) × (((after_open r n entry cache start).value ≡ 1)
    × (step
    (read_entries 1 1 ((known r n).tape.start / entry) ((length (known r n).tape.content - (known r n).tape.start) / entry) buffer)
    (after_open r n entry cache start).areas
    ≡ result 0 ((length (known r n).tape.content - (known r n).tape.start) / entry) (after_open r n entry cache start).areas
    (drop (known r n).tape.start (known r n).tape.content ++ drop (length (known r n).tape.content - (known r n).tape.start) buffer)))))))

-- in any open append a listed tape that has no handle is opened with its old file size, as long as handle numbers remain
abbrev pub Reopens : Type 0
Reopens = (r : Run) (n : List ℕ) → 0 < length n → (t entry cache start : ℕ) (here : Bool) (c : List ℕ) (s : ℕ)
    → (known r n).tape.writer ≡ appending t here c s → (known r n).tape.listed ≡ true → (known r n).handle ≡ 0
    → 1 ≤ entry → entry ≤ 256 → length (known r n).tape.content % entry ≡ 0 → (known r n).tape.start % entry ≡ 0
    → 1 ≤ cache → cache ≤ 4096
    → (step (open_tape t n entry (known r n).tape.size cache start) (ends r)).code ≢ 18
    → (step (open_tape t n entry (known r n).tape.size cache start) (ends r)).code ≡ 0

-- an open transaction can be dropped
abbrev pub Closes : Type 0
Closes = (r : Run) (n : List ℕ) → 0 < length n → (t : ℕ) (q : Page)
    → page t (known r n).tape ≡ Some q → (step (drop_transaction t) (ends r)).code ≡ 0

-- ---- corollaries: a refused call, from any areas at all

-- the buffer that a call is lent
abbrev pub buffer_of : Call → List ℕ
buffer_of (format n) = []
buffer_of store = []
buffer_of append = []
buffer_of reader = []
buffer_of truncate = []
buffer_of (open_tape t name entry size cache start) = []
buffer_of (append_entries t h bs) = []
buffer_of (shift_start t h n) = []
buffer_of (truncate_tape t h n) = []
buffer_of (drop_entries t h n) = []
buffer_of (pop_entry t h buffer) = buffer
buffer_of (read_entries t h i n buffer) = buffer
buffer_of (read_entry t h i buffer) = buffer
buffer_of (tape_len t h) = []
buffer_of (tape_start t h) = []
buffer_of (tape_exists t name) = []
buffer_of (commit t) = []
buffer_of (drop_transaction t) = []

-- it leaves both areas and its buffer byte for byte, and its value is 0 but for a 4
abbrev pub RefusedLeaves : Type 0
RefusedLeaves = (c : Call) (a : Areas) → (step c a).code ≢ 0
    → ((step c a).areas ≡ a) × (((step c a).buffer ≡ buffer_of c) × ((step c a).code ≢ 4 → (step c a).value ≡ 0))

-- ---- all of it

pub record Promised : Type 0 where
  pub reads : Reads
  pub waits : Waits
  pub append-waits : AppendWaits
  pub commits : Commits
  pub commits-served : CommitsServed
  pub reads-one : ReadsOne
  pub pops : Pops
  pub pops-none : PopsNone
  pub reads-else : ReadsElse
  pub reads-one-else : ReadsOneElse
  pub lengths : Lengths
  pub page-stands : PageStands
  pub reads-again : ReadsAgain
  pub puts : Puts
  pub two-places : TwoPlaces
  pub puts-find : PutsFind
  pub still_read : StillRead
  pub reopens : Reopens
  pub closes : Closes
  pub refused-leaves : RefusedLeaves
