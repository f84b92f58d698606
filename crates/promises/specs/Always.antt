-- A law of running sessions that every served call keeps. That it holds after any calls is in proofs/Always.antt. Assumes nothing.
use Rattle.std.specs.Prelude.{◌≡◌, Bool, true, false, ℕ}
use Rattle.std.proofs.Common.{ap}
use Rattle.std.proofs.lemmas.Bool.{false≢true}
use mathlib.Core.List.{List}
use Rattle.answers.specs.Answers.{code_of, entry_code_of}
use Rattle.answers.specs.Outcome.{Outcome, Reading, Entering, Popping}
use Rattle.layout.specs.Session.{begun}
use Rattle.rolling_tape.specs.Removal.{Areas, areas}
use Rattle.beginning.specs.Transactions.{After}
use Rattle.seen.specs.Unbegun.{append-unbegun, truncate-unbegun, reader-unbegun, commit-unbegun, drop-transaction-unbegun, open-unbegun, exists-unbegun, put-unbegun, shift-unbegun, cut-unbegun, drop-unbegun, len-unbegun, start-unbegun, pop-unbegun, read-unbegun, entry-unbegun}
use Rattle.promises.specs.Calls.{Call, format, store, append, reader, truncate, open_tape, append_entries, shift_start, truncate_tape, drop_entries, pop_entry, read_entries, read_entry, tape_len, tape_start, tape_exists, commit, drop_transaction, Fits, perform}
use Rattle.promises.specs.Told.{concerns, OldSize, tell_as}
use Rattle.promises.specs.Standing.{Lore, Running, Formatted}

-- ---- before a session was begun

-- these two begin and end sessions; every other call is served in one alone
abbrev pub is_inside : Call → Bool
is_inside (format n) = false
is_inside store = false
is_inside append = true
is_inside reader = true
is_inside truncate = true
is_inside (open_tape t name entry size cache start) = true
is_inside (append_entries t h bs) = true
is_inside (shift_start t h n) = true
is_inside (truncate_tape t h n) = true
is_inside (drop_entries t h n) = true
is_inside (pop_entry t h buffer) = true
is_inside (read_entries t h i n buffer) = true
is_inside (read_entry t h i buffer) = true
is_inside (tape_len t h) = true
is_inside (tape_start t h) = true
is_inside (tape_exists t name) = true
is_inside (commit t) = true
is_inside (drop_transaction t) = true

module _ (d s : List ℕ) (unbegun : begun s ≡ false) where
  abbrev afters : After → ℕ
  afters o = code_of o.answer

  abbrev outcomes : Outcome → ℕ
  outcomes o = code_of o.answer

  pub no-session : (c : Call) → is_inside c ≡ true → (perform c d s).code ≡ 1
  no-session (format n) is = absurd (false≢true is)
  no-session store is = absurd (false≢true is)
  no-session append is = ap afters (append-unbegun d s unbegun)
  no-session reader is = ap afters (reader-unbegun d s unbegun)
  no-session truncate is = ap afters (truncate-unbegun d s unbegun)
  no-session (open_tape t name entry size cache start) is = ap outcomes (open-unbegun d s unbegun t name entry size cache start)
  no-session (append_entries t h bs) is = ap outcomes (put-unbegun d s unbegun t h bs)
  no-session (shift_start t h i) is = ap afters (shift-unbegun d s unbegun t h i)
  no-session (truncate_tape t h i) is = ap afters (cut-unbegun d s unbegun t h i)
  no-session (drop_entries t h i) is = ap afters (drop-unbegun d s unbegun t h i)
  no-session (pop_entry t h buffer) is = ap (λ (o : Popping). entry_code_of o.answer) (pop-unbegun d s unbegun t h buffer)
  no-session (read_entries t h i n buffer) is = ap (λ (o : Reading). code_of o.answer) (read-unbegun d s unbegun t h i n buffer)
  no-session (read_entry t h i buffer) is = ap (λ (o : Entering). entry_code_of o.answer) (entry-unbegun d s unbegun t h i buffer)
  no-session (tape_len t h) is = ap code_of (len-unbegun d s unbegun t h)
  no-session (tape_start t h) is = ap code_of (start-unbegun d s unbegun t h)
  no-session (tape_exists t name) is = ap code_of (exists-unbegun d s unbegun t name)
  no-session (commit t) is = ap outcomes (commit-unbegun d s unbegun t)
  no-session (drop_transaction t) is = ap afters (drop-transaction-unbegun d s unbegun t)

-- ---- a law of running sessions

-- what is told of every name after a served call
abbrev pub lore : List ℕ → List ℕ → Lore → Call → Lore
lore d s K c n = tell_as (K n) (perform c d s).value (concerns n (K n) c (perform c d s).value)

-- a `store` makes it, on a formatted disk and in a session that has it; every other served call but a format keeps it
pub record Lasts (P : Areas → Lore → Type 0) : Type 0 where
  pub begins : (d s : List ℕ) (K : Lore) → Formatted (areas d s) K → (perform store d s).code ≡ 0 → P (perform store d s).areas (lore d s K store)
  pub renews : (d s : List ℕ) (K : Lore) → Running (areas d s) K → P (areas d s) K → (perform store d s).code ≡ 0 → P (perform store d s).areas (lore d s K store)
  pub keeps : (d s : List ℕ) (K : Lore) → Running (areas d s) K → P (areas d s) K → (c : Call) → is_inside c ≡ true → Fits c → (perform c d s).code ≡ 0
      → ((n : List ℕ) → OldSize (K n) (concerns n (K n) c (perform c d s).value)) → P (perform c d s).areas (lore d s K c)
