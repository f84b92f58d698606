-- One file size for each name, and a format of areas that are long enough. That with them the premises of the promise are met is in proofs/Premises.antt. Assumes
-- nothing.
use Rattle.std.specs.Prelude.{◌≡◌, List, [], ◌∷◌, ℕ, ◌≤◌, length}
use Rattle.std.proofs.Common.{ap}
use Rattle.layout.specs.Disk.{data_at}
use Rattle.layout.specs.Session.{session_bytes}
use Rattle.areas.specs.FormatLaws.{format-done}
use Rattle.answers.specs.Answers.{code_of}
use Rattle.answers.specs.Outcome.{Outcome}
use Rattle.rolling_tape.specs.Removal.{Areas, areas}
use Rattle.beginning.specs.Ways.{format-answered}
use Rattle.promises.specs.Calls.{Call, format, store, append, reader, truncate, open_tape, append_entries, shift_start, truncate_tape, drop_entries, pop_entry, read_entries, read_entry, tape_len, tape_start, tape_exists, commit, drop_transaction, step, Exchange, history}

-- ---- a format

pub served-format : (slots : ℕ) (disk session : List ℕ) → 1 ≤ slots → slots ≤ 64 → data_at slots ≤ length disk → session_bytes ≤ length session
    → (step (format slots) (areas disk session)).code ≡ 0
unfolding step
served-format slots disk session some few room long =
    ap (λ (o : Outcome). code_of o.answer) (format-answered disk session slots _ _ _ (format-done disk session slots some few room long))

-- ---- one file size for each name

-- an opening has the size of its name
abbrev pub HasSize : (List ℕ → ℕ) → Call → Type 0
HasSize size (format slots) = Unit {0}
HasSize size store = Unit {0}
HasSize size append = Unit {0}
HasSize size reader = Unit {0}
HasSize size truncate = Unit {0}
HasSize size (open_tape t name entry s cache start) = s ≡ size name
HasSize size (append_entries t h bs) = Unit {0}
HasSize size (shift_start t h i) = Unit {0}
HasSize size (truncate_tape t h i) = Unit {0}
HasSize size (drop_entries t h i) = Unit {0}
HasSize size (pop_entry t h buffer) = Unit {0}
HasSize size (read_entries t h i count buffer) = Unit {0}
HasSize size (read_entry t h i buffer) = Unit {0}
HasSize size (tape_len t h) = Unit {0}
HasSize size (tape_start t h) = Unit {0}
HasSize size (tape_exists t name) = Unit {0}
HasSize size (commit t) = Unit {0}
HasSize size (drop_transaction t) = Unit {0}

abbrev pub OneSize : (List ℕ → ℕ) → List Exchange → Type 0
OneSize size [] = Unit {0}
OneSize size (x ∷ xs) = HasSize size x.call × OneSize size xs

-- ---- of calls, before anything is answered

abbrev pub AllSized : (List ℕ → ℕ) → List Call → Type 0
AllSized size [] = Unit {0}
AllSized size (c ∷ cs) = HasSize size c × AllSized size cs

pub history-sized : (size : List ℕ → ℕ) (cs : List Call) (a : Areas) → AllSized size cs → OneSize size (history cs a)
unfolding history
history-sized size [] a all = tt
history-sized size (c ∷ cs) a all = (all.0, history-sized size cs (step c a).areas all.1)
