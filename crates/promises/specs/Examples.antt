-- What is told along small runs, by computation: document 01's worked example, and what is easily got wrong. The exchanges are written out, each call with its
-- code and value; nothing here asks the store. Assumes nothing.
use Rattle.std.specs.Prelude.{◌≡◌, refl, true, false, List, [], ◌∷◌, ◌++◌, ℕ, replicate, Option, Some}
use Rattle.octets.specs.Compare.{same_bytes}
use Rattle.lives.specs.Told.{Window, Staging, idle, cutting, closed, Page, page, page_in, nothing, before}
use Rattle.promises.specs.Calls.{Call, format, store, append, reader, truncate, open_tape, append_entries, shift_start, truncate_tape, drop_entries, pop_entry, read_entries, commit, drop_transaction, Exchange}
use Rattle.promises.specs.Told.{Known, unknown, tell}

-- ---- exchanges

-- a served call with its value
abbrev ok : Call → ℕ → Exchange
ok c value = record { call = c; code = 0; value = value }

-- a refused one
abbrev refused : Call → (code value : ℕ) → Exchange
refused c code value = record { call = c; code = code; value = value }

abbrev a : List ℕ
a = 0x61 ∷ []

abbrev tells : List Exchange → Known
tells xs = tell a xs unknown

abbrev sees : ℕ → List Exchange → Option Page
sees k xs = page k (tells xs).tape

abbrev staged : List Exchange → Staging
staged xs = (tells xs).tape.writer

-- the open windows that began before the last commit, as in `Promise.antt`
abbrev earlier : List Exchange → List Window
earlier xs = before (tells xs).tape.epoch (tells xs).tape.windows

abbrev whole : (start : ℕ) → List ℕ → Option Page
whole start content = Some (record { here = true; start = start; content = content })

-- ---- runs

-- document 01, "The driver": the worked example's calls and the values that it prints
abbrev votes : List ℕ
votes = 0x76 ∷ 0x6F ∷ 0x74 ∷ 0x65 ∷ 0x73 ∷ []

abbrev yes : List ℕ
yes = 0x79 ∷ 0x65 ∷ 0x73 ∷ []

abbrev worked : List Exchange
worked =
    ok (format 8) 0
    ∷ ok store 0
    ∷ ok append 1
    ∷ ok (open_tape 1 votes 1 4 8 0) 1
    ∷ ok (append_entries 1 1 yes) 0
    ∷ ok (append_entries 1 1 yes) 3
    ∷ ok (commit 1) 1
    ∷ ok reader 2
    ∷ ok (read_entries 2 1 0 6 (replicate 6 0)) 6
    ∷ []

-- a tape of ten bytes, entry size 1, file size 4, committed at epoch 1; its handle is 1
abbrev ten : List ℕ
ten = 0 ∷ 1 ∷ 2 ∷ 3 ∷ 4 ∷ 5 ∷ 6 ∷ 7 ∷ 8 ∷ 9 ∷ []

abbrev made : List Exchange
made = ok store 0 ∷ ok append 1 ∷ ok (open_tape 1 a 1 4 16 0) 1 ∷ ok (append_entries 1 1 ten) 0 ∷ ok (commit 1) 1 ∷ []

-- .. cut to 4 bytes beside the window 2
abbrev cut_beside : List Exchange
cut_beside = made ++ (ok reader 2 ∷ ok truncate 3 ∷ ok (truncate_tape 3 1 4) 0 ∷ ok (commit 3) 2 ∷ [])

-- .. its start shifted to 8, then cut to 4 bytes, which is below it
abbrev cut_below : List Exchange
cut_below = made ++ (ok append 2 ∷ ok (shift_start 2 1 8) 0 ∷ ok (commit 2) 2 ∷ ok truncate 3 ∷ ok (truncate_tape 3 1 4) 0 ∷ [])

-- .. two bytes staged
abbrev more : List Exchange
more = made ++ (ok append 2 ∷ ok (append_entries 2 1 (0x7A ∷ 0x7A ∷ [])) 10 ∷ [])

-- .. a truncate begun
abbrev cuts : List Exchange
cuts = made ++ (ok truncate 2 ∷ [])

-- a tape made with entry size 3 and file size 4 in an append that was dropped
abbrev unmade : List Exchange
unmade = ok store 0 ∷ ok append 1 ∷ ok (open_tape 1 a 3 4 16 0) 1 ∷ ok (append_entries 1 1 (5 ∷ 5 ∷ 5 ∷ [])) 0 ∷ ok (drop_transaction 1) 0 ∷ []

-- .. and made again with 1 and 8, from index 5
abbrev remade : List Exchange
remade = unmade ++ (ok append 2 ∷ ok (open_tape 2 a 1 8 16 5) 2 ∷ [])

-- `made` in the next session, with another entry size
abbrev reopened : List Exchange
reopened = made ++ (ok store 1 ∷ ok append 1 ∷ ok (open_tape 1 a 2 4 16 0) 1 ∷ [])

-- the window 1 begun before the tape was made
abbrev before_made : List Exchange
before_made = ok store 0 ∷ ok reader 1 ∷ ok append 2 ∷ ok (open_tape 2 a 1 4 16 0) 1 ∷ ok (append_entries 2 1 ten) 0 ∷ ok (commit 2) 1 ∷ []

-- refused in `more`; served, each would say something
abbrev refusals : List Exchange
refusals =
    refused (format 65) 8 0 ∷ refused append 3 0 ∷ refused truncate 3 0 ∷ refused (open_tape 2 a 1 4 16 0) 9 0 ∷ refused (shift_start 2 1 13) 13 0 ∷ []

-- ---- the table

record Examples : Type 0 where
  -- the page that the reader 2 is told is 796573796573
  worked-page : page 2 (tell votes worked unknown).tape
      ≡ Some (record { here = true; start = 0; content = 0x79 ∷ 0x65 ∷ 0x73 ∷ 0x79 ∷ 0x65 ∷ 0x73 ∷ [] })
  worked-handle : (tell votes worked unknown).handle ≡ 1
  -- a tape of another name isn't there
  worked-other : sees 2 worked ≡ Some (record { here = false; start = 0; content = [] })
  -- a window and a cut: its page stands, and an append waits for it, not for one begun since
  cut-window : sees 2 cut_beside ≡ whole 0 ten
  cut_page : sees 4 (cut_beside ++ (ok reader 4 ∷ [])) ≡ whole 0 (0 ∷ 1 ∷ 2 ∷ 3 ∷ [])
  cut-told : (tells cut_beside).tape.cut ≡ true
  cut-earlier : earlier (cut_beside ++ (ok reader 4 ∷ [])) ≡ record { number = 2; epoch = 1; here = true; start = 0; content = ten } ∷ []
  cut-dropped : earlier (cut_beside ++ (ok reader 4 ∷ ok (drop_transaction 2) 0 ∷ [])) ≡ []
  -- a truncate's page keeps the committed start, here above what is staged; its commit takes the smaller
  cut-view : sees 3 cut_below ≡ whole 8 (0 ∷ 1 ∷ 2 ∷ 3 ∷ [])
  cut-content : (tells (cut_below ++ (ok (commit 3) 3 ∷ []))).tape.content ≡ 0 ∷ 1 ∷ 2 ∷ 3 ∷ []
  cut-start : (tells (cut_below ++ (ok (commit 3) 3 ∷ []))).tape.start ≡ 4
  -- a dropped append: what it staged is gone, the handle stays
  append-staged : sees 2 more ≡ whole 0 (ten ++ (0x7A ∷ 0x7A ∷ []))
  append-dropped : tells (more ++ (ok (drop_transaction 2) 0 ∷ [])) ≡ record { tape = (tells made).tape; handle = 1; entry = 1; last = 2 }
  append-next : sees 3 (more ++ (ok (drop_transaction 2) 0 ∷ ok append 3 ∷ ok (append_entries 3 1 (0x78 ∷ [])) 10 ∷ [])) ≡ whole 0 (ten ++ (0x78 ∷ []))
  -- a dropped creation has no handle; it is made again with another file size
  unmade-handle : (tells unmade).handle ≡ 0
  remade-handle : (tells remade).handle ≡ 2
  remade-size : (tells remade).tape.size ≡ 8
  remade-page : sees 2 (remade ++ (ok (append_entries 2 2 (0x78 ∷ [])) 5 ∷ [])) ≡ whole 5 (0 ∷ 0 ∷ 0 ∷ 0 ∷ 0 ∷ 0x78 ∷ [])
  -- another entry size after a store: a start of 2 entries is one of 4 bytes
  reopened-entry : (tells reopened).entry ≡ 2
  reopened-shifted : sees 1 (reopened ++ (ok (shift_start 1 1 2) 0 ∷ [])) ≡ whole 4 ten
  -- a window begun before the tape was made never sees it
  before-page : sees 1 before_made ≡ Some (record { here = false; start = 0; content = [] })
  before-listed : (tells before_made).tape.listed ≡ true
  -- a store in an append: what it staged is gone, what is committed stays, there is no handle
  store-within : tells (more ++ (ok store 1 ∷ []))
      ≡ record {
        tape = record { epoch = 1; cut = false; listed = true; content = ten; start = 0; windows = []; writer = idle; live = false; size = 4 };
        handle = 0;
        entry = 1;
        last = 0;
      }
  -- a served format in the middle
  formatted : tells (more ++ (ok (format 8) 0 ∷ [])) ≡ unknown
  -- dropped and popped entries in a truncate: a drop stops at 0; a pop that finds none has the value 2^64 - 1
  drop-some : staged (cuts ++ (ok (drop_entries 2 1 4) 0 ∷ [])) ≡ cutting 2 (0 ∷ 1 ∷ 2 ∷ 3 ∷ 4 ∷ 5 ∷ [])
  drop_all : staged (cuts ++ (ok (drop_entries 2 1 11) 0 ∷ [])) ≡ cutting 2 []
  pop-one : staged (cuts ++ (ok (pop_entry 2 1 (0 ∷ [])) 9 ∷ [])) ≡ cutting 2 (0 ∷ 1 ∷ 2 ∷ 3 ∷ 4 ∷ 5 ∷ 6 ∷ 7 ∷ 8 ∷ [])
  pop-none : staged (cuts ++ (ok (drop_entries 2 1 11) 0 ∷ ok (pop_entry 2 1 (0 ∷ [])) 0xffff_ffff_ffff_ffff ∷ [])) ≡ cutting 2 []
  -- what is refused says nothing
  refused-append : tells (more ++ refusals) ≡ tells more
  refused-waits : tells (cut_beside ++ (refused append 4 1 ∷ [])) ≡ tells cut_beside
  refused-open : tells (made ++ (ok store 1 ∷ ok append 1 ∷ refused (open_tape 1 a 3 4 16 0) 10 0 ∷ [])) ≡ tells (made ++ (ok store 1 ∷ ok append 1 ∷ []))

examples : Examples
unfolding unknown tell nothing closed page_in before same_bytes
examples =
    record {
      worked-page = refl;
      worked-handle = refl;
      worked-other = refl;
      cut-window = refl;
      cut_page = refl;
      cut-told = refl;
      cut-earlier = refl;
      cut-dropped = refl;
      cut-view = refl;
      cut-content = refl;
      cut-start = refl;
      append-staged = refl;
      append-dropped = refl;
      append-next = refl;
      unmade-handle = refl;
      remade-handle = refl;
      remade-size = refl;
      remade-page = refl;
      reopened-entry = refl;
      reopened-shifted = refl;
      before-page = refl;
      before-listed = refl;
      store-within = refl;
      formatted = refl;
      drop-some = refl;
      drop_all = refl;
      pop-one = refl;
      pop-none = refl;
      refused-append = refl;
      refused-waits = refl;
      refused-open = refl;
    }
