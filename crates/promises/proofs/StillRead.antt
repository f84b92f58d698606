-- What is committed outlives the session: behind a `store` an append begins, the tape opens with its old file size, and every committed byte from the start on is read. Assumes
-- nothing.
use Rattle.std.specs.Prelude.{◌≡◌, refl, ◌≢◌, true, false, cond, List, [], ◌++◌, ℕ, ◌+◌, ◌-◌, ◌*◌, ◌/◌, ◌%◌, ◌^◌, ◌≤◌, ◌<◌, length, take, drop, Some, Ok}
use Rattle.std.proofs.Common.{sym, ap, ◌∙◌, true≢false, add-mul, arith, eq-eqb, length-drop, take_all}
use Rattle.std.proofs.Math.Nat.{div-mul_cancel, dvd-sub, dvd_of_mod-eq-zero}
use Rattle.octets.specs.Cases.{decide}
use Rattle.octets.specs.Compare.{same_bytes, same_true, same_refl}
use Rattle.octets.specs.Number.{Bytes}
use Rattle.answers.specs.Answers.{code_of, value_of}
use Rattle.answers.specs.Outcome.{Outcome}
use Rattle.session.specs.declared.transactions.Kind.TheVariants as Kind
use Rattle.session.specs.Rows.{head_of}
use Rattle.rolling_tape.specs.Removal.{Areas, areas}
use Rattle.beginning.specs.Sessions.{store_call}
use Rattle.beginning.specs.Calls.{append_call}
use Rattle.beginning.specs.Laws.{refusal-some}
use Rattle.beginning.proofs.Laws.{append_cases}
use Rattle.staging.specs.Seeing.{writes}
use Rattle.opening.specs.Calls.{open_call}
use Rattle.restarts.specs.Level.{store-head}
use Rattle.lives.specs.Life as L
use Rattle.lives.specs.Told.{Told, page}
use Rattle.lives.specs.Told as T
use Rattle.lives.specs.Invariant.{Dormant}
use Rattle.seen.specs.Orderly.{Orderly}
use Rattle.seen.specs.Proper.{Proper}
use Rattle.seen.specs.ProperStarts.{store-proper}
use Rattle.seen.specs.ProperLaws.{append-proper}
use Rattle.seen.specs.Begins.{Begins, begins-rows}
use Rattle.opened.specs.Reopens.{store-serves, append-after-store, open-serves}
use Rattle.promises.specs.Calls.{read_entries, result, step}
use Rattle.promises.specs.Told.{Known, unknown, Concern, apart, opens, tell_as, calls, OldSize}
use Rattle.promises.specs.Standing.{Lore, Running, Standing, running, formatted}
use Rattle.promises.specs.Sessions.{store-runs}
use Rattle.promises.specs.Transactions.{append-runs}
use Rattle.promises.specs.Opening.{open-runs}
use Rattle.promises.specs.Promise.{ends, known, StillRead}
use Rattle.promises.proofs.Runs.{stands-last}
use Rattle.promises.proofs.Reading.{read-running}
use Rattle.promises.proofs.Furnished.{furnished}

-- ---- the append behind the store

-- its rows
append-begins : (d s : List ℕ) → Orderly d s → code_of (append_call d s).answer ≡ 0 → Begins s (append_call d s).session 16 Kind.Append
append-begins d s o =
    append_cases (λ a. code_of a.answer ≡ 0 → Begins s a.session 16 Kind.Append) d s (λ why e. absurd (refusal-some why e))
    (λ may alone e. begins-rows s 16 Kind.Append (omega arith) o.session o.session-bytes may.number)

-- it is the writer, with the next number
begun-writes : (s u : List ℕ) (k : ℕ) → Begins s u 16 Kind.Append → (head_of s).last_transaction + 1 ≡ k → writes u k ≡ true
unfolding writes
begun-writes s u k b e = rw (b.own, eq-eqb ((head_of s).last_transaction + 1) k e)

-- ---- what is told then

-- the append's page of a tape that is listed, once it is open: what is committed
page-then : (t : Told) (v x size cache start : ℕ) → v ≡ 1 → t.listed ≡ true
    → page 1 (T.told_done (T.told_done (T.told_done t L.restart 0) L.append v) (L.open' 1 size cache start []) x) ≡ Some (record { here = true; start = t.start; content = t.content })
page-then t v x size cache start e listed = rw (e, listed)

-- ---- all of a page read

-- a number of bytes in whole entries, and a difference of such
whole : (entry n : ℕ) → n % entry ≡ 0 → n / entry * entry ≡ n
whole entry n e = div-mul_cancel entry (dvd_of_mod-eq-zero entry e)

whole-between : (entry len start : ℕ) → len % entry ≡ 0 → start % entry ≡ 0 → (len - start) / entry * entry ≡ len - start
whole-between entry len start high low = div-mul_cancel entry (dvd-sub entry (dvd_of_mod-eq-zero entry high) (dvd_of_mod-eq-zero entry low))

module _ (d s : List ℕ) (K : Lore) (r : Running (areas d s) K) (n : List ℕ) (long : 0 < length n) (t handle entry start : ℕ) (c buffer : List ℕ) where
  abbrev size : ℕ
  size = length c - start

  read_whole : (K n).handle ≡ handle → handle ≢ 0 → (K n).entry ≡ entry → page t (K n).tape ≡ Some (record { here = true; start = start; content = c })
      → start ≤ length c → length c % entry ≡ 0 → start % entry ≡ 0 → size ≤ length buffer
      → step (read_entries t handle (start / entry) (size / entry) buffer) (areas d s) ≡ result 0 (size / entry) (areas d s) (drop start c ++ drop size buffer)
  read_whole is some-handle sized at bounded high low room =
      let e = (K n).entry in
      let from : start / entry * e ≡ start = ap (λ (x : ℕ). start / entry * x) sized ∙ whole entry start low in
      let many : size / entry * e ≡ size = ap (λ (x : ℕ). size / entry * x) sized ∙ whole-between entry (length c) start high low in
      let all : take size (drop start c) ≡ drop start c = take_all size (drop start c) (omega (arith, length-drop start c)) in
      ap (λ (h : ℕ). step (read_entries t h (start / entry) (size / entry) buffer) (areas d s)) (sym is)
      ∙ read-running d s K r n long t (start / entry) (size / entry) buffer _ (λ z. some-handle (sym is ∙ z)) at refl (omega (arith, from))
      (rw (add-mul (start / entry) (size / entry) e) (omega (arith, from, many))) (omega (arith, many))
      ∙ ap (result 0 (size / entry) (areas d s)) (rw (many, from, all))

-- ---- the three calls in a running session

module _ (d s : List ℕ) (K : Lore) (r : Running (areas d s) K) (n : List ℕ) (long : 0 < length n) where
  abbrev tape : Told
  tape = (K n).tape

  stored_answer : (store_call d s).answer ≡ Ok tape.epoch
  stored_answer = store-serves d s r.orderly ∙ ap Ok (r.holds n long).seen.epoch

  stored-code : code_of (store_call d s).answer ≡ 0
  stored-code = ap code_of stored_answer

  abbrev u : List ℕ
  u = (store_call d s).session

  abbrev stored_lore : Lore
  stored_lore m = tell_as (K m) (value_of (store_call d s).answer) (calls L.restart)

  stored-running : Running (areas d u) stored_lore
  stored-running = store-runs d s stored-code K r

  begun-answer : (append_call d u).answer ≡ Ok 1
  begun-answer = append-after-store d s r.orderly

  begun-code : code_of (append_call d u).answer ≡ 0
  begun-code = ap code_of begun-answer

  begun-value : value_of (append_call d u).answer ≡ 1
  begun-value = ap value_of begun-answer

  abbrev w : List ℕ
  w = (append_call d u).session

  abbrev begun_lore : Lore
  begun_lore m = tell_as (stored_lore m) (value_of (append_call d u).answer) (calls L.append)

  begun-running : Running (areas d w) begun_lore
  begun-running = append-runs d u stored_lore stored-running begun-code

  -- the append is the writer, and no handle was given
  begins : Begins u w 16 Kind.Append
  begins = append-begins d u stored-running.orderly begun-code

  head-stored : ((head_of u).last_transaction ≡ 0) × ((head_of u).last_handle ≡ 0)
  head-stored = rw (store-head d s r.orderly.disk-bytes stored-code) (refl, refl)

  no-handle-yet : (head_of w).last_handle ≡ 0
  no-handle-yet = begins.left.handed ∙ head-stored.1

  first-writes : writes w 1 ≡ true
  first-writes = begun-writes u w 1 begins (omega (arith, head-stored.0))

  module _ (proper : Proper d s) (listed : tape.listed ≡ true) (small : tape.size ≤ 4096) (entry cache start : ℕ) (some-entry : 1 ≤ entry) (short-entry : entry ≤ 256)
      (whole-content : length tape.content % entry ≡ 0) (whole-start : tape.start % entry ≡ 0) (some-cache : 1 ≤ cache) (short-cache : cache ≤ 4096) where
    abbrev opened : Outcome
    opened = open_call d w 1 n entry tape.size cache start

    opened-answer : opened.answer ≡ Ok 1
    opened-answer =
        let h = begun-running.holds n long in
        open-serves d w n long begun-running.orderly
        (append-proper d u stored-running.orderly (store-proper d s r.orderly proper s stored-code))
        (begun_lore n).tape h.phys h.good h.seen refl listed small 1 entry cache start first-writes some-entry short-entry whole-content whole-start some-cache short-cache
        (λ e. omega (arith, no-handle-yet))
        ∙ ap (λ (i : ℕ). Ok (i + 1)) no-handle-yet

    opened-code : code_of opened.answer ≡ 0
    opened-code = ap code_of opened-answer

    module _ (letters : Bytes n) (word : start < 2 ^ 64) where
      -- the tape is opened with the size that is told of it
      abbrev concern : List ℕ → Concern
      concern m = cond (same_bytes n m) (opens 1 entry tape.size cache start) apart

      abbrev opened_lore : Lore
      opened_lore m = tell_as (begun_lore m) (value_of opened.answer) (concern m)

      old : (m : List ℕ) → OldSize (begun_lore m) (concern m)
      old m =
          decide (same_bytes n m)
          (λ (q : same_bytes n m ≡ true).
          rw q (λ here. ap (λ (x : List ℕ). (K x).tape.size) (same_true n m q)))
          (λ (q : same_bytes n m ≡ false). rw q tt)

      opened-running : Running (areas opened.disk opened.session) opened_lore
      opened-running = open-runs d w 1 n entry tape.size cache start begun_lore begun-running letters word opened-code old

      -- what is told of the tape, now that it is open
      abbrev own : Known
      own = tell_as (begun_lore n) (value_of opened.answer) (opens 1 entry tape.size cache start)

      told-own : opened_lore n ≡ own
      told-own = rw (same_refl n)

      own-handle : own.handle ≡ 1
      own-handle = ap value_of opened-answer

      own-page : page 1 own.tape ≡ Some (record { here = true; start = tape.start; content = tape.content })
      own-page = page-then tape (value_of (append_call d u).answer) (value_of opened.answer) tape.size cache start begun-value listed

      bounded : tape.start ≤ length tape.content
      bounded = let dormant : Dormant (begun_lore n).tape (begun-running.holds n long).phys = (begun-running.holds n long).good in dormant.bounded

      opened-read : (buffer : List ℕ) → length tape.content - tape.start ≤ length buffer
          → step (read_entries 1 1 (tape.start / entry) ((length tape.content - tape.start) / entry) buffer) (areas opened.disk opened.session)
          ≡ result 0 ((length tape.content - tape.start) / entry) (areas opened.disk opened.session)
          (drop tape.start tape.content ++ drop (length tape.content - tape.start) buffer)
      opened-read buffer room =
          read_whole opened.disk opened.session opened_lore opened-running n long 1 1 entry tape.start tape.content buffer
          (ap (λ (k : Known). k.handle) told-own ∙ own-handle) (λ z. omega arith) (ap (λ (k : Known). k.entry) told-own)
          (ap (λ (k : Known). page 1 k.tape) told-own ∙ own-page) bounded whole-content whole-start room

-- ---- after any run

-- a listed tape is one of a running session
with-listed : (a : Areas) (K : Lore) (n : List ℕ) → 0 < length n → (K n).tape.listed ≡ true → Standing a K → Running a K
unfolding unknown T.nothing
with-listed a K n long listed (running r) = r
with-listed a K n long listed (formatted f) = absurd (true≢false (sym listed ∙ ap (λ (k : Known). k.tape.listed) (f.untold n long)))

pub still_read : StillRead
unfolding step
still_read r n long entry cache start buffer listed some-entry short-entry whole-content whole-start some-cache short-cache word letters room =
    let a = ends r in
    let K = known r in
    let d = a.disk in
    let s = a.session in
    let runs = with-listed a K n long listed (stands-last r) in
    let proper = (furnished r runs).proper in
    let small = ((furnished r runs).sized n long).0 listed in
    let stored = stored_answer d s K runs n long in
    let begun = begun-answer d s K runs n long in
    let opened = opened-answer d s K runs n long proper listed small entry cache start some-entry short-entry whole-content whole-start some-cache short-cache in
    let read = opened-read d s K runs n long proper listed small entry cache start some-entry short-entry whole-content whole-start some-cache short-cache letters word buffer room in
    (ap code_of stored, (ap value_of stored, (ap code_of begun, (ap value_of begun, (ap code_of opened, (ap value_of opened, read))))))
