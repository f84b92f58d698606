-- Every call keeps what holds (`Standing.antt`): a refused one changes nothing and says nothing, a served one is one of those that follow. Assumes nothing.
use Rattle.std.specs.Prelude.{◌≡◌, refl, ◌≢◌, List, ℕ, Some, Ok, Err}
use Rattle.std.proofs.Common.{sym, ap, ◌∙◌, arith, eq-eqb, ne_eqb}
use Rattle.octets.specs.Cases.{equal}
use Rattle.answers.specs.Answers.{Answer}
use Rattle.answers.specs.Answers.{OneEntry}
use Rattle.answers.specs.declared.Refusal.TheVariants.{Unusable}
use Rattle.answers.specs.Answers.{code_of, entry_code_of}
use Rattle.answers.specs.Outcome.{Outcome, Reading, Entering, Popping}
use Rattle.rolling_tape.specs.Removal.{Areas, areas}
use Rattle.beginning.specs.Transactions.{After}
use Rattle.seen.specs.Unbegun.{append-unbegun, truncate-unbegun, reader-unbegun, commit-unbegun, drop-transaction-unbegun, open-unbegun, exists-unbegun, put-unbegun, shift-unbegun, cut-unbegun, drop-unbegun, len-unbegun, start-unbegun, pop-unbegun, read-unbegun, entry-unbegun}
use Rattle.promises.specs.Calls.{Call, format, store, append, reader, truncate, open_tape, append_entries, shift_start, truncate_tape, drop_entries, pop_entry, read_entries, read_entry, tape_len, tape_start, tape_exists, commit, drop_transaction, Fits, perform, step, Exchange, exchange}
use Rattle.promises.specs.Told.{Known, concerns, OldSize, tell_as, tell_one}
use Rattle.promises.specs.Refused.{areas-leave}
use Rattle.promises.specs.Standing.{Lore, Running, Formatted, Standing, running, formatted, standing-same}
use Rattle.promises.specs.Transactions.{reader-runs, append-runs, truncate-runs}
use Rattle.promises.specs.Sessions.{store-runs, store-begins, format-runs}
use Rattle.promises.specs.Opening.{open-runs}
use Rattle.promises.specs.Handles.{shift_runs, cut-runs, drop-entries-runs, pop-runs, put-runs}
use Rattle.promises.specs.Commits.{commit-runs}
use Rattle.promises.specs.Drops as Dropped

module _ (d s : List ℕ) (K : Lore) where
  -- what is told of every name after a served call
  abbrev Then : Call → Lore
  Then c n = tell_as (K n) (perform c d s).value (concerns n (K n) c (perform c d s).value)

  -- every reopening is with the old size
  abbrev Old : Call → Type 0
  Old c = (n : List ℕ) → OldSize (K n) (concerns n (K n) c (perform c d s).value)

  served-running : Running (areas d s) K → (c : Call) → Fits c → (perform c d s).code ≡ 0 → Old c → Standing (perform c d s).areas (Then c)
  served-running r (format k) fits ok old = formatted (format-runs d s k K (perform (format k) d s).value r.orderly.disk-bytes r.orderly.session-bytes ok)
  served-running r store fits ok old = running (store-runs d s ok K r)
  served-running r append fits ok old = running (append-runs d s K r ok)
  served-running r reader fits ok old = running (reader-runs d s K r ok)
  served-running r truncate fits ok old = running (truncate-runs d s K r ok)
  served-running r (open_tape t name entry size cache start) fits ok old = running (open-runs d s t name entry size cache start K r fits.1.0 fits.1.1.1.1.1 ok old)
  served-running r (append_entries t h bs) fits ok old = running (put-runs d s t h K r bs (perform (append_entries t h bs) d s).value fits.1.1 ok)
  served-running r (shift_start t h i) fits ok old = running (shift_runs d s t h K r i (perform (shift_start t h i) d s).value ok)
  served-running r (truncate_tape t h i) fits ok old = running (cut-runs d s t h K r i (perform (truncate_tape t h i) d s).value ok)
  served-running r (drop_entries t h i) fits ok old = running (drop-entries-runs d s t h K r i (perform (drop_entries t h i) d s).value ok)
  served-running r (pop_entry t h buffer) fits ok old = running (pop-runs d s t h K r buffer ok)
  served-running r (read_entries t h i n buffer) fits ok old = running r
  served-running r (read_entry t h i buffer) fits ok old = running r
  served-running r (tape_len t h) fits ok old = running r
  served-running r (tape_start t h) fits ok old = running r
  served-running r (tape_exists t name) fits ok old = running r
  served-running r (commit t) fits ok old = running (commit-runs d s t K r ok (perform (commit t) d s).value)
  served-running r (drop_transaction t) fits ok old = running (Dropped.drop-transaction-runs d s t K r ok (perform (drop_transaction t) d s).value)

  -- before a session was begun a format and a store alone are served
  no_answer : {P : Type 0} (a : Answer) → code_of a ≡ 0 → a ≡ Err Unusable → P
  no_answer a ok e = absurd (let z : ◌≡◌ {A = ℕ} 0 1 = sym ok ∙ ap code_of e in omega arith)

  no-entry : {P : Type 0} (a : OneEntry) → entry_code_of a ≡ 0 → a ≡ Err Unusable → P
  no-entry a ok e = absurd (let z : ◌≡◌ {A = ℕ} 0 1 = sym ok ∙ ap entry_code_of e in omega arith)

  served-formatted : Formatted (areas d s) K → (c : Call) → (perform c d s).code ≡ 0 → Standing (perform c d s).areas (Then c)
  served-formatted r (format k) ok = formatted (format-runs d s k K (perform (format k) d s).value r.disk.bytes r.session ok)
  served-formatted r store ok = running (store-begins d s ok K r)
  served-formatted r append ok = no_answer _ ok (ap (λ (o : After). o.answer) (append-unbegun d s r.unbegun))
  served-formatted r reader ok = no_answer _ ok (ap (λ (o : After). o.answer) (reader-unbegun d s r.unbegun))
  served-formatted r truncate ok = no_answer _ ok (ap (λ (o : After). o.answer) (truncate-unbegun d s r.unbegun))
  served-formatted r (open_tape t name entry size cache start) ok = no_answer _ ok (ap (λ (o : Outcome). o.answer) (open-unbegun d s r.unbegun t name entry size cache start))
  served-formatted r (append_entries t h bs) ok = no_answer _ ok (ap (λ (o : Outcome). o.answer) (put-unbegun d s r.unbegun t h bs))
  served-formatted r (shift_start t h i) ok = no_answer _ ok (ap (λ (o : After). o.answer) (shift-unbegun d s r.unbegun t h i))
  served-formatted r (truncate_tape t h i) ok = no_answer _ ok (ap (λ (o : After). o.answer) (cut-unbegun d s r.unbegun t h i))
  served-formatted r (drop_entries t h i) ok = no_answer _ ok (ap (λ (o : After). o.answer) (drop-unbegun d s r.unbegun t h i))
  served-formatted r (pop_entry t h buffer) ok = no-entry _ ok (ap (λ (o : Popping). o.answer) (pop-unbegun d s r.unbegun t h buffer))
  served-formatted r (read_entries t h i n buffer) ok = no_answer _ ok (ap (λ (o : Reading). o.answer) (read-unbegun d s r.unbegun t h i n buffer))
  served-formatted r (read_entry t h i buffer) ok = no-entry _ ok (ap (λ (o : Entering). o.answer) (entry-unbegun d s r.unbegun t h i buffer))
  served-formatted r (tape_len t h) ok = no_answer _ ok (len-unbegun d s r.unbegun t h)
  served-formatted r (tape_start t h) ok = no_answer _ ok (start-unbegun d s r.unbegun t h)
  served-formatted r (tape_exists t name) ok = no_answer _ ok (exists-unbegun d s r.unbegun t name)
  served-formatted r (commit t) ok = no_answer _ ok (ap (λ (o : Outcome). o.answer) (commit-unbegun d s r.unbegun t))
  served-formatted r (drop_transaction t) ok = no_answer _ ok (ap (λ (o : After). o.answer) (drop-transaction-unbegun d s r.unbegun t))

  served-call : Standing (areas d s) K → (c : Call) → Fits c → (perform c d s).code ≡ 0 → Old c → Standing (perform c d s).areas (Then c)
  served-call (running r) c fits ok old = served-running r c fits ok old
  served-call (formatted r) c fits ok old = served-formatted r c ok

-- ---- one exchange

pub tell-refused : (n : List ℕ) (k : Known) (x : Exchange) → x.code ≢ 0 → tell_one n k x ≡ k
tell-refused n k x no_zero = rw (ne_eqb x.code 0 no_zero)

pub tell-served : (n : List ℕ) (k : Known) (x : Exchange) → x.code ≡ 0 → tell_one n k x ≡ tell_as k x.value (concerns n k x.call x.value)
tell-served n k x zero = rw (eq-eqb x.code 0 zero)

pub stands : (c : Call) (a : Areas) (K : Lore) → Fits c → ((n : List ℕ) → (step c a).code ≡ 0 → OldSize (K n) (concerns n (K n) c (step c a).value)) → Standing a K
    → Standing (step c a).areas (λ n. tell_one n (K n) (exchange c (step c a)))
unfolding step
stands c a K fits old st =
    equal (step c a).code 0
    (λ (ok : (step c a).code ≡ 0).
    standing-same (step c a).areas (step c a).areas (Then a.disk a.session K c) (λ n. tell_one n (K n) (exchange c (step c a))) refl
    (λ n. tell-served n (K n) (exchange c (step c a)) ok)
    (served-call a.disk a.session K st c fits ok (λ n. old n ok)))
    (λ (bad : (step c a).code ≢ 0).
    standing-same a (step c a).areas K (λ n. tell_one n (K n) (exchange c (step c a))) (areas-leave c a bad) (λ n. tell-refused n (K n) (exchange c (step c a)) bad) st)
