-- An open append has room for every file that its bytes lack (seen's `Roomy`), and every served call keeps that. What follows after any calls is in
-- proofs/Rooms.antt. Assumes nothing.
use Rattle.std.specs.Prelude.{◌≡◌, true, false, List, ℕ, ◌<◌, Some, None, Ok, Err}
use Rattle.std.proofs.Math.Path.{refl, ap}
use Rattle.std.proofs.Common.{sym, ◌∙◌, subst, true≢false, arith}
use Rattle.std.proofs.lemmas.Bool.{false≢true}
use Rattle.octets.specs.Cases.{decide, order}
use Rattle.octets.specs.Number.{Bytes}
use Rattle.answers.specs.Answers.{OneEntry}
use Rattle.answers.specs.Answers.{code_of, entry_code_of}
use Rattle.layout.specs.Names.{name}
use Rattle.layout.specs.Session.{names_at, entry_size_of, kind_word}
use Rattle.session.specs.MeaningLaws.{is_open}
use Rattle.session.specs.declared.transactions.Kind.{Kind}
use Rattle.session.specs.declared.transactions.Kind.TheVariants as Kinds
use Rattle.session.specs.declared.transactions.Transaction.{Transaction}
use Rattle.session.specs.Rows.{transaction_of, find_transaction}
use Rattle.rolling_tape.specs.Removal.{Areas, areas}
use Rattle.beginning.specs.Calls.{reader_call, truncate_call}
use Rattle.beginning.specs.Laws.{refusal-some, reader-cases, truncate-cases}
use Rattle.beginning.specs.Sessions.{store_call}
use Rattle.beginning.specs.Transactions.{After}
use Rattle.staging.specs.Seeing.{writes}
use Rattle.appending.specs.Calls.{put_call}
use Rattle.entries.specs.Popping.{pop_call}
use Rattle.entries.specs.Laws.{pop-none}
use Rattle.ending.specs.Committing.{commit_call}
use Rattle.ending.specs.Dropping.{drop_transaction_call}
use Rattle.ending.specs.DropLaws.{drop-cases}
use Rattle.seen.specs.Orderly.{Orderly}
use Rattle.seen.specs.Begins.{begins-rows, open-kind}
use Rattle.ended.specs.Closes.{truncate-closes}
use Rattle.seen.specs.Handles.{handle-letters, handle-handled}
use Rattle.seen.specs.Cuts.{cut-to, drop-to, pop-to}
use Rattle.seen.specs.Puts.{put-found}
use Rattle.ended.specs.AppendOrder.{shut}
use Rattle.ended.specs.CutLeaves.{cut_left}
use Rattle.ended.specs.DropLeaves.{drop-left}
use Rattle.seen.specs.Restarts.{shut-stored}
use Rattle.seen.specs.Rooms.{Roomy, append-roomy, idle-roomy, cutting-roomy, reader-roomy, drop-reader-roomy, shift-roomy, cuts-roomy}
use Rattle.seen.specs.PutRooms.{put-roomy}
use Rattle.opened.proofs.OpenRooms.{open-roomy}
use Rattle.promises.specs.Calls.{Call, format, store, append, reader, truncate, open_tape, append_entries, shift_start, truncate_tape, drop_entries, pop_entry, read_entries, read_entry, tape_len, tape_start, tape_exists, commit, drop_transaction, Fits, perform}
use Rattle.promises.specs.Standing.{Lore, Running}
use Rattle.promises.specs.Drops.{reader-word}
use Rattle.promises.specs.Always.{is_inside, Lasts}
use Rattle.seen.specs.Transactions.{found-transaction}

-- a closed place has no append
closed-roomy : (d s : List ℕ) (row : Transaction) → transaction_of s 16 ≡ row → is_open row.kind ≡ false → Roomy d s
closed-roomy d s row is shut_row_lem = idle-roomy d s (open-kind s 16 ∙ ap (λ (x : Transaction). is_open x.kind) is ∙ shut_row_lem)

stored-roomy : (d s : List ℕ) → Bytes d → code_of (store_call d s).answer ≡ 0 → Roomy d (store_call d s).session
stored-roomy d s bytes served = idle-roomy d (store_call d s).session (shut-stored d s bytes served 16 (omega arith))

module _ (d s : List ℕ) (K : Lore) (r : Running (areas d s) K) where
  abbrev o : Orderly d s
  o = r.orderly

  -- ---- transactions

  began-reader : Roomy d s → code_of (reader_call d s).answer ≡ 0 → Roomy d (reader_call d s).session
  began-reader roomy =
      reader-cases (λ (a : After). code_of a.answer ≡ 0 → Roomy d (reader_call d s).session) d s (λ why e. absurd (refusal-some why e))
      (λ t may low free e. reader-roomy d s o t free roomy)

  began-truncate : code_of (truncate_call d s).answer ≡ 0 → Roomy d (truncate_call d s).session
  began-truncate =
      truncate-cases (λ (a : After). code_of a.answer ≡ 0 → Roomy d a.session) d s (λ why e. absurd (refusal-some why e))
      (λ may e.
      cutting-roomy d _ (ap (λ (x : Transaction). x.kind) (begins-rows s 16 Kinds.Truncate (omega arith) o.session o.session-bytes may.number).own))

  module _ (k : ℕ) (served : code_of (commit_call d s k).answer ≡ 0) where
    committed : Roomy (commit_call d s k).disk (commit_call d s k).session
    committed =
        decide (writes s k)
        (λ (w : writes s k ≡ true). idle-roomy _ _ (shut d s o k w served))
        (λ (w : writes s k ≡ false). closed-roomy _ _ _ (cut_left d s o k served w).shut refl)

  module _ (k : ℕ) where
    abbrev dropped : List ℕ
    dropped = (drop_transaction_call d s k).session

    dropped-writer : find_transaction s k ≡ Some 16 → (x : Kind) → (transaction_of s 16).kind ≡ x → Roomy d dropped
    unfolding transaction_of
    dropped-writer found Kinds.Closed kind = absurd (true≢false (sym (found-transaction s k 16 found).opened ∙ open-kind s 16 ∙ ap is_open kind))
    dropped-writer found Kinds.Reader kind = absurd (o.session.writer-apart (reader-word (kind_word s 16) kind))
    dropped-writer found Kinds.Append kind = closed-roomy d dropped _ (drop-left d s o k found kind).shut refl
    dropped-writer found Kinds.Truncate kind = closed-roomy d dropped _ (truncate-closes d s o k found kind).own refl

    dropped-roomy : Roomy d s → code_of (drop_transaction_call d s k).answer ≡ 0 → Roomy d dropped
    dropped-roomy roomy =
        drop-cases (λ (a : After). code_of a.answer ≡ 0 → Roomy d dropped) d s k (λ why e. absurd (refusal-some why e))
        (λ t ok found e.
        order t 16
        (λ (low : t < 16). drop-reader-roomy d s o k t found low roomy)
        (λ high.
        let at : t ≡ 16 = omega (arith, (found-transaction s k t found).low) in
        dropped-writer (found ∙ ap Some at) (transaction_of s 16).kind refl))

  -- ---- handles

  module _ (t h : ℕ) where
    put-room : (bs : List ℕ) → Bytes bs → code_of (put_call d s t h bs).answer ≡ 0 → Roomy (put_call d s t h bs).disk (put_call d s t h bs).session
    put-room bs bytes served =
        let f = put-found d s t h bs served in
        let at = f.goes.found in
        let n = name s names_at f.tape in
        let p = r.holds n (handle-letters d s o h f.tape at) in
        put-roomy d s o t h bs bytes served n (entry_size_of s f.tape) (handle-handled d s o h f.tape at) (K n).tape p.phys p.good p.seen

    popped : (buffer : List ℕ) → Roomy d s → (a : OneEntry) → (pop_call d s t h buffer).answer ≡ a → entry_code_of a ≡ 0 → Roomy d (pop_call d s t h buffer).session
    popped buffer roomy (Ok (Some i)) e z = cuts-roomy d s o t h _ (pop-to d s t h buffer i e)
    popped buffer roomy (Ok None) e z = subst (Roomy d) (sym (pop-none d s t h buffer e).0) roomy
    popped buffer roomy (Err why) e z = absurd (refusal-some why z)

  -- ---- every call in a session

  abbrev Then : Call → Type 0
  Then c = Roomy (perform c d s).areas.disk (perform c d s).areas.session

  kept : Roomy d s → (c : Call) → is_inside c ≡ true → Fits c → (perform c d s).code ≡ 0 → Then c
  kept roomy (format k) is fits ok = absurd (false≢true is)
  kept roomy store is fits ok = absurd (false≢true is)
  kept roomy append is fits ok = append-roomy d s o ok
  kept roomy reader is fits ok = began-reader roomy ok
  kept roomy truncate is fits ok = began-truncate ok
  kept roomy (open_tape t wanted entry size cache start) is fits ok = open-roomy d s t wanted entry size cache start o fits.1.0 fits.1.1.1.1.1 ok roomy
  kept roomy (append_entries t h bs) is fits ok = put-room t h bs fits.1.1 ok
  kept roomy (shift_start t h i) is fits ok = shift-roomy d s t h i o ok roomy
  kept roomy (truncate_tape t h i) is fits ok = cuts-roomy d s o t h _ (cut-to d s t h i ok)
  kept roomy (drop_entries t h i) is fits ok = cuts-roomy d s o t h _ (drop-to d s t h i ok)
  kept roomy (pop_entry t h buffer) is fits ok = popped t h buffer roomy _ refl ok
  kept roomy (read_entries t h i n buffer) is fits ok = roomy
  kept roomy (read_entry t h i buffer) is fits ok = roomy
  kept roomy (tape_len t h) is fits ok = roomy
  kept roomy (tape_start t h) is fits ok = roomy
  kept roomy (tape_exists t wanted) is fits ok = roomy
  kept roomy (commit t) is fits ok = committed t ok
  kept roomy (drop_transaction t) is fits ok = dropped-roomy t roomy ok

-- ---- after any calls

abbrev pub RoomyIn : Areas → Lore → Type 0
RoomyIn a K = Roomy a.disk a.session

pub rooms : Lasts RoomyIn
rooms =
    record {
      begins = λ d s K f ok. stored-roomy d s f.disk.bytes ok;
      renews = λ d s K r roomy ok. stored-roomy d s r.orderly.disk-bytes ok;
      keeps = λ d s K r roomy c is fits ok old. kept d s K r roomy c is fits ok;
    }
