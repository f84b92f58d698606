-- After any calls of a running session: names are ones that an open takes, and listed tapes have their directories (seen's `Proper`). Assumes nothing.
use Rattle.std.specs.Prelude.{◌≡◌, true, List, ℕ}
use Rattle.std.proofs.lemmas.Bool.{false≢true}
use Rattle.rolling_tape.specs.Removal.{Areas}
use Rattle.seen.specs.Orderly.{Orderly}
use Rattle.seen.specs.Proper.{Proper}
use Rattle.seen.specs.ProperLaws.{append-proper, truncate-proper, reader-proper, shift-proper, cut-proper, drop-entries-proper, pop-proper, put-proper}
use Rattle.opened.specs.OpenProper.{open-proper}
use Rattle.ended.specs.EndProper.{commit-proper, drop-transaction-proper}
use Rattle.seen.specs.ProperStarts.{store-proper, blank-proper}
use Rattle.promises.specs.Calls.{Call, format, store, append, reader, truncate, open_tape, append_entries, shift_start, truncate_tape, drop_entries, pop_entry, read_entries, read_entry, tape_len, tape_start, tape_exists, commit, drop_transaction, Fits, perform}
use Rattle.promises.specs.Standing.{Lore}
use Rattle.promises.specs.Always.{is_inside, Lasts}

module _ (d s : List ℕ) (o : Orderly d s) where
  abbrev Left : Call → Type 0
  Left c = Proper (perform c d s).areas.disk (perform c d s).areas.session

  kept-proper : Proper d s → (c : Call) → is_inside c ≡ true → Fits c → Left c
  kept-proper p (format k) is fits = absurd (false≢true is)
  kept-proper p store is fits = absurd (false≢true is)
  kept-proper p append is fits = append-proper d s o p
  kept-proper p reader is fits = reader-proper d s o p
  kept-proper p truncate is fits = truncate-proper d s o p
  kept-proper p (open_tape t wanted entry size cache start) is fits = open-proper d s o t wanted entry size cache start fits.1.0 fits.1.1.1.1.1 p
  kept-proper p (append_entries t h bs) is fits = put-proper d s o t h bs p
  kept-proper p (shift_start t h i) is fits = shift-proper d s o t h i p
  kept-proper p (truncate_tape t h i) is fits = cut-proper d s o t h i p
  kept-proper p (drop_entries t h i) is fits = drop-entries-proper d s o t h i p
  kept-proper p (pop_entry t h buffer) is fits = pop-proper d s o t h buffer p
  kept-proper p (read_entries t h i n buffer) is fits = p
  kept-proper p (read_entry t h i buffer) is fits = p
  kept-proper p (tape_len t h) is fits = p
  kept-proper p (tape_start t h) is fits = p
  kept-proper p (tape_exists t wanted) is fits = p
  kept-proper p (commit t) is fits = commit-proper d s o t p
  kept-proper p (drop_transaction t) is fits = drop-transaction-proper d s o t p

abbrev pub ProperIn : Areas → Lore → Type 0
ProperIn a K = Proper a.disk a.session

pub propers : Lasts ProperIn
propers =
    record {
      begins = λ d s K f ok. blank-proper d f.slots f.empty f.disk.bytes s ok;
      renews = λ d s K r proper ok. store-proper d s r.orderly proper s ok;
      keeps = λ d s K r proper c is fits ok old. kept-proper d s r.orderly proper c is fits;
    }
