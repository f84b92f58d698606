-- A reader or a truncate dropped keeps the starts that a truncate has staged (`seen/specs/Starts.antt`). Assumes nothing.
use Rattle.std.specs.Prelude.{◌≡◌, List, ℕ, ◌<◌, Some}
use Rattle.std.proofs.Common.{ap, ◌∙◌, arith}
use Rattle.session.specs.MeaningLaws.{is_open}
use Rattle.session.specs.declared.transactions.Kind.TheVariants as K
use Rattle.session.specs.declared.transactions.Transaction.{Transaction}
use Rattle.session.specs.Rows.{transaction_of, find_transaction}
use Rattle.ending.specs.Dropping.{drop_transaction_call}
use Rattle.seen.specs.Orderly.{Orderly}
use Rattle.seen.specs.Starts.{CutStarts, shut-starts}
use Rattle.seen.specs.Begins.{open-kind}
use Rattle.ended.specs.Closes.{reader-closes, reader-staged, truncate-closes}

pub drop-reader-starts : (d s : List ℕ) (o : Orderly d s) (k t : ℕ) (found : find_transaction s k ≡ Some t) (low : t < 16) → CutStarts s → CutStarts (drop_transaction_call d s k).session
drop-reader-starts d s o k t found low starts kind p small touched =
    let c = reader-closes d s o k t found low in
    let same = c.others 16 (omega arith) (λ e. omega arith) in
    let rows = reader-staged d s o k t found low p small in
    rw (rows, c.views 16 p (omega arith) small) (starts (rw same at kind) p small (rw rows at touched))

pub drop-truncate-starts : (d s : List ℕ) (o : Orderly d s) (k : ℕ) (found : find_transaction s k ≡ Some 16) (kind : (transaction_of s 16).kind ≡ K.Truncate)
    → CutStarts (drop_transaction_call d s k).session
drop-truncate-starts d s o k found kind = shut-starts _ (open-kind _ 16 ∙ ap (λ (r : Transaction). is_open r.kind) (truncate-closes d s o k found kind).own)
