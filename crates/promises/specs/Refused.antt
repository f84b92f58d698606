-- A refused call leaves both areas byte for byte, whatever they hold. Assumes nothing.
use Rattle.std.specs.Prelude.{◌≡◌, refl, ◌≢◌, List, ℕ}
use Rattle.std.proofs.Common.{ap}
use Rattle.rolling_tape.specs.Removal.{Areas, areas}
use Rattle.beginning.specs.Laws.{format-refused, truncate-refused, reader-refused}
use Rattle.beginning.proofs.Laws.{append-refused}
use Rattle.beginning.specs.StoreLaws.{store-refused}
use Rattle.staging.specs.Laws.{shift-refused, cut-refused, drop-refused}
use Rattle.appending.specs.Laws.{put_refused}
use Rattle.entries.specs.Laws.{pop-refused}
use Rattle.opening.specs.Laws.{open-refused}
use Rattle.ending.specs.CommitLaws.{commit-refused}
use Rattle.ending.specs.DropLaws as Dropped
use Rattle.promises.specs.Calls.{Call, format, store, append, reader, truncate, open_tape, append_entries, shift_start, truncate_tape, drop_entries, pop_entry, read_entries, read_entry, tape_len, tape_start, tape_exists, commit, drop_transaction, perform, step}

both : {d e s u : List ℕ} → (e ≡ d) × (u ≡ s) → areas e u ≡ areas d s
both (p, q) = λ i. record { disk = p i; session = q i }

leaves : (c : Call) (d s : List ℕ) → (perform c d s).code ≢ 0 → (perform c d s).areas ≡ areas d s
leaves (format n) d s why = both (format-refused d s n why)
leaves store d s why = ap (areas d) (store-refused d s why)
leaves append d s why = ap (areas d) (append-refused d s why)
leaves reader d s why = ap (areas d) (reader-refused d s why)
leaves truncate d s why = ap (areas d) (truncate-refused d s why)
leaves (open_tape t name entry size cache start) d s why = both (open-refused d s t name entry size cache start why)
leaves (append_entries t h bs) d s why = both (put_refused d s t h bs why)
leaves (shift_start t h n) d s why = ap (areas d) (shift-refused d s t h n why)
leaves (truncate_tape t h n) d s why = ap (areas d) (cut-refused d s t h n why)
leaves (drop_entries t h n) d s why = ap (areas d) (drop-refused d s t h n why)
leaves (pop_entry t h buffer) d s why = ap (areas d) (pop-refused d s t h buffer why).0
leaves (read_entries t h i n buffer) d s why = refl
leaves (read_entry t h i buffer) d s why = refl
leaves (tape_len t h) d s why = refl
leaves (tape_start t h) d s why = refl
leaves (tape_exists t name) d s why = refl
leaves (commit t) d s why = both (commit-refused d s t why)
leaves (drop_transaction t) d s why = ap (areas d) (Dropped.drop-refused d s t why)

-- both areas
pub areas-leave : (c : Call) (a : Areas) → (step c a).code ≢ 0 → (step c a).areas ≡ a
unfolding step
areas-leave c a why = leaves c a.disk a.session why
