-- A refused call leaves both areas and its buffer byte for byte, and its value is 0 but for a 4. Assumes nothing.
use Rattle.std.specs.Prelude.{◌≡◌, refl, ◌≢◌, List, ℕ, Some, None, Ok, Err}
use Rattle.answers.specs.Answers.{Answer}
use Rattle.answers.specs.Answers.{OneEntry}
use Rattle.answers.specs.declared.Refusal.{Refusal}
use Rattle.answers.specs.declared.Refusal.TheVariants.{Unusable, Unknown, WriterOpen, Wait, Full, BadName, ReservedName, BadSize, AlreadyOpen, NotWhole, Absent, OutOfBounds, StartPastLength, LongerCut, NoSlot, Missing, BadList, TooLarge}
use Rattle.answers.specs.Answers.{refusal_number, refusal_value, code_of, value_of, entry_code_of, entry_value_of}
use Rattle.beginning.specs.Disks.{format_call}
use Rattle.beginning.specs.Sessions.{store_call}
use Rattle.beginning.specs.Calls.{append_call, truncate_call, reader_call}
use Rattle.staging.specs.Seeing.{len_call, start_call}
use Rattle.staging.specs.Shifting.{shift_call}
use Rattle.staging.specs.Cutting.{cut_call, drop_call}
use Rattle.appending.specs.Calls.{put_call}
use Rattle.entries.specs.Reads.{read_call, entry_call}
use Rattle.entries.specs.Popping.{pop_call}
use Rattle.entries.specs.Existing.{exists_call}
use Rattle.opening.specs.Calls.{open_call}
use Rattle.ending.specs.Committing.{commit_call}
use Rattle.ending.specs.Dropping.{drop_transaction_call}
use Rattle.entries.specs.Laws.{read-refused, entry-refused, pop-refused}
use Rattle.promises.specs.Calls.{Call, format, store, append, reader, truncate, open_tape, append_entries, shift_start, truncate_tape, drop_entries, pop_entry, read_entries, read_entry, tape_len, tape_start, tape_exists, commit, drop_transaction, perform, step}
use Rattle.promises.specs.Promise.{buffer_of, RefusedLeaves}
use Rattle.promises.specs.Refused.{areas-leave}

-- ---- values

no-count : (why : Refusal) → refusal_number why ≢ 4 → refusal_value why ≡ 0
no-count Unusable other = refl
no-count Unknown other = refl
no-count WriterOpen other = refl
no-count (Wait n) other = absurd (other refl)
no-count Full other = refl
no-count BadName other = refl
no-count ReservedName other = refl
no-count BadSize other = refl
no-count AlreadyOpen other = refl
no-count NotWhole other = refl
no-count Absent other = refl
no-count OutOfBounds other = refl
no-count StartPastLength other = refl
no-count LongerCut other = refl
no-count NoSlot other = refl
no-count Missing other = refl
no-count BadList other = refl
no-count TooLarge other = refl

no_value : (a : Answer) → code_of a ≢ 0 → code_of a ≢ 4 → value_of a ≡ 0
no_value (Ok v) why other = absurd (why refl)
no_value (Err because) why other = no-count because other

no-entry-value : (a : OneEntry) → entry_code_of a ≢ 0 → entry_code_of a ≢ 4 → entry_value_of a ≡ 0
no-entry-value (Ok (Some i)) why other = absurd (why refl)
no-entry-value (Ok None) why other = absurd (why refl)
no-entry-value (Err because) why other = no-count because other

-- ---- of each call

abbrev Left : Call → List ℕ → List ℕ → Type 0
Left c d s = ((perform c d s).buffer ≡ buffer_of c) × ((perform c d s).code ≢ 4 → (perform c d s).value ≡ 0)

leaves : (c : Call) (d s : List ℕ) → (perform c d s).code ≢ 0 → Left c d s
leaves (format n) d s why = (refl, no_value (format_call d s n).answer why)
leaves store d s why = (refl, no_value (store_call d s).answer why)
leaves append d s why = (refl, no_value (append_call d s).answer why)
leaves reader d s why = (refl, no_value (reader_call d s).answer why)
leaves truncate d s why = (refl, no_value (truncate_call d s).answer why)
leaves (open_tape t name entry size cache start) d s why = (refl, no_value (open_call d s t name entry size cache start).answer why)
leaves (append_entries t h bs) d s why = (refl, no_value (put_call d s t h bs).answer why)
leaves (shift_start t h n) d s why = (refl, no_value (shift_call d s t h n).answer why)
leaves (truncate_tape t h n) d s why = (refl, no_value (cut_call d s t h n).answer why)
leaves (drop_entries t h n) d s why = (refl, no_value (drop_call d s t h n).answer why)
leaves (pop_entry t h buffer) d s why = ((pop-refused d s t h buffer why).1, no-entry-value (pop_call d s t h buffer).answer why)
leaves (read_entries t h i n buffer) d s why = (read-refused d s t h i buffer n why, no_value (read_call d s t h i n buffer).answer why)
leaves (read_entry t h i buffer) d s why = (entry-refused d s t h i buffer why, no-entry-value (entry_call d s t h i buffer).answer why)
leaves (tape_len t h) d s why = (refl, no_value (len_call d s t h) why)
leaves (tape_start t h) d s why = (refl, no_value (start_call d s t h) why)
leaves (tape_exists t name) d s why = (refl, no_value (exists_call d s t name) why)
leaves (commit t) d s why = (refl, no_value (commit_call d s t).answer why)
leaves (drop_transaction t) d s why = (refl, no_value (drop_transaction_call d s t).answer why)

pub refused-leaves : RefusedLeaves
unfolding step
refused-leaves c a why = (areas-leave c a why, leaves c a.disk a.session why)
