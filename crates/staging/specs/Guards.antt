-- What a call on a handle asks first: 1, then 2; and 11, where it is to see the tape. Assumes nothing.
use Rattle.std.specs.Prelude.{Bool, cond, ◌&&◌, List, ℕ, ◌*◌, eqb, Option, Some, None, Result, Ok, Err, ok_or}
use Rattle.answers.specs.declared.Refusal.{Refusal}
use Rattle.answers.specs.declared.Refusal.TheVariants.{Unusable, Unknown, Absent}
use Rattle.session.specs.Rows.{transaction_of, kind_code, handle_of, find_transaction, find_handle}
use Rattle.session.specs.declared.views.View.{View}
use Rattle.session.specs.declared.transactions.Kind.{Kind}
use Rattle.session.specs.declared.transactions.Kind.TheVariants.{Closed, Reader, Append, Truncate}
use Rattle.components.specs.Bounds.{up_to}
use Rattle.beginning.specs.Transactions.{usable}
use Rattle.staging.specs.Seeing.{is_append, is_truncate, seen_by}

abbrev pub is_kind : Kind → Kind → Bool
is_kind Closed k = eqb (kind_code k) 0
is_kind Reader k = eqb (kind_code k) 1
is_kind Append k = is_append k
is_kind Truncate k = is_truncate k

-- the open writer is of this kind and has this number
unfoldable pub writer_is : List ℕ → Kind → ℕ → Bool
writer_is s k n = is_kind k (transaction_of s 16).kind && eqb (transaction_of s 16).number n

abbrev pub both : Option ℕ → Option ℕ → Result (ℕ × ℕ) Refusal
both (Some t) (Some p) = Ok (t, p)
both (Some t) None = Err Unknown
both None q = Err Unknown

-- the place of a transaction and the tape of a handle: 1, then 2 for one that there is not
unfoldable pub tape_to_read : List ℕ → List ℕ → ℕ → ℕ → Result (ℕ × ℕ) Refusal
tape_to_read d s t h = cond (usable d s) (both (find_transaction s t) (find_handle s h)) (Err Unusable)

-- the tape of a handle, for the open writer of a kind
unfoldable pub tape_to_change : List ℕ → List ℕ → Kind → ℕ → ℕ → Result ℕ Refusal
tape_to_change d s k t h = cond (usable d s) (cond (writer_is s k t) (ok_or (find_handle s h) Unknown) (Err Unknown)) (Err Unusable)

-- what transaction place t sees of tape p: 11 where it is absent
unfoldable pub listed_by : List ℕ → ℕ → ℕ → Result View Refusal
listed_by s t p = cond (seen_by s t p).listed (Ok (seen_by s t p)) (Err Absent)

-- an index that is not past the length that the writer sees, in bytes
unfoldable pub offset_up_to : List ℕ → ℕ → ℕ → Refusal → Result ℕ Refusal
offset_up_to s p i past =
    cond (seen_by s 16 p).listed
    (cond (up_to (handle_of s p).entry i (seen_by s 16 p).len) (Ok (i * (handle_of s p).entry)) (Err past))
    (Err Absent)
