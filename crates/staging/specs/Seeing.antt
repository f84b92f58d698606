-- A tape as a transaction sees it: its view, and for the writer what it has staged. Assumes nothing.
use Rattle.std.specs.Prelude.{Bool, true, false, cond, ◌&&◌, List, ℕ, ◌/◌, eqb, Option, Some, None, Ok, Err}
use Rattle.answers.specs.Answers.{Answer}
use Rattle.answers.specs.declared.Refusal.TheVariants.{Unusable, Unknown, Absent}
use Rattle.layout.specs.Disk.{directories}
use Rattle.layout.specs.Names.{name, find_name}
use Rattle.layout.specs.Session.{names_at}
use Rattle.session.specs.Rows.{view_of, staged_of, handle_of, transaction_of, find_transaction, find_handle}
use Rattle.session.specs.declared.views.View.{View}
use Rattle.session.specs.declared.tape_rows.Staged.{Staged}
use Rattle.session.specs.declared.transactions.Kind.{Kind}
use Rattle.session.specs.declared.transactions.Kind.TheVariants.{Closed, Reader, Append, Truncate}
use Rattle.beginning.specs.Transactions.{usable}

-- the directory of tape p's name
abbrev pub directory_of : List ℕ → List ℕ → ℕ → Option ℕ
directory_of d s p = find_name d directories (name s names_at p)

-- transaction place t's view of tape p; the writer's place is 16
unfoldable pub seen_by : List ℕ → ℕ → ℕ → View
seen_by s t p =
    cond (eqb t 16 && (staged_of s p).touched) (record { listed = true; len = (staged_of s p).len; start = (staged_of s p).start }) (view_of s t p)

-- the staged record of a tape that the writer touches now
unfoldable pub touched_as : List ℕ → ℕ → Staged
touched_as s p =
    cond (staged_of s p).touched (staged_of s p)
    (record { touched = true; base = (view_of s 16 p).len; len = (view_of s 16 p).len; start = (view_of s 16 p).start; unwritten = 0 })

abbrev pub is_append : Kind → Bool
is_append Closed = false
is_append Reader = false
is_append Append = true
is_append Truncate = false

abbrev pub is_truncate : Kind → Bool
is_truncate Closed = false
is_truncate Reader = false
is_truncate Append = false
is_truncate Truncate = true

-- the open append, or truncate, has this number
unfoldable pub writes : List ℕ → ℕ → Bool
writes s n = is_append (transaction_of s 16).kind && eqb (transaction_of s 16).number n

unfoldable pub cuts : List ℕ → ℕ → Bool
cuts s n = is_truncate (transaction_of s 16).kind && eqb (transaction_of s 16).number n

-- "On a handle, indexes, lengths, counts and shifted starts are in entries"
abbrev pub in_entries : List ℕ → ℕ → ℕ → ℕ
in_entries s p bytes = bytes / (handle_of s p).entry

unfoldable pub len_on : List ℕ → ℕ → ℕ → Answer
len_on s t p = cond (seen_by s t p).listed (Ok (in_entries s p (seen_by s t p).len)) (Err Absent)

unfoldable pub start_on : List ℕ → ℕ → ℕ → Answer
start_on s t p = cond (seen_by s t p).listed (Ok (in_entries s p (seen_by s t p).start)) (Err Absent)

-- 2 for a transaction or a handle that there is not
abbrev pub on_both : (ℕ → ℕ → Answer) → Option ℕ → (Option ℕ) → Answer
on_both call (Some t) (Some p) = call t p
on_both call (Some t) None = Err Unknown
on_both call None q = Err Unknown

unfoldable pub len_call : List ℕ → List ℕ → ℕ → ℕ → Answer
len_call d s t h = cond (usable d s) (on_both (len_on s) (find_transaction s t) (find_handle s h)) (Err Unusable)

unfoldable pub start_call : List ℕ → List ℕ → ℕ → ℕ → Answer
start_call d s t h = cond (usable d s) (on_both (start_on s) (find_transaction s t) (find_handle s h)) (Err Unusable)
