-- "Begin: 3, 4, 5, 18", behind 1. Assumes nothing.
use Rattle.std.specs.Prelude.{cond, ◌&&◌, List, ℕ, ltb, Option, Some, None}
use Rattle.answers.specs.declared.Refusal.TheVariants.{Unusable, WriterOpen, Wait, Full}
use Rattle.session.specs.Rows.{head_of, free_reader}
use Rattle.session.specs.declared.transactions.Kind.TheVariants.{Reader, Append, Truncate}
use Rattle.beginning.specs.Transactions.{After, refused, usable, is_open_at, waiting_for, begin_at}

-- "append begins, the last commit was a truncate's, and readers of an older epoch are open; value: how many"
abbrev pub waits : List ℕ → ℕ
waits s = waiting_for s (head_of s).epoch

unfoldable pub append_call : List ℕ → List ℕ → After
append_call d s =
    cond (usable d s)
    (cond (is_open_at s 16) (refused WriterOpen s) (cond ((head_of s).cut && ltb 0 (waits s)) (refused (Wait (waits s)) s) (begin_at s 16 Append)))
    (refused Unusable s)

unfoldable pub truncate_call : List ℕ → List ℕ → After
truncate_call d s = cond (usable d s) (cond (is_open_at s 16) (refused WriterOpen s) (begin_at s 16 Truncate)) (refused Unusable s)

abbrev pub reader_in : List ℕ → Option ℕ → After
reader_in s (Some t) = begin_at s t Reader
reader_in s None = refused Full s

unfoldable pub reader_call : List ℕ → List ℕ → After
reader_call d s = cond (usable d s) (reader_in s (free_reader s)) (refused Unusable s)
