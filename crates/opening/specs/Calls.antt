-- "Open: 6, 8 (entry), 10, 8 (file), 7, 8 (cache), 9, 5, 16, 18", behind 1 and 2. Assumes nothing.
use Rattle.std.specs.Prelude.{Bool, true, false, cond, not, ◌&&◌, List, [], ℕ, ◌+◌, ◌-◌, eqb, Option, Some, None, Result, Ok, Err}
use Rattle.answers.specs.Outcome.{Outcome, outcome, refused_at}
use Rattle.answers.specs.declared.Refusal.{Refusal}
use Rattle.answers.specs.declared.Refusal.TheVariants.{Unusable, Unknown, Full, AlreadyOpen, Missing, TooLarge}
use Rattle.layout.specs.Disk.{directories}
use Rattle.layout.specs.Names.{find_name, put_name}
use Rattle.layout.specs.Session.{names_at, handle_number}
use Rattle.session.specs.Rows.{head_of, put_head, view_of, transaction_of, put_handle, put_staged}
use Rattle.session.specs.Meaning.{no_view}
use Rattle.session.specs.declared.head.Head.{Head}
use Rattle.session.specs.declared.tape_rows.Handle.{Handle}
use Rattle.session.specs.declared.tape_rows.Staged.{Staged}
use Rattle.session.specs.declared.views.View.{View}
use Rattle.rolling_tape.specs.Reading.{can_read, read_run}
use Rattle.rolling_tape.specs.Removal.{areas}
use Rattle.cached_tape.specs.Filling.{first_cached, filled_with}
use Rattle.beginning.specs.Transactions.{usable}
use Rattle.staging.specs.Seeing.{writes}
use Rattle.opening.specs.declared.shape.Opening.{Opening}
use Rattle.opening.specs.Shape.{opening_of, shape_of}
use Rattle.opening.specs.NamesLeft.{is_nothing, is_ninth}
use Rattle.opening.specs.Directory.{readied}

-- ---- what the cache is filled with

abbrev pub cached_from : Opening → ℕ
cached_from o = first_cached o.cache o.len o.start

-- of a tape that is not listed there is nothing
abbrev pub cached_count : Opening → ℕ
cached_count o = cond o.listed (o.len - cached_from o) 0

-- these bytes lie below the length, so their files are among those that the open will track
abbrev pub can_fill : List ℕ → List ℕ → List ℕ → Opening → Bool
can_fill d s wanted o = can_read d s false wanted o.file_size (cached_from o) (cached_count o)

abbrev pub cached_bytes : List ℕ → List ℕ → Opening → List ℕ
cached_bytes d wanted o = read_run d wanted o.file_size (cached_from o) (cached_count o)

-- ---- the tape's row

abbrev pub next_handle : List ℕ → ℕ
next_handle s = (head_of s).last_handle + 1

-- its staged record and its handle
abbrev pub row_staged : Opening → Staged
row_staged o = record { touched = true; base = o.len; len = o.len; start = o.start; unwritten = 0 }

abbrev pub row_handle : List ℕ → Opening → Handle
row_handle s o = record { number = next_handle s; entry = o.entry; file_size = o.file_size }

-- a session's own fields, with the handle's number as the last one given
abbrev pub handed : Head → Head
handed h = record { epoch = h.epoch; cut = h.cut; side = h.side; last_transaction = h.last_transaction; last_handle = h.last_handle + 1 }

-- ring and these, in place p
unfoldable pub rowed : List ℕ → ℕ → Opening → List ℕ → List ℕ
rowed s p o bs = put_head (put_handle (put_staged (filled_with s p o.cache (cached_from o) bs) p (row_staged o)) p (row_handle s o)) (handed (head_of s))

-- ---- the tape in place p

-- its cache filled with some bytes
unfoldable pub open_with : List ℕ → List ℕ → List ℕ → Opening → Option ℕ → ℕ → List ℕ → Outcome
open_with d s wanted o directory p bs =
    outcome (Ok (next_handle s))
    (readied (areas d s) wanted o (transaction_of s 16).epoch directory).disk
    (rowed (put_name (readied (areas d s) wanted o (transaction_of s 16).epoch directory).session names_at p wanted) p o bs)

unfoldable pub open_now : List ℕ → List ℕ → List ℕ → Opening → Option ℕ → ℕ → Outcome
open_now d s wanted o directory p = open_with d s wanted o directory p (cached_bytes d wanted o)

unfoldable pub open_in : List ℕ → List ℕ → List ℕ → Opening → Option ℕ → ℕ → Outcome
open_in d s wanted o directory p =
    cond (is_ninth d s o.listed directory) (refused_at Full d s)
    (cond (o.listed && is_nothing directory) (refused_at Missing d s)
    (cond (can_fill d s wanted o)
    (cond (eqb (head_of s).last_handle 0xffff_ffff_ffff_ffff) (refused_at TooLarge d s) (open_now d s wanted o directory p))
    (refused_at Missing d s)))

-- ---- the tape of a name

-- its place in the session
abbrev pub place_of : List ℕ → List ℕ → Option ℕ
place_of s wanted = find_name s names_at wanted

abbrev pub view_found : List ℕ → Option ℕ → View
view_found s (Some p) = view_of s 16 p
view_found s None = no_view

-- it has a handle
abbrev pub is_open_tape : List ℕ → Option ℕ → Bool
is_open_tape s (Some p) = not (eqb (handle_number s p) 0)
is_open_tape s None = false

-- what is opened
abbrev pub opened : List ℕ → List ℕ → ℕ → ℕ → ℕ → ℕ → Opening
opened s wanted entry fs cache start = opening_of (view_found s (place_of s wanted)) entry fs cache start

-- the place that the tape has, else the first free one
abbrev pub place_for : List ℕ → Option ℕ → Option ℕ
place_for s (Some p) = Some p
place_for s None = find_name s names_at []

abbrev pub open_placed : List ℕ → List ℕ → List ℕ → Opening → Option ℕ → Outcome
open_placed d s wanted o (Some p) = open_in d s wanted o (find_name d directories wanted) p
open_placed d s wanted o None = refused_at Full d s

unfoldable pub open_at : List ℕ → List ℕ → List ℕ → Opening → Option ℕ → Outcome
open_at d s wanted o tape = cond (is_open_tape s tape) (refused_at AlreadyOpen d s) (open_placed d s wanted o (place_for s tape))

abbrev pub open_shaped : List ℕ → List ℕ → List ℕ → Opening → Option ℕ → Result Unit Refusal → Outcome
open_shaped d s wanted o tape (Ok v) = open_at d s wanted o tape
open_shaped d s wanted o tape (Err why) = refused_at why d s

unfoldable pub open_on : List ℕ → List ℕ → List ℕ → Opening → Option ℕ → Outcome
open_on d s wanted o tape = open_shaped d s wanted o tape (shape_of wanted o)

unfoldable pub open_call : List ℕ → List ℕ → ℕ → List ℕ → ℕ → ℕ → ℕ → ℕ → Outcome
open_call d s t wanted entry fs cache start =
    cond (usable d s)
    (cond (writes s t)
    (open_on d s wanted (opened s wanted entry fs cache start) (place_of s wanted))
    (refused_at Unknown d s))
    (refused_at Unusable d s)
