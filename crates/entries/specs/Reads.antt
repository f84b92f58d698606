-- "Read: 11, 12, 10, 16", behind 1 and 2. "A read changes no buffer byte past its answer." Assumes nothing.
use Rattle.std.specs.Prelude.{cond, List, ℕ, ◌*◌, leb, length, Option, Some, None, Ok, Err}
use Rattle.octets.specs.Bytes.{put}
use Rattle.answers.specs.Outcome.{Reading, reading, refused_read, Entering, entering}
use Rattle.answers.specs.Answers.{Answer}
use Rattle.answers.specs.Answers.{OneEntry}
use Rattle.answers.specs.declared.Refusal.{Refusal}
use Rattle.answers.specs.declared.Refusal.TheVariants.{Unusable, Unknown, WriterOpen, Wait, Full, BadName, ReservedName, BadSize, AlreadyOpen, NotWhole, Absent, OutOfBounds, StartPastLength, LongerCut, NoSlot, Missing, BadList, TooLarge}
use Rattle.components.specs.Bounds.{in_bounds}
use Rattle.layout.specs.Session.{entry_size_of}
use Rattle.session.specs.Rows.{find_transaction, find_handle}
use Rattle.cached_tape.specs.Serving.{can_serve, served}
use Rattle.beginning.specs.Transactions.{usable}
use Rattle.staging.specs.Seeing.{seen_by}

-- ---- n entries from index i on

-- bytes that lie in bounds, into a buffer that has room for them
unfoldable pub serve_on : List ℕ → List ℕ → ℕ → ℕ → ℕ → List ℕ → Reading
serve_on d s p i n out =
    cond (can_serve d s p (i * entry_size_of s p) (n * entry_size_of s p))
    (reading (Ok n) (put out 0 (served d s p (i * entry_size_of s p) (n * entry_size_of s p))))
    (refused_read Missing out)

-- as transaction place t sees tape p
unfoldable pub read_on : List ℕ → List ℕ → ℕ → ℕ → ℕ → ℕ → List ℕ → Reading
read_on d s t p i n out =
    cond (seen_by s t p).listed
    (cond (in_bounds (entry_size_of s p) (seen_by s t p).start (seen_by s t p).len i n)
    (cond (leb (n * entry_size_of s p) (length out)) (serve_on d s p i n out) (refused_read NotWhole out))
    (refused_read OutOfBounds out))
    (refused_read Absent out)

abbrev pub read_in : List ℕ → List ℕ → ℕ → ℕ → ℕ → List ℕ → Option ℕ → Reading
read_in d s t i n out (Some p) = read_on d s t p i n out
read_in d s t i n out None = refused_read Unknown out

abbrev pub read_as : List ℕ → List ℕ → ℕ → ℕ → ℕ → List ℕ → Option ℕ → Reading
read_as d s h i n out (Some t) = read_in d s t i n out (find_handle s h)
read_as d s h i n out None = refused_read Unknown out

unfoldable pub read_call : List ℕ → List ℕ → ℕ → ℕ → ℕ → ℕ → List ℕ → Reading
read_call d s t h i n out = cond (usable d s) (read_as d s h i n out (find_transaction s t)) (refused_read Unusable out)

-- ---- one entry: "Reading one entry answers none for 12 only"

abbrev pub none_for : Refusal → OneEntry
none_for Unusable = Err Unusable
none_for Unknown = Err Unknown
none_for WriterOpen = Err WriterOpen
none_for (Wait n) = Err (Wait n)
none_for Full = Err Full
none_for BadName = Err BadName
none_for ReservedName = Err ReservedName
none_for BadSize = Err BadSize
none_for AlreadyOpen = Err AlreadyOpen
none_for NotWhole = Err NotWhole
none_for Absent = Err Absent
none_for OutOfBounds = (Ok None)
none_for StartPastLength = Err StartPastLength
none_for LongerCut = Err LongerCut
none_for NoSlot = Err NoSlot
none_for Missing = Err Missing
none_for BadList = Err BadList
none_for TooLarge = Err TooLarge

abbrev pub one_of : ℕ → Answer → OneEntry
one_of i (Ok n) = Ok (Some i)
one_of i (Err why) = none_for why

unfoldable pub entry_call : List ℕ → List ℕ → ℕ → ℕ → ℕ → List ℕ → Entering
entry_call d s t h i out = entering (one_of i (read_call d s t h i 1 out).answer) (read_call d s t h i 1 out).buffer
