-- The steps of a commit: data go to the files, the list is published, the record is written, files that nobody needs are removed, and the writer's place
-- is closed, in this order. Assumes nothing.
use Rattle.std.specs.Prelude.{Bool, cond, List, ℕ, ◌+◌, Option, Some, None}
use Rattle.octets.specs.Sweep.{sweep}
use Rattle.components.specs.Pieces.{file_of}
use Rattle.metadata.specs.Tapes.{encode_list}
use Rattle.metadata.specs.Struct.{tapes_of}
use Rattle.metadata.specs.declared.list.TapeList.{TapeList}
use Rattle.metadata.specs.Record.{encode_record}
use Rattle.metadata.specs.declared.choice.Side.{Side}
use Rattle.metadata.specs.declared.choice.Side.TheVariants.{Left, Right}
use Rattle.layout.specs.Session.{file_size_of}
use Rattle.ring_buffer.specs.Ring.{truncated}
use Rattle.disk.specs.Steps.{write_side}
use Rattle.session.specs.Rows.{head_of, put_head, view_of, put_view, ring_of, put_ring, staged_of, put_staged, put_transaction}
use Rattle.session.specs.Meaning.{closed, untouched}
use Rattle.rolling_tape.specs.Removal.{Areas, areas, remove_ripe}
use Rattle.rolling_tape.specs.Tracking.{retracked}
use Rattle.rolling_tape.specs.declared.tracking.Change.TheVariants.{MarkBelow, ClearFrom}
use Rattle.cached_tape.specs.Flushing.{flushed}
use Rattle.staging.specs.Seeing.{directory_of}
use Rattle.ending.specs.Listing.{is_touched, published}

-- ---- what the files lack of each tape that was touched

abbrev pub flush_in : Areas → ℕ → Option ℕ → Areas
flush_in a p (Some place) = flushed a place p (staged_of a.session p)
flush_in a p None = a

unfoldable pub flush_tape : ℕ → Areas → Areas
flush_tape p a = cond (is_touched a.session p) (flush_in a p (directory_of a.disk a.session p)) a

abbrev pub flush_all : Areas → Areas
flush_all a = sweep flush_tape 8 0 a

-- ---- the list

unfoldable pub publish_tape : Bool → ℕ → List ℕ → List ℕ
publish_tape cut p s = put_view s 17 p (published s cut p)

abbrev pub publish_all : Bool → List ℕ → List ℕ
publish_all cut s = sweep (publish_tape cut) 8 0 s

-- ---- the record, and the session's own fields: "Every commit raises the epoch by 1, also an empty one"; "The next write goes to the other file"

unfoldable pub recorded : List ℕ → List ℕ → TapeList → List ℕ
recorded d s list = write_side d (head_of s).side (encode_record ((head_of s).epoch + 1) (encode_list (tapes_of list)))

abbrev pub other_side : Side → Side
other_side Left = Right
other_side Right = Left

unfoldable pub advanced : Bool → List ℕ → List ℕ
advanced cut s =
    put_head s
    (record {
      epoch = (head_of s).epoch + 1;
      cut = cut;
      side = other_side (head_of s).side;
      last_transaction = (head_of s).last_transaction;
      last_handle = (head_of s).last_handle;
    })

-- ---- marks and removal, of an append: "tracked files below start's file get the epoch at which this transaction began, if unmarked; from the lowest number
-- on, files marked below the oldest other transaction's epoch are removed"

unfoldable pub ripened_at : Areas → ℕ → ℕ → ℕ → ℕ → Areas
ripened_at a began oldest p place =
    remove_ripe
    (areas a.disk
    (retracked a.disk a.session place (MarkBelow (file_of (file_size_of a.session p) (view_of a.session 17 p).start) began)))
    place oldest

abbrev pub ripen_in : Areas → ℕ → ℕ → ℕ → Option ℕ → Areas
ripen_in a began oldest p (Some place) = ripened_at a began oldest p place
ripen_in a began oldest p None = a

unfoldable pub ripen_tape : ℕ → ℕ → ℕ → Areas → Areas
ripen_tape began oldest p a =
    cond (is_touched a.session p) (ripen_in a began oldest p (directory_of a.disk a.session p)) a

abbrev pub ripen_all : ℕ → ℕ → Areas → Areas
ripen_all began oldest a = sweep (ripen_tape began oldest) 8 0 a

-- ---- of a truncate: the ring is cut, and "clears the marks from len's file upward"

-- nothing is staged any more, and the ring holds nothing above the new length; its first index stays
unfoldable pub cut_ring : ℕ → List ℕ → List ℕ
cut_ring p s = put_ring (put_staged s p untouched) p (truncated (ring_of s p) (staged_of s p).len)

abbrev pub clear_in : List ℕ → List ℕ → ℕ → ℕ → Option ℕ → List ℕ
clear_in d s fs len (Some place) = retracked d s place (ClearFrom (file_of fs len))
clear_in d s fs len None = s

unfoldable pub cut_tape : List ℕ → ℕ → List ℕ → List ℕ
cut_tape d p s =
    cond (is_touched s p) (clear_in d (cut_ring p s) (file_size_of s p) (staged_of s p).len (directory_of d s p)) s

abbrev pub cut_all : List ℕ → List ℕ → List ℕ
cut_all d s = sweep (cut_tape d) 8 0 s

-- ---- the writer's place

unfoldable pub unstage : ℕ → List ℕ → List ℕ
unstage p s = put_staged s p untouched

unfoldable pub close_writer : List ℕ → List ℕ
close_writer s = put_transaction (sweep unstage 8 0 s) 16 closed
