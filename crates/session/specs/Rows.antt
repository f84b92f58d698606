-- The rows of the session's area (`docs/LAYOUT.md`): what each function reads, and what the area holds after it writes. Assumes nothing.
use Rattle.std.specs.Prelude.{Bool, true, false, cond, not, ◌&&◌, List, [], ◌∷◌, ℕ, ◌+◌, eqb, take, drop, Option}
use Rattle.octets.specs.Bytes.{put}
use Rattle.octets.specs.Number.{num_at}
use Rattle.octets.specs.First.{first}
use Rattle.octets.specs.Words.{put_words}
use Rattle.layout.specs.Session.{head_at, views_at, view_at, transaction_at, kind_word, tape_at, tape_word, handle_number, tracking_at, ring_at}
use Rattle.metadata.specs.declared.choice.Side.{Side}
use Rattle.metadata.specs.declared.choice.Side.TheVariants.{Left, Right}
use Rattle.ring_buffer.specs.Ring.{around}
use Rattle.ring_buffer.specs.declared.bookkeeping.RingBuffer.{RingBuffer}
use Rattle.session.specs.declared.head.Head.{Head}
use Rattle.session.specs.declared.views.View.{View}
use Rattle.session.specs.declared.transactions.Kind.{Kind}
use Rattle.session.specs.declared.transactions.Kind.TheVariants.{Closed, Reader, Append, Truncate}
use Rattle.session.specs.declared.transactions.Transaction.{Transaction}
use Rattle.session.specs.declared.tape_rows.Handle.{Handle}
use Rattle.session.specs.declared.tape_rows.Staged.{Staged}
use Rattle.session.specs.declared.tracking.Tracking.{Tracking}
use Rattle.session.specs.declared.tracking.Tracking.TheVariants.{Untracked, Tracked, Marked}

-- ---- a flag as a word

abbrev pub flag : ℕ → Bool
flag w = not (eqb w 0)

abbrev pub flag_word : Bool → ℕ
flag_word true = 1
flag_word false = 0

-- ---- the session's own fields

abbrev pub side_for : ℕ → Side
side_for w = cond (eqb w 0) Left Right

abbrev pub side_word : Side → ℕ
side_word Left = 0
side_word Right = 1

unfoldable pub head_of : List ℕ → Head
head_of s =
    record {
      epoch = num_at 8 s head_at;
      cut = flag (num_at 8 s (head_at + 8));
      side = side_for (num_at 8 s (head_at + 16));
      last_transaction = num_at 8 s (head_at + 24);
      last_handle = num_at 8 s (head_at + 32);
    }

abbrev pub head_words : Head → List ℕ
head_words h = h.epoch ∷ flag_word h.cut ∷ side_word h.side ∷ h.last_transaction ∷ h.last_handle ∷ []

unfoldable pub put_head : List ℕ → Head → List ℕ
put_head s h = put_words s head_at (head_words h)

-- ---- views

unfoldable pub view_of : List ℕ → ℕ → ℕ → View
view_of s w p = record { listed = flag (num_at 8 s (view_at w p)); len = num_at 8 s (view_at w p + 8); start = num_at 8 s (view_at w p + 16) }

abbrev pub view_words : View → List ℕ
view_words v = flag_word v.listed ∷ v.len ∷ v.start ∷ []

unfoldable pub put_view : List ℕ → ℕ → ℕ → View → List ℕ
put_view s w p v = put_words s (view_at w p) (view_words v)

-- a whole view over another
unfoldable pub copy_view : List ℕ → ℕ → ℕ → List ℕ
copy_view s from to = put s (views_at to) (take 192 (drop (views_at from) s))

-- ---- transactions

abbrev pub kind_for : ℕ → Kind
kind_for w = cond (eqb w 0) Closed (cond (eqb w 1) Reader (cond (eqb w 2) Append Truncate))

abbrev pub kind_code : Kind → ℕ
kind_code Closed = 0
kind_code Reader = 1
kind_code Append = 2
kind_code Truncate = 3

unfoldable pub transaction_of : List ℕ → ℕ → Transaction
transaction_of s t =
    record { kind = kind_for (kind_word s t); number = num_at 8 s (transaction_at t + 8); epoch = num_at 8 s (transaction_at t + 16) }

abbrev pub transaction_words : Transaction → List ℕ
transaction_words r = kind_code r.kind ∷ r.number ∷ r.epoch ∷ []

unfoldable pub put_transaction : List ℕ → ℕ → Transaction → List ℕ
put_transaction s t r = put_words s (transaction_at t) (transaction_words r)

abbrev pub is_closed : List ℕ → ℕ → Bool
is_closed s t = eqb (kind_word s t) 0

-- an open transaction of a number
abbrev pub is_open_as : List ℕ → ℕ → ℕ → Bool
is_open_as s n t = not (is_closed s t) && eqb (num_at 8 s (transaction_at t + 8)) n

unfoldable pub find_transaction : List ℕ → ℕ → Option ℕ
find_transaction s n = first (is_open_as s n) 17 0

unfoldable pub free_reader : List ℕ → Option ℕ
free_reader s = first (is_closed s) 16 0

-- ---- a tape's row: handle, ring, staged record

unfoldable pub handle_of : List ℕ → ℕ → Handle
handle_of s p = record { number = handle_number s p; entry = tape_word s p 1; file_size = tape_word s p 2 }

abbrev pub handle_words : Handle → List ℕ
handle_words h = h.number ∷ h.entry ∷ h.file_size ∷ []

unfoldable pub put_handle : List ℕ → ℕ → Handle → List ℕ
put_handle s p h = put_words s (tape_at p) (handle_words h)

unfoldable pub ring_of : List ℕ → ℕ → RingBuffer
ring_of s p = record { capacity = tape_word s p 3; start = tape_word s p 4; len = tape_word s p 5; first = tape_word s p 6 }

abbrev pub ring_words : RingBuffer → List ℕ
ring_words r = r.capacity ∷ r.start ∷ r.len ∷ r.first ∷ []

unfoldable pub put_ring : List ℕ → ℕ → RingBuffer → List ℕ
put_ring s p r = put_words s (tape_at p + 24) (ring_words r)

unfoldable pub staged_of : List ℕ → ℕ → Staged
staged_of s p =
    record {
      touched = flag (tape_word s p 7);
      base = tape_word s p 8;
      len = tape_word s p 9;
      start = tape_word s p 10;
      unwritten = tape_word s p 11;
    }

abbrev pub staged_words : Staged → List ℕ
staged_words r = flag_word r.touched ∷ r.base ∷ r.len ∷ r.start ∷ r.unwritten ∷ []

unfoldable pub put_staged : List ℕ → ℕ → Staged → List ℕ
put_staged s p r = put_words s (tape_at p + 56) (staged_words r)

-- a tape is open under a number
abbrev pub is_handle : List ℕ → ℕ → ℕ → Bool
is_handle s n p = not (eqb n 0) && eqb (handle_number s p) n

unfoldable pub find_handle : List ℕ → ℕ → Option ℕ
find_handle s n = first (is_handle s n) 8 0

-- ---- tracking and marks, by slot

abbrev pub tracking_for : ℕ → ℕ → Tracking
tracking_for w epoch = cond (eqb w 0) Untracked (cond (eqb w 1) Tracked (Marked epoch))

abbrev pub tracking_code : Tracking → ℕ
tracking_code Untracked = 0
tracking_code Tracked = 1
tracking_code (Marked e) = 2

abbrev pub tracking_epoch : Tracking → ℕ
tracking_epoch Untracked = 0
tracking_epoch Tracked = 0
tracking_epoch (Marked e) = e

unfoldable pub tracking_of : List ℕ → ℕ → Tracking
tracking_of s i = tracking_for (num_at 8 s (tracking_at i)) (num_at 8 s (tracking_at i + 8))

abbrev pub tracking_words : Tracking → List ℕ
tracking_words r = tracking_code r ∷ tracking_epoch r ∷ []

unfoldable pub put_tracking : List ℕ → ℕ → Tracking → List ℕ
put_tracking s i r = put_words s (tracking_at i) (tracking_words r)

-- ---- the rings' bytes

unfoldable pub ring_bytes : List ℕ → ℕ → List ℕ
ring_bytes s p = take 4096 (drop (ring_at p) s)

unfoldable pub fill_ring : List ℕ → ℕ → ℕ → List ℕ → List ℕ
fill_ring s p place bs = put s (ring_at p + place) bs

-- bytes behind those that the ring holds
unfoldable pub push_ring : List ℕ → ℕ → RingBuffer → List ℕ → List ℕ
push_ring s p r bs = put s (ring_at p) (around r.capacity (ring_bytes s p) (r.start + r.len) bs)
