-- Laws of the rows of the session's area: a handle's numbers are its row's, a row that was put is read back, a put stays inside its row, and a step
-- elsewhere leaves a row as it was. Assumes nothing.
use Rattle.std.specs.Prelude.{◌≡◌, refl, Bool, true, false, List, ℕ, ◌+◌, ◌*◌, ◌^◌, ◌≤◌, ◌<◌, drop}
use Rattle.std.proofs.Common.{sym, ◌∙◌, arith}
use Rattle.std.proofs.Math.Path.{ap}
use Rattle.std.proofs.Math.ListN.{length, take}
use Rattle.octets.specs.Bytes.{put, length-put, length_part, part-put, part-put-inside}
use Rattle.octets.specs.Number.{num_at, num_at-drop, num_at-take}
use Rattle.octets.specs.Only.{OnlyIn, only-put, only_wider, part-only}
use Rattle.octets.specs.Words.{only-put_words, word_at, word-only}
use Rattle.layout.specs.Session.{head_at, views_at, view_at, transaction_at, kind_word, tape_at, handle_number, entry_size_of, file_size_of, tracking_at, ring_at}
use Rattle.metadata.specs.declared.choice.Side.{Side}
use Rattle.metadata.specs.declared.choice.Side.TheVariants.{Left, Right}
use Rattle.ring_buffer.specs.Ring.{around}
use Rattle.ring_buffer.specs.Around.{length-around}
use Rattle.ring_buffer.specs.declared.bookkeeping.RingBuffer.{RingBuffer}
use Rattle.session.specs.declared.head.Head.{Head}
use Rattle.session.specs.declared.views.View.{View}
use Rattle.session.specs.declared.transactions.Kind.{Kind}
use Rattle.session.specs.declared.transactions.Kind.TheVariants.{Closed, Reader, Append, Truncate}
use Rattle.session.specs.declared.transactions.Transaction.{Transaction}
use Rattle.session.specs.declared.tape_rows.Handle.{Handle}
use Rattle.session.specs.declared.tape_rows.Staged.{Staged}
use Rattle.session.specs.declared.tracking.Tracking.{Tracking}
use Rattle.session.specs.declared.tracking.Tracking.TheVariants.{Untracked, Tracked, Marked}
use Rattle.session.specs.Rows.{flag, flag_word, side_for, side_word, head_of, head_words, put_head, view_of, view_words, put_view, copy_view, kind_for, kind_code, transaction_of, transaction_words, put_transaction, handle_of, handle_words, put_handle, ring_of, ring_words, put_ring, staged_of, staged_words, put_staged, tracking_for, tracking_code, tracking_epoch, tracking_of, tracking_words, put_tracking, ring_bytes, fill_ring, push_ring}
use Rattle.session.specs.RowWords.{head-words, view-words, transaction-words, handle-words, ring-words, staged-words, tracking-words}

-- ---- rows of 64-bit numbers

pub record HeadFits (h : Head) : Type 0 where
  pub epoch : h.epoch < 256 ^ 8
  pub transaction : h.last_transaction < 256 ^ 8
  pub handle : h.last_handle < 256 ^ 8

pub record ViewFits (v : View) : Type 0 where
  pub len : v.len < 256 ^ 8
  pub start : v.start < 256 ^ 8

pub record TransactionFits (r : Transaction) : Type 0 where
  pub number : r.number < 256 ^ 8
  pub epoch : r.epoch < 256 ^ 8

pub record HandleFits (h : Handle) : Type 0 where
  pub number : h.number < 256 ^ 8
  pub entry : h.entry < 256 ^ 8
  pub file : h.file_size < 256 ^ 8

pub record RingNumbers (r : RingBuffer) : Type 0 where
  pub capacity : r.capacity < 256 ^ 8
  pub start : r.start < 256 ^ 8
  pub len : r.len < 256 ^ 8
  pub first : r.first < 256 ^ 8

pub record StagedFits (r : Staged) : Type 0 where
  pub base : r.base < 256 ^ 8
  pub len : r.len < 256 ^ 8
  pub start : r.start < 256 ^ 8
  pub unwritten : r.unwritten < 256 ^ 8

pub record TrackingFits (r : Tracking) : Type 0 where
  pub epoch : tracking_epoch r < 256 ^ 8

-- ---- codes: small, and they come back

pub flag_small : (b : Bool) → flag_word b < 256 ^ 8
flag_small true = omega arith
flag_small false = omega arith

pub flag-back : (b : Bool) → flag (flag_word b) ≡ b
flag-back true = refl
flag-back false = refl

pub side-small : (d : Side) → side_word d < 256 ^ 8
side-small Left = omega arith
side-small Right = omega arith

pub side-back : (d : Side) → side_for (side_word d) ≡ d
side-back Left = refl
side-back Right = refl

pub kind-le : (k : Kind) → kind_code k ≤ 3
kind-le Closed = omega arith
kind-le Reader = omega arith
kind-le Append = omega arith
kind-le Truncate = omega arith

pub kind-back : (k : Kind) → kind_for (kind_code k) ≡ k
kind-back Closed = refl
kind-back Reader = refl
kind-back Append = refl
kind-back Truncate = refl

pub tracking-le : (r : Tracking) → tracking_code r ≤ 2
tracking-le Untracked = omega arith
tracking-le Tracked = omega arith
tracking-le (Marked e) = omega arith

pub tracking-back : (r : Tracking) → tracking_for (tracking_code r) (tracking_epoch r) ≡ r
tracking-back Untracked = refl
tracking-back Tracked = refl
tracking-back (Marked e) = refl

-- ---- the session's own fields

pub only-put_head : (s : List ℕ) (h : Head) → OnlyIn head_at (head_at + 40) s (put_head s h)
unfolding put_head
only-put_head s h = only-put_words s head_at (head_words h)

pub length-put_head : (s : List ℕ) (h : Head) → length (put_head s h) ≡ length s
length-put_head s h = (only-put_head s h).long

pub head-same : (s : List ℕ) (h : Head) → head_at + 40 ≤ length s → HeadFits h → head_of (put_head s h) ≡ h
unfolding head_of put_head
head-same s h room f =
    let word = word_at s head_at (head_words h) in
    rw (
      word 0 head_at room (omega arith) f.epoch (omega arith),
      word 1 (head_at + 8) room (omega arith) (flag_small h.cut) (omega arith),
      word 2 (head_at + 16) room (omega arith) (side-small h.side) (omega arith),
      word 3 (head_at + 24) room (omega arith) f.transaction (omega arith),
      word 4 (head_at + 32) room (omega arith) f.handle (omega arith),
      flag-back h.cut,
      side-back h.side,
    )

pub head-only : (low high : ℕ) (s t : List ℕ) → OnlyIn low high s t → (low < head_at + 40 → high ≤ head_at) → head_of t ≡ head_of s
head-only low high s t only clear = head-words s t (word-only low high s t only head_at 40 clear)

-- ---- views

pub only-put_view : (s : List ℕ) (w p : ℕ) (v : View) → OnlyIn (view_at w p) (view_at w p + 24) s (put_view s w p v)
unfolding put_view
only-put_view s w p v = only-put_words s (view_at w p) (view_words v)

pub length-put_view : (s : List ℕ) (w p : ℕ) (v : View) → length (put_view s w p v) ≡ length s
length-put_view s w p v = (only-put_view s w p v).long

pub view-same : (s : List ℕ) (w p : ℕ) (v : View) → view_at w p + 24 ≤ length s → ViewFits v → view_of (put_view s w p v) w p ≡ v
unfolding view_of put_view
view-same s w p v room f =
    let word = word_at s (view_at w p) (view_words v) in
    rw (
      word 0 (view_at w p) room (omega arith) (flag_small v.listed) (omega arith),
      word 1 (view_at w p + 8) room (omega arith) f.len (omega arith),
      word 2 (view_at w p + 16) room (omega arith) f.start (omega arith),
      flag-back v.listed,
    )

pub view-only : (low high : ℕ) (s t : List ℕ) → OnlyIn low high s t → (w p : ℕ) → (low < view_at w p + 24 → high ≤ view_at w p) → view_of t w p ≡ view_of s w p
view-only low high s t only w p clear = view-words s t w p (word-only low high s t only (view_at w p) 24 clear)

-- ---- transactions

pub only-put_transaction : (s : List ℕ) (t : ℕ) (r : Transaction) → OnlyIn (transaction_at t) (transaction_at t + 24) s (put_transaction s t r)
unfolding put_transaction
only-put_transaction s t r = only-put_words s (transaction_at t) (transaction_words r)

pub length-put_transaction : (s : List ℕ) (t : ℕ) (r : Transaction) → length (put_transaction s t r) ≡ length s
length-put_transaction s t r = (only-put_transaction s t r).long

pub transaction-same : (s : List ℕ) (t : ℕ) (r : Transaction) → transaction_at t + 24 ≤ length s → TransactionFits r → transaction_of (put_transaction s t r) t ≡ r
unfolding transaction_of put_transaction
transaction-same s t r room f =
    let word = word_at s (transaction_at t) (transaction_words r) in
    rw (
      word 0 (transaction_at t) room (omega arith) (omega (arith, kind-le r.kind)) (omega arith),
      word 1 (transaction_at t + 8) room (omega arith) f.number (omega arith),
      word 2 (transaction_at t + 16) room (omega arith) f.epoch (omega arith),
      kind-back r.kind,
    )

pub kind-same : (s : List ℕ) (t : ℕ) (r : Transaction) → transaction_at t + 24 ≤ length s → kind_word (put_transaction s t r) t ≡ kind_code r.kind
unfolding put_transaction
kind-same s t r room = word_at s (transaction_at t) (transaction_words r) 0 (transaction_at t) room (omega arith) (omega (arith, kind-le r.kind)) (omega arith)

pub transaction-only : (low high : ℕ) (s u : List ℕ) → OnlyIn low high s u → (t : ℕ) → (low < transaction_at t + 24 → high ≤ transaction_at t) → transaction_of u t ≡ transaction_of s t
transaction-only low high s u only t clear = transaction-words s u t (word-only low high s u only (transaction_at t) 24 clear)

-- ---- a tape's row: its handle

-- the numbers of a handle that was read are the row's
module _ (s : List ℕ) (p : ℕ) (h : Handle) (read : h ≡ handle_of s p) where
  pub handle-numbered : h.number ≡ handle_number s p
  unfolding handle_of
  handle-numbered = ap (λ (x : Handle). x.number) read

  pub handle-entry : h.entry ≡ entry_size_of s p
  unfolding handle_of
  handle-entry = ap (λ (x : Handle). x.entry) read

  pub handle-size : h.file_size ≡ file_size_of s p
  unfolding handle_of
  handle-size = ap (λ (x : Handle). x.file_size) read

pub only-put_handle : (s : List ℕ) (p : ℕ) (h : Handle) → OnlyIn (tape_at p) (tape_at p + 24) s (put_handle s p h)
unfolding put_handle
only-put_handle s p h = only-put_words s (tape_at p) (handle_words h)

pub length-put_handle : (s : List ℕ) (p : ℕ) (h : Handle) → length (put_handle s p h) ≡ length s
length-put_handle s p h = (only-put_handle s p h).long

pub handle-same : (s : List ℕ) (p : ℕ) (h : Handle) → tape_at p + 24 ≤ length s → HandleFits h → handle_of (put_handle s p h) p ≡ h
unfolding handle_of put_handle
handle-same s p h room f =
    let word = word_at s (tape_at p) (handle_words h) in
    rw (
      word 0 (tape_at p) room (omega arith) f.number (omega arith),
      word 1 (tape_at p + 8) room (omega arith) f.entry (omega arith),
      word 2 (tape_at p + 16) room (omega arith) f.file (omega arith),
    )

pub handle-only : (low high : ℕ) (s t : List ℕ) → OnlyIn low high s t → (p : ℕ) → (low < tape_at p + 24 → high ≤ tape_at p) → handle_of t p ≡ handle_of s p
handle-only low high s t only p clear = handle-words s t p (word-only low high s t only (tape_at p) 24 clear)

-- ---- its ring

pub only-put_ring : (s : List ℕ) (p : ℕ) (r : RingBuffer) → OnlyIn (tape_at p + 24) (tape_at p + 24 + 32) s (put_ring s p r)
unfolding put_ring
only-put_ring s p r = only-put_words s (tape_at p + 24) (ring_words r)

pub length-put_ring : (s : List ℕ) (p : ℕ) (r : RingBuffer) → length (put_ring s p r) ≡ length s
length-put_ring s p r = (only-put_ring s p r).long

pub ring-same : (s : List ℕ) (p : ℕ) (r : RingBuffer) → tape_at p + 24 + 32 ≤ length s → RingNumbers r → ring_of (put_ring s p r) p ≡ r
unfolding ring_of put_ring
ring-same s p r room f =
    let word = word_at s (tape_at p + 24) (ring_words r) in
    rw (
      word 0 (tape_at p + 24) room (omega arith) f.capacity (omega arith),
      word 1 (tape_at p + 32) room (omega arith) f.start (omega arith),
      word 2 (tape_at p + 40) room (omega arith) f.len (omega arith),
      word 3 (tape_at p + 48) room (omega arith) f.first (omega arith),
    )

pub ring-only : (low high : ℕ) (s t : List ℕ) → OnlyIn low high s t → (p : ℕ) → (low < tape_at p + 24 + 32 → high ≤ tape_at p + 24) → ring_of t p ≡ ring_of s p
ring-only low high s t only p clear = ring-words s t p (word-only low high s t only (tape_at p + 24) 32 clear)

-- ---- its staged record

pub only-put_staged : (s : List ℕ) (p : ℕ) (r : Staged) → OnlyIn (tape_at p + 56) (tape_at p + 56 + 40) s (put_staged s p r)
unfolding put_staged
only-put_staged s p r = only-put_words s (tape_at p + 56) (staged_words r)

pub length-put_staged : (s : List ℕ) (p : ℕ) (r : Staged) → length (put_staged s p r) ≡ length s
length-put_staged s p r = (only-put_staged s p r).long

pub staged-same : (s : List ℕ) (p : ℕ) (r : Staged) → tape_at p + 56 + 40 ≤ length s → StagedFits r → staged_of (put_staged s p r) p ≡ r
unfolding staged_of put_staged
staged-same s p r room f =
    let word = word_at s (tape_at p + 56) (staged_words r) in
    rw (
      word 0 (tape_at p + 56) room (omega arith) (flag_small r.touched) (omega arith),
      word 1 (tape_at p + 64) room (omega arith) f.base (omega arith),
      word 2 (tape_at p + 72) room (omega arith) f.len (omega arith),
      word 3 (tape_at p + 80) room (omega arith) f.start (omega arith),
      word 4 (tape_at p + 88) room (omega arith) f.unwritten (omega arith),
      flag-back r.touched,
    )

-- one number of it: those beside it may be of any size
pub unwritten-same : (s : List ℕ) (p : ℕ) (r : Staged) → tape_at p + 56 + 40 ≤ length s → r.unwritten < 256 ^ 8 → (staged_of (put_staged s p r) p).unwritten ≡ r.unwritten
unfolding staged_of put_staged
unwritten-same s p r room f = word_at s (tape_at p + 56) (staged_words r) 4 (tape_at p + 88) room (omega arith) f (omega arith)

pub staged-only : (low high : ℕ) (s t : List ℕ) → OnlyIn low high s t → (p : ℕ) → (low < tape_at p + 56 + 40 → high ≤ tape_at p + 56) → staged_of t p ≡ staged_of s p
staged-only low high s t only p clear = staged-words s t p (word-only low high s t only (tape_at p + 56) 40 clear)

-- ---- tracking and marks

pub only-put_tracking : (s : List ℕ) (i : ℕ) (r : Tracking) → OnlyIn (tracking_at i) (tracking_at i + 16) s (put_tracking s i r)
unfolding put_tracking
only-put_tracking s i r = only-put_words s (tracking_at i) (tracking_words r)

pub length-put_tracking : (s : List ℕ) (i : ℕ) (r : Tracking) → length (put_tracking s i r) ≡ length s
length-put_tracking s i r = (only-put_tracking s i r).long

pub tracking-same : (s : List ℕ) (i : ℕ) (r : Tracking) → tracking_at i + 16 ≤ length s → TrackingFits r → tracking_of (put_tracking s i r) i ≡ r
unfolding tracking_of put_tracking
tracking-same s i r room f =
    let word = word_at s (tracking_at i) (tracking_words r) in
    rw (
      word 0 (tracking_at i) room (omega arith) (omega (arith, tracking-le r)) (omega arith),
      word 1 (tracking_at i + 8) room (omega arith) f.epoch (omega arith),
      tracking-back r,
    )

pub tracking-only : (low high : ℕ) (s t : List ℕ) → OnlyIn low high s t → (i : ℕ) → (low < tracking_at i + 16 → high ≤ tracking_at i) → tracking_of t i ≡ tracking_of s i
tracking-only low high s t only i clear = tracking-words s t i (word-only low high s t only (tracking_at i) 16 clear)

-- ---- a whole view over another

module _ (s : List ℕ) (from to : ℕ) (room : views_at from + 192 ≤ length s) where
  pub only-copy_view : OnlyIn (views_at to) (views_at to + 192) s (copy_view s from to)
  unfolding copy_view
  only-copy_view =
      let bs = take 192 (drop (views_at from) s) in
      let long : length bs ≡ 192 = length_part 192 s (views_at from) room in
      only_wider (views_at to) (views_at to + length bs) (views_at to) (views_at to + 192) s (put s (views_at to) bs) (omega arith) (omega arith) (only-put s (views_at to) bs)

  pub length-copy_view : length (copy_view s from to) ≡ length s
  length-copy_view = only-copy_view.long

  part-copied : views_at to + 192 ≤ length s → take 192 (drop (views_at to) (copy_view s from to)) ≡ take 192 (drop (views_at from) s)
  unfolding copy_view
  part-copied room' =
      let bs = take 192 (drop (views_at from) s) in
      let long : length bs ≡ 192 = length_part 192 s (views_at from) room in
      ap (λ (n : ℕ). take n (drop (views_at to) (put s (views_at to) bs))) (sym long)
      ∙ part-put s (views_at to) bs (omega arith)

  word_copied : views_at to + 192 ≤ length s → (k a b : ℕ) → k + 8 ≤ 192 → a ≡ views_at to + k → b ≡ views_at from + k
      → num_at 8 (copy_view s from to) a ≡ num_at 8 s b
  word_copied room' k a b l e f =
      let u = copy_view s from to in
      ap (num_at 8 u) e
      ∙ num_at-drop 8 u (views_at to) k
      ∙ sym (num_at-take 8 (drop (views_at to) u) k 192 l)
      ∙ ap (λ (bs : List ℕ). num_at 8 bs k) (part-copied room')
      ∙ num_at-take 8 (drop (views_at from) s) k 192 l
      ∙ sym (num_at-drop 8 s (views_at from) k)
      ∙ ap (num_at 8 s) (sym f)

  pub view-copied : views_at to + 192 ≤ length s → (p : ℕ) → p < 8 → view_of (copy_view s from to) to p ≡ view_of s from p
  unfolding view_of
  view-copied room' p l =
      rw (
        word_copied room' (p * 24) (view_at to p) (view_at from p) (omega arith) (omega arith) (omega arith),
        word_copied room' (p * 24 + 8) (view_at to p + 8) (view_at from p + 8) (omega arith) (omega arith) (omega arith),
        word_copied room' (p * 24 + 16) (view_at to p + 16) (view_at from p + 16) (omega arith) (omega arith) (omega arith),
      )

-- ---- the rings' bytes

pub ring_bytes-only : (low high : ℕ) (s t : List ℕ) → OnlyIn low high s t → (p : ℕ) → (low < ring_at p + 4096 → high ≤ ring_at p) → ring_bytes t p ≡ ring_bytes s p
unfolding ring_bytes
ring_bytes-only low high s t only p clear = part-only low high s t only 4096 (ring_at p) clear

pub length-ring_bytes : (s : List ℕ) (p : ℕ) → ring_at p + 4096 ≤ length s → length (ring_bytes s p) ≡ 4096
unfolding ring_bytes
length-ring_bytes s p room = length_part 4096 s (ring_at p) room

module _ (s : List ℕ) (p place : ℕ) (bs : List ℕ) where
  pub length-fill_ring : length (fill_ring s p place bs) ≡ length s
  unfolding fill_ring
  length-fill_ring = length-put s (ring_at p + place) bs

  module _ (inside : place + length bs ≤ 4096) where
    pub only-fill_ring : OnlyIn (ring_at p) (ring_at p + 4096) s (fill_ring s p place bs)
    unfolding fill_ring
    only-fill_ring =
        let at = ring_at p + place in
        only_wider at (at + length bs) (ring_at p) (ring_at p + 4096) s (put s at bs) (omega arith) (omega arith) (only-put s at bs)

    pub ring_bytes-fill : ring_bytes (fill_ring s p place bs) p ≡ put (ring_bytes s p) place bs
    unfolding ring_bytes fill_ring
    ring_bytes-fill = part-put-inside 4096 s (ring_at p) place bs inside

module _ (s : List ℕ) (p : ℕ) (r : RingBuffer) (bs : List ℕ) (room : ring_at p + 4096 ≤ length s) where
  pub length-pushed : length (around r.capacity (ring_bytes s p) (r.start + r.len) bs) ≡ 4096
  length-pushed = length-around r.capacity (ring_bytes s p) (r.start + r.len) bs ∙ length-ring_bytes s p room

  pub only-push_ring : OnlyIn (ring_at p) (ring_at p + 4096) s (push_ring s p r bs)
  unfolding push_ring
  only-push_ring =
      let new = around r.capacity (ring_bytes s p) (r.start + r.len) bs in
      let long : length new ≡ 4096 = length-pushed in
      only_wider (ring_at p) (ring_at p + length new) (ring_at p) (ring_at p + 4096) s (put s (ring_at p) new) (omega arith) (omega arith) (only-put s (ring_at p) new)

  pub length-push_ring : length (push_ring s p r bs) ≡ length s
  length-push_ring = only-push_ring.long

  pub ring_bytes-push : ring_bytes (push_ring s p r bs) p ≡ around r.capacity (ring_bytes s p) (r.start + r.len) bs
  unfolding ring_bytes push_ring
  ring_bytes-push =
      let new = around r.capacity (ring_bytes s p) (r.start + r.len) bs in
      let long : length new ≡ 4096 = length-pushed in
      ap (λ (n : ℕ). take n (drop (ring_at p) (put s (ring_at p) new))) (sym long) ∙ part-put s (ring_at p) new (omega arith)
