-- Each write keeps the session's layout rule, and leaves an area of bytes one of bytes. Assumes nothing.
use Rattle.std.specs.Prelude.{◌≡◌, refl, ◌≢◌, List, ℕ, ◌+◌, ◌≤◌, ◌<◌, drop}
use Rattle.std.proofs.Common.{◌∙◌, arith}
use Rattle.std.proofs.Math.ListN.{length, take}
use Rattle.octets.specs.Bytes.{length_part}
use Rattle.octets.specs.Number.{num_at, Bytes, bytes_take, bytes_drop}
use Rattle.octets.specs.Only.{OnlyIn, num_at-only, bytes-put}
use Rattle.octets.specs.Cases.{equal}
use Rattle.octets.specs.Words.{word_at, bytes-put_words}
use Rattle.layout.specs.Names.{NamesFit, put_name}
use Rattle.layout.specs.NamesLaws.{only-put_name, fit-only, fit-put_name}
use Rattle.layout.specs.Session.{head_at, names_at, views_at, view_at, transaction_at, kind_word, tape_at, handle_number, ring_len, tracking_at, ring_at, TapeFits, Begun}
use Rattle.ring_buffer.specs.Ring.{around, Sound}
use Rattle.ring_buffer.specs.Around.{bytes-around}
use Rattle.ring_buffer.specs.declared.bookkeeping.RingBuffer.{RingBuffer}
use Rattle.session.specs.declared.head.Head.{Head}
use Rattle.session.specs.declared.views.View.{View}
use Rattle.session.specs.declared.transactions.Transaction.{Transaction}
use Rattle.session.specs.declared.tape_rows.Handle.{Handle}
use Rattle.session.specs.declared.tape_rows.Staged.{Staged}
use Rattle.session.specs.declared.tracking.Tracking.{Tracking}
use Rattle.session.specs.Rows.{head_words, put_head, view_words, put_view, copy_view, kind_code, transaction_words, put_transaction, handle_of, handle_words, put_handle, ring_of, ring_words, put_ring, staged_of, staged_words, put_staged, tracking_words, put_tracking, ring_bytes, fill_ring, push_ring}
use Rattle.session.specs.RowLaws.{HandleFits, kind-le, kind-same, only-put_head, only-put_view, only-copy_view, only-put_transaction, only-put_handle, handle-same, handle-only, only-put_ring, ring-only, only-put_staged, unwritten-same, staged-only, only-put_tracking, only-fill_ring, length-pushed, only-push_ring}
use Rattle.session.specs.MeaningLaws.{Ready}

-- the row of a tape that has a handle
pub record Open (h : Handle) (r : RingBuffer) (st : Staged) : Type 0 where
  pub entry-some : 1 ≤ h.entry
  pub entry-small : h.entry ≤ 256
  pub file-some : 1 ≤ h.file_size
  pub file-small : h.file_size ≤ 4096
  pub small : r.capacity ≤ 4096
  pub inside : r.start < r.capacity
  pub short : r.len ≤ r.capacity
  pub pending : st.unwritten ≤ r.len

-- with another ring and another staged record
pub open-with : {h : Handle} {r q : RingBuffer} {st su : Staged} → Open h r st
    → q.capacity ≤ 4096 → q.start < q.capacity → q.len ≤ q.capacity → su.unwritten ≤ q.len → Open h q su
open-with o small inside short pending =
    record {
      entry-some = o.entry-some;
      entry-small = o.entry-small;
      file-some = o.file-some;
      file-small = o.file-small;
      small = small;
      inside = inside;
      short = short;
      pending = pending;
    }

-- ---- the rule, said on rows

fits-open : (s : List ℕ) (p : ℕ) → TapeFits s p → Open (handle_of s p) (ring_of s p) (staged_of s p)
unfolding handle_of ring_of staged_of
fits-open s p f =
    record {
      entry-some = f.entry-some;
      entry-small = f.entry-small;
      file-some = f.file-some;
      file-small = f.file-small;
      small = f.ring.small;
      inside = f.ring.inside;
      short = f.ring.short;
      pending = f.ring.pending;
    }

open-fits : (s : List ℕ) (p : ℕ) → Open (handle_of s p) (ring_of s p) (staged_of s p) → TapeFits s p
unfolding handle_of ring_of staged_of
open-fits s p o =
    record {
      entry-some = o.entry-some;
      entry-small = o.entry-small;
      file-some = o.file-some;
      file-small = o.file-small;
      ring = record { small = o.small; inside = o.inside; short = o.short; pending = o.pending };
    }

-- a ring that was put, as the rule reads it
ring-read : (s : List ℕ) (p : ℕ) (r : RingBuffer) → tape_at p + 24 + 32 ≤ length s → Open (handle_of s p) r (staged_of s p)
    → Open (handle_of s p) (ring_of (put_ring s p r) p) (staged_of s p)
unfolding ring_of put_ring
ring-read s p r room o =
    let word = word_at s (tape_at p + 24) (ring_words r) in
    let inside = o.inside in
    let small = o.small in
    let short = o.short in
    let a = word 0 (tape_at p + 24) room (omega arith) (omega arith) (omega arith) in
    let b = word 1 (tape_at p + 32) room (omega arith) (omega arith) (omega arith) in
    let c = word 2 (tape_at p + 40) room (omega arith) (omega arith) (omega arith) in
    open-with o (rw a small) (rw (a, b) inside) (rw (a, c) short) (rw c o.pending)

-- a row is in range if it has a handle
abbrev pub Ranged : Handle → RingBuffer → Staged → Type 0
Ranged h r st = h.number ≢ 0 → Open h r st

pub by_number : (s : List ℕ) (p : ℕ) (r : RingBuffer) (st : Staged) → (handle_number s p ≢ 0 → Open (handle_of s p) r st) → Ranged (handle_of s p) r st
unfolding handle_of
by_number s p r st row = row

module _ (s : List ℕ) (begun : Begun s) where
  pub begun-ready : Ready s
  begun-ready = record { long = begun.long; names = begun.names }

  module _ (p : ℕ) (low : p < 8) where
    pub open_row : handle_number s p ≢ 0 → Open (handle_of s p) (ring_of s p) (staged_of s p)
    open_row held = fits-open s p (begun.tapes p low held)

    pub ranged : Ranged (handle_of s p) (ring_of s p) (staged_of s p)
    ranged = by_number s p (ring_of s p) (staged_of s p) open_row

    pub ring-sound : handle_number s p ≢ 0 → Sound (ring_of s p) 4096
    ring-sound held =
        let o = open_row held in
        record { inside = o.inside; short = o.short; small = o.small; room = o.small }

-- a code of a kind that may stand at a transaction place
record Stands (t k : ℕ) : Type 0 where
  reader : t < 16 → k ≤ 1
  writer : t ≡ 16 → k ≢ 1
  kind : k ≤ 3

stands : (s : List ℕ) → Begun s → (t : ℕ) → t < 17 → Stands t (kind_word s t)
stands s begun t l =
    equal t 16
    (λ (e : t ≡ 16). rw e (record { reader = λ m. absurd (omega arith); writer = λ m. begun.writer-apart; kind = begun.writer }))
    (λ (d : t ≢ 16).
    let low : kind_word s t ≤ 1 = begun.readers t (omega arith) in
    record { reader = λ m. low; writer = λ m. absurd (d m); kind = omega arith })

-- the rule, made of its parts; the mark is that of an area that keeps it
begun-made : (s t : List ℕ) → Begun s → length t ≡ length s → num_at 8 t 0 ≡ num_at 8 s 0 → NamesFit t names_at
    → ((u : ℕ) → u < 17 → Stands u (kind_word t u)) → ((p : ℕ) → p < 8 → Ranged (handle_of t p) (ring_of t p) (staged_of t p)) → Begun t
unfolding handle_of
begun-made s t begun long mark names kinds tapes =
    record {
      long = omega (arith, begun.long);
      marked = mark ∙ begun.marked;
      names = names;
      readers = λ u l. (kinds u (omega arith)).reader l;
      writer-apart = (kinds 16 (omega arith)).writer refl;
      writer = (kinds 16 (omega arith)).kind;
      tapes = λ p l held. open-fits t p (tapes p l held);
    }

-- ---- a step elsewhere

module _ (low high : ℕ) (s t : List ℕ) (only : OnlyIn low high s t) where
  mark-only : (low < 8 → high ≤ 0) → num_at 8 t 0 ≡ num_at 8 s 0
  mark-only clear = num_at-only low high s t only 8 0 (λ l. clear (omega arith))

  kind-only : (u : ℕ) → (low < transaction_at u + 8 → high ≤ transaction_at u) → Stands u (kind_word s u) → Stands u (kind_word t u)
  kind-only u clear k = rw (num_at-only low high s t only 8 (transaction_at u) clear) k

  kinds-only : (low < 4168 → high ≤ 3760) → Begun s → (u : ℕ) → u < 17 → Stands u (kind_word t u)
  kinds-only clear begun u l = kind-only u (λ q. omega (arith, clear (omega arith))) (stands s begun u l)

  tape-only : (p : ℕ) → (low < tape_at p + 96 → high ≤ tape_at p) → Ranged (handle_of s p) (ring_of s p) (staged_of s p) → Ranged (handle_of t p) (ring_of t p) (staged_of t p)
  tape-only p clear f =
      rw (
        handle-only low high s t only p (λ l. clear (omega arith)),
        ring-only low high s t only p (λ l. omega (arith, clear (omega arith))),
        staged-only low high s t only p (λ l. omega (arith, clear (omega arith))),
      )
      f

  pub begun-only : (low < 8 → high ≤ 0) → (low < 304 → high ≤ 48) → (low < 4936 → high ≤ 3760) → Begun s → Begun t
  begun-only a b c begun =
      begun-made s t begun only.long (mark-only a) (fit-only low high s t names_at only b begun.names)
      (kinds-only (λ l. omega (arith, c (omega arith))) begun)
      (λ p l. tape-only p (λ q. omega (arith, c (omega arith))) (ranged s begun p l))

  -- a step inside the row of one tape, also one made of several puts: only the row that it ends with has to be in range
  pub begun-tape : (p : ℕ) → p < 8 → tape_at p ≤ low → high ≤ tape_at p + 96 → Begun s → Ranged (handle_of t p) (ring_of t p) (staged_of t p) → Begun t
  begun-tape p there from to begun own =
      begun-made s t begun only.long (mark-only (λ l. omega arith)) (fit-only low high s t names_at only (λ l. omega arith) begun.names)
      (kinds-only (λ l. omega arith) begun)
      (λ q l.
      equal q p
      (λ (e : q ≡ p). rw e own)
      (λ (d : q ≢ p). tape-only q (λ m. omega arith) (ranged s begun q l)))

-- ---- the rule is kept by each write

module _ (s : List ℕ) (begun : Begun s) where
  pub begun-put_head : (h : Head) → Begun (put_head s h)
  begun-put_head h = begun-only _ _ s _ (only-put_head s h) (λ l. omega arith) (λ l. omega arith) (λ l. omega arith) begun

  pub begun-put_view : (w p : ℕ) (v : View) → w < 18 → p < 8 → Begun (put_view s w p v)
  begun-put_view w p v l m = begun-only _ _ s _ (only-put_view s w p v) (λ q. omega arith) (λ q. omega arith) (λ q. omega arith) begun

  pub begun-copy_view : (from to : ℕ) → from < 18 → to < 18 → Begun (copy_view s from to)
  begun-copy_view from to l m =
      begun-only _ _ s _ (only-copy_view s from to (omega (arith, begun.long))) (λ q. omega arith) (λ q. omega arith) (λ q. omega arith) begun

  pub begun-put_tracking : (i : ℕ) (r : Tracking) → Begun (put_tracking s i r)
  begun-put_tracking i r = begun-only _ _ s _ (only-put_tracking s i r) (λ q. omega arith) (λ q. omega arith) (λ q. omega arith) begun

  pub begun-fill_ring : (p place : ℕ) (bs : List ℕ) → place + length bs ≤ 4096 → Begun (fill_ring s p place bs)
  begun-fill_ring p place bs inside =
      begun-only _ _ s _ (only-fill_ring s p place bs inside) (λ q. omega arith) (λ q. omega arith) (λ q. omega arith) begun

  pub begun-push_ring : (p : ℕ) (r : RingBuffer) (bs : List ℕ) → p < 8 → Begun (push_ring s p r bs)
  begun-push_ring p r bs l =
      begun-only _ _ s _ (only-push_ring s p r bs (omega (arith, begun.long))) (λ q. omega arith) (λ q. omega arith) (λ q. omega arith) begun

  pub begun-put_name : (p : ℕ) (n : List ℕ) → p < 8 → length n ≤ 24 → Begun (put_name s names_at p n)
  begun-put_name p n l short =
      let u = put_name s names_at p n in
      let only = only-put_name s names_at p n short in
      begun-made s u begun only.long (mark-only _ _ s u only (λ q. omega arith)) (fit-put_name s names_at p n begun.names l short)
      (kinds-only _ _ s u only (λ q. omega arith) begun)
      (λ k m. tape-only _ _ s u only k (λ q. omega arith) (ranged s begun k m))

  -- a kind that may stand at its place
  pub begun-put_transaction : (t : ℕ) (r : Transaction) → t < 17 → (t < 16 → kind_code r.kind ≤ 1) → (t ≡ 16 → kind_code r.kind ≢ 1) → Begun (put_transaction s t r)
  begun-put_transaction t r l reader writer =
      let u = put_transaction s t r in
      let only = only-put_transaction s t r in
      let own : kind_word u t ≡ kind_code r.kind = kind-same s t r (omega (arith, begun.long)) in
      begun-made s u begun only.long (mark-only _ _ s u only (λ q. omega arith)) (fit-only _ _ s u names_at only (λ q. omega arith) begun.names)
      (λ x m.
      equal x t
      (λ (e : x ≡ t). rw (e, own) (record { reader = reader; writer = writer; kind = kind-le r.kind }))
      (λ (d : x ≢ t). kind-only _ _ s u only x (λ q. omega arith) (stands s begun x m)))
      (λ k m. tape-only _ _ s u only k (λ q. omega arith) (ranged s begun k m))

  -- the row of one tape: in range where it then has a handle
  module _ (p : ℕ) (low : p < 8) where
    pub begun-put_handle : (h : Handle) → HandleFits h → (h.number ≢ 0 → Open h (ring_of s p) (staged_of s p)) → Begun (put_handle s p h)
    begun-put_handle h f row =
        let u = put_handle s p h in
        let only = only-put_handle s p h in
        begun-tape _ _ s u only p low (omega arith) (omega arith) begun
        (rw (
          handle-same s p h (omega (arith, begun.long)) f,
          ring-only _ _ s u only p (λ q. omega arith),
          staged-only _ _ s u only p (λ q. omega arith),
        )
        row)

    -- of a ring the rule looks at three numbers, all small; its first index may be any
    pub begun-put_ring : (r : RingBuffer) → (handle_number s p ≢ 0 → Open (handle_of s p) r (staged_of s p)) → Begun (put_ring s p r)
    begun-put_ring r row =
        let u = put_ring s p r in
        let only = only-put_ring s p r in
        begun-tape _ _ s u only p low (omega arith) (omega arith) begun
        (rw (handle-only _ _ s u only p (λ q. omega arith), staged-only _ _ s u only p (λ q. omega arith))
        (by_number s p (ring_of u p) (staged_of s p) (λ held. ring-read s p r (omega (arith, begun.long)) (row held))))

    -- of a staged record at the unwritten bytes alone
    pub begun-put_staged : (r : Staged) → (handle_number s p ≢ 0 → r.unwritten ≤ ring_len s p) → Begun (put_staged s p r)
    unfolding ring_of
    begun-put_staged r pending =
        let u = put_staged s p r in
        let only = only-put_staged s p r in
        begun-tape _ _ s u only p low (omega arith) (omega arith) begun
        (rw (handle-only _ _ s u only p (λ q. omega arith), ring-only _ _ s u only p (λ q. omega arith))
        (by_number s p (ring_of s p) (staged_of u p)
        (λ held.
        let o = open_row s begun p low held in
        let few = pending held in
        let same : (staged_of u p).unwritten ≡ r.unwritten = unwritten-same s p r (omega (arith, begun.long)) (omega arith) in
        open-with o o.small o.inside o.short (rw same few))))

-- ---- bytes stay bytes

module _ (s : List ℕ) (bytes : Bytes s) where
  pub bytes-put_head : (h : Head) → head_at + 40 ≤ length s → Bytes (put_head s h)
  unfolding put_head
  bytes-put_head h room = bytes-put_words s head_at (head_words h) room bytes

  pub bytes-put_view : (w p : ℕ) (v : View) → view_at w p + 24 ≤ length s → Bytes (put_view s w p v)
  unfolding put_view
  bytes-put_view w p v room = bytes-put_words s (view_at w p) (view_words v) room bytes

  pub bytes-copy_view : (from to : ℕ) → views_at from + 192 ≤ length s → views_at to + 192 ≤ length s → Bytes (copy_view s from to)
  unfolding copy_view
  bytes-copy_view from to there room =
      let view = take 192 (drop (views_at from) s) in
      let long : length view ≡ 192 = length_part 192 s (views_at from) there in
      bytes-put s (views_at to) view (omega arith) bytes (bytes_take 192 (drop (views_at from) s) (bytes_drop (views_at from) s bytes))

  pub bytes-put_transaction : (t : ℕ) (r : Transaction) → transaction_at t + 24 ≤ length s → Bytes (put_transaction s t r)
  unfolding put_transaction
  bytes-put_transaction t r room = bytes-put_words s (transaction_at t) (transaction_words r) room bytes

  pub bytes-put_handle : (p : ℕ) (h : Handle) → tape_at p + 24 ≤ length s → Bytes (put_handle s p h)
  unfolding put_handle
  bytes-put_handle p h room = bytes-put_words s (tape_at p) (handle_words h) room bytes

  pub bytes-put_ring : (p : ℕ) (r : RingBuffer) → tape_at p + 24 + 32 ≤ length s → Bytes (put_ring s p r)
  unfolding put_ring
  bytes-put_ring p r room = bytes-put_words s (tape_at p + 24) (ring_words r) room bytes

  pub bytes-put_staged : (p : ℕ) (r : Staged) → tape_at p + 56 + 40 ≤ length s → Bytes (put_staged s p r)
  unfolding put_staged
  bytes-put_staged p r room = bytes-put_words s (tape_at p + 56) (staged_words r) room bytes

  pub bytes-put_tracking : (i : ℕ) (r : Tracking) → tracking_at i + 16 ≤ length s → Bytes (put_tracking s i r)
  unfolding put_tracking
  bytes-put_tracking i r room = bytes-put_words s (tracking_at i) (tracking_words r) room bytes

  pub bytes-ring_bytes : (p : ℕ) → Bytes (ring_bytes s p)
  unfolding ring_bytes
  bytes-ring_bytes p = bytes_take 4096 (drop (ring_at p) s) (bytes_drop (ring_at p) s bytes)

  pub bytes-fill_ring : (p place : ℕ) (bs : List ℕ) → Bytes bs → ring_at p + 4096 ≤ length s → place + length bs ≤ 4096 → Bytes (fill_ring s p place bs)
  unfolding fill_ring
  bytes-fill_ring p place bs new room inside = bytes-put s (ring_at p + place) bs (omega arith) bytes new

  pub bytes-push_ring : (p : ℕ) (r : RingBuffer) (bs : List ℕ) → Bytes bs → ring_at p + 4096 ≤ length s → Bytes (push_ring s p r bs)
  unfolding push_ring
  bytes-push_ring p r bs new room =
      let long = length-pushed s p r bs room in
      bytes-put s (ring_at p) (around r.capacity (ring_bytes s p) (r.start + r.len) bs) (omega arith) bytes
      (bytes-around r.capacity (ring_bytes s p) (r.start + r.len) bs (bytes-ring_bytes p) new)
