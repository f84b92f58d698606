-- A put through the cache: the ways that the code takes, and that both areas keep their rules, their lengths and their bytes. Assumes nothing.
use Rattle.std.specs.Prelude.{◌≡◌, ◌≢◌, List, ℕ, ◌+◌, ◌-◌, ◌≤◌, ◌<◌, ◌^◌, min, drop}
use Rattle.std.proofs.Common.{◌∙◌, mod-lt, arith, length-drop}
use borrow.Author.Tests.{le-leb, lt-leb, lt-ltb, le-ltb, leb-false, ltb-false}
use Rattle.std.proofs.Math.ListN.{length}
use Rattle.octets.specs.Cases.{picked}
use Rattle.octets.specs.Number.{Bytes, bytes_drop}
use Rattle.octets.specs.Only.{OnlyIn, only_then, only_wider}
use Rattle.layout.specs.Disk.{slots, Sound}
use Rattle.layout.specs.Session.{session_bytes, tape_at, ring_at, handle_number, file_size_of, ring_len, Begun}
use Rattle.ring_buffer.specs.Ring.{over, prepared, pushed, Sound as RingSound}
use Rattle.ring_buffer.specs.Put.{fills, pushes_out, last_of, go_by, after_put, unwritten_after, sound-put}
use Rattle.ring_buffer.specs.declared.bookkeeping.RingBuffer.{RingBuffer}
use Rattle.session.specs.Rows.{handle_of, ring_of, put_ring, push_ring, staged_of, put_staged}
use Rattle.session.specs.RowLaws.{RingNumbers, handle-only, only-put_ring, length-put_ring, ring-same, ring-only, only-put_staged, length-put_staged, unwritten-same, only-push_ring, length-push_ring}
use Rattle.session.specs.KeepLaws.{open-with, open_row, by_number, ring-sound, begun-push_ring, begun-tape, bytes-put_ring, bytes-put_staged, bytes-push_ring}
use Rattle.session.specs.declared.tape_rows.Staged.{Staged}
use Rattle.rolling_tape.specs.Removal.{Areas, areas}
use Rattle.rolling_tape.specs.Kept.{KeptSound, kept-sound-none, kept-sound-then}
use Rattle.cached_tape.specs.Flushing.{wrote, flushed}
use Rattle.cached_tape.specs.FlushLaws.{pending-ring, begun_kept, ring-kept, number-kept, length-wrote-disk, only_wrote, bytes-wrote-session, sound-wrote, slots-wrote, bytes-wrote-disk, length-flushed-disk, length-flushed-session, only-flushed, bytes-flushed-session, sound-flushed, slots-flushed, bytes-flushed-disk}
use Rattle.cached_tape.specs.Putting.{sent_to, cached_in, grown, put_in}

-- ---- the ways that the code takes

module _ (r : RingBuffer) (unwritten n : ℕ) where
  pub after-fills : r.capacity ≤ n → unwritten_after r unwritten n ≡ 0
  unfolding unwritten_after
  after-fills h = rw (le-leb r.capacity n h)

  pub after-out : n < r.capacity → r.capacity < unwritten + n → unwritten_after r unwritten n ≡ n
  unfolding unwritten_after
  after-out h l = rw (lt-leb r.capacity n h, lt-ltb r.capacity (unwritten + n) l)

  pub after_kept : n < r.capacity → unwritten + n ≤ r.capacity → unwritten_after r unwritten n ≡ unwritten + n
  unfolding unwritten_after
  after_kept h l = rw (lt-leb r.capacity n h, le-ltb r.capacity (unwritten + n) l)

module _ (a : Areas) (place p : ℕ) (row : Staged) (bs : List ℕ) where
  pub sent-fills : (ring_of a.session p).capacity ≤ length bs
      → sent_to a place p row bs ≡ wrote (flushed a place p row) place (file_size_of a.session p) row.len bs
  unfolding sent_to
  sent-fills h = rw (le-leb (ring_of a.session p).capacity (length bs) h)

  pub sent-out : length bs < (ring_of a.session p).capacity → (ring_of a.session p).capacity < row.unwritten + length bs
      → sent_to a place p row bs ≡ flushed a place p row
  unfolding sent_to
  sent-out h l = rw (lt-leb (ring_of a.session p).capacity (length bs) h, lt-ltb (ring_of a.session p).capacity (row.unwritten + length bs) l)

  pub sent-none : length bs < (ring_of a.session p).capacity → row.unwritten + length bs ≤ (ring_of a.session p).capacity → sent_to a place p row bs ≡ a
  unfolding sent_to
  sent-none h l = rw (lt-leb (ring_of a.session p).capacity (length bs) h, le-ltb (ring_of a.session p).capacity (row.unwritten + length bs) l)

-- the code counts the bytes that the ring takes, the definition those that go by it
pub cached-as : (s : List ℕ) (p len : ℕ) (bs : List ℕ) (n : ℕ) → n ≡ min (length bs) (prepared (ring_of s p) len).capacity
    → put_ring (push_ring s p (prepared (ring_of s p) len) (drop (length bs - n) bs)) p (pushed (prepared (ring_of s p) len) n (length bs - n)) ≡ cached_in s p len bs
unfolding cached_in after_put prepared
cached-as s p len bs n e =
    let by : length bs - n ≡ go_by (ring_of s p) bs = omega arith in
    let long : length (last_of (ring_of s p) bs) ≡ n = length-drop (go_by (ring_of s p) bs) bs ∙ omega arith in
    rw (by, long)

pub put_as : (a : Areas) (place p : ℕ) (row : Staged) (bs d s : List ℕ) → sent_to a place p row bs ≡ areas d s
    → put_in a place p row bs ≡ areas d (put_staged (cached_in s p row.len bs) p (grown row (ring_of a.session p) (length bs)))
unfolding put_in
put_as a place p row bs d s e = rw e

-- ---- what goes to the cache

-- the bytes that the files lack are held
after-pending : (r : RingBuffer) (unwritten len : ℕ) (bs : List ℕ) → RingSound r 4096 → unwritten ≤ r.len
    → unwritten_after r unwritten (length bs) ≤ (after_put r len bs).len
unfolding unwritten_after after_put pushed prepared
after-pending r unwritten len bs sound h =
    let n = length bs in
    let long = length-drop (go_by r bs) bs in
    let top = r.len + length (last_of r bs) in
    picked (λ (k : ℕ). k ≤ min top r.capacity) (fills r n) _ _ (λ e. omega arith)
    (λ e.
    let few : n < r.capacity = leb-false r.capacity n e in
    picked (λ (k : ℕ). k ≤ min top r.capacity) (pushes_out r unwritten n) _ _ (λ q. omega arith)
    (λ q.
    let room : unwritten + n ≤ r.capacity = ltb-false r.capacity (unwritten + n) q in
    omega (arith, sound.short)))

first-low : (r : RingBuffer) (len : ℕ) (bs : List ℕ) → (after_put r len bs).first < 256 ^ 8
unfolding after_put pushed
first-low r len bs = mod-lt ((prepared r len).first + over (prepared r len) (length (last_of r bs)) + go_by r bs) (omega arith)

-- the ring's numbers after a put
pub ring-numbers : (r : RingBuffer) (len : ℕ) (bs : List ℕ) → RingSound r 4096 → RingNumbers (after_put r len bs)
ring-numbers r len bs sound =
    let after = sound-put r 4096 len bs sound in
    record {
      capacity = omega (arith, after.small);
      start = omega (arith, after.small, after.inside);
      len = omega (arith, after.small, after.short);
      first = first-low r len bs;
    }

module _ (s : List ℕ) (p len : ℕ) (bs : List ℕ) where
  abbrev bytes-in : List ℕ
  bytes-in = push_ring s p (prepared (ring_of s p) len) (last_of (ring_of s p) bs)

  length-cached : ring_at p + 4096 ≤ length s → length (cached_in s p len bs) ≡ length s
  unfolding cached_in
  length-cached room =
      length-put_ring bytes-in p (after_put (ring_of s p) len bs)
      ∙ length-push_ring s p (prepared (ring_of s p) len) (last_of (ring_of s p) bs) room

  bytes-cached : Bytes s → Bytes bs → session_bytes ≤ length s → p < 8 → Bytes (cached_in s p len bs)
  unfolding cached_in
  bytes-cached old new long low =
      let same = length-push_ring s p (prepared (ring_of s p) len) (last_of (ring_of s p) bs) (omega arith) in
      bytes-put_ring bytes-in
      (bytes-push_ring s old p (prepared (ring_of s p) len) (last_of (ring_of s p) bs) (bytes_drop (go_by (ring_of s p) bs) bs new) (omega arith))
      p (after_put (ring_of s p) len bs) (omega arith)

  -- of a staged record the rule looks at the unwritten bytes alone
  begun-cached : Begun s → p < 8 → handle_number s p ≢ 0 → (row : Staged) → row.unwritten ≤ (after_put (ring_of s p) len bs).len → Begun (put_staged (cached_in s p len bs) p row)
  unfolding cached_in
  begun-cached begun low held row few =
      let r = ring_of s p in
      let new = after_put r len bs in
      let t = bytes-in in
      let u = put_ring t p new in
      let v = put_staged u p row in
      let sound : RingSound r 4096 = ring-sound s begun p low held in
      let after = sound-put r 4096 len bs sound in
      let pushed-in = only-push_ring s p (prepared r len) (last_of r bs) (omega (arith, begun.long)) in
      let long-t : length t ≡ length s = pushed-in.long in
      let long-u : length u ≡ length s = length-put_ring t p new ∙ long-t in
      let only-u : OnlyIn (tape_at p + 24) (tape_at p + 96) t u = only_wider _ _ _ _ t u (omega arith) (omega arith) (only-put_ring t p new) in
      let only-v : OnlyIn (tape_at p + 24) (tape_at p + 96) u v = only_wider _ _ _ _ u v (omega arith) (omega arith) (only-put_staged u p row) in
      let only = only_then (tape_at p + 24) (tape_at p + 96) t u v only-u only-v in
      let same-handle : handle_of v p ≡ handle_of s p = handle-only _ _ t v only p (λ q. omega arith) ∙ handle-only _ _ s t pushed-in p (λ q. omega arith) in
      let same-ring : ring_of v p ≡ new
      = ring-only _ _ u v (only-put_staged u p row) p (λ q. omega arith) ∙ ring-same t p new (omega (arith, begun.long)) (ring-numbers r len bs sound) in
      let same-unwritten : (staged_of v p).unwritten ≡ row.unwritten = unwritten-same u p row (omega (arith, begun.long)) (omega (arith, after.short, after.small)) in
      begun-tape (tape_at p + 24) (tape_at p + 96) t v only p low (omega arith) (omega arith) (begun-push_ring s begun p (prepared r len) (last_of r bs) low)
      (rw (same-handle, same-ring)
      (by_number s p new (staged_of v p)
      (λ h. open-with (open_row s begun p low h) after.small after.inside after.short (rw same-unwritten few))))

-- ---- what goes to the files changes the disk's files and the session's tracking alone

kept-wrote : (a : Areas) (place fs o : ℕ) (bs : List ℕ) → Sound a.disk → place < 8 → 0 < fs → fs ≤ 4096 → o + length bs ≤ 2 ^ 64
    → KeptSound a (wrote a place fs o bs)
kept-wrote a place fs o bs sound low z small fits =
    record {
      sound = sound-wrote a place fs o bs sound low z small fits;
      long = length-wrote-disk a place fs o bs;
      same = slots-wrote a place fs o bs sound low z small fits;
      only = only_wrote a place fs o bs sound.head.few;
    }

module _ (a : Areas) (place p : ℕ) (row : Staged) (sound : Sound a.disk) (begun : Begun a.session) (there : place < 8) (low : p < 8)
    (held : handle_number a.session p ≢ 0) (pending : row.unwritten ≤ ring_len a.session p) where
  pub kept-flushed : row.len < 2 ^ 64 → KeptSound a (flushed a place p row)
  kept-flushed fits =
      record {
        sound = sound-flushed a place p row sound begun there low held pending fits;
        long = length-flushed-disk a place p row;
        same = slots-flushed a place p row sound begun there low held pending fits;
        only = only-flushed a place p row sound.head.few;
      }

  module _ (bs : List ℕ) (fits : row.len + length bs < 2 ^ 64) where
    -- both areas once the files have what they lacked
    abbrev then : Areas
    then = flushed a place p row

    abbrev r : RingBuffer
    r = ring_of a.session p

    flush-kept : KeptSound a then
    flush-kept = kept-flushed (omega arith)

    pub kept-sent : KeptSound a (sent_to a place p row bs)
    unfolding sent_to
    kept-sent =
        let f = begun.tapes p low held in
        picked (KeptSound a) (fills r (length bs)) _ _
        (λ e.
        kept-sound-then a then _ flush-kept
        (kept-wrote then place (file_size_of a.session p) row.len bs flush-kept.sound there f.file-some f.file-small (omega arith)))
        (λ e. picked (KeptSound a) (pushes_out r row.unwritten (length bs)) _ _ (λ q. flush-kept) (λ q. kept-sound-none a sound))

    -- bytes stay bytes
    bytes-sent-disk : Bytes a.disk → Bytes a.session → Bytes bs → Bytes (sent_to a place p row bs).disk
    unfolding sent_to
    bytes-sent-disk old kept new =
        let f = begun.tapes p low held in
        let flushed-bytes = bytes-flushed-disk a place p row sound begun there low held pending (omega arith) old kept in
        picked (λ (b : Areas). Bytes b.disk) (fills r (length bs)) _ _
        (λ e. bytes-wrote-disk then place (file_size_of a.session p) row.len bs flush-kept.sound there f.file-some f.file-small (omega arith) flushed-bytes new)
        (λ e. picked (λ (b : Areas). Bytes b.disk) (pushes_out r row.unwritten (length bs)) _ _ (λ q. flushed-bytes) (λ q. old))

    bytes-sent-session : Bytes a.session → Bytes (sent_to a place p row bs).session
    unfolding sent_to
    bytes-sent-session old =
        let flushed-bytes = bytes-flushed-session a place p row sound.head.few begun.long old in
        picked (λ (b : Areas). Bytes b.session) (fills r (length bs)) _ _
        (λ e.
        bytes-wrote-session then place (file_size_of a.session p) row.len bs flush-kept.sound.head.few
        (rw (length-flushed-session a place p row) begun.long) flushed-bytes)
        (λ e. picked (λ (b : Areas). Bytes b.session) (pushes_out r row.unwritten (length bs)) _ _ (λ q. flushed-bytes) (λ q. old))

    -- ---- the whole put

    pub sound-put_in : Sound (put_in a place p row bs).disk
    unfolding put_in
    sound-put_in = kept-sent.sound

    pub slots-put_in : slots (put_in a place p row bs).disk ≡ slots a.disk
    unfolding put_in
    slots-put_in = kept-sent.same

    pub length-put_in-disk : length (put_in a place p row bs).disk ≡ length a.disk
    unfolding put_in
    length-put_in-disk = kept-sent.long

    pub bytes-put_in-disk : Bytes a.disk → Bytes a.session → Bytes bs → Bytes (put_in a place p row bs).disk
    unfolding put_in
    bytes-put_in-disk = bytes-sent-disk

    pub begun-put_in : Begun (put_in a place p row bs).session
    unfolding put_in
    begun-put_in =
        let s = (sent_to a place p row bs).session in
        let same : ring_of s p ≡ r = ring-kept a.session s kept-sent.only p low in
        let number : handle_number s p ≢ 0 = rw (number-kept a.session s kept-sent.only p low) held in
        begun-cached s p row.len bs (begun_kept a.session s kept-sent.only begun) low number (grown row r (length bs))
        (rw same (after-pending r row.unwritten row.len bs (ring-sound a.session begun p low held) (pending-ring a.session p row.unwritten pending)))

    pub length-put_in-session : length (put_in a place p row bs).session ≡ length a.session
    unfolding put_in
    length-put_in-session =
        let s = (sent_to a place p row bs).session in
        length-put_staged (cached_in s p row.len bs) p (grown row r (length bs))
        ∙ length-cached s p row.len bs (rw kept-sent.only.long (omega (arith, begun.long)))
        ∙ kept-sent.only.long

    pub bytes-put_in-session : Bytes a.session → Bytes bs → Bytes (put_in a place p row bs).session
    unfolding put_in
    bytes-put_in-session old new =
        let s = (sent_to a place p row bs).session in
        let long : session_bytes ≤ length s = rw kept-sent.only.long begun.long in
        let cached = length-cached s p row.len bs (omega arith) in
        bytes-put_staged (cached_in s p row.len bs)
        (bytes-cached s p row.len bs (bytes-sent-session old) new long low)
        p (grown row r (length bs)) (omega arith)
