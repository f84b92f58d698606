-- The cache's side of each step: tape p's ring, its bytes and its staged record are what `ring_buffer` says, and everything else of the session is as it was.
-- Assumes nothing.
use Rattle.std.specs.Prelude.{◌≡◌, refl, ◌≢◌, cond, List, eqb}
use Rattle.std.proofs.Common.{sym, ◌∙◌, eq-eqb, ne_eqb, leb-false, ltb-false}
use Rattle.std.proofs.Math.Path.{ap, fun_ext}
use Prim.Native.Nat.{ℕ, ◌+◌, ◌-◌, ◌≤◌, ◌<◌, ◌^◌}
use native.Mathlib.Omega.{arith}
use Rattle.std.proofs.Math.ListN.{length}
use Rattle.octets.specs.Bytes.{put}
use Rattle.octets.specs.Cases.{equal, picked}
use Rattle.octets.specs.Number.{Bytes, num_at-lt}
use Rattle.octets.specs.Only.{OnlyIn}
use Rattle.disk.specs.Meaning.{disk_of}
use Rattle.layout.specs.Disk.{Sound}
use Rattle.layout.specs.Session.{head_at, handle_number, ring_len, Begun}
use Rattle.ring_buffer.specs.Ring.{fresh, reset_to, prepared, popped, truncated}
use Rattle.ring_buffer.specs.Put.{fills, pushes_out, last_of, after_put, bytes_after_put, unwritten_after}
use Rattle.ring_buffer.specs.declared.bookkeeping.RingBuffer.{RingBuffer}
use Rattle.session.specs.Meaning.{Session, untouched, session_of, with_head, with_handle, with_ring, with_cache, with_staged}
use Rattle.session.specs.MeaningLaws.{Ready, same-session, head_at_lem, handle-at, ring-at, cache-at, staged-at, ready-put_handle, ready-put_ring, ready-put_staged, ready-fill_ring, ready-push_ring, session-put_head, session-put_handle, session-put_ring, session-put_staged, session-fill_ring, session-push_ring}
use Rattle.session.specs.Rows.{head_of, handle_of, ring_of, staged_of, ring_bytes, put_ring, put_staged, put_handle, push_ring, fill_ring}
use Rattle.session.specs.RowLaws.{HeadFits, RingNumbers, StagedFits}
use Rattle.session.specs.KeepLaws.{begun-ready, ring-sound}
use Rattle.session.specs.declared.tape_rows.Staged.{Staged}
use Rattle.session.specs.declared.tracking.Tracking.{Tracking}
use Rattle.rolling_tape.specs.Files.{files_of}
use Rattle.rolling_tape.specs.Removal.{Areas}
use Rattle.cached_tape.specs.Filling.{filled_with}
use Rattle.cached_tape.specs.FlushLaws.{begun_kept, ring-kept, ring_bytes-kept, staged-kept, number-kept}
use Rattle.cached_tape.specs.Putting.{sent_to, cached_in, grown, put_in}
use Rattle.cached_tape.specs.PutLaws.{ring-numbers, kept-sent}
use Rattle.opening.specs.Calls.{cached_from, next_handle, row_staged, row_handle, handed, rowed}
use Rattle.opening.specs.RowedLaws.{RowFits}
use Rattle.opening.specs.declared.shape.Opening.{Opening}
use Rattle.ending.specs.CutLaws.{untouched-fits}
use Rattle.ending.specs.Dropping.{reverted}
use Rattle.ending.specs.Steps.{cut_ring, unstage}
use Rattle.joins.specs.FilesAt.{files_at}

-- ---- one tape's ring, bytes and staged record

-- the session with those of tape p changed
abbrev pub with_tape : Session → ℕ → RingBuffer → List ℕ → Staged → Session
with_tape m p r bytes st = with_staged (with_ring (with_cache m p bytes) p r) p st

module _ {A : Type 0} (f : ℕ → A) (p : ℕ) (x : A) where
  -- a row that is changed to what it is
  pub with-own : f p ≡ x → (λ (q : ℕ). cond (eqb q p) x (f q)) ≡ f
  with-own e = fun_ext (λ (q : ℕ). equal q p (λ (h : q ≡ p). rw (h, eq-eqb p p refl) (sym e)) (λ (h : q ≢ p). rw (ne_eqb q p h)))

  pub with-here : cond (eqb p p) x (f p) ≡ x
  with-here = rw (eq-eqb p p refl)

  pub with-apart : (q : ℕ) → q ≢ p → cond (eqb q p) x (f q) ≡ f q
  with-apart q h = rw (ne_eqb q p h)

module _ (s : List ℕ) (p : ℕ) (low : p < 8) where
  -- what a step does not change stands as it is
  own-cache : with_cache (session_of s) p (ring_bytes s p) ≡ session_of s
  own-cache =
      same-session (with_cache (session_of s) p (ring_bytes s p)) (session_of s) refl refl refl refl refl refl
      (with-own (session_of s).cache p (ring_bytes s p) (cache-at s p low)) refl refl

  own-ring : with_ring (session_of s) p (ring_of s p) ≡ session_of s
  own-ring =
      same-session (with_ring (session_of s) p (ring_of s p)) (session_of s) refl refl refl refl refl
      (with-own (session_of s).ring p (ring_of s p) (ring-at s p low)) refl refl refl

-- the tape in place q is as it was, but for its handle
pub record AsBefore (s t : List ℕ) (q : ℕ) : Type 0 where
  pub ring : ring_of t q ≡ ring_of s q
  pub cache : ring_bytes t q ≡ ring_bytes s q
  pub staged : staged_of t q ≡ staged_of s q

-- tape p has this ring, these bytes in it and this staged record; the rest of the session is as it was
pub record Becomes (s t : List ℕ) (p : ℕ) (r : RingBuffer) (bytes : List ℕ) (st : Staged) : Type 0 where
  pub ring : ring_of t p ≡ r
  pub cache : ring_bytes t p ≡ bytes
  pub staged : staged_of t p ≡ st
  pub others : (q : ℕ) → q < 8 → q ≢ p → AsBefore s t q
  pub handles : (q : ℕ) → q < 8 → handle_of t q ≡ handle_of s q
  pub tracking : (session_of t).tracking ≡ (session_of s).tracking
  pub whole : session_of t ≡ with_tape (session_of s) p r bytes st

module _ (s t : List ℕ) (p : ℕ) (low : p < 8) (r : RingBuffer) (bytes : List ℕ) (st : Staged) where
  pub becomes : session_of t ≡ with_tape (session_of s) p r bytes st → Becomes s t p r bytes st
  becomes e =
      record {
        ring = sym (ring-at t p low) ∙ ap (λ (m : Session). m.ring p) e ∙ with-here (session_of s).ring p r;
        cache = sym (cache-at t p low) ∙ ap (λ (m : Session). m.cache p) e ∙ with-here (session_of s).cache p bytes;
        staged = sym (staged-at t p low) ∙ ap (λ (m : Session). m.staged p) e ∙ with-here (session_of s).staged p st;
        others = λ q l d.
            record {
              ring = sym (ring-at t q l) ∙ ap (λ (m : Session). m.ring q) e ∙ with-apart (session_of s).ring p r q d ∙ ring-at s q l;
              cache = sym (cache-at t q l) ∙ ap (λ (m : Session). m.cache q) e ∙ with-apart (session_of s).cache p bytes q d ∙ cache-at s q l;
              staged = sym (staged-at t q l) ∙ ap (λ (m : Session). m.staged q) e ∙ with-apart (session_of s).staged p st q d ∙ staged-at s q l;
            };
        handles = λ q l. sym (handle-at t q l) ∙ ap (λ (m : Session). m.handle q) e ∙ handle-at s q l;
        tracking = ap (λ (m : Session). m.tracking) e;
        whole = e;
      }

-- ---- a put

-- no more is unwritten than the ring has room for
unwritten-small : (r : RingBuffer) (unwritten n : ℕ) → unwritten_after r unwritten n ≤ r.capacity
unfolding unwritten_after
unwritten-small r unwritten n =
    picked (λ (k : ℕ). k ≤ r.capacity) (fills r n) _ _ (λ e. omega arith)
    (λ e.
    let few : n < r.capacity = leb-false r.capacity n e in
    picked (λ (k : ℕ). k ≤ r.capacity) (pushes_out r unwritten n) _ _ (λ q. omega arith) (λ q. ltb-false r.capacity (unwritten + n) q))

module _ (s : List ℕ) (begun : Begun s) (p : ℕ) (low : p < 8) (held : handle_number s p ≢ 0) (len : ℕ) (bs : List ℕ) where
  cached-means : session_of (cached_in s p len bs) ≡ with_ring (with_cache (session_of s) p (bytes_after_put (ring_of s p) (ring_bytes s p) bs)) p (after_put (ring_of s p) len bs)
  unfolding cached_in bytes_after_put prepared
  cached-means =
      let r = ring_of s p in
      let new = after_put r len bs in
      let u = push_ring s p (prepared r len) (last_of r bs) in
      let ready = begun-ready s begun in
      session-put_ring u p new (ready-push_ring s p (prepared r len) (last_of r bs) ready low) low (ring-numbers r len bs (ring-sound s begun p low held))
      ∙ ap (λ (m : Session). with_ring m p new) (session-push_ring s p (prepared r len) (last_of r bs) ready low)

  cached-ready : Ready (cached_in s p len bs)
  unfolding cached_in
  cached-ready =
      let r = ring_of s p in
      let u = push_ring s p (prepared r len) (last_of r bs) in
      ready-put_ring u p (after_put r len bs) (ready-push_ring s p (prepared r len) (last_of r bs) (begun-ready s begun) low) low

-- what a put through the cache leaves: tape p's row and its bytes, the rings and staged records of the others, and the files as what went to them made
-- them; `put-becomes` has the rest
pub record PutsIn (a : Areas) (place p : ℕ) (row : Staged) (bs : List ℕ) : Type 0 where
  pub ring : ring_of (put_in a place p row bs).session p ≡ after_put (ring_of a.session p) row.len bs
  pub cache : ring_bytes (put_in a place p row bs).session p ≡ bytes_after_put (ring_of a.session p) (ring_bytes a.session p) bs
  pub staged : staged_of (put_in a place p row bs).session p ≡ grown row (ring_of a.session p) (length bs)
  pub others : (q : ℕ) → q < 8 → q ≢ p → AsBefore a.session (put_in a place p row bs).session q
  pub disk : (put_in a place p row bs).disk ≡ (sent_to a place p row bs).disk
  pub files : (q : ℕ) → files_at (put_in a place p row bs) q ≡ files_at (sent_to a place p row bs) q

module _ (a : Areas) (place p : ℕ) (row : Staged) (bs : List ℕ) (sound : Sound a.disk) (begun : Begun a.session) (there : place < 8) (low : p < 8)
    (held : handle_number a.session p ≢ 0) (pending : row.unwritten ≤ ring_len a.session p) (fits : row.len + length bs < 2 ^ 64)
    (base : row.base < 2 ^ 64) (start : row.start < 2 ^ 64) where
  abbrev then : List ℕ
  then = (sent_to a place p row bs).session

  abbrev r : RingBuffer
  r = ring_of a.session p

  abbrev only : OnlyIn 4936 5960 a.session then
  only = (kept-sent a place p row sound begun there low held pending bs fits).only

  grown-fits : StagedFits (grown row r (length bs))
  grown-fits =
      let ring = ring-sound a.session begun p low held in
      record { base = base; len = fits; start = start; unwritten = omega (arith, unwritten-small r row.unwritten (length bs), ring.small) }

  -- over the session once the files have what goes to them
  pub put-becomes : Becomes then (put_in a place p row bs).session p (after_put r row.len bs) (bytes_after_put r (ring_bytes a.session p) bs) (grown row r (length bs))
  unfolding put_in
  put-becomes =
      let begun-then = begun_kept a.session then only begun in
      let the_held_then : handle_number then p ≢ 0 = rw (number-kept a.session then only p low) held in
      let row-then = grown row r (length bs) in
      becomes then _ p low (after_put r row.len bs) (bytes_after_put r (ring_bytes a.session p) bs) row-then
      (session-put_staged (cached_in then p row.len bs) p row-then (cached-ready then begun-then p low the_held_then row.len bs) low grown-fits
      ∙ ap (λ (m : Session). with_staged m p row-then) (cached-means then begun-then p low the_held_then row.len bs)
      ∙ rw (ring-kept a.session then only p low, ring_bytes-kept a.session then only p))

  pub puts-in : PutsIn a place p row bs
  unfolding put_in
  puts-in =
      let b = put-becomes in
      record {
        ring = b.ring;
        cache = b.cache;
        staged = b.staged;
        others = λ q l d.
            record {
              ring = (b.others q l d).ring ∙ ring-kept a.session then only q l;
              cache = (b.others q l d).cache ∙ ring_bytes-kept a.session then only q;
              staged = (b.others q l d).staged ∙ staged-kept a.session then only q l;
            };
        disk = refl;
        files = λ q. ap (λ (t : ℕ → Tracking). files_of (disk_of (sent_to a place p row bs).disk) t q) b.tracking;
      }

-- ---- a cache that is filled

module _ (s : List ℕ) (ready : Ready s) (p : ℕ) (low : p < 8) (capacity first : ℕ) (bs : List ℕ) (small : capacity < 2 ^ 64) (below : first < 2 ^ 64) (few : length bs ≤ 4096) where
  abbrev new : RingBuffer
  new = reset_to (fresh capacity first) (length bs) first

  filled-means : session_of (filled_with s p capacity first bs) ≡ with_ring (with_cache (session_of s) p (put (ring_bytes s p) 0 bs)) p new
  unfolding filled_with
  filled-means =
      let u = fill_ring s p 0 bs in
      session-put_ring u p new (ready-fill_ring s p 0 bs ready low (omega arith)) low
      (record { capacity = small; start = omega arith; len = omega arith; first = below })
      ∙ ap (λ (m : Session). with_ring m p new) (session-fill_ring s p 0 bs ready low (omega arith))

  filled-ready : Ready (filled_with s p capacity first bs)
  unfolding filled_with
  filled-ready = ready-put_ring (fill_ring s p 0 bs) p new (ready-fill_ring s p 0 bs ready low (omega arith)) low

-- ---- the row of a tape that is opened

-- the session's meaning then
abbrev pub rowed_as : List ℕ → ℕ → Opening → List ℕ → Session
rowed_as s p o bs =
    with_head
    (with_handle (with_tape (session_of s) p (reset_to (fresh o.cache (cached_from o)) (length bs) (cached_from o)) (put (ring_bytes s p) 0 bs) (row_staged o)) p (row_handle s o))
    (handed (head_of s))

pub record RowsIn (s : List ℕ) (p : ℕ) (o : Opening) (bs : List ℕ) : Type 0 where
  pub ring : ring_of (rowed s p o bs) p ≡ reset_to (fresh o.cache (cached_from o)) (length bs) (cached_from o)
  pub cache : ring_bytes (rowed s p o bs) p ≡ put (ring_bytes s p) 0 bs
  pub staged : staged_of (rowed s p o bs) p ≡ row_staged o
  pub handle : handle_of (rowed s p o bs) p ≡ row_handle s o
  pub head : head_of (rowed s p o bs) ≡ handed (head_of s)
  pub tracking : (session_of (rowed s p o bs)).tracking ≡ (session_of s).tracking
  pub whole : session_of (rowed s p o bs) ≡ rowed_as s p o bs

module _ (s : List ℕ) (ready : Ready s) (bytes : Bytes s) (p : ℕ) (low : p < 8) (o : Opening) (bs : List ℕ) (fits : RowFits s p o bs) (more : next_handle s < 2 ^ 64)
    (len : o.len < 2 ^ 64) (start : o.start < 2 ^ 64) where
  abbrev ring_in : List ℕ
  ring_in = filled_with s p o.cache (cached_from o) bs

  abbrev staged-in : List ℕ
  staged-in = put_staged ring_in p (row_staged o)

  abbrev handle-in : List ℕ
  handle-in = put_handle staged-in p (row_handle s o)

  head-fits : HeadFits (handed (head_of s))
  unfolding head_of
  head-fits = record { epoch = num_at-lt 8 s head_at bytes; transaction = num_at-lt 8 s (head_at + 24) bytes; handle = more }

  rowed-means : session_of (rowed s p o bs) ≡ rowed_as s p o bs
  unfolding rowed
  rowed-means =
      let small : o.cache < 2 ^ 64 = omega (arith, fits.cache-small) in
      let below : cached_from o < 2 ^ 64 = omega arith in
      let few : length bs ≤ 4096 = omega (arith, fits.within, fits.cache-small) in
      let filled = filled-ready s ready p low o.cache (cached_from o) bs small below few in
      let row = ready-put_staged ring_in p (row_staged o) filled low in
      session-put_head handle-in (handed (head_of s)) (ready-put_handle staged-in p (row_handle s o) row low) head-fits
      ∙ ap (λ (m : Session). with_head m (handed (head_of s)))
      (session-put_handle staged-in p (row_handle s o) row low (record { number = more; entry = omega (arith, fits.entry-small); file = omega (arith, fits.file-small) })
      ∙ ap (λ (m : Session). with_handle m p (row_handle s o))
      (session-put_staged ring_in p (row_staged o) filled low (record { base = len; len = len; start = start; unwritten = omega arith })
      ∙ ap (λ (m : Session). with_staged m p (row_staged o)) (filled-means s ready p low o.cache (cached_from o) bs small below few)))

  pub rows_in : RowsIn s p o bs
  rows_in =
      let t = rowed s p o bs in
      let e = rowed-means in
      let new = reset_to (fresh o.cache (cached_from o)) (length bs) (cached_from o) in
      let now = put (ring_bytes s p) 0 bs in
      record {
        ring = sym (ring-at t p low) ∙ ap (λ (m : Session). m.ring p) e ∙ with-here (session_of s).ring p new;
        cache = sym (cache-at t p low) ∙ ap (λ (m : Session). m.cache p) e ∙ with-here (session_of s).cache p now;
        staged = sym (staged-at t p low) ∙ ap (λ (m : Session). m.staged p) e ∙ with-here (session_of s).staged p (row_staged o);
        handle = sym (handle-at t p low) ∙ ap (λ (m : Session). m.handle p) e ∙ with-here (session_of s).handle p (row_handle s o);
        head = sym (head_at_lem t) ∙ ap (λ (m : Session). m.head) e;
        tracking = ap (λ (m : Session). m.tracking) e;
        whole = e;
      }

-- ---- a staged record alone, and the ends of transactions

-- the numbers of a ring that is read are those of an area of bytes
read-numbers : (s : List ℕ) → Bytes s → (p : ℕ) → RingNumbers (ring_of s p)
unfolding ring_of
read-numbers s bytes p =
    record { capacity = num_at-lt 8 s _ bytes; start = num_at-lt 8 s _ bytes; len = num_at-lt 8 s _ bytes; first = num_at-lt 8 s _ bytes }

module _ (s : List ℕ) (ready : Ready s) (p : ℕ) (low : p < 8) where
  pub staged-becomes : (st : Staged) → StagedFits st → Becomes s (put_staged s p st) p (ring_of s p) (ring_bytes s p) st
  staged-becomes st fits =
      becomes s _ p low (ring_of s p) (ring_bytes s p) st
      (session-put_staged s p st ready low fits
      ∙ ap (λ (m : Session). with_staged m p st) (sym (own-ring s p low) ∙ ap (λ (m : Session). with_ring m p (ring_of s p)) (sym (own-cache s p low))))

  pub unstage-becomes : Becomes s (unstage p s) p (ring_of s p) (ring_bytes s p) untouched
  unfolding unstage
  unstage-becomes = staged-becomes untouched untouched-fits

  -- a ring behind a staged record that is untouched
  ended : (r : RingBuffer) → RingNumbers r → Becomes s (put_ring (put_staged s p untouched) p r) p r (ring_bytes s p) untouched
  ended r numbers =
      let u = put_staged s p untouched in
      becomes s (put_ring u p r) p low r (ring_bytes s p) untouched
      (session-put_ring u p r (ready-put_staged s p untouched ready low) low numbers
      ∙ ap (λ (m : Session). with_ring m p r) (session-put_staged s p untouched ready low untouched-fits)
      ∙ ap (λ (m : Session). with_ring (with_staged m p untouched) p r) (sym (own-cache s p low)))

  module _ (bytes : Bytes s) where
    -- a truncate's
    pub cut-becomes : Becomes s (cut_ring p s) p (truncated (ring_of s p) (staged_of s p).len) (ring_bytes s p) untouched
    unfolding cut_ring truncated
    cut-becomes =
        let r = read-numbers s bytes p in
        ended (truncated (ring_of s p) (staged_of s p).len) (record { capacity = r.capacity; start = r.start; len = omega (arith, r.len); first = r.first })

    -- a dropped append's
    pub reverted-becomes : Becomes s (reverted p s) p (popped (ring_of s p) ((staged_of s p).len - (staged_of s p).base)) (ring_bytes s p) untouched
    unfolding reverted unstage popped
    reverted-becomes =
        let r = read-numbers s bytes p in
        ended (popped (ring_of s p) ((staged_of s p).len - (staged_of s p).base))
        (record { capacity = r.capacity; start = r.start; len = omega (arith, r.len); first = omega (arith, r.first) })
