-- The row of a tape that is opened: the layout rule is kept, whatever the numbers are that it does not look at, and so is the length. Assumes nothing.
use Rattle.std.specs.Prelude.{◌≡◌, List, [], ◌∷◌, ℕ, ◌+◌, ◌≤◌, ◌<◌, ◌^◌}
use Rattle.std.proofs.Common.{◌∙◌, arith}
use Rattle.std.proofs.Math.ListN.{length}
use Rattle.octets.specs.Number.{Bytes}
use Rattle.octets.specs.Only.{OnlyIn, only_then, only_wider}
use Rattle.octets.specs.Words.{word_at}
use Rattle.layout.specs.Session.{session_bytes, tape_at, Begun}
use Rattle.session.specs.Rows.{handle_of, handle_words, put_handle, ring_of, put_ring, staged_of, put_staged, fill_ring}
use Rattle.session.specs.RowLaws.{length-put_head, only-put_handle, ring-only, only-put_staged, unwritten-same, staged-only, length-fill_ring}
use Rattle.session.specs.KeepLaws.{begun-tape, begun-put_head, begun-fill_ring, bytes-put_head, bytes-put_handle, bytes-put_staged}
use Rattle.session.specs.declared.tape_rows.Handle.{Handle}
use Rattle.cached_tape.specs.Filling.{filled_with}
use Rattle.cached_tape.specs.FillLaws.{length-filled, only-ring, bytes-filled}
use Rattle.opening.specs.declared.shape.Opening.{Opening}
use Rattle.opening.specs.Calls.{cached_from, row_staged, row_handle, rowed}

-- ---- single numbers of a row that was put: those beside them may be of any size

module _ (s : List ℕ) (p : ℕ) (h : Handle) (room : tape_at p + 24 ≤ length s) where
  pub entry-put : h.entry < 256 ^ 8 → (handle_of (put_handle s p h) p).entry ≡ h.entry
  unfolding handle_of put_handle
  entry-put f = word_at s (tape_at p) (handle_words h) 1 (tape_at p + 8) room (omega arith) f (omega arith)

  pub size-put : h.file_size < 256 ^ 8 → (handle_of (put_handle s p h) p).file_size ≡ h.file_size
  unfolding handle_of put_handle
  size-put f = word_at s (tape_at p) (handle_words h) 2 (tape_at p + 16) room (omega arith) f (omega arith)

-- ---- the ring that a cache is filled as

module _ (s : List ℕ) (p capacity first : ℕ) (bs : List ℕ) where
  abbrev bytes-in : List ℕ
  bytes-in = fill_ring s p 0 bs

  -- capacity, start, length, first index
  abbrev ring-words : List ℕ
  ring-words = capacity ∷ 0 ∷ length bs ∷ first ∷ []

  module _ (room : tape_at p + 24 + 32 ≤ length s) where
    ring-room : tape_at p + 24 + 32 ≤ length bytes-in
    ring-room = let same = length-fill_ring s p 0 bs in omega arith

    pub capacity-filled : capacity < 256 ^ 8 → (ring_of (filled_with s p capacity first bs) p).capacity ≡ capacity
    unfolding ring_of put_ring filled_with
    capacity-filled f = word_at bytes-in (tape_at p + 24) ring-words 0 (tape_at p + 24) ring-room (omega arith) f (omega arith)

    pub start-filled : (ring_of (filled_with s p capacity first bs) p).start ≡ 0
    unfolding ring_of put_ring filled_with
    start-filled = word_at bytes-in (tape_at p + 24) ring-words 1 (tape_at p + 32) ring-room (omega arith) (omega arith) (omega arith)

    pub len-filled : length bs < 256 ^ 8 → (ring_of (filled_with s p capacity first bs) p).len ≡ length bs
    unfolding ring_of put_ring filled_with
    len-filled f = word_at bytes-in (tape_at p + 24) ring-words 2 (tape_at p + 40) ring-room (omega arith) f (omega arith)

-- ---- the row

module _ (s : List ℕ) (p : ℕ) (o : Opening) (bs : List ℕ) where
  -- what is put, and what stands after each put
  abbrev row_bytes : List ℕ
  row_bytes = fill_ring s p 0 bs

  abbrev ring_put : List ℕ
  ring_put = filled_with s p o.cache (cached_from o) bs

  ring-only-put : OnlyIn (tape_at p + 24) (tape_at p + 24 + 32) row_bytes ring_put
  ring-only-put = only-ring s p o.cache (cached_from o) bs

  abbrev staged_put : List ℕ
  staged_put = put_staged ring_put p (row_staged o)

  abbrev handle_put : List ℕ
  handle_put = put_handle staged_put p (row_handle s o)

  only_row : OnlyIn (tape_at p) (tape_at p + 96) row_bytes handle_put
  only_row =
      only_then _ _ row_bytes staged_put handle_put
      (only_then _ _ row_bytes ring_put staged_put
      (only_wider _ _ _ _ row_bytes ring_put (omega arith) (omega arith) ring-only-put)
      (only_wider _ _ _ _ ring_put staged_put (omega arith) (omega arith) (only-put_staged ring_put p (row_staged o))))
      (only_wider _ _ _ _ staged_put handle_put (omega arith) (omega arith) (only-put_handle staged_put p (row_handle s o)))

  pub length-rowed : length (rowed s p o bs) ≡ length s
  unfolding rowed
  length-rowed = length-put_head handle_put _ ∙ only_row.long ∙ length-fill_ring s p 0 bs

  pub bytes-rowed : session_bytes ≤ length s → p < 8 → length bs ≤ 4096 → Bytes s → Bytes bs → Bytes (rowed s p o bs)
  unfolding rowed
  bytes-rowed long low few old new =
      let l1 : length ring_put ≡ length s = length-filled s p o.cache (cached_from o) bs in
      let l2 : length staged_put ≡ length ring_put = (only-put_staged ring_put p (row_staged o)).long in
      let l3 : length handle_put ≡ length staged_put = (only-put_handle staged_put p (row_handle s o)).long in
      bytes-put_head handle_put
      (bytes-put_handle staged_put
      (bytes-put_staged ring_put (bytes-filled s p o.cache (cached_from o) bs few long low old new) p (row_staged o) (omega arith))
      p (row_handle s o) (omega arith))
      _ (omega arith)

  -- a row in range: its ring is filled with no more than it holds
  pub record RowFits : Type 0 where
    pub entry-some : 1 ≤ o.entry
    pub entry-small : o.entry ≤ 256
    pub file-some : 1 ≤ o.file_size
    pub file-small : o.file_size ≤ 4096
    pub cache-some : 1 ≤ o.cache
    pub cache-small : o.cache ≤ 4096
    pub within : length bs ≤ o.cache

  module _ (low : p < 8) (fits : RowFits) where
    pub begun-rowed : Begun s → Begun (rowed s p o bs)
    unfolding rowed
    begun-rowed begun =
        let few = fits.within in
        let cap = fits.cache-small in
        let wide = begun.long in
        let l1 : length row_bytes ≡ length s = length-fill_ring s p 0 bs in
        let l2 : length ring_put ≡ length row_bytes = ring-only-put.long in
        let l3 : length staged_put ≡ length ring_put = (only-put_staged ring_put p (row_staged o)).long in
        let after-ring : ring_of handle_put p ≡ ring_of ring_put p
        = ring-only _ _ staged_put handle_put (only-put_handle staged_put p (row_handle s o)) p (λ q. omega arith)
        ∙ ring-only _ _ ring_put staged_put (only-put_staged ring_put p (row_staged o)) p (λ q. omega arith) in
        let after-staged : staged_of handle_put p ≡ staged_of staged_put p
        = staged-only _ _ staged_put handle_put (only-put_handle staged_put p (row_handle s o)) p (λ q. omega arith) in
        let entry = entry-put staged_put p (row_handle s o) (omega arith) (omega (arith, fits.entry-small)) in
        let size = size-put staged_put p (row_handle s o) (omega arith) (omega (arith, fits.file-small)) in
        let capacity = capacity-filled s p o.cache (cached_from o) bs (omega arith) (omega arith) in
        let start = start-filled s p o.cache (cached_from o) bs (omega arith) in
        let len = len-filled s p o.cache (cached_from o) bs (omega arith) (omega arith) in
        let unwritten = unwritten-same ring_put p (row_staged o) (omega arith) (omega arith) in
        begun-put_head handle_put
        (begun-tape _ _ row_bytes handle_put only_row p low (omega arith) (omega arith) (begun-fill_ring s begun p 0 bs (omega arith))
        (rw (after-ring, after-staged)
        (λ held.
        record {
          entry-some = rw entry fits.entry-some;
          entry-small = rw entry fits.entry-small;
          file-some = rw size fits.file-some;
          file-small = rw size fits.file-small;
          small = rw capacity cap;
          inside = omega (arith, fits.cache-some);
          short = omega arith;
          pending = omega arith;
        })))
        _
