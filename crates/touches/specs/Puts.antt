-- What `append_entries` touches: of the session the ring and the staged record of the handle's tape, its cache's bytes, and tracking; of the disk the file
-- table and the slots. Assumes nothing.
use Rattle.std.specs.Prelude.{◌≡◌, ◌≢◌, List, [], ◌∷◌, ℕ, ◌+◌, ◌≤◌, ◌<◌, Option, Some}
use Rattle.std.proofs.Common.{ap, ◌∙◌, arith}
use Rattle.std.proofs.Math.ListN.{length}
use Rattle.octets.specs.Cases.{picked}
use Rattle.answers.specs.Outcome.{Outcome}
use Rattle.layout.specs.Session.{ring_at, file_size_of}
use Rattle.ring_buffer.specs.Put.{fills, pushes_out, last_of, after_put}
use Rattle.ring_buffer.specs.Ring.{prepared}
use Rattle.session.specs.Rows.{ring_of, push_ring, find_handle}
use Rattle.session.specs.RowLaws.{only-put_ring, only-push_ring, only-put_staged}
use Rattle.session.specs.declared.tape_rows.Staged.{Staged}
use Rattle.rolling_tape.specs.Removal.{Areas, areas}
use Rattle.cached_tape.specs.Flushing.{flushed}
use Rattle.cached_tape.specs.Putting.{sent_to, cached_in, grown, put_in}
use Rattle.cached_tape.specs.PutLaws.{kept-sent}
use Rattle.staging.specs.Seeing.{touched_as}
use Rattle.staging.specs.Ways.{handle-found}
use Rattle.appending.specs.Calls.{put_call}
use Rattle.appending.specs.Laws.{put-cases, Ready, ready}
use Rattle.touches.specs.Parts.{Part, Inside, Outside, Touches, Stays, below_tapes, handles, tape_of, bookkeeping_of, staged_of, tracking, found, below_files, files, stays, stays-found, touches_none, touches-then, touches-only, one-touches}
use Rattle.touches.specs.Parts as P
use Rattle.touches.specs.Files.{sound-lengths, Written, written_none, written_then, written-wrote, written-flushed}

-- ---- of the session

-- of tape p
abbrev pub put_parts : ℕ → List Part
put_parts p = bookkeeping_of p ∷ staged_of p ∷ tracking ∷ P.ring_of p ∷ []

touches-cached_in : (s : List ℕ) (p len : ℕ) (bs : List ℕ) → ring_at p + 4096 ≤ length s → Touches (put_parts p) s (cached_in s p len bs)
unfolding cached_in
touches-cached_in s p len bs room =
    let t = push_ring s p (prepared (ring_of s p) len) (last_of (ring_of s p) bs) in
    touches-then (put_parts p) s t _
    (touches-only (put_parts p) _ _ s t (only-push_ring s p (prepared (ring_of s p) len) (last_of (ring_of s p) bs) room) (λ i o l. o.1.1.1.0 l))
    (touches-only (put_parts p) _ _ t _ (only-put_ring t p (after_put (ring_of s p) len bs)) (λ i o l. omega (arith, o.0 (omega arith))))

module _ (a : Areas) (place p : ℕ) (row : Staged) (bs : List ℕ) (r : Ready a place p row bs) where
  touches-put_in : Touches (put_parts p) a.session (put_in a place p row bs).session
  unfolding put_in
  touches-put_in =
      let s = a.session in
      let t = (sent_to a place p row bs).session in
      let u = cached_in t p row.len bs in
      let sent = (kept-sent a place p row r.sound r.begun r.there r.low r.held r.pending bs r.fits).only in
      let same : length t ≡ length s = sent.long in
      touches-then (put_parts p) s t _ (touches-only (put_parts p) _ _ s t sent (λ i o l. o.1.1.0 l))
      (touches-then (put_parts p) t u _ (touches-cached_in t p row.len bs (omega (arith, r.begun.long, r.low)))
      (touches-only (put_parts p) _ _ u _ (only-put_staged u p (grown row (ring_of s p) (length bs))) (λ i o l. omega (arith, o.1.0 (omega arith)))))

  -- ---- of the disk

  written-sent : Written a.disk (sent_to a place p row bs).disk
  unfolding sent_to
  written-sent =
      let f = r.begun.tapes p r.low r.held in
      let table = sound-lengths a.disk r.sound in
      let then = flushed a place p row in
      let flush = written-flushed a place p row table f.file-some f.file-small in
      picked (λ (b : Areas). Written a.disk b.disk) (fills (ring_of a.session p) (length bs)) _ _
      (λ e.
      written_then a.disk then.disk _ flush
      (written-wrote then place (file_size_of a.session p) row.len bs flush.table f.file-some f.file-small))
      (λ e.
      picked (λ (b : Areas). Written a.disk b.disk) (pushes_out (ring_of a.session p) row.unwritten (length bs)) _ _ (λ q. flush)
      (λ q. written_none a.disk table))

  files-put_in : Touches (files a.disk ∷ []) a.disk (put_in a place p row bs).disk
  unfolding put_in
  files-put_in = one-touches _ _ a.disk _ written-sent.only

-- ---- the call

module _ (d s : List ℕ) (t h : ℕ) (bs : List ℕ) where
  pub put-touches-session : Touches (found put_parts (find_handle s h)) s (put_call d s t h bs).session
  put-touches-session =
      put-cases (λ (o : Outcome). Touches (found put_parts (find_handle s h)) s o.session) d s bs (λ why. touches_none (found put_parts (find_handle s h)) s) t h
      (λ p place g. rw g.found (touches-put_in (areas d s) place p (touched_as s p) bs (ready d s t h bs p place g)))

  pub put-touches-disk : Touches (files d ∷ []) d (put_call d s t h bs).disk
  put-touches-disk =
      put-cases (λ (o : Outcome). Touches (files d ∷ []) d o.disk) d s bs (λ why. touches_none (files d ∷ []) d) t h
      (λ p place g. files-put_in (areas d s) place p (touched_as s p) bs (ready d s t h bs p place g))

-- ---- what it leaves

-- mark, head, names, views, transactions; every handle; and of every other tape its row and its cache
pub record PutLeaves (tape : Option ℕ) (s u : List ℕ) : Type 0 where
  pub tables-stay : Stays below_tapes s u
  pub handles-stay : Stays handles s u
  pub tapes-stay : (q : ℕ) → q < 8 → tape ≢ Some q → Stays (tape_of q) s u
  pub rings-stay : (q : ℕ) → q < 8 → tape ≢ Some q → Stays (P.ring_of q) s u

put-leaves : (tape : Option ℕ) (s u : List ℕ) → ((p : ℕ) → tape ≡ Some p → p < 8) → Touches (found put_parts tape) s u → PutLeaves tape s u
put-leaves tape s u low a =
    let rest : (q : Part) → ((p : ℕ) → p < 8 → tape ≡ Some p → (i : ℕ) → Inside i q → Outside i (put_parts p)) → Stays q s u
    = λ q h. stays-found put_parts tape q s u a (λ p e. h p (low p e) e) in
    record {
      tables-stay = rest below_tapes (λ p small e i h. search arith);
      handles-stay = rest handles (λ p small e i h. search arith);
      tapes-stay = λ q l d. rest (tape_of q) (λ p small e i h. let n : p ≢ q = λ z. d (e ∙ ap Some z) in search arith);
      rings-stay = λ q l d. rest (P.ring_of q) (λ p small e i h. let n : p ≢ q = λ z. d (e ∙ ap Some z) in search arith);
    }

pub put-leaves-session : (d s : List ℕ) (t h : ℕ) (bs : List ℕ) → PutLeaves (find_handle s h) s (put_call d s t h bs).session
put-leaves-session d s t h bs = put-leaves (find_handle s h) s _ (λ p e. (handle-found s h p e).low) (put-touches-session d s t h bs)

-- mark, slot count, directories, left and right with their lengths
pub put-leaves-disk : (d s : List ℕ) (t h : ℕ) (bs : List ℕ) → Stays below_files d (put_call d s t h bs).disk
put-leaves-disk d s t h bs = stays (files d ∷ []) below_files d _ (put-touches-disk d s t h bs) (λ i h. search arith)
