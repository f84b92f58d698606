-- Laws of what a truncate does to its tapes, and of closing the writer's place: where they write, that the session stays begun, and bytes stay bytes.
-- Assumes nothing.
use Rattle.std.specs.Prelude.{◌≡◌, refl, ℕ, ◌≤◌, ◌<◌, Option, Some, None}
use Rattle.std.proofs.Common.{◌∙◌}
use mathlib.Core.List.{List}
use native.Mathlib.Omega.{arith}
use Rattle.std.proofs.Math.ListN.{length}
use Rattle.octets.specs.Cases.{picked}
use Rattle.octets.specs.Number.{Bytes}
use Rattle.octets.specs.Only.{OnlyIn, only_none, only_then, only_wider}
use Rattle.octets.specs.Sweep.{sweep, sweep-keeps}
use Rattle.layout.specs.Disk.{slots}
use Rattle.layout.specs.Session.{session_bytes, file_size_of, Begun}
use Rattle.ring_buffer.specs.Ring.{truncated}
use Rattle.session.specs.Rows.{head_of, transaction_of, ring_of, staged_of, put_staged}
use Rattle.session.specs.RowLaws.{StagedFits, head-only, only-put_transaction, transaction-same, only-put_ring, only-put_staged, staged-same, ring-only}
use Rattle.session.specs.KeepLaws.{Open, open-with, begun-put_transaction, begun-put_staged, bytes-put_transaction, bytes-put_ring, bytes-put_staged, open_row, begun-put_ring}
use Rattle.session.specs.declared.tape_rows.Handle.{Handle}
use Rattle.session.specs.declared.tape_rows.Staged.{Staged}
use Rattle.session.specs.Meaning.{closed, untouched}
use Rattle.rolling_tape.specs.Tracking.{retracked}
use Rattle.rolling_tape.specs.TrackingLaws.{only-retracked, begun-retracked, bytes-retracked}
use Rattle.rolling_tape.specs.declared.tracking.Change.{Change}
use Rattle.staging.specs.Seeing.{directory_of}
use Rattle.ending.specs.Listing.{is_touched}
use Rattle.ending.specs.Steps.{cut_ring, clear_in, cut_tape, cut_all, unstage, close_writer}

-- ---- of a truncate

-- nothing staged
pub untouched-fits : StagedFits untouched
untouched-fits = record { base = omega arith; len = omega arith; start = omega arith; unwritten = omega arith }

pub begun-unstage : (s : List ℕ) → Begun s → (p : ℕ) → p < 8 → Begun (unstage p s)
unfolding unstage
begun-unstage s begun p low = begun-put_staged s begun p low untouched (λ held. omega arith)

pub bytes-unstage : (s : List ℕ) → session_bytes ≤ length s → Bytes s → (p : ℕ) → p < 8 → Bytes (unstage p s)
unfolding unstage
bytes-unstage s long bytes p low = bytes-put_staged s bytes p untouched (omega arith)

module _ (p : ℕ) (s : List ℕ) (low : p < 8) where
  pub only-unstage : OnlyIn 4168 4936 s (unstage p s)
  unfolding unstage
  only-unstage = only_wider _ _ 4168 4936 s _ (omega arith) (omega arith) (only-put_staged s p untouched)

  -- the staged record first, then the ring: both are in the tape's row
  pub only-cut_ring : OnlyIn 4168 4936 s (cut_ring p s)
  unfolding cut_ring
  only-cut_ring =
      let u = put_staged s p untouched in
      only_then 4168 4936 s u _
      (only_wider _ _ 4168 4936 s u (omega arith) (omega arith) (only-put_staged s p untouched))
      (only_wider _ _ 4168 4936 u _ (omega arith) (omega arith) (only-put_ring u p (truncated (ring_of s p) (staged_of s p).len)))

  pub bytes-cut_ring : session_bytes ≤ length s → Bytes s → Bytes (cut_ring p s)
  unfolding cut_ring
  bytes-cut_ring long bytes =
      let u = put_staged s p untouched in
      let same = (only-put_staged s p untouched).long in
      bytes-put_ring u (bytes-put_staged s bytes p untouched (omega arith)) p (truncated (ring_of s p) (staged_of s p).len) (omega arith)

  -- a ring that is cut holds no more than before, and nothing is staged
  cut-open : {h : Handle} {st : Staged} (len : ℕ) → Open h (ring_of s p) st → Open h (truncated (ring_of s p) len) untouched
  unfolding truncated
  cut-open len o = open-with o o.small o.inside (omega (arith, o.short)) (omega arith)

  pub begun-cut_ring : Begun s → Begun (cut_ring p s)
  unfolding cut_ring
  begun-cut_ring begun =
      let u = put_staged s p untouched in
      let long = begun.long in
      let ring : ring_of u p ≡ ring_of s p = ring-only _ _ s u (only-put_staged s p untouched) p (λ q. omega arith) in
      let staged : staged_of u p ≡ untouched = staged-same s p untouched (omega arith) untouched-fits in
      let first : Begun u = begun-put_staged s begun p low untouched (λ held. omega arith) in
      begun-put_ring u first p low (truncated (ring_of s p) (staged_of s p).len)
      (λ held. rw staged (cut-open (staged_of s p).len (rw ring at (open_row u first p low held))))

module _ (d : List ℕ) (few : slots d ≤ 64) (p : ℕ) (s : List ℕ) (low : p < 8) where
  -- what holds after the ring is cut, and after the marks are cleared too, holds after the step
  cut-either : (P : List ℕ → Type 0) → P s → P (cut_ring p s) → ((place : ℕ) (c : Change) → P (retracked d (cut_ring p s) place c)) → P (cut_tape d p s)
  unfolding cut_tape
  cut-either P none cut clear =
      picked P (is_touched s p) (clear_in d (cut_ring p s) (file_size_of s p) (staged_of s p).len (directory_of d s p)) s
      (λ e. by (directory_of d s p))
      (λ e. none)
    where
      by : (f : Option ℕ) → P (clear_in d (cut_ring p s) (file_size_of s p) (staged_of s p).len f)
      by (Some place) = clear place _
      by None = cut

  pub only-cut_tape : OnlyIn 4168 5960 s (cut_tape d p s)
  only-cut_tape =
      let ring = only_wider 4168 4936 4168 5960 s (cut_ring p s) (omega arith) (omega arith) (only-cut_ring p s low) in
      cut-either (λ (t : List ℕ). OnlyIn 4168 5960 s t) (only_none 4168 5960 s) ring
      (λ place c.
      only_then 4168 5960 s (cut_ring p s) _ ring
      (only_wider 4936 5960 4168 5960 _ _ (omega arith) (omega arith) (only-retracked d (cut_ring p s) place c few)))

  pub begun-cut_tape : Begun s → Begun (cut_tape d p s)
  begun-cut_tape begun =
      let ring = begun-cut_ring p s low begun in
      cut-either Begun begun ring (λ place c. begun-retracked d (cut_ring p s) place c few ring)

  pub bytes-cut_tape : session_bytes ≤ length s → Bytes s → Bytes (cut_tape d p s)
  bytes-cut_tape long bytes =
      let same = (only-cut_ring p s low).long in
      let ring = bytes-cut_ring p s low long bytes in
      cut-either Bytes bytes ring (λ place c. bytes-retracked d (cut_ring p s) place c few (omega arith) ring)

module _ (d : List ℕ) (few : slots d ≤ 64) (s : List ℕ) where
  pub only-cut_all : OnlyIn 4168 5960 s (cut_all d s)
  only-cut_all =
      sweep-keeps (λ (t : List ℕ). OnlyIn 4168 5960 s t) (cut_tape d) 8 0 s
      (λ p t l h k. only_then 4168 5960 s t _ k (only-cut_tape d few p t (omega arith)))
      (only_none 4168 5960 s)

  pub begun-cut_all : Begun s → Begun (cut_all d s)
  begun-cut_all begun = sweep-keeps Begun (cut_tape d) 8 0 s (λ p t l h b. begun-cut_tape d few p t (omega arith) b) begun

  pub bytes-cut_all : session_bytes ≤ length s → Bytes s → Bytes (cut_all d s)
  bytes-cut_all long bytes =
      (sweep-keeps (λ (t : List ℕ). (length t ≡ length s) × Bytes t) (cut_tape d) 8 0 s
      (λ p t l h k.
      let kept = k.0 in
      ((only-cut_tape d few p t (omega arith)).long ∙ k.0, bytes-cut_tape d few p t (omega arith) (omega arith) k.1))
      (refl, bytes)).1

-- ---- the writer's place

module _ (s : List ℕ) where
  only-unstaged : OnlyIn 4168 4936 s (sweep unstage 8 0 s)
  only-unstaged =
      sweep-keeps (λ (t : List ℕ). OnlyIn 4168 4936 s t) unstage 8 0 s
      (λ p t l h k. only_then 4168 4936 s t _ k (only-unstage p t (omega arith)))
      (only_none 4168 4936 s)

  pub only-close_writer : OnlyIn 4144 4936 s (close_writer s)
  unfolding close_writer
  only-close_writer =
      let u = sweep unstage 8 0 s in
      only_then 4144 4936 s u _
      (only_wider 4168 4936 4144 4936 s u (omega arith) (omega arith) only-unstaged)
      (only_wider _ _ 4144 4936 u _ (omega arith) (omega arith) (only-put_transaction u 16 closed))

  pub begun-close_writer : Begun s → Begun (close_writer s)
  unfolding close_writer
  begun-close_writer begun =
      begun-put_transaction (sweep unstage 8 0 s) (sweep-keeps Begun unstage 8 0 s (λ p t l h b. begun-unstage t b p (omega arith)) begun)
      16 closed (omega arith) (λ l. omega arith) (λ e q. omega arith)

  pub bytes-close_writer : session_bytes ≤ length s → Bytes s → Bytes (close_writer s)
  unfolding close_writer
  bytes-close_writer long bytes =
      let u = sweep unstage 8 0 s in
      let same = only-unstaged.long in
      bytes-put_transaction u
      (sweep-keeps (λ (t : List ℕ). (length t ≡ length s) × Bytes t) unstage 8 0 s
      (λ p t l h k.
      let kept = k.0 in
      ((only-unstage p t (omega arith)).long ∙ k.0, bytes-unstage t (omega arith) k.1 p (omega arith)))
      (refl, bytes)).1
      16 closed (omega arith)

  pub head-close_writer : head_of (close_writer s) ≡ head_of s
  head-close_writer = head-only 4144 4936 s _ only-close_writer (λ q. omega arith)

  -- no transaction is in it
  pub shut-close_writer : session_bytes ≤ length s → transaction_of (close_writer s) 16 ≡ closed
  unfolding close_writer
  shut-close_writer long =
      let same = only-unstaged.long in
      transaction-same (sweep unstage 8 0 s) 16 closed (omega arith) (record { number = omega arith; epoch = omega arith })
