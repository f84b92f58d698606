-- A read across cache and files: its length, and what the readers below ask for. Assumes nothing.
use Rattle.std.specs.Prelude.{◌≡◌, true, List, ◌++◌, ℕ, ◌+◌, ◌-◌, ◌≤◌, ◌<◌, take, drop}
use Rattle.std.proofs.Math.Path.{ap}
use Rattle.std.proofs.Common.{◌∙◌, append-nil, length-append, drop_of_length-le, take_at, drop_at}
use native.Mathlib.Omega.{arith}
use Rattle.std.proofs.Math.ListN.{length, get_or, get_or-append}
use Rattle.std.proofs.Math.Seq.{get_or-append-add}
use Rattle.layout.specs.Names.{name}
use Rattle.layout.specs.Session.{names_at, file_size_of}
use Rattle.ring_buffer.specs.Ring.{nth, nths}
use Rattle.ring_buffer.specs.RingLaws.{length-nths, get_or-nths}
use Rattle.session.specs.Rows.{ring_of, ring_bytes}
use Rattle.rolling_tape.specs.Reading.{lies, byte_of, read_run}
use Rattle.rolling_tape.specs.ReadingLaws.{can_read-none, can-lies, length-read_run, read_run-nth}
use Rattle.cached_tape.specs.Serving.{below_cache, can_serve, served}

pub length-served : (d s : List ℕ) (p o n : ℕ) → length (served d s p o n) ≡ n
unfolding served
length-served d s p o n = simp (length-append, length-read_run, length-nths) (omega arith)

-- what can be served and is not the cache's lies in the files
pub serve-lies : (d s : List ℕ) (p o n : ℕ) → can_serve d s p o n ≡ true
    → lies d (name s names_at p) (file_size_of s p) o (below_cache (ring_of s p) o n) ≡ true
unfolding can_serve
serve-lies d s p o n h = can-lies d s true (name s names_at p) (file_size_of s p) o (below_cache (ring_of s p) o n) h

-- out, filled in two parts
pub two-parts : (first rest second : List ℕ) (k : ℕ) → length first ≡ k
    → take k (first ++ rest) ++ (second ++ drop (length (first ++ rest) - k) (drop k (first ++ rest))) ≡ first ++ second
two-parts first rest second k e =
    let over : length rest ≤ length (first ++ rest) - k = rw length-append (omega arith) in
    rw (take_at first rest k e, drop_at first rest k e, drop_of_length-le rest over, append-nil second)

-- ---- which bytes are read

module _ (d s : List ℕ) (p o n j : ℕ) (low : j < n) where
  -- below the cache's first index they are the files'
  pub served-below : o + j < (ring_of s p).first → get_or (served d s p o n) j 0 ≡ byte_of d (name s names_at p) (file_size_of s p) (o + j)
  unfolding served
  served-below h =
      let k = below_cache (ring_of s p) o n in
      let run = read_run d (name s names_at p) (file_size_of s p) o k in
      let long : length run ≡ k = length-read_run d (name s names_at p) (file_size_of s p) o k in
      get_or-append run _ 0 j (omega arith) ∙ read_run-nth d (name s names_at p) (file_size_of s p) o k j (omega arith)

  -- from it on they are the cache's
  pub served-from : (ring_of s p).first ≤ o + j → get_or (served d s p o n) j 0 ≡ nth (ring_of s p) (ring_bytes s p) (o + j - (ring_of s p).first)
  unfolding served
  served-from h =
      let r = ring_of s p in
      let k = below_cache r o n in
      let run = read_run d (name s names_at p) (file_size_of s p) o k in
      let cached = nths r (ring_bytes s p) (o - r.first) (n - k) in
      let long : length run ≡ k = length-read_run d (name s names_at p) (file_size_of s p) o k in
      let i = j - k in
      let e : j ≡ length run + i = omega arith in
      let at : o - r.first + i ≡ o + j - r.first = omega arith in
      ap (λ (m : ℕ). get_or (run ++ cached) m 0) e
      ∙ get_or-append-add run cached i 0
      ∙ get_or-nths r (ring_bytes s p) (o - r.first) (n - k) i (omega arith)
      ∙ ap (nth r (ring_bytes s p)) at

-- what is the cache's alone can be read whatever the files are
pub serve-cached : (d s : List ℕ) (p o n : ℕ) → (ring_of s p).first ≤ o → can_serve d s p o n ≡ true
unfolding can_serve
serve-cached d s p o n h =
    let none : below_cache (ring_of s p) o n ≡ 0 = omega arith in
    rw none (can_read-none d s true (name s names_at p) (file_size_of s p) o)
