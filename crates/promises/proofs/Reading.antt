-- The promise's part (a). Assumes nothing.
use Rattle.std.specs.Prelude.{◌≡◌, ◌≢◌, true, List, ◌++◌, ℕ, ◌+◌, ◌*◌, ◌≤◌, ◌<◌, length, take, drop, Some}
use Rattle.std.proofs.Common.{ap, ◌∙◌, add-mul, arith, length-take, length-drop}
use Rattle.octets.specs.Bytes.{put, put_front}
use Rattle.rolling_tape.specs.Removal.{Areas, areas}
use Rattle.lives.specs.Told.{Page, page}
use Rattle.seen.specs.Reads.{read-served}
use Rattle.promises.specs.Calls.{read_entries, result, of_reading, step}
use Rattle.promises.specs.Told.{Known, unknown}
use Rattle.promises.specs.Standing.{Lore, Running, Formatted, Standing, running, formatted}
use Rattle.promises.specs.Promise.{ends, known, Reads}
use Rattle.promises.proofs.Runs.{stands-last}

-- bytes of a page, at the front of a buffer
pub front : (content buffer : List ℕ) (o n : ℕ) → o + n ≤ length content → n ≤ length buffer → put buffer 0 (take n (drop o content)) ≡ take n (drop o content) ++ drop n buffer
front content buffer o n inside room =
    let long : length (take n (drop o content)) ≡ n = length-take n (drop o content) ∙ omega (arith, length-drop o content) in
    put_front buffer (take n (drop o content)) (omega arith) ∙ ap (λ (m : ℕ). take n (drop o content) ++ drop m buffer) long

-- a tape with a handle is in a running session
no-handle : (a : Areas) (K : Lore) (n : List ℕ) → Formatted a K → 0 < length n → (K n).handle ≢ 0 → {P : Type 0} → P
unfolding unknown
no-handle a K n f long handle = absurd (handle (ap (λ (k : Known). k.handle) (f.untold n long)))

pub with-handle : (a : Areas) (K : Lore) (n : List ℕ) → 0 < length n → (K n).handle ≢ 0 → Standing a K → Running a K
with-handle a K n long handle (running r) = r
with-handle a K n long handle (formatted f) = no-handle a K n f long handle

pub read-running : (d s : List ℕ) (K : Lore) → Running (areas d s) K → (n : List ℕ) → 0 < length n → (t i count : ℕ) (buffer : List ℕ) (q : Page)
    → (K n).handle ≢ 0 → page t (K n).tape ≡ Some q → q.here ≡ true → q.start ≤ i * (K n).entry → (i + count) * (K n).entry ≤ length q.content → count * (K n).entry ≤ length buffer
    → step (read_entries t (K n).handle i count buffer) (areas d s)
    ≡ result 0 count (areas d s) (take (count * (K n).entry) (drop (i * (K n).entry) q.content) ++ drop (count * (K n).entry) buffer)
unfolding step
read-running d s K r n long t i count buffer q handle at here low high room =
    let h = r.holds n long in
    let e = (K n).entry in
    let inside : i * e + count * e ≤ length q.content = rw (add-mul i count e) at high in
    ap (of_reading (areas d s))
    (read-served d s n long r.orderly (K n).tape h.phys h.good h.seen (K n).handle e h.handled handle r.starts t i count q at here low inside buffer room)
    ∙ ap (result 0 count (areas d s)) (front q.content buffer (i * e) (count * e) inside room)

pub reads : Reads
reads r n long t i count buffer q handle at here low high room =
    let a = ends r in
    read-running a.disk a.session (known r) (with-handle a (known r) n long handle (stands-last r)) n long t i count buffer q handle at here low high room
