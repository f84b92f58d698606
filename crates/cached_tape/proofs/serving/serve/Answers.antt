-- `serve` leaves `served`: what can be served lies in the files as far as it is not the cache's, and the two parts that are lent are all of out. Assumes nothing.
use Rattle.std.proofs.Common.{length, ◌≡◌, sym, ap, ◌∙◌, List, ◌++◌, ℕ, ◌-◌, arith, take, drop, length-append, length-take, length-drop, length-take-le}
use Rattle.layout.specs.Names.{name}
use Rattle.layout.specs.Session.{names_at, file_size_of}
use Rattle.ring_buffer.specs.Ring.{nths}
use Rattle.session.specs.Rows.{ring_of, ring_bytes}
use Rattle.session.specs.RowLaws.{length-ring_bytes, handle-size}
use Rattle.session.specs.KeepLaws.{ring-sound}
use Rattle.rolling_tape.specs.Reading.{read_run}
use Rattle.rolling_tape.specs.ReadingLaws.{length-read_run}
use Rattle.cached_tape.specs.Serving.{below_cache, served}
use Rattle.cached_tape.specs.ServeLaws.{serve-lies, two-parts}
use Rattle.cached_tape.proofs.serving.serve.Goals as goal

pub slice_bounds-read_run-end-2 : goal.slice_bounds-read_run-end-2
slice_bounds-read_run-end-2 c =
    let below = c.below_cache-files.ensures in
    sym (length-take-le c.below_cache-files.result c.args.out.now (omega arith))

pub read_run-requires : goal.read_run-requires
read_run-requires c =
    let s = c.args.session.now in
    let size : c.get_handle-file_size.result.file_size ≡ file_size_of s c.args.tape = handle-size s c.args.tape c.get_handle-file_size.result c.get_handle-file_size.ensures in
    let fits = c.requires.0.0.1.tapes c.args.tape c.requires.0.1.0 c.requires.0.1.1 in
    let below : c.below_cache-files.result ≡ below_cache (ring_of s c.args.tape) c.args.offset (length c.args.out.now) = c.below_cache-files.ensures in
    let there = serve-lies c.args.disk.now s c.args.tape c.args.offset (length c.args.out.now) c.requires.1.1 in
    let long = length-take-le c.below_cache-files.result c.args.out.now (omega arith) in
    ((c.requires.0.0.0, (omega arith, omega arith)), (rw long (omega arith), rw (long, c.tape_name-name.ensures, size, below) there))

pub fill-requires : goal.fill-requires
fill-requires c =
    let s = c.args.session.now in
    let begun = c.requires.0.0.1 in
    let room : length (ring_bytes s c.args.tape) ≡ 4096 = length-ring_bytes s c.args.tape (omega (arith, begun.long)) in
    rw (c.get_ring-ring.ensures, c.ring_part-bytes.ensures, room) (ring-sound s begun c.args.tape c.requires.0.1.0 c.requires.0.1.1)

pub returns : goal.returns
unfolding served
returns c =
    let d = c.args.disk.now in
    let s = c.args.session.now in
    let p = c.args.tape in
    let o = c.args.offset in
    let n = length c.args.out.now in
    let k = c.below_cache-files.result in
    let r = ring_of s p in
    let size : c.get_handle-file_size.result.file_size ≡ file_size_of s p = handle-size s p c.get_handle-file_size.result c.get_handle-file_size.ensures in
    let below : k ≡ below_cache r o n = c.below_cache-files.ensures in
    let first : List ℕ = c.read_run.new.out in
    let rest : List ℕ = drop k c.args.out.now in
    let second : List ℕ = c.fill.new.out in
    let lent = length-take-le k c.args.out.now (omega arith) in
    let run : first ≡ read_run d (name s names_at p) (file_size_of s p) o k = c.read_run.ensures ∙ rw (lent, c.tape_name-name.ensures, size) in
    let long : length first ≡ k = ap length run ∙ length-read_run d (name s names_at p) (file_size_of s p) o k in
    let whole : length (first ++ rest) ≡ n = length-append first rest ∙ simp length-drop (omega arith) in
    let left : length (take (length (first ++ rest) - k) (drop k (first ++ rest))) ≡ n - k = simp (length-take, length-drop) (omega arith) in
    let cached : second ≡ nths r (ring_bytes s p) (o - r.first) (n - k)
    = c.fill.ensures ∙ rw (left, c.saturating_sub-inside.ensures, c.get_ring-ring.ensures, c.ring_part-bytes.ensures) in
    two-parts first rest second k long
    ∙ ap (λ (l : List ℕ). l ++ second) run
    ∙ ap (λ (l : List ℕ). read_run d (name s names_at p) (file_size_of s p) o k ++ l) cached
    ∙ rw below
