-- `serve_on` is `serve_on`: the front of the buffer is lent to `serve`, and put back it is a `put` of what is served. Assumes nothing.
use Rattle.std.specs.Prelude.{Ok}
use Rattle.std.proofs.Common.{length, ◌≡◌, sym, ap, ◌∙◌, List, ◌++◌, ℕ, ◌+◌, ◌*◌, ◌≤◌, ◌<◌, ◌^◌, arith, drop, length-take-le}
use Rattle.octets.specs.Bytes.{put, put_front}
use Rattle.answers.specs.Outcome.{reading}
use Rattle.layout.specs.Session.{entry_size_of}
use Rattle.cached_tape.specs.Serving.{served}
use Rattle.cached_tape.specs.ServeLaws.{length-served}
use Rattle.entries.specs.Ways.{serve-can}
use Rattle.session.specs.RowLaws.{handle-entry}
use Rattle.entries.proofs.reads.serve_on.Goals as goal

pub slice_bounds-serve-end-2 : goal.slice_bounds-serve-end-2
slice_bounds-serve-end-2 c =
    let e = c.get_handle-entry.result.entry in
    let size : e ≡ entry_size_of c.args.session.now c.args.tape = handle-entry c.args.session.now c.args.tape c.get_handle-entry.result c.get_handle-entry.ensures in
    let room : c.args.count * e ≤ length c.args.out.now = rw size c.requires.1.1 in
    sym (length-take-le (c.args.count * e) c.args.out.now room)

pub serve-requires : goal.serve-requires
serve-requires c =
    let e = c.get_handle-entry.result.entry in
    let size : e ≡ entry_size_of c.args.session.now c.args.tape = handle-entry c.args.session.now c.args.tape c.get_handle-entry.result c.get_handle-entry.ensures in
    let fits : c.args.index * e + c.args.count * e < 2 ^ 64 = rw size c.requires.1.0 in
    let room : c.args.count * e ≤ length c.args.out.now = rw size c.requires.1.1 in
    let long = length-take-le (c.args.count * e) c.args.out.now room in
    ((c.requires.0.0, (c.requires.0.1.low, c.requires.0.1.held)), (rw long (omega arith), rw long (sym c.can_serve.ensures ∙ c.if-not-can_serve.false)))

pub returns : goal.returns
returns c =
    let d = c.args.disk.now in
    let s = c.args.session.now in
    let p = c.args.tape in
    let i = c.args.index in
    let n = c.args.count in
    let out = c.args.out.now in
    let e = c.get_handle-entry.result.entry in
    let size : e ≡ entry_size_of s p = handle-entry s p c.get_handle-entry.result c.get_handle-entry.ensures in
    let room : n * e ≤ length out = rw size c.requires.1.1 in
    let part : List ℕ = c.serve.new.out in
    let new : part ≡ served d s p (i * e) (n * e) = c.serve.ensures ∙ rw (length-take-le (n * e) out room) in
    let long : length part ≡ n * e = ap length new ∙ length-served d s p (i * e) (n * e) in
    serve-can d s p i n out e size (sym c.can_serve.ensures ∙ c.if-not-can_serve.false)
    ∙ ap (λ (l : List ℕ). reading (Ok n) (put out 0 l)) (sym new)
    ∙ ap (λ (l : List ℕ). reading (Ok n) l) (put_front out part (omega arith))
    ∙ ap (λ (k : ℕ). reading (Ok n) (part ++ drop k out)) long
