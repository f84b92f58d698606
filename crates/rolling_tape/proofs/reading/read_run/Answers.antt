use Rattle.std.proofs.Common.{length, ◌≡◌, refl, sym, ap, ◌∙◌, List, ℕ, ◌+◌, ◌-◌, arith}
use Rattle.octets.specs.Bytes.{put, length-put}
use Rattle.components.specs.PartsLaws.{run-new, run-done, may-give, run-turn, run-end, turn-within, length-turn}
use Rattle.rolling_tape.specs.Reading.{read_run}
use Rattle.rolling_tape.specs.ReadingWays as Ways
use Rattle.rolling_tape.specs.ReadingWays.{run-start, turn, run_lent, run_end}
use Rattle.rolling_tape.proofs.reading.read_run.Goals as goal

pub loop-part-init : goal.loop-part-init
loop-part-init c =
    let fs = c.args.file_size in
    let n = length c.args.out.now in
    let it = c.into_iter-part-iterator.result in
    let new = c.into_iter-part-iterator.ensures.into_iter_gives ∙ c.new-part-items.ensures in
    record { long = refl; run = run-new fs c.args.offset n it new; rest = rw (run-done fs c.args.offset n it new) (run-start c.args.disk.now c.args.tape.now fs c.args.offset c.args.out.now) }

pub next-requires : goal.next-requires
next-requires c =
    may-give c.args.file_size c.args.offset (length c.args.out.now) c.loop-part.part-iterator c.loop-part.invariant.run c.requires.0.1.0 c.requires.1.0

pub overflow_add-end : goal.overflow_add-end
overflow_add-end c =
    let n = length c.args.out.now in
    let t = run-turn c.args.file_size c.args.offset n c.loop-part.part-iterator c.loop-part.invariant.run c.in-Some.part c.next.new.self c.in-Some.ensures.steps in
    omega (arith, turn-within _ _ _ _ _ _ t)

pub slice_bounds-read_piece-end : goal.slice_bounds-read_piece-end
slice_bounds-read_piece-end c =
    let n = length c.args.out.now in
    let t = run-turn c.args.file_size c.args.offset n c.loop-part.part-iterator c.loop-part.invariant.run c.in-Some.part c.next.new.self c.in-Some.ensures.steps in
    omega (arith, turn-within _ _ _ _ _ _ t, c.loop-part.invariant.long)

pub read_piece-requires : goal.read_piece-requires
read_piece-requires c =
    let n = length c.args.out.now in
    let t = run-turn c.args.file_size c.args.offset n c.loop-part.part-iterator c.loop-part.invariant.run c.in-Some.part c.next.new.self c.in-Some.ensures.steps in
    let h = turn c.args.disk.now c.args.tape.now c.requires.0.0 c.args.file_size c.requires.0.1.0 c.args.offset n c.loop-part.part-iterator.done c.in-Some.part.count t.more t.count c.requires.1.1 in
    (c.requires.0.0, rw (length-turn _ _ _ _ _ _ t c.loop-part.out c.loop-part.invariant.long, t.file, t.place) h.there)

pub loop-part-preserved : goal.loop-part-preserved
loop-part-preserved c =
    let n = length c.args.out.now in
    let t = run-turn c.args.file_size c.args.offset n c.loop-part.part-iterator c.loop-part.invariant.run c.in-Some.part c.next.new.self c.in-Some.ensures.steps in
    let d = c.args.disk.now in
    let tape = c.args.tape.now in
    let fs = c.args.file_size in
    let out = c.loop-part.out in
    let done = c.loop-part.part-iterator.done in
    let m = c.in-Some.part.count in
    let h = turn d tape c.requires.0.0 fs c.requires.0.1.0 c.args.offset n done m t.more t.count c.requires.1.1 in
    let long : length out ≡ n = c.loop-part.invariant.long in
    let part = c.read_piece.new.out in
    let bytes : part ≡ read_run d tape fs (c.args.offset + done) m = rw (length-turn _ _ _ _ _ _ t out long, t.file, t.place) at c.read_piece.ensures ∙ h.bytes in
    let lent = run_lent d tape fs c.args.offset out done m part (omega (arith, h.within)) bytes in
    record {
      long = rw t.from (ap length lent ∙ length-put out done _ ∙ long);
      run = t.run;
      rest = rw (t.next, t.from)
          (ap (λ (l : List ℕ). put l (done + m) (read_run d tape fs (c.args.offset + (done + m)) (n - (done + m)))) lent
          ∙ sym (Ways.run-turn d tape fs c.args.offset out n done m h.within)
          ∙ c.loop-part.invariant.rest);
    }

pub returns : goal.returns
returns c =
    let n = length c.args.out.now in
    let end = run-end c.args.file_size c.args.offset n c.loop-part.part-iterator c.loop-part.invariant.run c.next.new.self c.in-None.ensures.steps in
    sym (run_end c.args.disk.now c.args.tape.now c.args.file_size c.args.offset c.loop-part.out n c.loop-part.part-iterator.done (omega arith)) ∙ c.loop-part.invariant.rest
