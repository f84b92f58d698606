use Rattle.std.proofs.Common.{length, ◌≡◌, refl, sym, ◌∙◌, ◌+◌, ◌-◌, add-zero, arith, take, drop, length-take, length-drop}
use Rattle.components.specs.Pieces.{file_of, place_in}
use Rattle.components.specs.PiecesLaws.{first_count}
use Rattle.components.specs.PartsLaws.{run-new, run-done, may-give, run-turn, run-end, turn-within, turn-slice, length-turn}
use Rattle.rolling_tape.specs.Writing.{write_piece}
use Rattle.rolling_tape.specs.WritingWays as Ways
use Rattle.rolling_tape.specs.WritingWays.{sound-write_piece, run_end, piece-some, piece-fits}
use Rattle.rolling_tape.proofs.writing.write_run.Goals as goal

pub loop-part-init : goal.loop-part-init
loop-part-init c =
    let fs = c.args.file_size in
    let n = length c.args.src.now in
    let it = c.into_iter-part-iterator.result in
    let new = c.into_iter-part-iterator.ensures.into_iter_gives ∙ c.new-part-items.ensures in
    record { long = refl; sound = c.requires.0.0; run = run-new fs c.args.offset n it new; rest = rw (run-done fs c.args.offset n it new, add-zero) }

pub next-requires : goal.next-requires
next-requires c =
    may-give c.args.file_size c.args.offset (length c.args.src.now) c.loop-part.part-iterator c.loop-part.invariant.run c.requires.1.0.0 c.requires.1.1

pub overflow_add-end : goal.overflow_add-end
overflow_add-end c =
    let t = run-turn c.args.file_size c.args.offset (length c.args.src.now) c.loop-part.part-iterator c.loop-part.invariant.run c.in-Some.part c.next.new.self c.in-Some.ensures.steps in
    omega (arith, turn-within _ _ _ _ _ _ t)

pub slice_bounds-write_piece-end : goal.slice_bounds-write_piece-end
slice_bounds-write_piece-end c =
    let t = run-turn c.args.file_size c.args.offset (length c.args.src.now) c.loop-part.part-iterator c.loop-part.invariant.run c.in-Some.part c.next.new.self c.in-Some.ensures.steps in
    omega (arith, turn-within _ _ _ _ _ _ t)

pub write_piece-requires : goal.write_piece-requires
write_piece-requires c =
    let t = run-turn c.args.file_size c.args.offset (length c.args.src.now) c.loop-part.part-iterator c.loop-part.invariant.run c.in-Some.part c.next.new.self c.in-Some.ensures.steps in
    let fs = c.args.file_size in
    let o = c.args.offset + c.loop-part.part-iterator.done in
    let n = length c.args.src.now - c.loop-part.part-iterator.done in
    let more = t.more in
    let count : c.in-Some.part.count ≡ first_count fs o n = t.count in
    let some = piece-some fs o n c.requires.1.0.0 (omega arith) in
    let fits = piece-fits fs o n c.requires.1.0.0 in
    let place = t.place in
    let small = c.requires.1.0.1 in
    let long = length-turn _ _ _ _ _ _ t c.args.src.now refl in
    ((c.loop-part.invariant.sound, c.requires.0.1), (rw long (omega arith), rw long (omega arith)))

pub loop-part-preserved : goal.loop-part-preserved
loop-part-preserved c =
    let t = run-turn c.args.file_size c.args.offset (length c.args.src.now) c.loop-part.part-iterator c.loop-part.invariant.run c.in-Some.part c.next.new.self c.in-Some.ensures.steps in
    let v = c.loop-part.invariant in
    let fs = c.args.file_size in
    let src = c.args.src.now in
    let done = c.loop-part.part-iterator.done in
    let o = c.args.offset + done in
    let k = c.in-Some.part.count in
    let raw = c.write_piece.ensures in
    let e : c.write_piece.new.disk ≡ write_piece c.loop-part.disk c.args.place (file_of fs o) (place_in fs o) (take k (drop done src))
    = raw ∙ rw (t.file, t.place, turn-slice _ _ _ _ _ _ t src) in
    let count : k ≡ first_count fs o (length src - done) = t.count in
    let fits = piece-fits fs o (length src - done) c.requires.1.0.0 in
    let small = c.requires.1.0.1 in
    record {
      long = c.write_piece.auto.disk ∙ v.long;
      sound = rw e (sound-write_piece c.loop-part.disk c.args.place (file_of fs o) (place_in fs o) (take k (drop done src)) v.sound (simp (length-take, length-drop) (omega arith)));
      run = t.run;
      rest = rw (t.next, e) (sym (Ways.run-turn c.loop-part.disk c.args.place fs c.args.offset src done k c.requires.1.0.0 t.more count) ∙ v.rest);
    }

pub returns : goal.returns
returns c =
    let end = run-end c.args.file_size c.args.offset (length c.args.src.now) c.loop-part.part-iterator c.loop-part.invariant.run c.next.new.self c.in-None.ensures.steps in
    sym (run_end c.loop-part.disk c.args.place c.args.file_size c.args.offset c.args.src.now c.loop-part.part-iterator.done (omega arith)) ∙ c.loop-part.invariant.rest
