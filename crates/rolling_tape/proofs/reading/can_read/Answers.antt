use Rattle.std.proofs.Common.{◌≡◌, sym, ap, ◌∙◌, true, false, ℕ, ◌+◌, ◌-◌, arith}
use native.Mathlib.Nat.{sub-zero}
use Rattle.octets.specs.First.{all, all_none}
use Rattle.components.specs.PartsLaws.{run-new, run-done, may-give, run-turn, run-end}
use Rattle.rolling_tape.specs.Reading.{piece_lies, can_read}
use Rattle.rolling_tape.specs.ReadingWays.{at, lies-less, piece-fits, all-stop, all-turn}
use Rattle.rolling_tape.proofs.reading.can_read.Goals as goal

pub loop-part-init : goal.loop-part-init
unfolding can_read
loop-part-init c =
    let new = c.into_iter-part-iterator.ensures.into_iter_gives ∙ c.new-part-items.ensures in
    let done = run-done c.args.file_size c.args.offset c.args.count c.into_iter-part-iterator.result new in
    record { run = run-new c.args.file_size c.args.offset c.args.count c.into_iter-part-iterator.result new; rest = rw (done, sub-zero) }

pub next-requires : goal.next-requires
next-requires c =
    may-give c.args.file_size c.args.offset c.args.count c.loop-part.part-iterator c.loop-part.invariant.run c.requires.1.0.0 c.requires.1.1

pub overflow_add-end : goal.overflow_add-end
overflow_add-end c =
    let t = run-turn c.args.file_size c.args.offset c.args.count c.loop-part.part-iterator c.loop-part.invariant.run c.in-Some.part c.next.new.self c.in-Some.ensures.steps in
    let fits = piece-fits c.args.file_size c.requires.1.0.0 c.args.offset c.args.count c.loop-part.part-iterator.done t.more c.in-Some.part.count t.count in
    omega (arith, t.place)

pub loop-part-preserved : goal.loop-part-preserved
loop-part-preserved c =
    let t = run-turn c.args.file_size c.args.offset c.args.count c.loop-part.part-iterator c.loop-part.invariant.run c.in-Some.part c.next.new.self c.in-Some.ensures.steps in
    let d = c.args.disk.now in
    let s = c.args.session.now in
    let lie = piece_lies d s c.args.only_tracked c.args.tape.now in
    let yes : lie c.in-Some.part.file (c.in-Some.part.place + c.in-Some.part.count) ≡ true = sym c.piece_lies.ensures ∙ c.if-not-piece_lies.false in
    let turned = all-turn c.args.file_size c.requires.1.0.0 c.args.offset c.args.count c.loop-part.part-iterator.done t.more c.in-Some.part.count t.count lie
    (lies-less d s c.args.only_tracked c.args.tape.now) (rw (t.file, t.place) at yes) in
    record {
      run = t.run;
      rest = ap (λ (k : ℕ). all (at lie c.args.file_size c.args.offset) (c.args.count - k) k) t.next ∙ sym turned ∙ c.loop-part.invariant.rest;
    }

pub returns-then-not-piece_lies : goal.returns-then-not-piece_lies
returns-then-not-piece_lies c =
    let t = run-turn c.args.file_size c.args.offset c.args.count c.loop-part.part-iterator c.loop-part.invariant.run c.in-Some.part c.next.new.self c.in-Some.ensures.steps in
    let lie = piece_lies c.args.disk.now c.args.session.now c.args.only_tracked c.args.tape.now in
    let no : lie c.in-Some.part.file (c.in-Some.part.place + c.in-Some.part.count) ≡ false = sym c.piece_lies.ensures ∙ c.if-not-piece_lies.true in
    sym (all-stop c.args.file_size c.requires.1.0.0 c.args.offset c.args.count c.loop-part.part-iterator.done t.more c.in-Some.part.count t.count lie (rw (t.file, t.place) at no))
    ∙ c.loop-part.invariant.rest

pub returns : goal.returns
returns c =
    let done = run-end c.args.file_size c.args.offset c.args.count c.loop-part.part-iterator c.loop-part.invariant.run c.next.new.self c.in-None.ensures.steps in
    let lie = piece_lies c.args.disk.now c.args.session.now c.args.only_tracked c.args.tape.now in
    sym (all_none (at lie c.args.file_size c.args.offset) c.args.count c.loop-part.part-iterator.done (omega arith)) ∙ c.loop-part.invariant.rest
