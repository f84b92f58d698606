-- `message::lay` leaves `laid`: what is copied is one run, or nothing. Assumes nothing.
use Rattle.std.proofs.Common.{◌≡◌, ℕ, ◌-◌, take, drop, sym, ◌∙◌, arith}
use Rattle.octets.specs.Bytes.{put}
use Rattle.blake2b.specs.Message.{laid-run, laid_none}
use Rattle.blake2b.proofs.message.lay.Goals as goal

pub returns-then-first-stop : goal.returns-then-first-stop
returns-then-first-stop c =
    let block = c.args.block.now in
    let part = c.args.part.now in
    let a : ℕ = c.max-first.result - c.args.at in
    let b : ℕ = c.max-first.result - c.args.from in
    let n : ℕ = c.min-stop.result - c.args.from - b in
    let e : c.copy_in.new.s ≡ put block a (take n (drop b part)) = c.copy_in.ensures in
    e
    ∙ sym
    (laid-run block c.args.at part c.args.from a b n (omega arith) (omega arith) (omega arith) (λ l. omega arith) (λ l. omega arith))

pub returns-else-first-stop : goal.returns-else-first-stop
returns-else-first-stop c =
    sym (laid_none c.args.block.now c.args.at c.args.part.now c.args.from (λ j l m. omega arith))
