use Rattle.std.proofs.Common.{◌≡◌, sym, ◌∙◌, List, ℕ, arith}
use Rattle.octets.specs.Sweep.{sweep, sweep-turn, sweep-end}
use Rattle.session.specs.Meaning as Meaning
use Rattle.session.specs.Rows.{put_transaction}
use Rattle.session.specs.declared.transactions.Transaction.{Transaction}
use Rattle.ending.specs.Steps.{unstage, close_writer}
use Rattle.ending.proofs.steps.close_writer.Goals as goal

-- the rows are done, then the place is closed
made : (s t u : List ℕ) (r : Transaction) → t ≡ sweep unstage 8 0 s → r ≡ Meaning.closed → u ≡ put_transaction t 16 r → u ≡ close_writer s
unfolding close_writer
made s t u r rows none e = rw (e, none, rows)

pub loop-tape-preserved : goal.loop-tape-preserved
loop-tape-preserved c =
    let v = c.loop-tape.invariant in
    let e : c.unstage_tape.new.session ≡ unstage c.loop-tape.tape c.loop-tape.session = c.unstage_tape.ensures in
    record {
      long = c.unstage_tape.auto.session ∙ v.long;
      within = omega arith;
      rest = rw e (sym (sweep-turn unstage 8 c.loop-tape.tape c.loop-tape.session c.loop-tape-test.true) ∙ v.rest);
    }

pub returns : goal.returns
returns c =
    made c.args.session.now c.loop-tape.session c.put_transaction.new.session c.closed.result
    (sym (sweep-end unstage 8 c.loop-tape.tape c.loop-tape.session c.loop-tape-test.false) ∙ c.loop-tape.invariant.rest) c.closed.ensures c.put_transaction.ensures
