-- `replies::replying::reply_read`: a read that is too long is unreadable; of a served one the bytes are shown, of a refused one none. Assumes nothing.
use Rattle.std.proofs.Common.{◌≡◌, refl, sym, ◌∙◌, true, false, ◌*◌, ◌≤◌, arith, ltb-false, ltb, length-take}
use Rattle.answers.specs.Outcome.{reading}
use Rattle.replies.specs.Replies.{entry_for}
use Rattle.replies.specs.ReplyLaws.{read-long, read_short}
use Rattle.replies.proofs.replying.reply_read.Goals as goal

pub returns-then-is_long_read : goal.returns-then-is_long_read
returns-then-is_long_read c =
    let long : ltb 4096 (c.args.count * entry_for c.args.session.now c.args.handle) ≡ true = rw (← c.entry_of-entry.ensures) (sym c.is_long_read.ensures ∙ c.if-is_long_read.true) in
    rw (read-long c.args.disk.now c.args.session.now c.args.number c.args.space.now c.args.transaction c.args.handle c.args.offset c.args.count long) (refl, c.put_unreadable_reply.ensures)

pub overflow_mul-wanted : goal.overflow_mul-wanted
overflow_mul-wanted c =
    let fits : c.args.count * c.entry_of-entry.result ≤ 4096 = ltb-false 4096 (c.args.count * c.entry_of-entry.result) (sym c.is_long_read.ensures ∙ c.if-is_long_read.false) in
    record { fits = omega arith }

pub slice_bounds-put_reply-end : goal.slice_bounds-put_reply-end
slice_bounds-put_reply-end c =
    let fits : c.args.count * c.entry_of-entry.result ≤ 4096 = ltb-false 4096 (c.args.count * c.entry_of-entry.result) (sym c.is_long_read.ensures ∙ c.if-is_long_read.false) in
    omega arith

pub slice_bounds-put_reply-end-in-Ok : goal.slice_bounds-put_reply-end-in-Ok
slice_bounds-put_reply-end-in-Ok c =
    let fits : c.args.count * c.entry_of-entry.result ≤ 4096 = ltb-false 4096 (c.args.count * c.entry_of-entry.result) (sym c.is_long_read.ensures ∙ c.if-is_long_read.false) in
    simp length-take (omega arith)

pub put_reply-requires : goal.put_reply-requires
put_reply-requires c =
    let fits : c.args.count * c.entry_of-entry.result ≤ 4096 = ltb-false 4096 (c.args.count * c.entry_of-entry.result) (sym c.is_long_read.ensures ∙ c.if-is_long_read.false) in
    simp length-take (omega arith)

pub returns-in-Ok : goal.returns-in-Ok
returns-in-Ok c =
    let short : ltb 4096 (c.args.count * entry_for c.args.session.now c.args.handle) ≡ false = rw (← c.entry_of-entry.ensures) (sym c.is_long_read.ensures ∙ c.if-is_long_read.false) in
    rw (read_short c.args.disk.now c.args.session.now c.args.number c.args.space.now c.args.transaction c.args.handle c.args.offset c.args.count (reading c.read_entries-answer.result c.read_entries-answer.new.out) short c.read_entries-answer.ensures, c.in-Ok.is, ← c.entry_of-entry.ensures)
    (refl, c.put_reply.ensures)

pub returns-in-Err : goal.returns-in-Err
returns-in-Err c =
    let short : ltb 4096 (c.args.count * entry_for c.args.session.now c.args.handle) ≡ false = rw (← c.entry_of-entry.ensures) (sym c.is_long_read.ensures ∙ c.if-is_long_read.false) in
    rw (
      read_short c.args.disk.now c.args.session.now c.args.number c.args.space.now c.args.transaction c.args.handle c.args.offset c.args.count (reading c.read_entries-answer.result c.read_entries-answer.new.out) short c.read_entries-answer.ensures,
      c.in-Err.is,
    )
    (refl, (rw c.in-Err.is at c.reply_with.ensures))
