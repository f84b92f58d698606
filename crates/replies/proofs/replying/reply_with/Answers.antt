-- `replies::replying::reply_with`: the reply of the answer's code and value. Assumes nothing.
use Rattle.replies.proofs.replying.reply_with.Goals as goal

pub returns : goal.returns
returns c =
    rw (← c.code.ensures, ← c.value.ensures) c.put_reply.ensures
