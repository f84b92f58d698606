-- `put_transaction` writes a transaction's row word by word. Assumes nothing.
use Rattle.std.proofs.Common.{sym, ◌∙◌}
use Rattle.octets.specs.Words.{put_words-3}
use Rattle.session.specs.Rows.{put_transaction}
use Rattle.session.proofs.transactions.put_transaction.Goals as goal

pub returns : goal.returns
unfolding put_transaction
returns c =
    c.put_u64-3.ensures ∙ rw (c.put_u64-2.ensures, c.put_u64.ensures, c.from.ensures) (sym (put_words-3 _ _ _ _ _))
