-- `put_head` writes the session's own fields word by word. Assumes nothing.
use Rattle.std.proofs.Common.{sym, ◌∙◌}
use Rattle.octets.specs.Words.{put_words-5}
use Rattle.session.proofs.Flags.{flag-from}
use Rattle.session.specs.Rows.{put_head}
use Rattle.session.proofs.head.put_head.Goals as goal

pub returns : goal.returns
unfolding put_head
returns c =
    c.put_u64-5.ensures ∙ rw (c.put_u64-4.ensures, c.put_u64-3.ensures, c.put_u64-2.ensures, c.put_u64.ensures, c.side_word.ensures, c.from.ensures, flag-from) (sym (put_words-5 _ _ _ _ _ _ _))
