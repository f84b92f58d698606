-- `put_tracking` writes a slot's row word by word. Assumes nothing.
use Rattle.std.proofs.Common.{sym, ◌∙◌}
use Rattle.octets.specs.Words.{put_words-2}
use Rattle.session.specs.Rows.{put_tracking}
use Rattle.session.proofs.tracking.put_tracking.Goals as goal

pub returns : goal.returns
unfolding put_tracking
returns c =
    c.put_u64-2.ensures ∙ rw (c.put_u64.ensures, c.words-word.ensures.0, c.words-word.ensures.1) (sym (put_words-2 _ _ _ _))
