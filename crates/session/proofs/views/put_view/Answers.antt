-- `put_view` writes a view's row word by word. Assumes nothing.
use Rattle.std.proofs.Common.{sym, ◌∙◌}
use Rattle.octets.specs.Words.{put_words-3}
use Rattle.session.proofs.Flags.{flag-from}
use Rattle.session.specs.Rows.{put_view}
use Rattle.session.proofs.views.put_view.Goals as goal

pub returns : goal.returns
unfolding put_view
returns c =
    c.put_u64-3.ensures ∙ rw (c.put_u64-2.ensures, c.put_u64.ensures, c.from.ensures, flag-from) (sym (put_words-3 _ _ _ _ _))
