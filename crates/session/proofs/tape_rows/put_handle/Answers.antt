-- `put_handle` writes a handle's row word by word. Assumes nothing.
use Rattle.std.proofs.Common.{sym, ◌∙◌}
use Rattle.octets.specs.Words.{put_words-3}
use Rattle.session.specs.Rows.{put_handle}
use Rattle.session.proofs.tape_rows.put_handle.Goals as goal

pub returns : goal.returns
unfolding put_handle
returns c =
    c.put_u64-3.ensures ∙ rw (c.put_u64-2.ensures, c.put_u64.ensures) (sym (put_words-3 _ _ _ _ _))
