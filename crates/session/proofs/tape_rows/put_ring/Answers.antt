-- `put_ring` writes a ring's bookkeeping word by word. Assumes nothing.
use Rattle.std.proofs.Common.{sym, ◌∙◌}
use Rattle.octets.specs.Words.{put_words-4}
use Rattle.session.specs.Rows.{put_ring}
use Rattle.session.proofs.tape_rows.put_ring.Goals as goal

pub returns : goal.returns
unfolding put_ring
returns c =
    c.put_u64-4.ensures ∙ rw (c.put_u64-3.ensures, c.put_u64-2.ensures, c.put_u64.ensures) (sym (put_words-4 _ _ _ _ _ _))
