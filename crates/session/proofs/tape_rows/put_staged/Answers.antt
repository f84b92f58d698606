-- `put_staged` writes a staged record word by word. Assumes nothing.
use Rattle.std.proofs.Common.{sym, ◌∙◌}
use Rattle.octets.specs.Words.{put_words-5}
use Rattle.session.proofs.Flags.{flag-from}
use Rattle.session.specs.Rows.{put_staged}
use Rattle.session.proofs.tape_rows.put_staged.Goals as goal

pub returns : goal.returns
unfolding put_staged
returns c =
    c.put_u64-5.ensures ∙ rw (c.put_u64-4.ensures, c.put_u64-3.ensures, c.put_u64-2.ensures, c.put_u64.ensures, c.from.ensures, flag-from) (sym (put_words-5 _ _ _ _ _ _ _))
