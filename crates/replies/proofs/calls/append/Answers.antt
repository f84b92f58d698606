-- `replies::calls::append`: the bytes that were put into the space stand at its front, so they are what is appended. Assumes nothing.
use Rattle.std.proofs.Common.{arith, length-take}
use Rattle.octets.specs.Bytes.{length-put}
use Rattle.replies.specs.ReplyLaws.{hex-front}
use Rattle.replies.proofs.calls.append.Goals as goal

pub slice_bounds-append_entries-end-2 : goal.slice_bounds-append_entries-end-2
slice_bounds-append_entries-end-2 c =
    rw (c.put_bytes.ensures, length-take, length-put) (omega arith)

pub returns : goal.returns
returns c =
    (rw (← hex-front c.args.space.now c.args.hex.now c.requires, ← c.put_bytes.ensures) c.append_entries.ensures, c.put_bytes.ensures)
