-- `borsh::Writer::vec` writes the length and, behind it, the bytes: one `put` of `vec`. Assumes nothing.
use Rattle.std.proofs.Common.{◌≡◌, sym, ap, ◌∙◌, arith, length}
use Rattle.octets.specs.Bytes.{length-put}
use Rattle.borsh.specs.Laws.{put-vec}
use Rattle.borsh.proofs.writer.Writer.vec.Goals as goal

pub array-requires : goal.array-requires
array-requires c =
    let long : length c.u32.new.self.out.now ≡ length c.args.self.now.out.now = ap length c.u32.ensures.bytes ∙ length-put _ _ _ in
    omega (arith, c.u32.ensures.place)

pub returns-clause-bytes : goal.returns-clause-bytes
returns-clause-bytes c =
    let w = c.args.self.now in
    let bytes = c.args.bytes.now in
    c.array.ensures.bytes ∙ rw (c.u32.ensures.bytes, c.u32.ensures.place) (sym (put-vec w.out.now w.at bytes))
