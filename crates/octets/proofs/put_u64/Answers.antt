use Rattle.std.proofs.Common.{◌≡◌, ◌∙◌, arith}
use Rattle.octets.specs.Number.{le, put_num, length-le}
use Rattle.octets.proofs.Std.{put-mid, le_8}
use Rattle.octets.proofs.put_u64.Goals as goal

pub returns : goal.returns
unfolding put_num
returns c =
    let bytes : c.copy_from_slice.new.self ≡ le 8 c.args.v = c.copy_from_slice.ensures.after ∙ c.to_le_bytes.ensures ∙ le_8 c.args.v in
    rw bytes (put-mid c.args.s.now c.args.at _ (le 8 c.args.v) (rw length-le (omega arith)) (omega arith))
