-- `ring_part` is `ring_bytes`: the part has as many bytes as its bounds say. Assumes nothing.
use Rattle.std.proofs.Common.{◌≡◌, ◌+◌, ◌-◌, arith}
use Rattle.layout.specs.Session.{ring_at}
use Rattle.session.specs.Rows.{ring_bytes}
use Rattle.session.proofs.rings.ring_part.Goals as goal

pub returns : goal.returns
unfolding ring_bytes
returns c =
    let size : ring_at c.args.tape + 4096 - ring_at c.args.tape ≡ 4096 = omega arith in
    rw size
