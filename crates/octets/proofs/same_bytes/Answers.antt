use Rattle.std.proofs.Common.{◌∙◌}
use Rattle.octets.proofs.Std.{pointwise-same}
use Rattle.octets.proofs.same_bytes.Goals as goal

pub returns : goal.returns
returns c = c.eq.ensures ∙ pointwise-same c.args.a.now c.args.b.now
