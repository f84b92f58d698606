use Rattle.std.proofs.Common.{◌∙◌}
use Rattle.octets.proofs.Std.{partial-before}
use Rattle.octets.proofs.comes_before.Goals as goal

pub returns : goal.returns
returns c = c.lt.ensures ∙ partial-before c.args.a.now c.args.b.now
