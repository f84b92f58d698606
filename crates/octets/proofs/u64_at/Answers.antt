use Rattle.std.proofs.Common.{arith}
use Rattle.octets.specs.Number.{num_at-8}
use Rattle.octets.proofs.u64_at.Goals as goal

pub returns : goal.returns
returns c = rw (c.from_le_bytes.ensures, num_at-8) (omega arith)
