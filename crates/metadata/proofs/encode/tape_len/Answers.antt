-- `metadata::encode::tape_len`: a tape takes 20 bytes and its name's. Assumes nothing.
use Rattle.std.proofs.Common.{sym}
use Rattle.metadata.specs.Rules.{tape}
use Rattle.metadata.specs.StructLaws.{length-encode_tape}
use Rattle.metadata.proofs.encode.tape_len.Goals as goal

pub returns : goal.returns
returns c = sym (length-encode_tape (tape c.args.t.name.now c.args.t.len c.args.t.start))
