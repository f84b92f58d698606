-- `metadata::encode::put_tape`: the name, the length and the start, one behind the other, are one `put` of the tape's encoding. Assumes nothing.
use Rattle.std.proofs.Common.{◌≡◌, ap, ◌∙◌, arith, length}
use Rattle.octets.specs.Bytes.{length-put}
use Rattle.metadata.specs.Rules.{tape}
use Rattle.metadata.specs.StructLaws.{length-encode_tape}
use Rattle.metadata.proofs.Turns.{put-tape-runs}
use Rattle.metadata.proofs.encode.put_tape.Goals as goal

pub vec-requires : goal.vec-requires
vec-requires c =
    let size = length-encode_tape (tape c.args.t.name.now c.args.t.len c.args.t.start) in
    (omega arith, c.requires.0)

pub u64-requires : goal.u64-requires
u64-requires c =
    let size = length-encode_tape (tape c.args.t.name.now c.args.t.len c.args.t.start) in
    let room : length c.vec.new.self.out.now ≡ length c.args.w.now.out.now = ap length c.vec.ensures.bytes ∙ length-put _ _ _ in
    omega (arith, c.vec.ensures.place)

pub u64-requires-2 : goal.u64-requires-2
u64-requires-2 c =
    let size = length-encode_tape (tape c.args.t.name.now c.args.t.len c.args.t.start) in
    let room : length c.vec.new.self.out.now ≡ length c.args.w.now.out.now = ap length c.vec.ensures.bytes ∙ length-put _ _ _ in
    let same : length c.u64.new.self.out.now ≡ length c.vec.new.self.out.now = ap length c.u64.ensures.bytes ∙ length-put _ _ _ in
    omega (arith, c.vec.ensures.place, c.u64.ensures.place)

pub returns-clause-place : goal.returns-clause-place
returns-clause-place c =
    let size = length-encode_tape (tape c.args.t.name.now c.args.t.len c.args.t.start) in
    omega (arith, c.vec.ensures.place, c.u64.ensures.place, c.u64-2.ensures.place)

pub returns-clause-bytes : goal.returns-clause-bytes
returns-clause-bytes c =
    put-tape-runs
    _
    _
    _
    _
    c.args.w.now.at
    c.vec.new.self.at
    c.u64.new.self.at
    (tape c.args.t.name.now c.args.t.len c.args.t.start)
    c.vec.ensures.place
    c.u64.ensures.place
    c.vec.ensures.bytes
    c.u64.ensures.bytes
    c.u64-2.ensures.bytes
