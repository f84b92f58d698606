-- `metadata::record::Contents::put`: the four fields, one behind the other, are one `put` of the record. Assumes nothing.
use Rattle.std.proofs.Common.{◌≡◌, ap, ◌∙◌, arith, length}
use Rattle.octets.specs.Bytes.{put, length-put}
use Rattle.borsh.specs.Encoding.{u32}
use Rattle.metadata.specs.Record.{encode_record}
use Rattle.metadata.specs.RecordLaws.{length-hash}
use Rattle.metadata.proofs.Runs.{put-record-runs}
use Rattle.metadata.proofs.record.Contents.put.Goals as goal

pub array-requires : goal.array-requires
array-requires c =
    let size : length c.hash-hash.result ≡ 32 = ap length c.hash-hash.ensures ∙ length-hash c.args.self.epoch c.args.self.list.now in
    let room : length c.u32.new.self.out.now ≡ length c.args.out.now = ap length c.u32.ensures.bytes ∙ length-put _ _ _ ∙ ap length c.new-w.ensures.bytes in
    omega (arith, c.new-w.ensures.place, c.u32.ensures.place)

pub u64-requires : goal.u64-requires
u64-requires c =
    let size : length c.hash-hash.result ≡ 32 = ap length c.hash-hash.ensures ∙ length-hash c.args.self.epoch c.args.self.list.now in
    let room : length c.u32.new.self.out.now ≡ length c.args.out.now = ap length c.u32.ensures.bytes ∙ length-put _ _ _ ∙ ap length c.new-w.ensures.bytes in
    let room2 : length c.array.new.self.out.now ≡ length c.u32.new.self.out.now = ap length c.array.ensures.bytes ∙ length-put _ _ _ in
    omega (arith, c.new-w.ensures.place, c.u32.ensures.place, c.array.ensures.place)

pub vec-requires : goal.vec-requires
vec-requires c =
    let size : length c.hash-hash.result ≡ 32 = ap length c.hash-hash.ensures ∙ length-hash c.args.self.epoch c.args.self.list.now in
    let room : length c.u32.new.self.out.now ≡ length c.args.out.now = ap length c.u32.ensures.bytes ∙ length-put _ _ _ ∙ ap length c.new-w.ensures.bytes in
    let room2 : length c.array.new.self.out.now ≡ length c.u32.new.self.out.now = ap length c.array.ensures.bytes ∙ length-put _ _ _ in
    let room3 : length c.u64.new.self.out.now ≡ length c.array.new.self.out.now = ap length c.u64.ensures.bytes ∙ length-put _ _ _ in
    (omega (arith, c.new-w.ensures.place, c.u32.ensures.place, c.array.ensures.place, c.u64.ensures.place), c.requires.0)

pub returns : goal.returns
returns c =
    let size : length c.hash-hash.result ≡ 32 = ap length c.hash-hash.ensures ∙ length-hash c.args.self.epoch c.args.self.list.now in
    let start : c.u32.new.self.out.now ≡ put c.args.out.now 0 (u32 1) = rw (← c.new-w.ensures.bytes, ← c.new-w.ensures.place) c.u32.ensures.bytes in
    let all : c.vec.new.self.out.now ≡ put c.args.out.now 0 (encode_record c.args.self.epoch c.args.self.list.now)
    = put-record-runs
    _
    _
    _
    _
    _
    c.u32.new.self.at
    c.array.new.self.at
    c.u64.new.self.at
    c.args.self.epoch
    c.hash-hash.result
    c.args.self.list.now
    c.hash-hash.ensures
    (omega (arith, c.new-w.ensures.place, c.u32.ensures.place))
    (omega (arith, c.new-w.ensures.place, c.u32.ensures.place, c.array.ensures.place))
    (omega (arith, c.new-w.ensures.place, c.u32.ensures.place, c.array.ensures.place, c.u64.ensures.place))
    start
    c.array.ensures.bytes
    c.u64.ensures.bytes
    c.vec.ensures.bytes in
    grind (arith, all)
