-- `metadata::record::Contents::hash`: the head's array holds `epoch`, the epoch and `tapes`, so the digest is of these and the list. Assumes nothing.
use Rattle.std.proofs.Common.{rules}
use Rattle.metadata.proofs.Runs.{head-runs, hash-done, hash-served}
use Rattle.metadata.proofs.record.Contents.hash.Goals as goal

pub unwrap-requires : goal.unwrap-requires
unwrap-requires c =
    let first = head-runs c.args.self.epoch c.copy_in.new.s c.put_u64.new.s c.copy_in-2.new.s c.copy_in.ensures c.put_u64.ensures c.copy_in-2.ensures in
    let e = hash-done c.args.self.epoch c.copy_in-2.new.s c.args.self.list.now c.blake2b_headed.new.out c.blake2b_headed.result first c.blake2b_headed.ensures in
    rw e (search rules)

pub returns : goal.returns
returns c =
    let first = head-runs c.args.self.epoch c.copy_in.new.s c.put_u64.new.s c.copy_in-2.new.s c.copy_in.ensures c.put_u64.ensures c.copy_in-2.ensures in
    hash-served c.args.self.epoch c.copy_in-2.new.s c.args.self.list.now c.blake2b_headed.new.out c.blake2b_headed.result first c.blake2b_headed.ensures
