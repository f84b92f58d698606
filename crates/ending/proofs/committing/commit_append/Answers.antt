-- `commit_append` is `commit_append`: a list that may be committed is storable, and the next epoch fits. Assumes nothing.
use Rattle.std.proofs.Common.{sym, ◌∙◌, false}
use Rattle.ending.specs.CommitWays.{may-done, epoch-fits, append-served, append-made}
use Rattle.ending.proofs.committing.commit_append.Goals as goal

pub store_append-requires : goal.store_append-requires
store_append-requires c =
    let m = may-done c.args.disk.now c.args.session.now false c.next_list-list.result c.in_ok-epoch.epoch (sym c.in_ok-epoch.ensures) in
    (c.requires, (m.good, epoch-fits c.args.session.now (λ i. (c.slice_known-2-1.given i).fits) m.more))

pub returns : goal.returns
returns c =
    let d = c.args.disk.now in
    let s = c.args.session.now in
    let e = sym c.in_ok-epoch.ensures in
    append-served d s c.next_list-list.result c.next_list-list.ensures c.in_ok-epoch.epoch e (sym c.no_room.ensures ∙ c.if-no_room.false)
    ∙ append-made d s c.next_list-list.result c.next_list-list.ensures c.in_ok-epoch.epoch e c.store_append.new.disk c.store_append.new.session c.close_writer.new.session
    c.store_append.ensures c.close_writer.ensures
