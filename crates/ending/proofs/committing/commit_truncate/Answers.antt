-- `commit_truncate` is `commit_truncate`: a list that may be committed is storable, and the next epoch fits. Assumes nothing.
use Rattle.std.proofs.Common.{sym, ◌∙◌, true}
use Rattle.rolling_tape.specs.Removal.{areas}
use Rattle.ending.specs.StepLaws.{Whole}
use Rattle.ending.specs.CommitWays.{may-done, epoch-fits, truncate-served, truncate-made}
use Rattle.ending.specs.CommitLaws.{whole-stored}
use Rattle.ending.proofs.committing.commit_truncate.Goals as goal

pub store_list-requires : goal.store_list-requires
store_list-requires c =
    let m = may-done c.args.disk.now c.args.session.now true c.next_list-list.result c.in_ok-epoch.epoch (sym c.in_ok-epoch.ensures) in
    (c.requires, (m.good, epoch-fits c.args.session.now (λ i. (c.slice_known-2-1.given i).fits) m.more))

pub cut_all-requires : goal.cut_all-requires
cut_all-requires c =
    let d = c.args.disk.now in
    let s = c.args.session.now in
    let m = may-done d s true c.next_list-list.result c.in_ok-epoch.epoch (sym c.in_ok-epoch.ensures) in
    let whole : Whole (areas d s) = record { sound = c.requires.0; begun = c.requires.1; bytes = λ i. (c.slice_known-2-1.given i).fits } in
    let w : Whole (areas c.store_list.new.disk c.store_list.new.session) = rw c.store_list.ensures at (whole-stored (areas d s) true c.next_list-list.result m.good whole) in
    (w.sound, w.begun)

pub returns : goal.returns
returns c =
    let d = c.args.disk.now in
    let s = c.args.session.now in
    let e = sym c.in_ok-epoch.ensures in
    truncate-served d s c.next_list-list.result c.next_list-list.ensures c.in_ok-epoch.epoch e
    ∙ truncate-made d s c.next_list-list.result c.next_list-list.ensures c.in_ok-epoch.epoch e c.store_list.new.disk c.store_list.new.session c.cut_all.new.session
    c.close_writer.new.session c.store_list.ensures c.cut_all.ensures c.close_writer.ensures
