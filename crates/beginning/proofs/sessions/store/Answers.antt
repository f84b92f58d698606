-- `store` does `store_call`: each way out is its law, at what was read of the disk. Assumes nothing.
use Rattle.std.proofs.Common.{◌≡◌, sym, ◌∙◌, true}
use Rattle.layout.specs.SessionLaws.{sound-long}
use Rattle.beginning.specs.Sessions.{both_sound}
use Rattle.beginning.specs.Ways.{both-disk, both-session, store-unusable, store-unread, store-read}
use Rattle.beginning.proofs.sessions.store.Goals as goal

pub returns-then-not-both_sound : goal.returns-then-not-both_sound
returns-then-not-both_sound c =
    store-unusable c.args.disk.now c.args.session.now (sym c.both_sound.ensures ∙ c.if-not-both_sound.true)

pub side_part-left-requires : goal.side_part-left-requires
side_part-left-requires c =
    let ok : both_sound c.args.disk.now c.args.session.now ≡ true = sym c.both_sound.ensures ∙ c.if-not-both_sound.false in
    both-disk c.args.disk.now c.args.session.now ok

pub side_part-right-requires : goal.side_part-right-requires
side_part-right-requires c =
    let ok : both_sound c.args.disk.now c.args.session.now ≡ true = sym c.both_sound.ensures ∙ c.if-not-both_sound.false in
    both-disk c.args.disk.now c.args.session.now ok

pub begin-requires : goal.begin-requires
begin-requires c =
    let ok : both_sound c.args.disk.now c.args.session.now ≡ true = sym c.both_sound.ensures ∙ c.if-not-both_sound.false in
    sound-long c.args.session.now (both-session c.args.disk.now c.args.session.now ok)

pub returns-in_default : goal.returns-in_default
returns-in_default c =
    let ok : both_sound c.args.disk.now c.args.session.now ≡ true = sym c.both_sound.ensures ∙ c.if-not-both_sound.false in
    store-unread c.args.disk.now c.args.session.now c.side_part-left.result.now c.side_part-right.result.now c.pick-record.result.now c.list_of.result ok
    c.side_part-left.ensures c.side_part-right.ensures c.pick-record.ensures c.list_of.ensures c.in_default.is

pub returns : goal.returns
returns c =
    let ok : both_sound c.args.disk.now c.args.session.now ≡ true = sym c.both_sound.ensures ∙ c.if-not-both_sound.false in
    store-read c.args.disk.now c.args.session.now c.side_part-left.result.now c.side_part-right.result.now c.pick-record.result.now c.list_of.result ok
    c.side_part-left.ensures c.side_part-right.ensures c.pick-record.ensures c.list_of.ensures
    c.in-Some.list c.epoch_of-epoch.result c.next_side-side.result c.begin.new.session c.in-Some.is c.epoch_of-epoch.ensures c.next_side-side.ensures c.begin.ensures
