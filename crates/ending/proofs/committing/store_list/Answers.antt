-- `store_list` leaves `stored`: the list changes no field of the head, so the record and the next head are those of the session before. Assumes nothing.
use Rattle.std.proofs.Common.{◌≡◌, ap, ◌∙◌, Bool, List, ℕ, arith}
use Rattle.session.specs.Rows.{head_of}
use Rattle.ending.specs.Steps.{publish_all}
use Rattle.ending.specs.StepLaws.{head-publish_all}
use Rattle.ending.proofs.committing.store_list.Goals as goal

-- the head that is read is the one of before
same_head : (s t : List ℕ) (cut : Bool) → t ≡ publish_all cut s → head_of t ≡ head_of s
same_head s t cut e = ap head_of e ∙ head-publish_all cut s

pub write_record-requires : goal.write_record-requires
write_record-requires c =
    let long = c.requires.0.1.long in
    let same = c.publish_all.auto.session in
    let head = same_head c.args.session.now c.publish_all.new.session c.args.cut c.publish_all.ensures in
    ((c.requires.0.0, omega arith), (c.requires.1.0, rw head c.requires.1.1))

pub advance-requires : goal.advance-requires
advance-requires c =
    let long = c.requires.0.1.long in
    let same = c.publish_all.auto.session in
    let head = same_head c.args.session.now c.publish_all.new.session c.args.cut c.publish_all.ensures in
    (omega arith, rw head c.requires.1.1)
