use Rattle.std.proofs.Common.{ℕ, ◌+◌, ◌<◌, ◌^◌, arith}
use Rattle.octets.specs.Number.{Bytes}
use Rattle.staging.specs.Seeing.{touched_as}
use Rattle.appending.specs.Room.{place_of}
use Rattle.appending.specs.RoomWays.{place-holds, ends-fit, all-turn, all_end, files-few, room_by}
use Rattle.appending.proofs.room.no_room.Goals as goal

pub lacking_of-lacking-requires : goal.lacking_of-lacking-requires
lacking_of-lacking-requires c =
    let bytes : Bytes c.args.session.now = λ j. omega (arith, c.shared_slice_known-2-1.given j) in
    let low : c.loop-i.i < 8 = omega arith in
    ((c.requires.0.0, c.requires.0.1), (low, ends-fit c.args.session.now bytes (place_of c.args.to) c.args.more c.loop-i.i low (place-holds (λ (p : ℕ). (p < 8) × ((touched_as c.args.session.now p).len + c.args.more < 2 ^ 64)) c.args.to c.requires.1)))

pub loop-i-preserved : goal.loop-i-preserved
loop-i-preserved c =
    let v = c.loop-i.invariant in
    let turn = all-turn c.args.disk.now c.args.session.now (place_of c.args.to) c.args.more c.loop-i.i c.loop-i-test.true in
    let counted = c.lacking_of-lacking.ensures in
    record { within = omega arith; few = omega arith; least = omega arith; most = omega arith }

pub overflow_add-result : goal.overflow_add-result
overflow_add-result c =
    omega (arith, files-few c.args.disk.now, c.requires.0.0.head.few, c.loop-i.invariant.few, c.loop-i.invariant.within, c.count_files.ensures)

pub returns : goal.returns
returns c =
    let v = c.loop-i.invariant in
    let none = all_end c.args.disk.now c.args.session.now (place_of c.args.to) c.args.more c.loop-i.i c.loop-i-test.false in
    let least = v.least in
    let most = v.most in
    rw (c.slot_count.ensures, c.count_files.ensures) (room_by c.args.disk.now c.args.session.now (place_of c.args.to) c.args.more c.loop-i.lacking c.requires.0.0.head.few (omega arith) (omega arith))
