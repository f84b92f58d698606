-- `message::Input::block_at` is `block_from`: each part is laid behind what is laid already. Assumes nothing.
use Rattle.std.proofs.Common.{◌≡◌, ◌+◌, length, replicate, ◌∙◌}
use Rattle.blake2b.specs.Blake2b.{keyed}
use Rattle.blake2b.specs.Message.{laid, block-of-parts}
use Rattle.blake2b.proofs.message.Input.block_at.Goals as goal

pub returns : goal.returns
returns c =
    let key = c.args.self.now.key.now in
    let head = c.args.self.now.head.now in
    let tail = c.args.self.now.tail.now in
    let room : c.key_room-room.result ≡ length (keyed key) = c.key_room-room.ensures.room in
    let one : c.lay.new.block ≡ laid (replicate 128 0) c.args.at key 0 = c.lay.ensures in
    let two : c.lay-2.new.block ≡ laid c.lay.new.block c.args.at head c.key_room-room.result = c.lay-2.ensures in
    let three : c.lay-3.new.block ≡ laid c.lay-2.new.block c.args.at tail (c.key_room-room.result + length head) = c.lay-3.ensures in
    three ∙ rw (two, one, room) (block-of-parts key head tail c.args.at)
