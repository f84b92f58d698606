-- `digest::blake2b_headed` is `hashed`: the errors are found by their laws (`Refusals`), and what is served is the law `served`. Assumes nothing.
use Rattle.std.proofs.Common.{◌≡◌, ◌+◌, ◌-◌, ◌++◌, length, take, ◌∙◌, arith}
use Rattle.octets.specs.Bytes.{put}
use Rattle.blake2b.specs.Blake2b.{bytes_of, keyed, dd, start, finished}
use Rattle.blake2b.specs.Digest.{served, blake2b-parts}
use Rattle.blake2b.proofs.digest.blake2b_headed.Goals as goal

pub returns : goal.returns
returns c =
    let key = c.args.key.now in
    let head = c.args.head.now in
    let tail = c.args.tail.now in
    let words : c.absorb-h.result ≡ finished (start (length key) c.args.nn) (keyed key ++ (head ++ tail)) (dd (length key) (length head + length tail) - 1) = c.absorb-h.ensures in
    let bytes : c.bytes_of-bytes.result ≡ bytes_of c.absorb-h.result = c.bytes_of-bytes.ensures in
    let e : c.copy_in.new.s ≡ put c.args.out.now 0 (take c.args.nn c.bytes_of-bytes.result) = c.copy_in.ensures in
    served c.args.nn c.args.key.now c.args.head.now c.args.tail.now c.args.out.now (omega arith) (omega arith) (omega arith) (omega arith) (omega arith)
    ∙ rw (e, bytes, words, blake2b-parts c.args.nn key head tail)
