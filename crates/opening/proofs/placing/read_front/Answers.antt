-- `read_front` reads the cache's bytes to the front of out: so many fit, and none is past the last index. Assumes nothing.
use Rattle.std.proofs.Common.{◌≡◌, ◌<◌, ◌^◌, arith, length-take-le, rules}
use Rattle.opening.specs.Calls.{cached_from, cached_count}
use Rattle.opening.specs.PlacingLaws.{cached-end}
use Rattle.opening.proofs.placing.read_front.Goals as goal

pub read_run-requires : goal.read_run-requires
read_run-requires c =
    let count : c.cached_count-count.result ≡ cached_count c.args.o.opening = c.cached_count-count.ensures in
    let room = c.requires.1.0 in
    let from : c.cached_from.result ≡ cached_from c.args.o.opening = c.cached_from.ensures in
    let len : c.args.o.opening.len < 2 ^ 64 = search rules in
    let start : c.args.o.opening.start < 2 ^ 64 = search rules in
    let end = cached-end c.args.o.opening len start in
    let long = length-take-le c.cached_count-count.result c.args.out.now (omega arith) in
    ((c.requires.0, c.args.o.sizes.0), (rw (long, from, count) end, rw (long, from, count) c.requires.1.1))
