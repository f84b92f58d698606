-- `can_fill` is `can_fill`: the bytes asked for end at the length, or there are none. Assumes nothing.
use Rattle.std.proofs.Common.{◌≡◌, ◌<◌, ◌^◌, rules}
use Rattle.opening.specs.Calls.{cached_from, cached_count}
use Rattle.opening.specs.PlacingLaws.{cached-end}
use Rattle.opening.proofs.calls.can_fill.Goals as goal

pub can_read-requires : goal.can_read-requires
can_read-requires c =
    let from : c.cached_from.result ≡ cached_from c.args.o.opening = c.cached_from.ensures in
    let count : c.cached_count.result ≡ cached_count c.args.o.opening = c.cached_count.ensures in
    let len : c.args.o.opening.len < 2 ^ 64 = search rules in
    let start : c.args.o.opening.start < 2 ^ 64 = search rules in
    ((c.requires.0, c.requires.1.long), (c.args.o.sizes.0, rw (from, count) (cached-end c.args.o.opening len start)))
