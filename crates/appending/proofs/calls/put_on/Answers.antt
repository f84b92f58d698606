-- What the cache asks of the bytes put. Assumes nothing.
use Rattle.std.proofs.Common.{length, ◌+◌, ◌≤◌, ◌<◌, ◌^◌}
use Rattle.layout.specs.Session.{ring_len}
use Rattle.staging.specs.Laws.{unwritten-held}
use Rattle.appending.proofs.calls.put_on.Goals as goal

pub put_bytes-requires : goal.put_bytes-requires
put_bytes-requires c =
    let row = c.requires.1.1.0 in
    let held = unwritten-held c.args.session.now c.args.tape c.requires.0.1 row.low row.held in
    let pending : c.touched_as-row.result.unwritten ≤ ring_len c.args.session.now c.args.tape = rw c.touched_as-row.ensures held in
    let fits : c.touched_as-row.result.len + length c.args.src.now < 2 ^ 64 = rw c.touched_as-row.ensures c.requires.1.1.1 in
    ((c.requires.0, (c.requires.1.0, row.low)), (row.held, (pending, fits)))
