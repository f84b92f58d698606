-- `names_used` is `names_used`: the sum of two counts, of at most 8 each. Assumes nothing.
use Rattle.std.proofs.Common.{◌≡◌, arith}
use Rattle.octets.specs.First.{count, count-le}
use Rattle.layout.specs.Disk.{directories}
use Rattle.opening.specs.NamesLeft.{is_named, is_listed_alone}
use Rattle.opening.proofs.names_left.names_used.Goals as goal

pub overflow_add-result : goal.overflow_add-result
overflow_add-result c =
    let d = c.args.disk.now in
    let s = c.args.session.now in
    let one : c.count_directories-directories.result ≡ count (is_named d directories) 8 0 = c.count_directories-directories.ensures in
    let two : c.count_listed_alone-alone.result ≡ count (is_listed_alone d s) 8 0 = c.count_listed_alone-alone.ensures in
    record { fits = omega (arith, count-le (is_named d directories) 8 0, count-le (is_listed_alone d s) 8 0) }
