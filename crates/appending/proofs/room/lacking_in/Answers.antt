-- The numbers of the files stay below the end, so that each of them is one. Assumes nothing.
use Rattle.std.proofs.Common.{◌+◌, ◌≤◌, ◌^◌, rules}
use Rattle.appending.specs.RoomWays.{numbers_fit}
use Rattle.appending.proofs.room.lacking_in.Goals as goal

pub lacking_files-requires : goal.lacking_files-requires
lacking_files-requires c =
    let fits : c.file_of-first.result + c.files_covered-count.result ≤ 2 ^ 64 = rw (c.file_of-first.ensures, c.files_covered-count.ensures) (numbers_fit c.args.file_size c.args.low c.args.end c.requires.1.0 (search rules) (search rules)) in
    ((c.requires.0, c.requires.1.1 c.in-Some.place c.in-Some.is), fits)
