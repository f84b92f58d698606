-- `read_piece` leaves `piece_bytes`: the copy fills out, and the file is there by what is required. Assumes nothing.
use Rattle.std.specs.Prelude.{Some}
use Rattle.std.proofs.Common.{length, ◌≡◌, sym, ap, ◌∙◌, List, ℕ, ◌+◌, ◌-◌, ◌≤◌, arith, rules, take, drop}
use Rattle.octets.specs.Bytes.{put}
use Rattle.layout.specs.Disk.{len}
use Rattle.disk.specs.Steps.{find_file}
use Rattle.disk.specs.MeaningLaws.{length-file}
use Rattle.rolling_tape.specs.ReadingWays.{file-low, there-at, there-none, piece-copied}
use Rattle.rolling_tape.proofs.reading.read_piece.Goals as goal

pub returns-in_default : goal.returns-in_default
returns-in_default c =
    absurd (there-none c.args.disk.now c.args.tape.now c.args.number (c.args.place + length c.args.out.now) (sym c.find_file.ensures ∙ c.in_default.is) c.requires.1)

pub file_part-part-requires : goal.file_part-part-requires
file_part-part-requires c =
    let low = file-low c.args.disk.now c.args.tape.now c.args.number c.in-Some.slot (sym c.find_file.ensures ∙ c.in-Some.is) in
    search rules

pub overflow_add-end : goal.overflow_add-end
overflow_add-end c =
    let d = c.args.disk.now in
    let met : find_file d c.args.tape.now c.args.number ≡ Some c.in-Some.slot = sym c.find_file.ensures ∙ c.in-Some.is in
    let short : len d c.in-Some.slot ≤ 4096 = c.requires.0.lengths c.in-Some.slot (file-low d c.args.tape.now c.args.number c.in-Some.slot met) in
    let reach = there-at d c.args.tape.now c.args.number (c.args.place + length c.args.out.now) c.in-Some.slot met c.requires.1 in
    omega arith

pub slice_bounds-copy_in-end : goal.slice_bounds-copy_in-end
slice_bounds-copy_in-end c =
    let d = c.args.disk.now in
    let met : find_file d c.args.tape.now c.args.number ≡ Some c.in-Some.slot = sym c.find_file.ensures ∙ c.in-Some.is in
    let long = ap length c.file_part-part.ensures ∙ length-file d c.requires.0 c.in-Some.slot (file-low d c.args.tape.now c.args.number c.in-Some.slot met) in
    let reach = there-at d c.args.tape.now c.args.number (c.args.place + length c.args.out.now) c.in-Some.slot met c.requires.1 in
    omega arith

pub returns : goal.returns
returns c =
    let d = c.args.disk.now in
    let out = c.args.out.now in
    let met : find_file d c.args.tape.now c.args.number ≡ Some c.in-Some.slot = sym c.find_file.ensures ∙ c.in-Some.is in
    c.copy_in.ensures
    ∙ ap (λ (l : List ℕ). put out 0 (take (c.args.place + length out - c.args.place) (drop c.args.place l))) c.file_part-part.ensures
    ∙ piece-copied d c.args.tape.now c.requires.0 c.args.number c.args.place c.in-Some.slot out met c.requires.1
