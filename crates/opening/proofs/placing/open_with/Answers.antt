-- `open_with` leaves `open_with`: the head is as it was when the directory is ready and the name put, so there is a next number. Assumes nothing.
use Rattle.std.proofs.Common.{length, ◌≡◌, sym, ap, ◌∙◌, arith}
use Rattle.layout.specs.Names.{put_name}
use Rattle.layout.specs.Session.{names_at}
use Rattle.session.specs.Rows.{head_of}
use Rattle.session.specs.declared.head.Head.{Head}
use Rattle.rolling_tape.specs.Removal.{Areas, areas}
use Rattle.opening.specs.Directory.{readied}
use Rattle.opening.specs.PlacingLaws.{named, length-named, head-named}
use Rattle.opening.proofs.placing.open_with.Goals as goal

pub put_row-requires : goal.put_row-requires
put_row-requires c =
    let d = c.args.disk.now in
    let s = c.args.session.now in
    let wanted = c.args.o.name.now in
    let o = c.args.o.opening in
    let began = c.get_transaction-writer.result.epoch in
    let made : readied (areas d s) wanted o began c.args.at.directory ≡ areas c.ready.new.disk c.ready.new.session = c.ready.ensures in
    let name_in : c.put_tape_name.new.session ≡ named (areas d s) wanted o began c.args.at.directory c.args.at.tape c.requires.0.0 c.args.o.short
    = c.put_tape_name.ensures ∙ ap (λ (b : Areas). put_name b.session names_at c.args.at.tape wanted) (sym made) in
    let same : length c.put_tape_name.new.session ≡ length s = ap length name_in ∙ length-named (areas d s) wanted o began c.args.at.directory c.args.at.tape c.requires.0.0 c.args.o.short in
    let head : head_of c.put_tape_name.new.session ≡ head_of s = ap head_of name_in ∙ head-named (areas d s) wanted o began c.args.at.directory c.args.at.tape c.requires.0.0 c.args.o.short in
    let last : (head_of c.put_tape_name.new.session).last_handle ≡ (head_of s).last_handle = ap (λ (h : Head). h.last_handle) head in
    let long = c.requires.0.1 in
    let more = c.requires.1.1 in
    ((omega arith, c.args.at.tape_low), (c.requires.1.0, omega arith))
