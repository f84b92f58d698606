-- `lacking_of` is `lacking_of`, up to 65: what was read are the parts of its definition. Assumes nothing.
use Rattle.std.proofs.Common.{◌≡◌, sym, ap, ◌∙◌, true, ℕ, ◌<◌, min, cond, eqb, Some}
use Rattle.disk.specs.StepLaws.{directory-low}
use Rattle.staging.specs.Seeing.{directory_of}
use Rattle.appending.specs.Room.{place_of, is_staged}
use Rattle.appending.specs.RoomWays.{file-some, staged-held, lacking-staged, to_tape}
use Rattle.appending.proofs.room.lacking_of.Goals as goal
use Rattle.appending.proofs.room.lacking_of.Goals.{then-eq, else-eq}

pub lacking_in-requires : goal.lacking_in-requires
lacking_in-requires c =
    let held = staged-held c.args.session.now (place_of c.args.to) c.args.tape (sym c.is_staged.ensures ∙ c.if-not-is_staged.false) in
    let some : 0 < c.get_handle-file_size.result.file_size = rw c.get_handle-file_size.ensures (file-some c.args.session.now c.args.tape c.requires.0.1 c.requires.1.0 held) in
    (c.requires.0.0, (some, λ (place : ℕ) (e : c.find_directory-directory.result ≡ Some place). directory-low c.args.disk.now c.tape_name-name.result.now place (sym c.find_directory-directory.ensures ∙ e)))

pub returns : goal.returns
returns c =
    let staged : is_staged c.args.session.now (place_of c.args.to) c.args.tape ≡ true = sym c.is_staged.ensures ∙ c.if-not-is_staged.false in
    let there : c.find_directory-directory.result ≡ directory_of c.args.disk.now c.args.session.now c.args.tape = rw (← c.tape_name-name.ensures) c.find_directory-directory.ensures in
    let test = c.eq.ensures ∙ to_tape c.args.to c.args.tape c.requires.1.0 in
    let behind : c.if-eq.behind ≡ cond (eqb c.args.tape (place_of c.args.to)) c.args.more 0 = elim c.if-eq.branch [
      | then-eq w ↦ rw (sym test ∙ w.if-eq.true) w.behind-is
      | else-eq w ↦ rw (sym test ∙ w.if-eq.false) w.behind-is
    ] in
    c.lacking_in.ensures
    ∙ ap (λ (n : ℕ). min n 65) (lacking-staged c.args.disk.now c.args.session.now (place_of c.args.to) c.args.more c.args.tape c.touched_as-row.result c.touched_as-row.ensures c.get_handle-file_size.result c.get_handle-file_size.ensures c.if-eq.behind behind c.find_directory-directory.result there c.low_of.result c.end_of.result c.low_of.ensures c.end_of.ensures staged)
