-- `forget` leaves `forgotten`: each put is made on what the last one left. Assumes nothing.
use Rattle.std.proofs.Common.{length, ◌≡◌, sym, ◌∙◌, arith}
use Rattle.disk.specs.StepLaws.{directory-low}
use Rattle.ending.proofs.dropping.forget.Goals as goal

pub untrack-requires : goal.untrack-requires
untrack-requires c =
    let kept : length c.unstage_tape.new.session ≡ length c.args.session.now = c.unstage_tape.auto.session in
    ((c.requires.0.0, omega (arith, c.requires.0.1.long)), λ place e. directory-low c.args.disk.now _ place (sym c.directory_of-directory.ensures ∙ e))
