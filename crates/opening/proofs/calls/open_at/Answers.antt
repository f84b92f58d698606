-- `open_at` is `open_at`: each way out is a law's, and places that are found are below 8. Assumes nothing.
use Rattle.std.specs.Prelude.{Some}
use Rattle.std.proofs.Common.{◌≡◌, sym, ◌∙◌}
use Rattle.layout.specs.Disk.{directories}
use Rattle.layout.specs.Names.{find_name}
use Rattle.opening.specs.Calls.{place_for}
use Rattle.opening.specs.CallWays.{place-low}
use Rattle.layout.specs.NamesLaws.{name-low}
use Rattle.opening.proofs.calls.open_at.Goals as goal

pub invariant_of-open_in : goal.invariant_of-open_in
invariant_of-open_in c =
    let d = c.args.disk.now in
    let s = c.args.session.now in
    let found : place_for s c.args.tape ≡ Some c.in_ok-tape.tape = sym c.place_for.ensures ∙ c.in_ok-tape.ensures.ok_part in
    let directory : c.find_directory-directory.result ≡ find_name d directories c.args.o.name.now = c.find_directory-directory.ensures in
    record {
      tape_low = place-low s c.args.tape c.in_ok-tape.tape c.requires.1 found;
      directory_low = λ place e. name-low d directories c.args.o.name.now place (sym directory ∙ e);
    }
