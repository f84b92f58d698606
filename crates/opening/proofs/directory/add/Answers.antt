-- `add` leaves `added`: the free place is below 8, and a disk that was emptied there is sound. Assumes nothing.
use Rattle.std.specs.Prelude.{Some}
use Rattle.std.proofs.Common.{◌≡◌, sym, subst, ◌∙◌, []}
use Rattle.layout.specs.Disk.{Sound, directories}
use Rattle.layout.specs.Names.{find_name}
use Rattle.rolling_tape.specs.Removal.{Areas, areas}
use Rattle.opening.specs.Directory.{emptied}
use Rattle.opening.specs.DirectoryLaws.{sound-emptied}
use Rattle.layout.specs.NamesLaws.{name-low}
use Rattle.opening.proofs.directory.add.Goals as goal

pub empty-requires : goal.empty-requires
empty-requires c =
    let d = c.args.disk.now in
    let found : find_name d directories [] ≡ Some c.in-Some.place = sym c.find_directory.ensures ∙ c.in-Some.is in
    (c.requires.0, name-low d directories [] c.in-Some.place found)

pub add_directory-requires : goal.add_directory-requires
add_directory-requires c =
    let d = c.args.disk.now in
    let gone : emptied (areas d c.args.session.now) c.in-Some.place ≡ areas c.empty.new.disk c.empty.new.session = c.empty.ensures in
    let kept : Sound c.empty.new.disk = subst (λ (b : Areas). Sound b.disk) gone (sound-emptied (areas d c.args.session.now) c.in-Some.place c.requires.0.0) in
    (kept, c.requires.1)
