-- Where the entries are put, the directory is there and the length fits. Assumes nothing.
use Rattle.std.proofs.Common.{length, ◌≡◌, sym, ap, ◌∙◌, ◌+◌, ◌≤◌, arith, Some}
use Rattle.disk.specs.StepLaws.{directory-low}
use Rattle.session.specs.declared.views.View.{View}
use Rattle.staging.specs.Seeing.{touched_as}
use Rattle.staging.specs.Ways.{listed-seen}
use Rattle.appending.specs.CallWays.{seen-touched}
use Rattle.appending.proofs.calls.append_on.Goals as goal

pub put_on-requires : goal.put_on-requires
put_on-requires c =
    let seen = listed-seen c.args.session.now 16 c.args.tape c.in_ok-view.view (sym c.listed_by.ensures ∙ c.in_ok-view.was) in
    let found : c.find_directory.result ≡ Some c.in_ok-place.place = grind arith in
    let fits : c.in_ok-view.view.len + length c.args.src.now ≤ 0xffff_ffff_ffff_ffff = grind arith in
    let same : c.in_ok-view.view.len ≡ (touched_as c.args.session.now c.args.tape).len = ap (λ (v : View). v.len) seen.0 ∙ seen-touched c.args.session.now c.args.tape in
    (c.requires.0, (directory-low c.args.disk.now c.tape_name-name.result.now c.in_ok-place.place (sym c.find_directory.ensures ∙ found), (c.requires.1, omega arith)))
