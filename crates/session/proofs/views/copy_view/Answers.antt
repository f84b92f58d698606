-- `copy_view`: the array that is filled with the view is put into the other's place. Assumes nothing.
use Rattle.std.proofs.Common.{◌≡◌, ap, ◌∙◌, List, ℕ, ◌+◌, ◌-◌, arith, take, drop}
use Rattle.octets.specs.Bytes.{put}
use Rattle.layout.specs.Session.{views_at}
use Rattle.session.specs.Rows.{copy_view}
use Rattle.session.proofs.views.copy_view.Goals as goal

pub returns : goal.returns
unfolding copy_view
returns c =
    let s = c.args.session.now in
    let at = views_at c.args.from in
    let size : at + 192 - at ≡ 192 = omega arith in
    let rows = c.copy_from_slice.ensures.after ∙ ap (λ (k : ℕ). take k (drop at s)) size in
    c.copy_in.ensures ∙ ap (λ (l : List ℕ). put s (views_at c.args.to) l) rows
