-- What is shown of a view: all of one that is listed, nothing of another. Assumes nothing.
use Rattle.std.specs.Prelude.{◌≡◌, refl, true, false}
use Rattle.std.proofs.Common.{sym, ap, ◌∙◌}
use Rattle.octets.specs.Cases.{picked}
use Rattle.session.specs.declared.views.View.{View}
use Rattle.session.specs.Meaning.{no_view}
use Rattle.seen.specs.Seen.{shown}

-- it is listed or not as it was
pub shown-keeps : (v : View) → (shown v).listed ≡ v.listed
shown-keeps v = picked (λ (x : View). x.listed ≡ v.listed) v.listed v no_view (λ e. refl) (λ e. sym e)

pub shown-whole : (v : View) → v.listed ≡ true → v ≡ shown v
shown-whole v e = rw e

pub shown-none : (v : View) → v.listed ≡ false → shown v ≡ no_view
shown-none v e = rw e

-- what is shown as listed is what it is
pub shown-listed : (v w : View) → shown v ≡ w → w.listed ≡ true → (v.listed ≡ true) × (v ≡ w)
shown-listed v w e listed =
    let is : v.listed ≡ true = sym (shown-keeps v) ∙ ap (λ (x : View). x.listed) e ∙ listed in
    (is, shown-whole v is ∙ e)
