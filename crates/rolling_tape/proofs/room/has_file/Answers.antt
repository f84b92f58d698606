-- `has_file` answers `on_disk`: whether the search finds something. Assumes nothing.
use Rattle.std.specs.Prelude.{◌≡◌, ℕ, Option, Some, None, is_some, refl}
use Rattle.std.proofs.Common.{ap, ◌∙◌}
use Rattle.rolling_tape.specs.Room.{is_found, on_disk}
use Rattle.rolling_tape.proofs.room.has_file.Goals as goal

found : (f : Option ℕ) → is_some f ≡ is_found f
found (Some i) = refl
found None = refl

pub returns : goal.returns
unfolding on_disk
returns c = c.is_some.ensures ∙ found c.find_in.result ∙ ap is_found c.find_in.ensures
