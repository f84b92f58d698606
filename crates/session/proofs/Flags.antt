-- A flag's word is std's number of a `bool`. Assumes nothing.
use Rattle.std.specs.Prelude.{◌≡◌, Bool, true, false, refl}
use Rattle.std.specs.Int.{from_bool}
use Rattle.session.specs.Rows.{flag_word}

pub flag-from : (b : Bool) → from_bool b ≡ flag_word b
flag-from true = refl
flag-from false = refl
