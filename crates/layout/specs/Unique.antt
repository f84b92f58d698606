-- Two verdicts that satisfy a function's contract are the same, for each function that takes an area as it is. Assumes nothing.
use Rattle.std.specs.Prelude.{◌≡◌, Bool, List, ℕ}
use Rattle.std.proofs.Common.{sym, ◌∙◌}
use Rattle.layout.specs.Disk as D
use Rattle.layout.specs.Session as S

pub is-sound-disk-unique : (d : List ℕ) (r r' : Bool) → r ≡ D.sound d → r' ≡ D.sound d → r ≡ r'
is-sound-disk-unique d r r' e f = e ∙ sym f

pub is-sound-session-unique : (s : List ℕ) (r r' : Bool) → r ≡ S.sound s → r' ≡ S.sound s → r ≡ r'
is-sound-session-unique s r r' e f = e ∙ sym f

pub is-begun-session-unique : (s : List ℕ) (r r' : Bool) → r ≡ S.begun s → r' ≡ S.begun s → r ≡ r'
is-begun-session-unique s r r' e f = e ∙ sym f
