-- Two more things that our own calls keep: names in the session are ones that an open takes, and a listed tape has its directory. Assumes nothing.
use Rattle.std.specs.Prelude.{◌≡◌, true, false, List, ℕ, ◌<◌, length}
use Rattle.octets.specs.Compare.{same_bytes}
use Rattle.metadata.specs.Name.{name_rule}
use Rattle.layout.specs.Names.{name}
use Rattle.layout.specs.Session.{names_at}
use Rattle.session.specs.Rows.{view_of}
use Rattle.rolling_tape.specs.Room.{is_found}
use Rattle.staging.specs.Seeing.{directory_of}
use Rattle.opening.specs.Shape.{METADATA}

pub record Proper (d s : List ℕ) : Type 0 where
  pub rule : (p : ℕ) → p < 8 → 0 < length (name s names_at p) → name_rule (name s names_at p) ≡ true
  pub unreserved : (p : ℕ) → p < 8 → 0 < length (name s names_at p) → same_bytes (name s names_at p) METADATA ≡ false
  pub housed : (p : ℕ) → p < 8 → (view_of s 17 p).listed ≡ true → is_found (directory_of d s p) ≡ true
