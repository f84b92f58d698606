-- Files that differ in their marks alone. The laws of marks are in proofs/MarkLaws.antt. Assumes nothing.
use Rattle.std.specs.Prelude.{◌≡◌}
use Rattle.components.specs.Files.{File}

pub record Alike (g f : File) : Type 0 where
  pub there : g.there ≡ f.there
  pub tracked : g.tracked ≡ f.tracked
  pub bytes : g.bytes ≡ f.bytes
