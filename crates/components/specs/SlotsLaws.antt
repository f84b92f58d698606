-- What one staged tape lacks. The laws of what is lacking are in proofs/SlotsLaws.antt. Assumes nothing.
use Rattle.std.specs.Prelude.{Bool}
use Prim.Native.Nat.{ℕ}
use Rattle.components.specs.Pieces.{file_of}
use Rattle.components.specs.Slots.{Staged, lacking_from, covered}

abbrev pub lacking_of : (ℕ → ℕ → Bool) → Staged → ℕ
lacking_of there t = lacking_from (there t.tape) (file_of t.size t.base) (covered t.size t.base t.end)
