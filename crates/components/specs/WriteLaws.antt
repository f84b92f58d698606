-- A file that is made or found, with its bytes. The laws of writes are in proofs/WriteLaws.antt. Assumes nothing.
use Rattle.std.specs.Prelude.{true, cond, not, ◌&&◌, eqb, None}
use mathlib.Core.List.{List}
use Prim.Native.Nat.{ℕ}
use Rattle.std.proofs.Math.Dec.{ltb}
use Rattle.components.specs.Files.{Files, untracked}

-- file n made or found, with these bytes; made, it untracks the higher ones
abbrev pub placed : Files → ℕ → List ℕ → Files
placed f n l k =
    cond (eqb k n)
    (record { there = true; tracked = true; mark = cond (f k).tracked (f k).mark None; bytes = l })
    (cond (not (f n).tracked && ltb n k) (untracked (f k)) (f k))
