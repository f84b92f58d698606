-- `write_run` leaves `write_run`. The loop's invariant: writing what is left of the source, on the present bytes, is the whole. Assumes nothing.
use Rattle.std.proofs.Common.{length, ◌≡◌, List, ℕ, ◌+◌, drop}
use Rattle.components.specs.declared.pieces.Parts.{Parts}
use Rattle.components.specs.PartsLaws.{Run}
use Rattle.layout.specs.Disk.{Sound}
use Rattle.rolling_tape.specs.Writing.{write_run}
use Rattle.rolling_tape.proofs.writing.write_run.Given as goal

pub record Inv (disk₀ : List ℕ) (place fs offset : ℕ) (src disk : List ℕ) (it : Parts) : Type 0 where
  pub long : length disk ≡ length disk₀
  pub sound : Sound disk
  pub run : Run fs offset (length src) it
  pub rest : write_run disk place fs (offset + it.done) (drop it.done src) ≡ write_run disk₀ place fs offset src

abbrev pub invariant-loop-part : goal.invariant-loop-part
invariant-loop-part l = Inv l.initial.disk l.place l.file_size l.offset l.src l.disk l.part-iterator
