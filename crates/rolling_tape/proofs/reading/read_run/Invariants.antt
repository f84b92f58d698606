-- `read_run` leaves `read_run`. The loop's invariant: the run that is left, put on the present bytes, is the whole; a turn reads what lies in one file. Assumes nothing.
use Rattle.std.proofs.Common.{length, ◌≡◌, List, ℕ, ◌+◌, ◌-◌}
use Rattle.octets.specs.Bytes.{put}
use Rattle.components.specs.declared.pieces.Parts.{Parts}
use Rattle.components.specs.PartsLaws.{Run}
use Rattle.rolling_tape.specs.Reading.{read_run}
use Rattle.rolling_tape.proofs.reading.read_run.Given as goal

pub record Inv (disk tape : List ℕ) (fs offset : ℕ) (out₀ out : List ℕ) (it : Parts) : Type 0 where
  pub long : length out ≡ length out₀
  pub run : Run fs offset (length out₀) it
  pub rest : put out it.done (read_run disk tape fs (offset + it.done) (length out₀ - it.done)) ≡ read_run disk tape fs offset (length out₀)

abbrev pub invariant-loop-part : goal.invariant-loop-part
invariant-loop-part l = Inv l.disk l.tape l.file_size l.offset l.initial.out l.out l.part-iterator
