-- `can_read` answers `can_read`. The loop's invariant: the bytes that are left give the whole answer; a turn passes the bytes of one file at once. Assumes nothing.
use Rattle.std.proofs.Common.{◌≡◌, ℕ, ◌-◌, Bool}
use Rattle.octets.specs.First.{all}
use Rattle.components.specs.declared.pieces.Parts.{Parts}
use Rattle.components.specs.PartsLaws.{Run}
use Rattle.rolling_tape.specs.Reading.{piece_lies, can_read}
use Rattle.rolling_tape.specs.ReadingWays.{at}
use Rattle.rolling_tape.proofs.reading.can_read.Given as goal

pub record Inv (lie : ℕ → ℕ → Bool) (fs offset count : ℕ) (whole : Bool) (it : Parts) : Type 0 where
  pub run : Run fs offset count it
  pub rest : all (at lie fs offset) (count - it.done) it.done ≡ whole

abbrev pub invariant-loop-part : goal.invariant-loop-part
invariant-loop-part l =
    Inv (piece_lies l.disk l.session l.only_tracked l.tape) l.file_size l.offset l.count (can_read l.disk l.session l.only_tracked l.tape l.file_size l.offset l.count) l.part-iterator
