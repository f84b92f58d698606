-- `metadata::decode_tapes` answers `decode_from`. The loop's invariant: the tapes read so far stand in the list, blanks behind them, and in front of
-- what is left to read they are the whole. Assumes nothing.
use Rattle.std.proofs.Common.{◌≡◌, List, [], ◌++◌, map, ℕ, ◌-◌, ◌≤◌, length, replicate}
use Rattle.metadata.specs.declared.list.TapeMetadata.{TapeMetadata}
use Rattle.metadata.specs.Tapes.{Tape}
use Rattle.metadata.specs.Decoding.{decode_from}
use Rattle.metadata.specs.Struct.{stored, blank}
use Rattle.metadata.specs.DecodingLaws.{prepend_all}
use Rattle.metadata.proofs.decode.decode_tapes.Given as goal

-- how far the loop is: `done` are the tapes that it has read, and `before` is the last one's name
pub record Read (s : List ℕ) (count first : ℕ) (array : List TapeMetadata) (at : ℕ) (before : List ℕ) (i : ℕ) : Type 0 where
  pub done : List Tape
  pub size : length done ≡ i
  pub within : i ≤ count
  pub held : array ≡ map stored done ++ replicate (8 - i) blank
  pub rest : prepend_all done (decode_from (count - i) before s at) ≡ decode_from count [] s first

abbrev pub invariant-loop-i : goal.invariant-loop-i
invariant-loop-i l = (l.r.src ≡ l.fn.r.src) × Read l.fn.r.src.now l.count l.fn.r.at l.list.tapes l.r.at l.before l.i
