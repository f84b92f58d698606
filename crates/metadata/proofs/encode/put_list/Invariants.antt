-- `metadata::encode::put_list`: behind the count stand the tapes written so far, and the writer stands behind them. Assumes nothing.
use Rattle.std.proofs.Common.{◌≡◌, ℕ, List, ◌+◌, length, take}
use Rattle.octets.specs.Bytes.{put}
use Rattle.metadata.specs.declared.list.TapeMetadata.{TapeMetadata}
use Rattle.metadata.proofs.Turns.{firsts}
use Rattle.metadata.proofs.encode.put_list.Given as goal

pub record Inv (first : List ℕ) (ts : List TapeMetadata) (out : List ℕ) (at i : ℕ) : Type 0 where
  pub place : at ≡ 4 + length (firsts ts i)
  pub bytes : out ≡ put first 4 (firsts ts i)

abbrev pub invariant-loop-t : goal.invariant-loop-t
invariant-loop-t l = (l.w.out.ghost_name ≡ l.initial.w.out.ghost_name) × Inv l.initial.w.out.now (take l.fn.list.count l.fn.list.tapes) l.w.out.now l.w.at l.t-index
