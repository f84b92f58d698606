-- `next_list` is `next_list` in its struct. The loop's invariant: the tapes found so far stand in the array, blanks behind them, and in front of
-- what is still to come they are the whole list. Assumes nothing.
-- how far the loop is: `done` are the tapes in the array, and `before` is the last of them, or blank
use Rattle.std.proofs.Common.{length, ◌≡◌, Bool, List, ◌++◌, map, ℕ, ◌-◌, ◌≤◌, replicate}
use Rattle.metadata.specs.declared.list.TapeMetadata.{TapeMetadata}
use Rattle.metadata.specs.Tapes.{Tape}
use Rattle.metadata.specs.Struct.{stored, blank, meaning}
use Rattle.ending.specs.Listing.{list_behind, next_list}
use Rattle.ending.proofs.listing.next_list.Given as goal

pub record Listed (s : List ℕ) (cut : Bool) (array : List TapeMetadata) (before : TapeMetadata) (i : ℕ) : Type 0 where
  pub done : List Tape
  pub size : length done ≡ i
  pub within : i ≤ 8
  pub short : before.letters ≤ 24
  pub held : array ≡ map stored done ++ replicate (8 - i) blank
  pub rest : done ++ list_behind s cut (8 - i) (meaning before).name ≡ next_list s cut

abbrev pub invariant-loop-i : goal.invariant-loop-i
invariant-loop-i l = Listed l.session l.cut l.tapes l.before l.i
