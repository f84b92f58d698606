-- `no_room` is `no_room`. The loop's invariant: what was counted and what the tapes left lack is never above the whole, and is the whole or at least 65. Assumes
-- nothing.
use Rattle.std.proofs.Common.{Option, List, ℕ, ◌+◌, ◌*◌, ◌-◌, ◌≤◌, min}
use Rattle.appending.specs.Room.{place_of, lacking_all}
use Rattle.appending.proofs.room.no_room.Given as goal

pub record Inv (disk session : List ℕ) (to : Option ℕ) (more lacking i : ℕ) : Type 0 where
  pub within : i ≤ 8
  pub few : lacking ≤ 65 * i
  pub least : min (lacking_all disk session (place_of to) more 8 0) 65 ≤ lacking + lacking_all disk session (place_of to) more (8 - i) i
  pub most : lacking + lacking_all disk session (place_of to) more (8 - i) i ≤ lacking_all disk session (place_of to) more 8 0

abbrev pub invariant-loop-i : goal.invariant-loop-i
invariant-loop-i l = Inv l.disk l.session l.to l.more l.lacking l.i
