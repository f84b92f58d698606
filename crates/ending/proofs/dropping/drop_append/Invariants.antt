-- `drop_append` leaves `drop_append`. The loop's invariant: the session keeps its rule, and taking back the tapes that are left, on the present bytes,
-- is the whole. Assumes nothing.
use Rattle.std.proofs.Common.{length, ◌≡◌, List, ℕ, ◌-◌, ◌≤◌}
use Rattle.octets.specs.Sweep.{sweep}
use Rattle.layout.specs.Session.{Begun}
use Rattle.ending.specs.Dropping.{take_back}
use Rattle.ending.proofs.dropping.drop_append.Given as goal

pub record Inv (disk session₀ session : List ℕ) (i : ℕ) : Type 0 where
  pub long : length session ≡ length session₀
  pub begun : Begun session
  pub within : i ≤ 8
  pub rest : sweep (take_back disk) (8 - i) i session ≡ sweep (take_back disk) 8 0 session₀

abbrev pub invariant-loop-tape : goal.invariant-loop-tape
invariant-loop-tape l = Inv l.disk l.initial.session l.session l.tape
