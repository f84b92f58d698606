-- `begin` clears the area and lists the tapes in place after place. The loop's invariant: listing those that are left is listing all. Assumes nothing.
use Rattle.std.proofs.Common.{◌≡◌, List, ℕ, ◌≤◌, length, drop}
use Rattle.metadata.specs.declared.list.TapeList.{TapeList}
use Rattle.metadata.specs.Struct.{tapes_of}
use Rattle.session.specs.Begin.{listed_from}
use Rattle.session.proofs.starting.begin.Given as goal

pub record Inv (session₀ : List ℕ) (list : TapeList) (count : ℕ) (session : List ℕ) (i : ℕ) : Type 0 where
  pub within : i ≤ count
  pub long : length session ≡ length session₀
  pub rest : listed_from session i (drop i (tapes_of list)) ≡ listed_from session₀ 0 (tapes_of list)

abbrev pub invariant-loop-place : goal.invariant-loop-place
invariant-loop-place l = Inv l.initial.session l.fn.list l.count l.session l.place
