-- `oldest_of` is `oldest_of`: the oldest so far, with the epochs of the places that are left, is the oldest of all. Assumes nothing.
use Rattle.std.specs.Prelude.{Option, Some, None}
use Rattle.std.proofs.Common.{◌≡◌, List, ℕ, ◌-◌, ◌≤◌, min}
use Rattle.components.specs.Epochs.{least, oldest_other}
use Rattle.session.specs.Rows.{head_of}
use Rattle.ending.specs.Oldest.{epochs_from}
use Rattle.ending.proofs.oldest.oldest_of.Given as goal

-- the older of the oldest so far, if there is one, and another
abbrev pub older_of : Option ℕ → ℕ → ℕ
older_of None e = e
older_of (Some d) e = min d e

-- the oldest of those so far, if there is one, and of more epochs
abbrev pub oldest_with : ℕ → Option ℕ → List ℕ → ℕ
oldest_with own None es = oldest_other own es
oldest_with own (Some d) es = least d es

pub record Seen (s : List ℕ) (oldest : Option ℕ) (place : ℕ) : Type 0 where
  pub within : place ≤ 16
  pub rest : oldest_with (head_of s).epoch oldest (epochs_from s (16 - place) place) ≡ oldest_other (head_of s).epoch (epochs_from s 16 0)

abbrev pub invariant-loop-place : goal.invariant-loop-place
invariant-loop-place l = Seen l.session l.oldest l.place
