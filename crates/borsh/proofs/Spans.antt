-- The number in the first bytes of what is read. Assumes nothing.
use Rattle.std.specs.Prelude.{◌≡◌, List, ℕ, take, drop}
use Rattle.std.proofs.Common.{sym, ap, add-zero, ◌∙◌, arith}
use Rattle.octets.specs.Number.{num_at, num_at-drop, num_at-take}

pub front : (k : ℕ) (s : List ℕ) (at : ℕ) → num_at k (take k (drop at s)) 0 ≡ num_at k s at
front k s at = num_at-take k (drop at s) 0 k (omega arith) ∙ sym (num_at-drop k s at 0) ∙ ap (num_at k s) (add-zero at)
