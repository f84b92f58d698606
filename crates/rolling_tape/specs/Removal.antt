-- "from the lowest number on, files marked below the oldest other transaction's epoch are removed": a file goes if it is marked below that epoch and so is
-- every tracked file up to its number. Assumes nothing.
use Rattle.std.specs.Prelude.{Bool, cond, not, ◌&&◌, List, ℕ, leb}
use Rattle.octets.specs.First.{all}
use Rattle.octets.specs.Sweep.{sweep}
use Rattle.layout.specs.Disk.{slots, number}
use Rattle.disk.specs.Steps.{removed}
use Rattle.session.specs.Rows.{tracking_of, put_tracking}
use Rattle.session.specs.declared.tracking.Tracking.TheVariants.{Untracked}
use Rattle.rolling_tape.specs.Tracking.{is_tracked, is_ripe, is_of}

-- both areas
pub record Areas : Type 0 where
  pub disk : List ℕ
  pub session : List ℕ

abbrev pub areas : List ℕ → List ℕ → Areas
areas d s = record { disk = d; session = s }

module _ (d s : List ℕ) (place oldest : ℕ) where
  -- slot i has a tracked file, up to number n, that may not go
  unfoldable pub stops : ℕ → ℕ → Bool
  stops n i = is_of d place i && (leb (number d i) n && (is_tracked (tracking_of s i) && not (is_ripe oldest (tracking_of s i))))

  unfoldable pub clear_below : ℕ → Bool
  clear_below n = all (λ i. not (stops n i)) (slots d) 0

  -- the file of slot i goes
  unfoldable pub goes : ℕ → Bool
  goes i = is_of d place i && (is_ripe oldest (tracking_of s i) && clear_below (number d i))

unfoldable pub remove_slot : ℕ → ℕ → ℕ → Areas → Areas
remove_slot place oldest i a =
    cond (goes a.disk a.session place oldest i) (areas (removed a.disk i) (put_tracking a.session i Untracked)) a

unfoldable pub remove_ripe : Areas → ℕ → ℕ → Areas
remove_ripe a place oldest = sweep (remove_slot place oldest) (slots a.disk) 0 a
