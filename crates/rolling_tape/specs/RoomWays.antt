-- The turns of the loop that counts lacking files, and what the search for one says. Assumes nothing.
use Rattle.std.specs.Prelude.{◌≡◌, Bool, true, false, List, Some, None}
use Prim.Native.Nat.{ℕ, suc, ◌+◌, ◌-◌, ◌≤◌, ◌<◌}
use Rattle.std.proofs.Common.{add_assoc, zero-add}
use native.Mathlib.Omega.{arith}
use Rattle.components.specs.Slots.{lacking_from}
use Rattle.disk.specs.Steps.{find_in}
use Rattle.rolling_tape.specs.Room.{on_disk}

module _ (d : List ℕ) (place n : ℕ) where
  pub on-disk : (i : ℕ) → find_in d place n ≡ Some i → on_disk d place n ≡ true
  unfolding on_disk
  on-disk i e = rw e

  pub not-on-disk : find_in d place n ≡ None → on_disk d place n ≡ false
  unfolding on_disk
  not-on-disk e = rw e

-- the number first + done looked at, of count of them
module _ (there : ℕ → Bool) (first count done : ℕ) where
  pub lacking-hit : done < count → there (first + done) ≡ true
      → lacking_from there (first + done) (count - done) ≡ lacking_from there (first + (done + 1)) (count - (done + 1))
  unfolding lacking_from
  lacking-hit l e =
      let k : count - done ≡ suc (count - (done + 1)) = omega arith in
      rw (k, e, add_assoc) (zero-add _)

  pub lacking-miss : done < count → there (first + done) ≡ false
      → lacking_from there (first + done) (count - done) ≡ 1 + lacking_from there (first + (done + 1)) (count - (done + 1))
  unfolding lacking_from
  lacking-miss l e =
      let k : count - done ≡ suc (count - (done + 1)) = omega arith in
      rw (k, e, add_assoc)

  pub lacking-end : count ≤ done → lacking_from there (first + done) (count - done) ≡ 0
  unfolding lacking_from
  lacking-end l =
      let k : count - done ≡ 0 = omega arith in
      rw k
