-- A test that a search is given, by what it may be called with and what it answers. Assumes nothing.
use Rattle.std.specs.Prelude.{◌≡◌, ◌≤◌, ◌<◌, ℕ, Bool}

-- it may be called at each place of the run
abbrev pub MayTest : (from to : ℕ) → (ℕ → Type 0) → Type 0
MayTest from to pre = (i : ℕ) → from ≤ i → i < to → pre i

-- and answers there what p is
abbrev pub Computes : (from to : ℕ) → (ℕ → Bool → Type 0) → (ℕ → Bool) → Type 0
Computes from to post p = (i : ℕ) (b : Bool) → from ≤ i → i < to → post i b → b ≡ p i
