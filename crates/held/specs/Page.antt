-- A page is bytes of the tape, listed from offset 0: what it finds in the files, what it finds in the cache, and when a cache is in order. Assumes nothing.
use Rattle.std.specs.Prelude.{◌≡◌, List, ℕ, ◌+◌, ◌≤◌, ◌<◌, length, get_or, Some}
use Rattle.ring_buffer.specs.Ring.{ring_at}
use Rattle.ring_buffer.specs.Ring as R
use Rattle.components.specs.Files.{Files, byte_at}
use Rattle.held.specs.Held.{Held}

-- tracked files hold c's bytes from st up to n
abbrev pub Kept : ℕ → Files → ℕ → ℕ → List ℕ → Type 0
Kept fs f st n c = (o : ℕ) → st ≤ o → o < n → byte_at fs f o ≡ Some (get_or c o 0)

-- so does the cache, from its first index on, even above its length
abbrev pub Ringed : Held → ℕ → ℕ → List ℕ → Type 0
Ringed h st n c = (o : ℕ) → st ≤ o → o < n → h.ring.first ≤ o → ring_at h.ring h.cache o ≡ get_or c o 0

-- low: the tape's length when the open append got it, else the committed one; end: the staged length
pub record Sound (h : Held) (low end : ℕ) : Type 0 where
  pub ring : R.Sound h.ring (length h.cache)
  pub few : h.unwritten ≤ h.ring.len
  -- only staged bytes are unwritten
  pub new : low + h.unwritten ≤ end
  pub joined : 0 < h.ring.len → h.ring.first + h.ring.len ≡ end
  pub empty : h.ring.len ≡ 0 → end ≡ low
