-- What a page's reader gets, byte by byte and as a run. Assumes nothing.
use Rattle.std.specs.Prelude.{◌≡◌, refl, List, ℕ, zero, suc, ◌+◌, ◌≤◌, ◌<◌, length, get_or, take, drop, Option, Some}
use Rattle.std.proofs.Common.{ap, add-one, arith, leb-true, leb-false, drop-cons}
use Rattle.octets.specs.Cases.{picked}
use Rattle.ring_buffer.specs.Ring.{ring_at, from_cache}
use Rattle.components.specs.Files.{byte_at}
use Rattle.held.specs.Held.{Held, byte_in, fetch}
use Rattle.held.specs.Page.{Kept, Ringed}

abbrev pub Serves : ℕ → Held → ℕ → List ℕ → Type 0
Serves fs h st c = (o : ℕ) → st ≤ o → o < length c → byte_in fs h o ≡ Some (get_or c o 0)

-- a page that is in the files below the cache's first index, and in the cache from there on
pub serves : (fs : ℕ) (h : Held) (st n : ℕ) (c : List ℕ) → ((o : ℕ) → o < length c → o < h.ring.first → o < n)
    → Kept fs h.files st n c → Ringed h st (length c) c → Serves fs h st c
unfolding byte_in
serves fs h st n c l k g o a b =
    picked (λ x. x ≡ Some (get_or c o 0)) (from_cache h.ring o) (Some (ring_at h.ring h.cache o)) (byte_at fs h.files o)
    (λ t. ap {B = Option ℕ} Some (g o a b (leb-true h.ring.first o t)))
    (λ t. k o a (l o b (leb-false h.ring.first o t)))

pub fetch-serves : (fs : ℕ) (h : Held) (st : ℕ) (c : List ℕ) → Serves fs h st c → (n o : ℕ) → st ≤ o → o + n ≤ length c → fetch fs h o n ≡ Some (take n (drop o c))
unfolding fetch
fetch-serves fs h st c v zero o a b = refl
fetch-serves fs h st c v (suc n) o a b =
    rw (v o a (omega arith), fetch-serves fs h st c v n (o + 1) (omega arith) (omega arith), drop-cons c o 0 (omega arith), add-one o)
