-- What the tapes lack, counted over all of them. The rule of 15 behind a served open is in proofs/OpenRooms.antt. Assumes nothing.
use Rattle.std.specs.Prelude.{List, ℕ, zero, suc, ◌+◌, ◌≤◌, ◌<◌}
use Rattle.std.proofs.Common.{arith}
use Rattle.appending.specs.Room.{lacking_of, lacking_all}

-- where each tape lacks no more, all of them lack no more
pub fewer-lacking : (d s e u : List ℕ) → ((q : ℕ) → q < 8 → lacking_of e u 8 0 q ≤ lacking_of d s 8 0 q) → (n i : ℕ) → i + n ≤ 8 → lacking_all e u 8 0 n i ≤ lacking_all d s 8 0 n i
unfolding lacking_all
fewer-lacking d s e u less zero i l = omega arith
fewer-lacking d s e u less (suc n) i l = omega (arith, less i (omega arith), fewer-lacking d s e u less n (i + 1) (omega arith))
