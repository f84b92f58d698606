use Rattle.std.proofs.Common.{◌≡◌, ℕ, zero, suc, ◌+◌, ◌<◌, [], ◌∷◌, slice_index_or, drop, sum, refl, arith}
use Rattle.vectors.proofs.appendix_e.Goals as goal

-- the lengths from one on: it, and those behind it
step : (i : ℕ) → i < 4 → sum (drop i (20 ∷ 32 ∷ 48 ∷ 64 ∷ [])) ≡ slice_index_or (20 ∷ 32 ∷ 48 ∷ 64 ∷ []) i 0 + sum (drop (i + 1) (20 ∷ 32 ∷ 48 ∷ 64 ∷ []))
step zero h = refl
step (suc zero) h = refl
step (suc (suc zero)) h = refl
step (suc (suc (suc zero))) h = refl
step (suc (suc (suc (suc i)))) h = absurd (omega arith)

pub one_length-requires-clause-room : goal.one_length-requires-clause-room
one_length-requires-clause-room g c =
    omega (arith, step c.loop-nn.nn-index c.loop-nn-test.true, c.loop-nn.invariant, c.loop-nn-test.array_long)

pub loop-nn-preserved : goal.loop-nn-preserved
loop-nn-preserved g c =
    omega (arith, step c.loop-nn.nn-index c.loop-nn-test.true, c.loop-nn.invariant, c.in_ok-done.ensures)
