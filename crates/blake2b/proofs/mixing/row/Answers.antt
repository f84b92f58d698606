-- `mixing::row` is a row of SIGMA: each of the ten is computed. Assumes nothing.
use Rattle.std.proofs.Common.{◌≡◌, ℕ, zero, suc, ◌<◌, get_or, refl, arith}
use Rattle.blake2b.specs.declared.mixing.TheConstants.{SIGMA as rows}
use Rattle.blake2b.specs.Constants.{SIGMA}
use Rattle.blake2b.specs.Schedule.{digits, row_of}
use Rattle.blake2b.proofs.mixing.row.Goals as goal

row-is : (i : ℕ) → i < 10 → get_or rows i 0 ≡ row_of i
unfolding row_of digits SIGMA
row-is zero h = refl
row-is (suc zero) h = refl
row-is (suc (suc zero)) h = refl
row-is (suc (suc (suc zero))) h = refl
row-is (suc (suc (suc (suc zero)))) h = refl
row-is (suc (suc (suc (suc (suc zero))))) h = refl
row-is (suc (suc (suc (suc (suc (suc zero)))))) h = refl
row-is (suc (suc (suc (suc (suc (suc (suc zero))))))) h = refl
row-is (suc (suc (suc (suc (suc (suc (suc (suc zero)))))))) h = refl
row-is (suc (suc (suc (suc (suc (suc (suc (suc (suc zero))))))))) h = refl
row-is (suc (suc (suc (suc (suc (suc (suc (suc (suc (suc i)))))))))) h = absurd (omega arith)

pub returns : goal.returns
returns c = row-is c.args.i c.requires
