-- The epochs of open transactions: whom an append waits for, and which files may go. Assumes nothing.
use Rattle.std.specs.Prelude.{cond, List, [], ◌∷◌, ℕ, suc, ◌+◌, min, ltb}

-- rule 4: how many readers are of an older epoch
unfoldable pub older : ℕ → List ℕ → ℕ
older epoch [] = 0
older epoch (e ∷ es) = cond (ltb e epoch) (suc (older epoch es)) (older epoch es)

unfoldable pub least : ℕ → List ℕ → ℕ
least e [] = e
least e (d ∷ ds) = min e (least d ds)

-- "the oldest other transaction's epoch .. (none open: its own epoch + 1)"
unfoldable pub oldest_other : ℕ → List ℕ → ℕ
oldest_other own [] = own + 1
oldest_other own (e ∷ es) = least e es
