-- "the oldest other transaction's epoch .. (none open: its own epoch + 1)": with one writer its own epoch is the session's, and where damaged memory says
-- otherwise the session's counts, which 18 guards. Assumes nothing.
use Rattle.std.specs.Prelude.{cond, List, [], ◌∷◌, ℕ, zero, suc, ◌+◌}
use Rattle.components.specs.Epochs.{oldest_other}
use Rattle.session.specs.Rows.{head_of, transaction_of}
use Rattle.beginning.specs.Transactions.{is_open_at}

-- the epochs of the open ones of n readers' places from t on
unfoldable pub epochs_from : List ℕ → ℕ → ℕ → List ℕ
epochs_from s zero t = []
epochs_from s (suc n) t = cond (is_open_at s t) ((transaction_of s t).epoch ∷ epochs_from s n (t + 1)) (epochs_from s n (t + 1))

unfoldable pub oldest_of : List ℕ → ℕ
oldest_of s = oldest_other (head_of s).epoch (epochs_from s 16 0)
