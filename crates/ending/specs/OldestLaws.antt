-- The epochs of open readers, place by place from the last one down, and the oldest of them. Assumes nothing.
use Rattle.std.specs.Prelude.{◌≡◌, refl, Bool, true, false, List, [], ◌∷◌}
use Rattle.std.proofs.lemmas.Bool.{false≢true}
use Rattle.std.proofs.Common.{true≢false}
use Prim.Native.Nat.{ℕ, suc, ◌+◌, ◌-◌, ◌≤◌, ◌<◌, min}
use native.Mathlib.Omega.{arith}
use Rattle.components.specs.Epochs.{least, oldest_other}
use Rattle.session.specs.Rows.{transaction_of}
use Rattle.beginning.specs.Transactions.{is_open_at}
use Rattle.ending.specs.Oldest.{epochs_from}

-- whether there is any
abbrev pub is_some : List ℕ → Bool
is_some [] = false
is_some (e ∷ es) = true

-- ---- one more epoch in front

pub oldest-first : (own e : ℕ) (es : List ℕ) → is_some es ≡ false → oldest_other own (e ∷ es) ≡ e
unfolding oldest_other least
oldest-first own e [] q = refl
oldest-first own e (d ∷ es) q = absurd (true≢false q)

pub oldest-more : (own e : ℕ) (es : List ℕ) → is_some es ≡ true → oldest_other own (e ∷ es) ≡ min e (oldest_other own es)
unfolding oldest_other least
oldest-more own e [] q = absurd (false≢true q)
oldest-more own e (d ∷ es) q = refl

-- ---- one place more, where those from `left` on are done

module _ (s : List ℕ) (left : ℕ) (some : 0 < left) (few : left ≤ 16) where
  pub epochs-open : is_open_at s (left - 1) ≡ true
      → epochs_from s (16 - (left - 1)) (left - 1) ≡ (transaction_of s (left - 1)).epoch ∷ epochs_from s (16 - left) left
  unfolding epochs_from
  epochs-open e =
      let k : 16 - (left - 1) ≡ suc (16 - left) = omega arith in
      let n : left - 1 + 1 ≡ left = omega arith in
      rw (k, e, n)

  pub epochs-closed : is_open_at s (left - 1) ≡ false → epochs_from s (16 - (left - 1)) (left - 1) ≡ epochs_from s (16 - left) left
  unfolding epochs_from
  epochs-closed e =
      let k : 16 - (left - 1) ≡ suc (16 - left) = omega arith in
      let n : left - 1 + 1 ≡ left = omega arith in
      rw (k, e, n)
