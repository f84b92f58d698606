-- Where an open transaction is found by its number: in one place, since no number is given twice. Assumes nothing.
use Rattle.std.specs.Prelude.{◌≡◌, Bool, true, ◌&&◌, List, ℕ, ◌<◌, eqb, Some}
use Rattle.std.proofs.Common.{sym, ◌∙◌, arith, eq-eqb, eqb-true}
use Rattle.octets.specs.Cases.{decide, and_l, and_r, and_both}
use Rattle.octets.specs.First.{first, first-same, first-at, first-hits}
use Rattle.session.specs.Meaning.{session_of}
use Rattle.session.specs.MeaningLaws.{transaction-at, is_open}
use Rattle.session.specs.MeaningLaws as ML
use Rattle.session.specs.Rows.{transaction_of, find_transaction}
use Rattle.beginning.specs.Transactions.{is_open_at}
use Rattle.seen.specs.Orderly.{Orderly}

abbrev is_numbered : List ℕ → ℕ → ℕ → Bool
is_numbered s k t = is_open_at s t && eqb (transaction_of s t).number k

find-rows : (s : List ℕ) (k : ℕ) → find_transaction s k ≡ first (is_numbered s k) 17 0
unfolding is_open_at
find-rows s k =
    ML.find-transaction s k
    ∙ first-same (λ t. is_open ((session_of s).transaction t).kind && eqb ((session_of s).transaction t).number k) (is_numbered s k) 17 0
    (λ t l h. rw (transaction-at s t (omega arith)))

-- a transaction of the number is open
pub record HasPlace (s : List ℕ) (k : ℕ) : Type 0 where
  pub place : ℕ
  pub found : find_transaction s k ≡ Some place

-- and it stands in place t
pub record OpenAs (s : List ℕ) (k t : ℕ) : Type 0 where
  pub low : t < 17
  pub opened : is_open_at s t ≡ true
  pub number : (transaction_of s t).number ≡ k

pub found-transaction : (s : List ℕ) (k t : ℕ) → find_transaction s k ≡ Some t → OpenAs s k t
found-transaction s k t e =
    let hit = first-hits (is_numbered s k) 17 0 t (sym (find-rows s k) ∙ e) in
    record {
      low = omega (arith, hit.high);
      opened = and_l (is_open_at s t) _ hit.holds;
      number = eqb-true (transaction_of s t).number k (and_r (is_open_at s t) _ hit.holds);
    }

-- numbers are not given twice
pub find-transaction : (d s : List ℕ) → Orderly d s → (k t : ℕ) → OpenAs s k t → find_transaction s k ≡ Some t
find-transaction d s o k t a =
    find-rows s k
    ∙ first-at (is_numbered s k) 17 0 t
    (record {
      low = omega arith;
      high = omega (arith, a.low);
      holds = and_both (is_open_at s t) _ a.opened (eq-eqb (transaction_of s t).number k a.number);
      before = λ x m l.
          decide (is_numbered s k x)
          (λ (h : is_numbered s k x ≡ true).
          let number : (transaction_of s x).number ≡ k = eqb-true (transaction_of s x).number k (and_r (is_open_at s x) _ h) in
          let wide = a.low in
          absurd (omega (arith, o.numbers x t (omega arith) wide (and_l (is_open_at s x) _ h) a.opened (number ∙ sym a.number))))
          (λ h. h);
    })
