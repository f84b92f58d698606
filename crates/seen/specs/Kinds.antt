-- The open writer, by its kind and its number: what `writes` and `cuts` say of its row. Assumes nothing.
use Rattle.std.specs.Prelude.{◌≡◌, refl, true, List, ℕ, ◌+◌, ◌<◌, ◌^◌, eqb}
use Rattle.std.proofs.lemmas.Bool.{false≢true}
use borrow.Author.Tests.{eqb-true}
use Rattle.octets.specs.Cases.{and_l, and_r}
use Rattle.octets.specs.Number.{Bytes, num_at-lt}
use Rattle.layout.specs.Session.{transaction_at}
use Rattle.session.specs.declared.transactions.Kind.{Kind}
use Rattle.session.specs.declared.transactions.Kind.TheVariants as K
use Rattle.session.specs.MeaningLaws.{is_open}
use Rattle.session.specs.Rows.{transaction_of}
use Rattle.beginning.specs.Transactions.{is_open_at}
use Rattle.staging.specs.Seeing.{is_append, is_truncate, writes, cuts}

pub append-kind : (k : Kind) → is_append k ≡ true → k ≡ K.Append
append-kind K.Closed e = absurd (false≢true e)
append-kind K.Reader e = absurd (false≢true e)
append-kind K.Append e = refl
append-kind K.Truncate e = absurd (false≢true e)

pub truncate-kind : (k : Kind) → is_truncate k ≡ true → k ≡ K.Truncate
truncate-kind K.Closed e = absurd (false≢true e)
truncate-kind K.Reader e = absurd (false≢true e)
truncate-kind K.Append e = absurd (false≢true e)
truncate-kind K.Truncate e = refl

pub append-open : (k : Kind) → is_append k ≡ true → is_open k ≡ true
append-open k e = rw (append-kind k e)

-- the row of an open append, or truncate, with this number
module _ (s : List ℕ) (k : ℕ) where
  pub writes-kind : writes s k ≡ true → (transaction_of s 16).kind ≡ K.Append
  unfolding writes
  writes-kind w = append-kind (transaction_of s 16).kind (and_l (is_append (transaction_of s 16).kind) (eqb (transaction_of s 16).number k) w)

  pub writes_as : writes s k ≡ true → (transaction_of s 16).number ≡ k
  unfolding writes
  writes_as w = eqb-true (transaction_of s 16).number k (and_r (is_append (transaction_of s 16).kind) (eqb (transaction_of s 16).number k) w)

  pub cuts-kind : cuts s k ≡ true → (transaction_of s 16).kind ≡ K.Truncate
  unfolding cuts
  cuts-kind w = truncate-kind (transaction_of s 16).kind (and_l (is_truncate (transaction_of s 16).kind) (eqb (transaction_of s 16).number k) w)

  pub cuts-as : cuts s k ≡ true → (transaction_of s 16).number ≡ k
  unfolding cuts
  cuts-as w = eqb-true (transaction_of s 16).number k (and_r (is_truncate (transaction_of s 16).kind) (eqb (transaction_of s 16).number k) w)

  pub writes-open : writes s k ≡ true → is_open_at s 16 ≡ true
  unfolding is_open_at
  writes-open w = rw (writes-kind w)

  pub cuts-open : cuts s k ≡ true → is_open_at s 16 ≡ true
  unfolding is_open_at
  cuts-open w = rw (cuts-kind w)

-- the epoch that it began at
pub began-fits : (s : List ℕ) → Bytes s → (transaction_of s 16).epoch < 2 ^ 64
unfolding transaction_of
began-fits s bytes = num_at-lt 8 s (transaction_at 16 + 16) bytes
