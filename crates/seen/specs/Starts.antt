-- A truncate stages lengths alone: the start that it has staged of a tape is the one that it began with. Assumes nothing.
use Rattle.std.specs.Prelude.{◌≡◌, true, false, List, ℕ, ◌<◌}
use Rattle.std.proofs.Common.{sym, true≢false}
use Rattle.session.specs.MeaningLaws.{is_open}
use Rattle.session.specs.declared.transactions.Kind.{Kind}
use Rattle.session.specs.declared.transactions.Kind.TheVariants as K
use Rattle.session.specs.Rows.{view_of, transaction_of, staged_of}
use Rattle.beginning.specs.Transactions.{is_open_at}
use Rattle.staging.specs.Seeing.{is_truncate}

abbrev pub CutStarts : List ℕ → Type 0
CutStarts s = is_truncate (transaction_of s 16).kind ≡ true → (p : ℕ) → p < 8 → (staged_of s p).touched ≡ true → (staged_of s p).start ≡ (view_of s 16 p).start

-- so it is where no truncate is open
pub shut-starts : (s : List ℕ) → is_open_at s 16 ≡ false → CutStarts s
unfolding is_open_at
shut-starts s shut cut p low touched = absurd (not-both (transaction_of s 16).kind shut cut)
  where
    not-both : (k : Kind) → is_open k ≡ false → is_truncate k ≡ true → ⊥
    not-both K.Closed a b = true≢false (sym b)
    not-both K.Reader a b = true≢false (sym b)
    not-both K.Append a b = true≢false (sym b)
    not-both K.Truncate a b = true≢false a
