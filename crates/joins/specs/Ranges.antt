-- The numbers of the files that a run of bytes covers, and of those the ones that are not there: over a later part of the run they are among the whole's.
-- Assumes nothing. (`covered-some` stands in components/SlotsLaws too, but private.)
use Rattle.std.specs.Prelude.{◌≡◌, Bool, ℕ, ◌+◌, ◌-◌, ◌≤◌, ◌<◌}
use Rattle.std.proofs.Common.{sym, ap, ◌∙◌, arith}
use Rattle.octets.specs.Cases.{order}
use Rattle.components.specs.Pieces.{file_of, left_in}
use Rattle.components.specs.PiecesLaws.{left-some, piece-number, next-number, file-mono}
use Rattle.components.specs.Slots.{lacking_from, covered}
use Rattle.components.proofs.SlotsLaws.{lacking-split, covered_none, covered-some}

-- fewer numbers lack no more
pub lacking-within : (there : ℕ → Bool) (k e j c : ℕ) → k ≤ j → j + c ≤ k + e → lacking_from there j c ≤ lacking_from there k e
lacking-within there k e j c l m =
    let x = j - k in
    let y = k + e - (j + c) in
    let whole : x + (c + y) ≡ e = omega arith in
    let from : k + x ≡ j = omega arith in
    omega (
      arith,
      ap (λ (n : ℕ). lacking_from there k n) (sym whole) ∙ lacking-split there k x (c + y),
      ap (λ (n : ℕ). lacking_from there n (c + y)) from ∙ lacking-split there j c y,
    )

module _ (fs : ℕ) (z : 0 < fs) where
  -- the next offset is in the same file or in the next
  next-near : (o : ℕ) → file_of fs (o + 1) ≤ file_of fs o + 1
  next-near o =
      order 1 (left_in fs o)
      (λ (l : 1 < left_in fs o). omega (arith, piece-number fs z o 1 l))
      (λ (l : left_in fs o ≤ 1).
      let one : left_in fs o ≡ 1 = omega (arith, left-some fs z o) in
      omega (arith, ap (λ (x : ℕ). file_of fs (o + x)) (sym one) ∙ next-number fs z o))

  pub last-part : (base mid end : ℕ) → base ≤ mid → mid ≤ end → file_of fs mid + covered fs mid end ≤ file_of fs base + covered fs base end
  last-part base mid end l m =
      order base end
      (λ (some : base < end).
      order mid end
      (λ (h : mid < end).
      omega (arith, covered-some fs base end some, covered-some fs mid end h, file-mono fs z base (end - 1) (omega arith), file-mono fs z mid (end - 1) (omega arith)))
      (λ (h : end ≤ mid).
      let same : mid ≡ end - 1 + 1 = omega arith in
      omega (arith, covered_none fs mid end h, covered-some fs base end some, file-mono fs z base (end - 1) (omega arith), next-near (end - 1), ap (λ (x : ℕ). file_of fs x) same)))
      (λ (h : end ≤ base).
      let same : mid ≡ base = omega arith in
      omega (arith, covered_none fs mid end (omega arith), ap (λ (x : ℕ). file_of fs x) same))
