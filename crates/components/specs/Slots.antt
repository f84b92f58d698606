-- Rule of 15: "files on the disk, plus the (tape, file number) pairs that staged bytes after this append would cover and the disk lacks, exceed the
-- slots". Assumes nothing.
use Rattle.std.specs.Prelude.{Bool, cond, List, [], ◌∷◌, ℕ, zero, suc, ◌+◌, ◌-◌, ltb}
use Rattle.components.specs.Pieces.{file_of}

-- a tape's bytes that an append has staged: those from `base` up to `end`
pub record Staged : Type 0 where
  pub tape : ℕ
  pub size : ℕ
  pub base : ℕ
  pub end : ℕ

-- how many of the n file numbers from k on the disk lacks
unfoldable pub lacking_from : (ℕ → Bool) → ℕ → ℕ → ℕ
lacking_from there k zero = 0
lacking_from there k (suc n) = cond (there k) 0 1 + lacking_from there (k + 1) n

-- how many files the bytes from base up to end lie in
unfoldable pub covered : ℕ → ℕ → ℕ → ℕ
covered fs base end = cond (ltb base end) (file_of fs (end - 1) - file_of fs base + 1) 0

-- the pairs that the disk lacks, over all tapes that are staged, each of them once
unfoldable pub lacking : (ℕ → ℕ → Bool) → List Staged → ℕ
lacking there [] = 0
lacking there (t ∷ ts) = lacking_from (there t.tape) (file_of t.size t.base) (covered t.size t.base t.end) + lacking there ts

-- 15 is given
unfoldable pub no_slot : ℕ → (ℕ → ℕ → Bool) → List Staged → ℕ → Bool
no_slot used there ts slots = ltb slots (used + lacking there ts)
