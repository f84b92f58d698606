-- Laws of a table of names: the rule as a test and as facts, what a step elsewhere leaves alone, and what a name put at one place does to the table.
-- Assumes nothing.
use Rattle.std.specs.Prelude.{◌≡◌, ◌≢◌, true, ℕ, ◌+◌, ◌≤◌, ◌<◌, drop, Some}
use Rattle.std.proofs.Common.{sym, ◌∙◌, arith, le-leb, leb-true}
use Rattle.std.proofs.Math.Path.{ap}
use mathlib.Core.List.{List, []}
use Rattle.std.proofs.Math.ListN.{length, take}
use Rattle.octets.specs.Bytes.{length_part, length-put, part-put}
use Rattle.octets.specs.Number.{le, put_num, Bytes, length-le, bytes_le, length-put_num, num_at-put-other, num_at-put_num-same}
use Rattle.octets.specs.Only.{OnlyIn, only-put, only-put_num, only_then, only_wider, num_at-only, part-only, bytes-put}
use Rattle.octets.specs.Cases.{equal}
use Rattle.octets.specs.Compare.{same_bytes}
use Rattle.octets.specs.First.{first, first-same, first-hits, all, all_true, all-holds}
use Rattle.octets.specs.Words.{with_row, table-in, table_same, table-row}
use Rattle.layout.specs.Names.{place_at, letters, name_fits, NamesFit, name, names, find_name, put_name}

-- ---- the rule, and what it gives

module _ (s : List ℕ) (base : ℕ) where
  pub names-fit : base + 256 ≤ length s → all (name_fits s base) 8 0 ≡ true → NamesFit s base
  names-fit room e =
      record { room = room; short = λ i l. leb-true (letters s base i) 24 (all-holds (name_fits s base) 8 0 e i (omega arith) (omega arith)) }

  pub fit-names : NamesFit s base → all (name_fits s base) 8 0 ≡ true
  fit-names fits = all_true (name_fits s base) 8 0 (λ i l h. le-leb (letters s base i) 24 (fits.short i (omega arith)))

  pub length-name : (i : ℕ) → NamesFit s base → i < 8 → length (name s base i) ≡ letters s base i
  unfolding name
  length-name i fits low =
      let short = fits.short i low in
      length_part (letters s base i) s (place_at base i + 8) (omega arith)

  -- the search says the same of the table
  pub find-names : (w : List ℕ) → find_name s base w ≡ first (λ i. same_bytes (names s base i) w) 8 0
  unfolding find_name
  find-names w =
      first-same (λ i. same_bytes (name s base i) w) (λ i. same_bytes (names s base i) w) 8 0
      (λ i l h. ap (λ (n : List ℕ). same_bytes n w) (sym (table-in 8 [] (name s base) i (omega arith))))

  -- a place that is found is one of eight
  pub name-low : (w : List ℕ) (p : ℕ) → find_name s base w ≡ Some p → p < 8
  unfolding find_name
  name-low w p e = (first-hits _ 8 0 p e).high

-- ---- a step that stays elsewhere

module _ (low high : ℕ) (s t : List ℕ) (base : ℕ) (only : OnlyIn low high s t) where
  -- clear of one place
  pub letters-only : (i : ℕ) → (low < place_at base i + 32 → high ≤ place_at base i) → letters t base i ≡ letters s base i
  letters-only i clear = num_at-only low high s t only 8 (place_at base i) (λ l. clear (omega arith))

  pub name-only : (i : ℕ) → (low < place_at base i + 32 → high ≤ place_at base i) → letters s base i ≤ 24 → name t base i ≡ name s base i
  unfolding name
  name-only i clear short =
      ap (λ (n : ℕ). take n (drop (place_at base i + 8) t)) (letters-only i clear)
      ∙ part-only low high s t only (letters s base i) (place_at base i + 8) (λ l. omega (arith, clear (omega arith)))

  -- clear of the table
  pub fit-only : (low < base + 256 → high ≤ base) → NamesFit s base → NamesFit t base
  fit-only clear fits =
      let long = only.long in
      record { room = omega arith; short = λ i l. rw (letters-only i (λ m. omega (arith, clear (omega arith)))) (fits.short i l) }

  pub names-only : (low < base + 256 → high ≤ base) → NamesFit s base → names t base ≡ names s base
  names-only clear fits = table_same 8 [] (name s base) (name t base) (λ i l. name-only i (λ m. omega (arith, clear (omega arith))) (fits.short i l))

-- ---- a name put at a place

module _ (s : List ℕ) (base i : ℕ) (wanted : List ℕ) where
  pub only-put_name : length wanted ≤ 24 → OnlyIn (place_at base i) (place_at base i + 32) s (put_name s base i wanted)
  unfolding put_name
  only-put_name small =
      let at = place_at base i in
      let u = put_num 8 s at (length wanted) in
      only_then at (at + 32) s u _
      (only_wider at (at + 8) at (at + 32) s u (omega arith) (omega arith) (only-put_num 8 s at (length wanted)))
      (only_wider (at + 8) (at + 8 + length wanted) at (at + 32) u _ (omega arith) (omega arith) (only-put u (at + 8) wanted))

  pub letters-put_name : base + 256 ≤ length s → i < 8 → length wanted ≤ 24 → letters (put_name s base i wanted) base i ≡ length wanted
  unfolding put_name
  letters-put_name room low small =
      num_at-put-other 8 (put_num 8 s (place_at base i) (length wanted)) (place_at base i + 8) wanted (place_at base i) (λ l. absurd (omega arith))
      ∙ num_at-put_num-same 8 s (place_at base i) (length wanted) (omega arith) (omega arith)

  pub name-put_name : base + 256 ≤ length s → i < 8 → length wanted ≤ 24 → name (put_name s base i wanted) base i ≡ wanted
  unfolding name put_name
  name-put_name room low small =
      let u = put_num 8 s (place_at base i) (length wanted) in
      let long : length u ≡ length s = length-put_num 8 s (place_at base i) (length wanted) in
      ap (λ (n : ℕ). take n (drop (place_at base i + 8) (put_name s base i wanted))) (letters-put_name room low small)
      ∙ part-put u (place_at base i + 8) wanted (omega arith)

  pub bytes-put_name : Bytes s → Bytes wanted → base + 256 ≤ length s → i < 8 → length wanted ≤ 24 → Bytes (put_name s base i wanted)
  unfolding put_name put_num
  bytes-put_name p q room low small =
      let word = le 8 (length wanted) in
      let eight : length word ≡ 8 = length-le 8 (length wanted) in
      let u = put_num 8 s (place_at base i) (length wanted) in
      let long : length u ≡ length s = length-put s (place_at base i) word in
      bytes-put u (place_at base i + 8) wanted (omega arith) (bytes-put s (place_at base i) word (omega arith) p (bytes_le 8 (length wanted))) q

  pub fit-put_name : NamesFit s base → i < 8 → length wanted ≤ 24 → NamesFit (put_name s base i wanted) base
  fit-put_name fits low small =
      let only = only-put_name small in
      let long = only.long in
      record {
        room = omega arith;
        short = λ j l.
            equal j i
            (λ (e : j ≡ i). rw (e, letters-put_name fits.room low small) small)
            (λ (d : j ≢ i). rw (letters-only _ _ s _ base only j (λ q. omega arith)) (fits.short j l));
      }

  pub names-put_name : NamesFit s base → i < 8 → length wanted ≤ 24 → names (put_name s base i wanted) base ≡ with_row (names s base) i wanted
  names-put_name fits low small =
      table-row 8 [] (name s base) (name (put_name s base i wanted) base) i wanted low (name-put_name fits.room low small)
      (λ j l d. name-only _ _ s _ base (only-put_name small) j (λ q. omega arith) (fits.short j l))
