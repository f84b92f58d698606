-- Laws of the rule for names: the ways out of a byte's test, the turns of the loop over them, and that a name is at most 24 bytes. Assumes nothing.
use Rattle.std.specs.Prelude.{◌≡◌, refl, ◌≢◌, Bool, true, false, List, [], ◌∷◌, ℕ, zero, suc, ◌+◌, ◌≤◌, ◌<◌, leb, get_or, drop}
use Rattle.std.proofs.Common.{sym, ◌∙◌, add-one, arith, drop_of_length-le, drop-cons}
use Rattle.std.proofs.lemmas.Bool.{false≢true}
use borrow.Author.Tests.{le-leb, lt-leb, leb-true, leb-false, ne_eqb}
use Rattle.std.proofs.Math.ListN.{length}
use Rattle.octets.specs.Cases.{and_l, and_r}
use Rattle.octets.specs.Number.{Bytes}
use Rattle.metadata.specs.Name.{between, name_byte, name_bytes, name_rule}

-- ---- one byte

outside : (low high n : ℕ) → (low ≤ n → high < n) → between low high n ≡ false
outside low high n h = by (leb low n) refl
  where
    by : (t : Bool) → leb low n ≡ t → between low high n ≡ false
    by true e = rw (e, lt-leb n high (h (leb-true low n e)))
    by false e = rw e

module _ (b : ℕ) where
  pub byte-letter : 97 ≤ b → b ≤ 122 → name_byte b ≡ true
  unfolding name_byte
  byte-letter l h = rw (le-leb 97 b l, le-leb b 122 h)

  pub byte-digit : 48 ≤ b → b ≤ 57 → name_byte b ≡ true
  unfolding name_byte
  byte-digit l h = rw (lt-leb 97 b (omega arith), le-leb 48 b l, le-leb b 57 h)

  pub byte-low-line : b ≡ 95 → name_byte b ≡ true
  unfolding name_byte
  byte-low-line e = rw e

  pub byte-hyphen : b ≡ 45 → name_byte b ≡ true
  unfolding name_byte
  byte-hyphen e = rw e

  pub byte-other : (97 ≤ b → 122 < b) → (48 ≤ b → 57 < b) → b ≢ 95 → b ≢ 45 → name_byte b ≡ false
  unfolding name_byte
  byte-other l d u h = rw (outside 97 122 b l, outside 48 57 b d, ne_eqb b 95 u, ne_eqb b 45 h)

  -- a byte of a name is at most 122
  byte_small : name_byte b ≡ true → b < 256
  byte_small e = by (leb b 255) refl
    where
      by : (t : Bool) → leb b 255 ≡ t → b < 256
      by true q = let h = leb-true b 255 q in omega arith
      by false q =
          let h = leb-false b 255 q in
          absurd (false≢true (sym (byte-other (λ l. omega arith) (λ l. omega arith) (λ i. omega arith) (λ i. omega arith)) ∙ e))

-- ---- the bytes of a name, from one on

module _ (s : List ℕ) (i : ℕ) where
  pub bytes-step : i < length s → name_byte (get_or s i 0) ≡ true → name_bytes (drop i s) ≡ name_bytes (drop (i + 1) s)
  unfolding name_bytes
  bytes-step l e = rw (drop-cons s i 0 l, e, add-one)

  pub bytes-stop : i < length s → name_byte (get_or s i 0) ≡ false → name_bytes (drop i s) ≡ false
  unfolding name_bytes
  bytes-stop l e = rw (drop-cons s i 0 l, e)

  pub bytes-end : length s ≤ i → name_bytes (drop i s) ≡ true
  unfolding name_bytes
  bytes-end l = rw (drop_of_length-le s l)

bytes-all : (bs : List ℕ) → name_bytes bs ≡ true → Bytes bs
unfolding name_bytes
bytes-all [] e i = omega arith
bytes-all (b ∷ bs) e zero = byte_small b (and_l (name_byte b) (name_bytes bs) e)
bytes-all (b ∷ bs) e (suc i) = bytes-all bs (and_r (name_byte b) (name_bytes bs) e) i

-- ---- the rule

module _ (name : List ℕ) where
  pub rule-empty : length name < 1 → name_rule name ≡ false
  unfolding name_rule
  rule-empty l = rw (lt-leb 1 (length name) l)

  pub rule-long : 24 < length name → name_rule name ≡ false
  unfolding name_rule
  rule-long l = rw (le-leb 1 (length name) (omega arith), lt-leb (length name) 24 l)

  pub rule-bytes : 1 ≤ length name → length name ≤ 24 → name_rule name ≡ name_bytes name
  unfolding name_rule
  rule-bytes l h = rw (le-leb 1 (length name) l, le-leb (length name) 24 h)

  -- a name has at most 24 bytes
  pub rule_fits : name_rule name ≡ true → length name ≤ 24
  unfolding name_rule
  rule_fits e =
      let n = length name in
      leb-true n 24 (and_r (leb 1 n) (leb n 24) (and_l (between 1 24 n) (name_bytes name) e))

  -- and they are bytes
  pub bytes-name : name_rule name ≡ true → Bytes name
  unfolding name_rule
  bytes-name e = bytes-all name (and_r (between 1 24 (length name)) (name_bytes name) e)
