-- What every digest is: as many bytes as were asked for, and bytes only. Assumes nothing.
use Rattle.std.specs.Prelude.{◌≡◌, ℕ, zero, suc, ◌+◌, ◌-◌, ◌*◌, ◌≤◌, Bool, true, false, List, [], ◌∷◌, ◌++◌, length, refl}
use Rattle.std.proofs.Common.{ap, ◌∙◌, arith, length-append}
use Rattle.std.proofs.Math.Seq.{length-take-le}
use Rattle.octets.specs.Number.{Bytes, le, length-le, bytes_le, bytes-append, bytes_take}
use Rattle.blake2b.specs.Constants.{bb, IV}
use Rattle.blake2b.specs.Blake2b.{fold_from, F, bytes_of, keyed, d, dd, start, absorbed, finished, blake2b}

-- ---- F and all that is made of it keep the count of words

length-fold : (i : ℕ) (h v : List ℕ) → length (fold_from i h v) ≡ length h
unfolding fold_from
length-fold i [] v = refl
length-fold i (x ∷ h) v = ap suc (length-fold (i + 1) h v)

pub length-F : (h m : List ℕ) (t : ℕ) (f : Bool) → length (F h m t f) ≡ length h
unfolding F
length-F h m t f = length-fold 0 h _

pub length-start : (kk nn : ℕ) → length (start kk nn) ≡ 8
unfolding start IV
length-start kk nn = refl

pub length-absorbed : (h s : List ℕ) (k : ℕ) → length (absorbed h s k) ≡ length h
unfolding absorbed
length-absorbed h s zero = refl
length-absorbed h s (suc k) = length-F (absorbed h s k) (d s k) ((k + 1) * bb) false ∙ length-absorbed h s k

pub length-finished : (h s : List ℕ) (n : ℕ) → length (finished h s n) ≡ length h
unfolding finished
length-finished h s n = length-F (absorbed h s n) (d s n) (length s) true ∙ length-absorbed h s n

-- ---- the bytes of words

pub length-bytes_of : (h : List ℕ) → length (bytes_of h) ≡ 8 * length h
unfolding bytes_of
length-bytes_of [] = refl
length-bytes_of (x ∷ h) = omega (arith, length-append (le 8 x) (bytes_of h), length-le 8 x, length-bytes_of h)

pub bytes-bytes_of : (h : List ℕ) → Bytes (bytes_of h)
unfolding bytes_of
bytes-bytes_of [] i = omega arith
bytes-bytes_of (x ∷ h) i = bytes-append (le 8 x) (bytes_of h) (bytes_le 8 x) (bytes-bytes_of h) i

-- ---- the digest

module _ (nn : ℕ) (key message : List ℕ) where
  pub length-blake2b : nn ≤ 64 → length (blake2b nn key message) ≡ nn
  unfolding blake2b
  length-blake2b short =
      let h : List ℕ = finished (start (length key) nn) (keyed key ++ message) (dd (length key) (length message) - 1) in
      let words : length h ≡ 8
      = length-finished (start (length key) nn) (keyed key ++ message) (dd (length key) (length message) - 1) ∙ length-start (length key) nn in
      length-take-le nn (bytes_of h) (omega (arith, length-bytes_of h))

  pub bytes-blake2b : Bytes (blake2b nn key message)
  unfolding blake2b
  bytes-blake2b = bytes_take nn _ (bytes-bytes_of _)
