-- What a request for a digest answers, and what the caller's buffer then holds. Assumes nothing.
use Rattle.std.specs.Prelude.{◌≡◌, ℕ, ◌+◌, ◌-◌, ◌<◌, ◌≤◌, cond, List, ◌++◌, length, take, nat_lt, Result, Ok, Err}
use Rattle.std.proofs.Common.{sym, ap, ◌∙◌, length-append}
use borrow.Author.Tests.{lt-ltb, le-ltb}
use Rattle.octets.specs.Bytes.{put}
use Rattle.blake2b.specs.declared.digest.HashError.{HashError}
use Rattle.blake2b.specs.declared.digest.HashError.TheVariants.{DigestLength, KeyLength, ShortBuffer, HeadLength}
use Rattle.blake2b.specs.Blake2b.{bytes_of, keyed, dd, start, finished, blake2b}

-- an answer, and every byte of the buffer after it
pub record Written : Type 0 where
  pub answer : Result (Unit {0}) HashError
  pub bytes : List ℕ

abbrev pub written : Result (Unit {0}) HashError → List ℕ → Written
written a b = record { answer = a; bytes = b }

-- a digest or key length that the RFC has not, a head of more than a block and a buffer that is too short are refused; else the digest stands at
-- the buffer's front
unfoldable pub hashed : ℕ → List ℕ → List ℕ → List ℕ → List ℕ → Written
hashed nn key head tail out =
    cond (nat_lt nn 1) (written (Err DigestLength) out)
    (cond (nat_lt 64 nn) (written (Err DigestLength) out)
    (cond (nat_lt 64 (length key)) (written (Err KeyLength) out)
    (cond (nat_lt 128 (length head)) (written (Err HeadLength) out)
    (cond (nat_lt (length out) nn) (written (Err ShortBuffer) out)
    (written (Ok tt) (put out 0 (blake2b nn key (head ++ tail))))))))

-- a message in two parts
pub blake2b-parts : (nn : ℕ) (key head tail : List ℕ)
    → blake2b nn key (head ++ tail)
    ≡ take nn
    (bytes_of
    (finished (start (length key) nn) (keyed key ++ (head ++ tail)) (dd (length key) (length head + length tail) - 1)))
unfolding blake2b
blake2b-parts nn key head tail = rw (length-append head tail)

-- ---- each way out

module _ (nn : ℕ) (key head tail out : List ℕ) where
  pub no-digest : nn < 1 → hashed nn key head tail out ≡ written (Err DigestLength) out
  unfolding hashed
  no-digest none = rw (lt-ltb nn 1 none)

  module _ (some : 1 ≤ nn) where
    pub long-digest : 64 < nn → hashed nn key head tail out ≡ written (Err DigestLength) out
    unfolding hashed
    long-digest long = rw (le-ltb nn 1 some, lt-ltb 64 nn long)

    module _ (short : nn ≤ 64) where
      pub long-key : 64 < length key → hashed nn key head tail out ≡ written (Err KeyLength) out
      unfolding hashed
      long-key long = rw (le-ltb nn 1 some, le-ltb 64 nn short, lt-ltb 64 (length key) long)

      module _ (short_key : length key ≤ 64) where
        pub long-head : 128 < length head → hashed nn key head tail out ≡ written (Err HeadLength) out
        unfolding hashed
        long-head long =
            rw (le-ltb nn 1 some, le-ltb 64 nn short, le-ltb 64 (length key) short_key, lt-ltb 128 (length head) long)

        module _ (short_head : length head ≤ 128) where
          pub short-buffer : length out < nn → hashed nn key head tail out ≡ written (Err ShortBuffer) out
          unfolding hashed
          short-buffer l =
              rw (le-ltb nn 1 some, le-ltb 64 nn short, le-ltb 64 (length key) short_key, le-ltb 128 (length head) short_head, lt-ltb (length out) nn l)

          pub served : nn ≤ length out → hashed nn key head tail out ≡ written (Ok tt) (put out 0 (blake2b nn key (head ++ tail)))
          unfolding hashed
          served room =
              rw (le-ltb nn 1 some, le-ltb 64 nn short, le-ltb 64 (length key) short_key, le-ltb 128 (length head) short_head, le-ltb (length out) nn room)

  -- the contract leaves one answer and one buffer
  pub hashed-unique : (r r' : Result (Unit {0}) HashError) (b b' : List ℕ) → hashed nn key head tail out ≡ written r b → hashed nn key head tail out ≡ written r' b' → (r ≡ r') × (b ≡ b')
  hashed-unique r r' b b' p q = (ap (λ (a : Written). a.answer) (sym p ∙ q), ap (λ (a : Written). a.bytes) (sym p ∙ q))
