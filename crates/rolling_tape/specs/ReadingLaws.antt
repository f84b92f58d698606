-- What a caller of the readers needs: what can be read lies in the files, a part of it can be read too, and which bytes are read. Assumes nothing.
use Rattle.std.specs.Prelude.{◌≡◌, Bool, List, ◌++◌, leb, length, get_or, Option, Some, None}
use Rattle.std.proofs.Math.Path.{refl, ap}
use Rattle.std.proofs.Math.Bool.{true, false}
use Prim.Native.Nat.{ℕ, zero, suc, ◌+◌, ◌≤◌, ◌<◌}
use Rattle.std.proofs.Common.{add_assoc, zero-add}
use Rattle.std.proofs.Math.Nat.{add-zero}
use native.Mathlib.Omega.{arith}
use Rattle.octets.specs.Cases.{and_r}
use Rattle.octets.specs.First.{all, all_true, all-holds}
use Rattle.components.specs.Pieces.{file_of, place_in}
use Rattle.layout.specs.Disk.{len}
use Rattle.disk.specs.Steps.{find_file}
use Rattle.rolling_tape.specs.Reading.{may_read, reaches, piece_lies, can_read_at, can_read, holds, piece_there, lies, byte_of, read_run}

-- ---- what can be read

module _ (d s : List ℕ) (only : Bool) (tape : List ℕ) where
  -- what may be read is there
  pub piece-there : (n end : ℕ) → piece_lies d s only tape n end ≡ true → piece_there d tape n end ≡ true
  unfolding piece_lies piece_there
  piece-there n end h = cases (find_file d tape n) h
    where
      cases : (f : Option ℕ) → reaches d s only end f ≡ true → holds d end f ≡ true
      cases (Some i) q = and_r (may_read s only i) (leb end (len d i)) q
      cases None q = q

  module _ (fs o : ℕ) where
    pub can_read-none : can_read d s only tape fs o 0 ≡ true
    unfolding can_read all
    can_read-none = refl

    -- a run can be read if each of its bytes can
    pub can-each : (n : ℕ) → can_read d s only tape fs o n ≡ true → (j : ℕ) → j < n → can_read_at d s only tape fs (o + j) ≡ true
    unfolding can_read
    can-each n h j l = all-holds (λ i. can_read_at d s only tape fs (o + i)) n 0 h j (omega arith) (omega arith)

    pub each-can : (n : ℕ) → ((j : ℕ) → j < n → can_read_at d s only tape fs (o + j) ≡ true) → can_read d s only tape fs o n ≡ true
    unfolding can_read
    each-can n h = all_true (λ i. can_read_at d s only tape fs (o + i)) n 0 (λ j a b. h j (omega arith))

    pub can-lies : (n : ℕ) → can_read d s only tape fs o n ≡ true → lies d tape fs o n ≡ true
    unfolding lies
    can-lies n h = all_true _ n 0 (λ j a b. piece-there (file_of fs (o + j)) (place_in fs (o + j) + 1) (can-each n h j (omega arith)))

  pub can-part : (fs o n i m : ℕ) → can_read d s only tape fs o n ≡ true → i + m ≤ n → can_read d s only tape fs (o + i) m ≡ true
  can-part fs o n i m h l = each-can fs (o + i) m (λ j k. rw (add_assoc o i j) (can-each fs o n h (i + j) (omega arith)))

-- what can be read of tracked files can be read of all
module _ (d s tape : List ℕ) where
  pub piece-more : (n end : ℕ) → piece_lies d s true tape n end ≡ true → piece_lies d s false tape n end ≡ true
  unfolding piece_lies
  piece-more n end h = cases (find_file d tape n) h
    where
      cases : (f : Option ℕ) → reaches d s true end f ≡ true → reaches d s false end f ≡ true
      cases (Some i) q = and_r (may_read s true i) (leb end (len d i)) q
      cases None q = q

  pub can-more : (fs o n : ℕ) → can_read d s true tape fs o n ≡ true → can_read d s false tape fs o n ≡ true
  can-more fs o n h =
      each-can d s false tape fs o n (λ j l. piece-more (file_of fs (o + j)) (place_in fs (o + j) + 1) (can-each d s true tape fs o n h j l))

-- ---- what is read

module _ (d tape : List ℕ) (fs : ℕ) where
  pub length-read_run : (o n : ℕ) → length (read_run d tape fs o n) ≡ n
  unfolding read_run
  length-read_run o zero = refl
  length-read_run o (suc n) = ap suc (length-read_run (o + 1) n)

  pub read_run-nth : (o n j : ℕ) → j < n → get_or (read_run d tape fs o n) j 0 ≡ byte_of d tape fs (o + j)
  unfolding read_run
  read_run-nth o zero j l = absurd (omega arith)
  read_run-nth o (suc n) zero l = rw add-zero
  read_run-nth o (suc n) (suc j) l =
      let e : o + suc j ≡ o + 1 + j = omega arith in
      rw e (read_run-nth (o + 1) n j (omega arith))

  -- a run in two
  pub run-append : (o m k : ℕ) → read_run d tape fs o (m + k) ≡ read_run d tape fs o m ++ read_run d tape fs (o + m) k
  unfolding read_run
  run-append o zero k = rw (zero-add, add-zero)
  run-append o (suc m) k =
      let e : suc m + k ≡ suc (m + k) = omega arith in
      let f : o + suc m ≡ o + 1 + m = omega arith in
      rw (e, f, run-append (o + 1) m k)
