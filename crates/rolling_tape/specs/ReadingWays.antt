-- How the code's pieces are the definition's bytes: a piece lies in one file, so it can be read if its last byte can, and its bytes are a part of that
-- file's. The law of the pieces is over the test, so that it serves both `can_read` and `lies`. Assumes nothing.
use Rattle.std.proofs.Math.Path.{◌≡◌, refl}
use Rattle.std.proofs.Common.{sym, ap, ◌∙◌, add_assoc, add-zero, ext_get_or, get_or-take, get_or-drop}
use Rattle.std.specs.Prelude.{Bool, false, List, ◌++◌, ℕ, ◌+◌, ◌-◌, ◌≤◌, ◌<◌, min, leb, take, drop, Option, Some, None}
use Rattle.std.proofs.Math.Bool.{true}
use Rattle.std.proofs.Math.Nat.{sub-zero}
use native.Mathlib.Omega.{arith}
use borrow.Author.Tests.{le-leb, leb-true}
use Rattle.std.proofs.Math.ListN.{length}
use Rattle.octets.specs.Bytes.{put, length_part, put-append, put-lent, put_whole}
use Rattle.octets.specs.Cases.{and_l, and_r, and_both}
use Rattle.octets.specs.First.{all, all-skip, all-fails, all-holds}
use Rattle.components.specs.Pieces.{file_of, place_in, left_in}
use Rattle.components.specs.PiecesLaws.{left-some, place-left, piece-number, piece-place}
use Rattle.layout.specs.Names.{find_name}
use Rattle.layout.specs.Disk.{Sound, directories, slots, len}
use Rattle.disk.specs.Steps.{find_file, within, file_bytes}
use Rattle.disk.specs.StepLaws.{find-low}
use Rattle.disk.specs.MeaningLaws.{length-file}
use Rattle.rolling_tape.specs.Reading.{may_read, reaches, piece_lies, holds, piece_there, lies, bytes_of, piece_bytes, read_run}
use Rattle.rolling_tape.specs.ReadingLaws.{length-read_run, read_run-nth, run-append}

-- ---- what was found

pub file-low : (d tape : List ℕ) (n i : ℕ) → find_file d tape n ≡ Some i → i < slots d
unfolding find_file
file-low d tape n i e = cases (find_name d directories tape) e
  where
    cases : (f : Option ℕ) → within d n f ≡ Some i → i < slots d
    cases (Some p) q = find-low d p n i q
    cases None q = let z : ◌≡◌ {A = ℕ} 0 1 = cc in absurd (omega arith)

module _ (d s : List ℕ) (only : Bool) (tape : List ℕ) (n end : ℕ) where
  pub lies-none : find_file d tape n ≡ None → piece_lies d s only tape n end ≡ false
  unfolding piece_lies
  lies-none e = rw e

  pub lies-not : (i : ℕ) → find_file d tape n ≡ Some i → may_read s only i ≡ false → piece_lies d s only tape n end ≡ false
  unfolding piece_lies
  lies-not i e h = rw (e, h)

  pub lies-up-to : (i : ℕ) → find_file d tape n ≡ Some i → may_read s only i ≡ true → piece_lies d s only tape n end ≡ leb end (len d i)
  unfolding piece_lies
  lies-up-to i e h = rw (e, h)

-- a file that reaches up to an end reaches up to each before it
less-leb : (end e l : ℕ) → e ≤ end → leb end l ≡ true → leb e l ≡ true
less-leb end e l h q = let r = leb-true end l q in le-leb e l (omega arith)

pub lies-less : (d s : List ℕ) (only : Bool) (tape : List ℕ) (n end e : ℕ) → e ≤ end → piece_lies d s only tape n end ≡ true → piece_lies d s only tape n e ≡ true
unfolding piece_lies
lies-less d s only tape n end e l h = cases (find_file d tape n) h
  where
    cases : (f : Option ℕ) → reaches d s only end f ≡ true → reaches d s only e f ≡ true
    cases (Some i) q = and_both (may_read s only i) (leb e (len d i)) (and_l _ _ q) (less-leb end e (len d i) l (and_r (may_read s only i) _ q))
    cases None q = q

module _ (d tape : List ℕ) (n end : ℕ) where
  pub there-at : (i : ℕ) → find_file d tape n ≡ Some i → piece_there d tape n end ≡ true → end ≤ len d i
  unfolding piece_there
  there-at i e h = leb-true end (len d i) (rw e at h)

  pub there-none : find_file d tape n ≡ None → piece_there d tape n end ≡ true → ⊥
  unfolding piece_there
  there-none e h = let z : ◌≡◌ {A = ℕ} 0 1 = cc in absurd (omega arith)

-- ---- a turn: the piece at o + done, of m bytes

-- byte j from the offset o on, by a test of a file and an end
abbrev pub at : (ℕ → ℕ → Bool) → ℕ → ℕ → ℕ → Bool
at lie fs o j = lie (file_of fs (o + j)) (place_in fs (o + j) + 1)

module _ (fs : ℕ) (z : 0 < fs) (o n done : ℕ) (more : done < n) (m : ℕ) (piece : m ≡ min (n - done) (left_in fs (o + done))) where
  pub piece-some : 0 < m
  piece-some = omega (arith, left-some fs z (o + done))

  pub piece-within : done + m ≤ n
  piece-within = omega arith

  pub piece-fits : place_in fs (o + done) + m ≤ fs
  piece-fits = omega (arith, place-left fs z (o + done))

  module _ (lie : ℕ → ℕ → Bool) where
    -- a byte of the piece is one of its file
    at_place : (j : ℕ) → done ≤ j → j < done + m → at lie fs o j ≡ lie (file_of fs (o + done)) (place_in fs (o + done) + (j - done) + 1)
    at_place j a b =
        let e : o + j ≡ o + done + (j - done) = omega arith in
        let h : j - done < left_in fs (o + done) = omega arith in
        rw (e, piece-number fs z (o + done) (j - done) h, piece-place fs z (o + done) (j - done) h)

    -- and its last byte ends it
    at_last : at lie fs o (done + m - 1) ≡ lie (file_of fs (o + done)) (place_in fs (o + done) + m)
    at_last =
        let p = piece-some in
        let e : place_in fs (o + done) + (done + m - 1 - done) + 1 ≡ place_in fs (o + done) + m = omega arith in
        at_place (done + m - 1) (omega arith) (omega arith) ∙ ap (lie (file_of fs (o + done))) e

    pub all-stop : lie (file_of fs (o + done)) (place_in fs (o + done) + m) ≡ false → all (at lie fs o) (n - done) done ≡ false
    all-stop h =
        let p = piece-some in
        all-fails (at lie fs o) (n - done) done (done + m - 1) (omega arith) (omega arith) (at_last ∙ h)

    pub all-last : all (at lie fs o) n 0 ≡ true → lie (file_of fs (o + done)) (place_in fs (o + done) + m) ≡ true
    all-last h =
        let p = piece-some in
        sym at_last ∙ all-holds (at lie fs o) n 0 h (done + m - 1) (omega arith) (omega arith)

    pub all-turn : ((k end e : ℕ) → e ≤ end → lie k end ≡ true → lie k e ≡ true) → lie (file_of fs (o + done)) (place_in fs (o + done) + m) ≡ true
        → all (at lie fs o) (n - done) done ≡ all (at lie fs o) (n - (done + m)) (done + m)
    all-turn less h =
        let e : n - done ≡ m + (n - (done + m)) = omega arith in
        ap (λ (k : ℕ). all (at lie fs o) k done) e
        ∙ all-skip (at lie fs o) m (n - (done + m)) done
        (λ j a b. at_place j a b ∙ less (file_of fs (o + done)) (place_in fs (o + done) + m) (place_in fs (o + done) + (j - done) + 1) (omega arith) h)

-- ---- the bytes

module _ (d tape : List ℕ) (sound : Sound d) (number place n : ℕ) (there : piece_there d tape number (place + n) ≡ true) where
  length-bytes_of : place + n ≤ length (bytes_of d (find_file d tape number))
  unfolding piece_there
  length-bytes_of = cases (find_file d tape number) refl there
    where
      cases : (f : Option ℕ) → find_file d tape number ≡ f → holds d (place + n) f ≡ true → place + n ≤ length (bytes_of d f)
      cases (Some i) e q = let l = leb-true (place + n) (len d i) q in let f = length-file d sound i (file-low d tape number i e) in omega arith
      cases None e q = let z : ◌≡◌ {A = ℕ} 0 1 = cc in absurd (omega arith)

  pub length-piece : length (piece_bytes d tape number place n) ≡ n
  unfolding piece_bytes
  length-piece = length_part n (bytes_of d (find_file d tape number)) place length-bytes_of

-- the bytes that the copy leaves
pub piece-copied : (d tape : List ℕ) → Sound d → (number place i : ℕ) (out : List ℕ) → find_file d tape number ≡ Some i → piece_there d tape number (place + length out) ≡ true
    → put out 0 (take (place + length out - place) (drop place (file_bytes d i))) ≡ piece_bytes d tape number place (length out)
unfolding piece_bytes
piece-copied d tape sound number place i out found there =
    let n = length out in
    let e : place + n - place ≡ n = omega arith in
    ap (λ (k : ℕ). put out 0 (take k (drop place (file_bytes d i)))) e
    ∙ ap (λ (f : Option ℕ). put out 0 (take n (drop place (bytes_of d f)))) (sym found)
    ∙ put_whole out (take n (drop place (bytes_of d (find_file d tape number)))) (length-piece d tape sound number place n there)

-- a piece's bytes are the run's
pub piece-run : (d tape : List ℕ) → Sound d → (fs : ℕ) → 0 < fs → (o m : ℕ) → place_in fs o + m ≤ fs → piece_there d tape (file_of fs o) (place_in fs o + m) ≡ true
    → piece_bytes d tape (file_of fs o) (place_in fs o) m ≡ read_run d tape fs o m
unfolding piece_bytes
piece-run d tape sound fs z o m fit there =
    let file = bytes_of d (find_file d tape (file_of fs o)) in
    let long = length-piece d tape sound (file_of fs o) (place_in fs o) m there in
    ext_get_or 0 _ _ (long ∙ sym (length-read_run d tape fs o m))
    (λ j l.
    let low : j < m = omega arith in
    let h : j < left_in fs o = omega arith in
    get_or-take m (drop (place_in fs o) file) j 0 low
    ∙ get_or-drop (place_in fs o) file j 0
    ∙ sym (read_run-nth d tape fs o m j low ∙ rw (piece-number fs z o j h, piece-place fs z o j h)))

-- ---- the loop that reads: what is left, put on the present bytes, is the whole

-- what a turn has: bytes, room for them, their file, and that they are the run's
pub record Turn (d tape : List ℕ) (fs o n done m : ℕ) : Type 0 where
  pub some : 0 < m
  pub within : done + m ≤ n
  pub there : piece_there d tape (file_of fs (o + done)) (place_in fs (o + done) + m) ≡ true
  pub bytes : piece_bytes d tape (file_of fs (o + done)) (place_in fs (o + done)) m ≡ read_run d tape fs (o + done) m

pub turn : (d tape : List ℕ) → Sound d → (fs : ℕ) → 0 < fs → (o n done m : ℕ) → done < n → m ≡ min (n - done) (left_in fs (o + done)) → lies d tape fs o n ≡ true
    → Turn d tape fs o n done m
unfolding lies
turn d tape sound fs z o n done m more piece h =
    let there = all-last fs z o n done more m piece (piece_there d tape) h in
    record {
      some = piece-some fs z o n done more m piece;
      within = piece-within fs z o n done more m piece;
      there = there;
      bytes = piece-run d tape sound fs z (o + done) m (piece-fits fs z o n done more m piece) there;
    }

module _ (d tape : List ℕ) (fs o : ℕ) (out : List ℕ) where
  pub run-start : put out 0 (read_run d tape fs (o + 0) (length out - 0)) ≡ read_run d tape fs o (length out)
  run-start = rw (add-zero, sub-zero) (put_whole out _ (length-read_run d tape fs o (length out)))

  pub run-turn : (n done m : ℕ) → done + m ≤ n
      → put out done (read_run d tape fs (o + done) (n - done))
      ≡ put (put out done (read_run d tape fs (o + done) m)) (done + m) (read_run d tape fs (o + (done + m)) (n - (done + m)))
  run-turn n done m h =
      let e : n - done ≡ m + (n - (done + m)) = omega arith in
      let size = length-read_run d tape fs (o + done) m in
      let next = add_assoc o done m in
      ap (λ (k : ℕ). put out done (read_run d tape fs (o + done) k)) e
      ∙ ap (put out done) (run-append d tape fs (o + done) m (n - (done + m)))
      ∙ put-append out done (read_run d tape fs (o + done) m) (read_run d tape fs (o + done + m) (n - (done + m)))
      ∙ cc

  -- what the lent part leaves
  pub run_lent : (done m : ℕ) (part : List ℕ) → done + m ≤ length out → part ≡ read_run d tape fs (o + done) m
      → take done out ++ (part ++ drop (done + m - done) (drop done out)) ≡ put out done (read_run d tape fs (o + done) m)
  run_lent done m part h e =
      let long : length part ≡ m = ap length e ∙ length-read_run d tape fs (o + done) m in
      let size : done + m - done ≡ length part = omega arith in
      ap (λ (k : ℕ). take done out ++ (part ++ drop k (drop done out))) size
      ∙ put-lent out done part (omega arith)
      ∙ ap (put out done) e

  pub run_end : (n done : ℕ) → n ≤ done → put out done (read_run d tape fs (o + done) (n - done)) ≡ out
  unfolding put read_run
  run_end n done h =
      let e : n - done ≡ 0 = omega arith in
      rw e

-- ---- of bytes alone: a lent part, as the code says it, is as long as it says

pub length-lent : (m : ℕ) (s : List ℕ) (from : ℕ) → from + m ≤ length s → length (take (from + m - from) (drop from s)) ≡ m
length-lent m s from h =
    let size : from + m - from ≡ m = omega arith in
    ap (λ (k : ℕ). length (take k (drop from s))) size ∙ length_part m s from h
