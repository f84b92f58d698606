-- A run of bytes written in two parts is written whole: first a byte and then the rest, and so two runs, one behind the other. Assumes nothing.
use Rattle.std.specs.Prelude.{◌≡◌, refl, List, [], ◌∷◌, ◌++◌, ℕ, zero, suc, ◌+◌, ◌-◌, ◌≤◌, ◌<◌, ◌^◌, max, length, take, drop, replicate, Option, Some, None}
use Rattle.std.proofs.Common.{sym, ap, ◌∙◌, add_assoc, add-zero, zero-add, arith, length-append, length-take-le}
use Rattle.octets.specs.Bytes.{put, put-append}
use Rattle.octets.specs.Number.{put_num, put_num-over}
use Rattle.octets.specs.First.{first, first-same}
use Rattle.octets.specs.Cases.{order}
use Rattle.components.specs.Pieces.{file_of, place_in}
use Rattle.components.specs.PiecesLaws.{first_count, left-some, place-left, piece-number, piece-place}
use Rattle.layout.specs.Disk.{entry_at, data_at, slots, len, Sound}
use Rattle.disk.specs.Steps.{is_file, find_in, write_at}
use Rattle.disk.specs.StepLaws.{word-write_at, len-write_at, find-low}
use Rattle.disk.specs.SoundLaws.{entry-room}
use Rattle.rolling_tape.specs.Removal.{Areas}
use Rattle.rolling_tape.specs.Writing.{make_tracked, covered, write_piece, write_run}
use Rattle.rolling_tape.specs.WritingWays.{write-found, write-nothing, sound-write_piece, run_none, run-some}

-- ---- a write into a slot

put-none : (s : List ℕ) (at k : ℕ) → k ≡ 0 → put s at (replicate k 0) ≡ s
unfolding put
put-none s at k e = rw e

-- the first part fills the hole, so the second finds none
pub write_at-append : (s : List ℕ) (i at : ℕ) (a b : List ℕ) → i < 64 → entry_at i + 24 ≤ length s → len s i < 256 ^ 8 → at + length a < 256 ^ 8
    → write_at s i at (a ++ b) ≡ write_at (write_at s i at a) i (at + length a) b
unfolding write_at
write_at-append s i at a b low room f g =
    let n = len s i in
    let e = entry_at i + 16 in
    let z = put s (data_at i + n) (replicate (at - n) 0) in
    let u = put z (data_at i + at) a in
    let t = write_at s i at a in
    let k = data_at i + (at + length a) in
    let w = max (len t i) (at + length a + length b) in
    let new : len t i ≡ max n (at + length a) = len-write_at s i at a room f g in
    let size : max n (at + length (a ++ b)) ≡ w = omega (arith, length-append a b) in
    ap (λ (v : ℕ). put_num 8 (put z (data_at i + at) (a ++ b)) e v) size
    ∙ ap (λ (l : List ℕ). put_num 8 l e w) (put-append z (data_at i + at) a b ∙ ap (λ (p : ℕ). put u p b) (add_assoc (data_at i) at (length a)))
    ∙ sym (put_num-over 8 u e (max n (at + length a)) w k b (omega arith))
    ∙ ap (λ (l : List ℕ). put_num 8 (put l k b) e w) (sym (put-none t (data_at i + len t i) (at + length a - len t i) (omega arith)))

-- the search goes by owners and numbers, which a write keeps
pub find-write_at : (s : List ℕ) → Sound s → (i at : ℕ) (bs : List ℕ) → i < slots s → at + length bs ≤ 4096
    → (d n : ℕ) → find_in (write_at s i at bs) d n ≡ find_in s d n
unfolding find_in
find-write_at s sound i at bs low fit d n =
    let few = sound.head.few in
    let t = write_at s i at bs in
    let same = word-write_at s i at bs (sound.lengths i low) fit in
    ap (λ (k : ℕ). first (is_file t d n) k 0) (same 8 (omega arith) (λ q. absurd (omega arith)))
    ∙ first-same (is_file t d n) (is_file s d n) (slots s) 0
    (λ j l h. rw (same (entry_at j) (omega arith) (λ q. omega arith), same (entry_at j + 8) (omega arith) (λ q. omega arith)))

-- ---- a piece

pub write_piece-append : (d : List ℕ) (place n at : ℕ) (a b : List ℕ) → Sound d → at + length a + length b ≤ 4096
    → write_piece d place n at (a ++ b) ≡ write_piece (write_piece d place n at a) place n (at + length a) b
write_piece-append d place n at a b sound fit = by (find_in d place n) refl
  where
    by : (f : Option ℕ) → find_in d place n ≡ f → write_piece d place n at (a ++ b) ≡ write_piece (write_piece d place n at a) place n (at + length a) b
    by (Some i) e =
        let low = find-low d place n i e in
        let few = sound.head.few in
        let short = sound.lengths i low in
        let t = write_at d i at a in
        write-found d place n at (a ++ b) i e
        ∙ write_at-append d i at a b (omega arith) (entry-room d sound i low) (omega arith) (omega arith)
        ∙ sym (write-found t place n (at + length a) b i (find-write_at d sound i at a low (omega arith) place n ∙ e))
        ∙ ap (λ (l : List ℕ). write_piece l place n (at + length a) b) (sym (write-found d place n at a i e))
    by None e =
        write-nothing d place n at (a ++ b) e
        ∙ sym (write-nothing d place n (at + length a) b e)
        ∙ ap (λ (l : List ℕ). write_piece l place n (at + length a) b) (sym (write-nothing d place n at a e))

-- ---- a run

module _ (place fs : ℕ) (z : 0 < fs) (small : fs ≤ 4096) where
  -- the first byte is a piece of its own
  cons-alone : (d : List ℕ) (o x : ℕ) (bs : List ℕ) → first_count fs o (suc (length bs)) ≡ 1
      → write_run d place fs o (x ∷ bs) ≡ write_run (write_piece d place (file_of fs o) (place_in fs o) (x ∷ [])) place fs (o + 1) bs
  cons-alone d o x bs e = run-some d place fs o (x ∷ bs) 1 z (omega arith) (sym e)

  -- k bytes more of its piece follow
  cons-more : (d : List ℕ) (o x k : ℕ) (bs : List ℕ) → Sound d → 0 < k → first_count fs o (suc (length bs)) ≡ suc k
      → write_run d place fs o (x ∷ bs) ≡ write_run (write_piece d place (file_of fs o) (place_in fs o) (x ∷ [])) place fs (o + 1) bs
  cons-more d o x k bs sound some e =
      let n = file_of fs o in
      let p = place_in fs o in
      let t = write_piece d place n p (x ∷ []) in
      let inside = place-left fs z o in
      let next : place_in fs (o + 1) ≡ p + 1 = piece-place fs z o 1 (omega arith) in
      let same : file_of fs (o + 1) ≡ n = piece-number fs z o 1 (omega arith) in
      let count : k ≡ first_count fs (o + 1) (length bs) = omega arith in
      let long : length (take k bs) ≡ k = length-take-le k bs (omega arith) in
      let joined : write_piece d place n p (x ∷ take k bs) ≡ write_piece t place n (p + 1) (take k bs)
      = write_piece-append d place n p (x ∷ []) (take k bs) sound (omega arith) in
      let after : o + suc k ≡ o + 1 + k = omega arith in
      let rest : write_run t place fs (o + 1) bs ≡ write_run (write_piece t place n (p + 1) (take k bs)) place fs (o + 1 + k) (drop k bs)
      = rw (same, next) at (run-some t place fs (o + 1) bs k z (omega arith) count) in
      run-some d place fs o (x ∷ bs) (suc k) z (omega arith) (sym e)
      ∙ ap (λ (l : List ℕ). write_run l place fs (o + suc k) (drop k bs)) joined
      ∙ ap (λ (m : ℕ). write_run (write_piece t place n (p + 1) (take k bs)) place fs m (drop k bs)) after
      ∙ sym rest

-- one byte, and the rest
pub write_run-cons : (d : List ℕ) (place fs o x : ℕ) (bs : List ℕ) → Sound d → 0 < fs → fs ≤ 4096
    → write_run d place fs o (x ∷ bs) ≡ write_run (write_piece d place (file_of fs o) (place_in fs o) (x ∷ [])) place fs (o + 1) bs
write_run-cons d place fs o x bs sound z small =
    let c = first_count fs o (suc (length bs)) in
    let some = left-some fs z o in
    order 1 c
    (λ (h : 1 < c). cons-more place fs z small d o x (c - 1) bs sound (omega arith) (omega arith))
    (λ (h : c ≤ 1). cons-alone place fs z small d o x bs (omega arith))

-- two runs, one behind the other
pub write_run-append : (d : List ℕ) (place fs o : ℕ) (a b : List ℕ) → Sound d → 0 < fs → fs ≤ 4096
    → write_run d place fs o (a ++ b) ≡ write_run (write_run d place fs o a) place fs (o + length a) b
write_run-append d place fs o [] b sound z small = rw (run_none d place fs o, add-zero)
write_run-append d place fs o (x ∷ a) b sound z small =
    let t = write_piece d place (file_of fs o) (place_in fs o) (x ∷ []) in
    let inside = place-left fs z o in
    let some = left-some fs z o in
    let e : o + 1 + length a ≡ o + suc (length a) = omega arith in
    write_run-cons d place fs o x (a ++ b) sound z small
    ∙ write_run-append t place fs (o + 1) a b (sound-write_piece d place (file_of fs o) (place_in fs o) (x ∷ []) sound (omega arith)) z small
    ∙ ap (λ (m : ℕ). write_run (write_run t place fs (o + 1) a) place fs m b) e
    ∙ ap (λ (l : List ℕ). write_run l place fs (o + suc (length a)) b) (sym (write_run-cons d place fs o x a sound z small))

pub covered-append : (a : Areas) (place n j k : ℕ) → covered a place n (j + k) ≡ covered (covered a place n j) place (n + j) k
unfolding covered
covered-append a place n zero k = rw (zero-add, add-zero)
covered-append a place n (suc j) k =
    let e : suc j + k ≡ suc (j + k) = omega arith in
    let f : n + suc j ≡ n + 1 + j = omega arith in
    rw (e, f) (covered-append (make_tracked a place n) place (n + 1) j k)
