-- What each step of the disk writes and what it leaves alone, that bytes stay bytes, and what the searches find. Soundness is in SoundLaws. Assumes nothing.
use Rattle.std.specs.Prelude.{◌≡◌, ◌≢◌, eqb, drop, Option, Some, None}
use Rattle.std.proofs.Math.Path.{refl, ap}
use Rattle.std.proofs.Common.{◌∙◌, arith}
use mathlib.Core.List.{List, [], ◌∷◌}
use Prim.Native.Nat.{ℕ, ◌+◌, ◌-◌, ◌≤◌, ◌<◌, ◌^◌, max}
use Rattle.std.proofs.Math.Nat.{add-zero}
use borrow.Author.Tests.{eqb-true}
use Rattle.std.proofs.Math.ListN.{length, take, replicate, length-replicate}
use Rattle.octets.specs.Bytes.{put, length-put}
use Rattle.octets.specs.Number.{num_at, Bytes, num_at-put_num-same, bytes-zeros, num_at-put-zeros}
use Rattle.octets.specs.Only.{OnlyIn, only_none, only-put, only-put_num, only_then, only_wider, num_at-only, part-only, bytes-put, bytes-put_num}
use Rattle.octets.specs.Words.{length-put_words, only-put_words, bytes-put_words, word-put_words}
use Rattle.octets.specs.First.{first-hits}
use Rattle.octets.specs.Sweep.{sweep-keeps}
use Rattle.octets.specs.Cases.{picked, and_l, and_r}
use Rattle.layout.specs.Names.{find_name}
use Rattle.layout.specs.NamesLaws.{only-put_name, name-low}
use Rattle.layout.specs.Disk.{mark, directories, entry_at, data_at, slots, owner, number, len}
use Rattle.metadata.specs.declared.choice.Side.{Side}
use Rattle.metadata.specs.declared.choice.Side.TheVariants.{Left, Right}
use Rattle.disk.specs.declared.files.Entry.{Entry}
use Rattle.disk.specs.Steps.{formatted, entry_of, put_entry, removed, is_file, is_free, find_in, free_slot, add_at, add_directory, empty_slot, empty_directory, make_new, make_unless, make_file, file_bytes, write_at, side_at, side_len_at, side_len, write_side}
use Rattle.disk.specs.Ways.{side-place}

-- ---- an entry put

module _ (s : List ℕ) (i : ℕ) (e : Entry) where
  pub length-put_entry : length (put_entry s i e) ≡ length s
  unfolding put_entry
  length-put_entry = length-put_words s (entry_at i) _

  pub only-put_entry : OnlyIn (entry_at i) (entry_at i + 24) s (put_entry s i e)
  unfolding put_entry
  only-put_entry = only-put_words s (entry_at i) (e.owner ∷ e.number ∷ e.len ∷ [])

  pub entry_other : (j : ℕ) → j ≢ i → entry_of (put_entry s i e) j ≡ entry_of s j
  unfolding entry_of
  entry_other j d =
      let same = num_at-only _ _ s _ only-put_entry 8 in
      rw (same (entry_at j) (λ q. omega arith), same (entry_at j + 8) (λ q. omega arith), same (entry_at j + 16) (λ q. omega arith))

  module _ (room : entry_at i + 24 ≤ length s) where
    pub owner-put_entry : e.owner < 256 ^ 8 → owner (put_entry s i e) i ≡ e.owner
    unfolding put_entry
    owner-put_entry f = rw add-zero at (word-put_words s (entry_at i) (e.owner ∷ e.number ∷ e.len ∷ []) 0 room (omega arith) f)

    pub number-put_entry : e.number < 256 ^ 8 → number (put_entry s i e) i ≡ e.number
    unfolding put_entry
    number-put_entry f = word-put_words s (entry_at i) (e.owner ∷ e.number ∷ e.len ∷ []) 1 room (omega arith) f

    pub len-put_entry : e.len < 256 ^ 8 → len (put_entry s i e) i ≡ e.len
    unfolding put_entry
    len-put_entry f = word-put_words s (entry_at i) (e.owner ∷ e.number ∷ e.len ∷ []) 2 room (omega arith) f

    pub entry-same : e.owner < 256 ^ 8 → e.number < 256 ^ 8 → e.len < 256 ^ 8 → entry_of (put_entry s i e) i ≡ e
    unfolding entry_of
    entry-same f g h = rw (owner-put_entry f, number-put_entry g, len-put_entry h)

    pub bytes-put_entry : Bytes s → Bytes (put_entry s i e)
    unfolding put_entry
    bytes-put_entry p = bytes-put_words s (entry_at i) _ room p

-- a slot freed
module _ (s : List ℕ) (i : ℕ) where
  pub length_removed : length (removed s i) ≡ length s
  unfolding removed
  length_removed = length-put_entry s i _

  pub only-removed : OnlyIn (entry_at i) (entry_at i + 24) s (removed s i)
  unfolding removed
  only-removed = only-put_entry s i _

  pub bytes-removed : entry_at i + 24 ≤ length s → Bytes s → Bytes (removed s i)
  unfolding removed
  bytes-removed room p = bytes-put_entry s i _ room p

-- ---- bytes written into a slot: first the data, then the length

unfoldable pub filled : List ℕ → ℕ → ℕ → List ℕ → List ℕ
filled s i at bs = put (put s (data_at i + len s i) (replicate (at - len s i) 0)) (data_at i + at) bs

module _ (s : List ℕ) (i at : ℕ) (bs : List ℕ) where
  pub only-length : OnlyIn (entry_at i + 16) (entry_at i + 24) (filled s i at bs) (write_at s i at bs)
  unfolding write_at filled
  only-length = only_wider _ _ (entry_at i + 16) (entry_at i + 24) _ _ (omega arith) (omega arith) (only-put_num 8 _ (entry_at i + 16) _)

  pub length-filled : length (filled s i at bs) ≡ length s
  unfolding filled
  length-filled = length-put _ _ _ ∙ length-put _ _ _

  pub length-write_at : length (write_at s i at bs) ≡ length s
  length-write_at = only-length.long ∙ length-filled

  pub len-write_at : entry_at i + 24 ≤ length s → len s i < 256 ^ 8 → at + length bs < 256 ^ 8 → len (write_at s i at bs) i ≡ max (len s i) (at + length bs)
  unfolding write_at
  len-write_at room f g = num_at-put_num-same 8 _ (entry_at i + 16) _ (simp length-put (omega arith)) (omega arith)

  module _ (short : len s i ≤ 4096) (fit : at + length bs ≤ 4096) where
    pub only-filled : OnlyIn (data_at i) (data_at i + 4096) s (filled s i at bs)
    unfolding filled
    only-filled =
        let zeros : List ℕ = replicate (at - len s i) 0 in
        let long : length zeros ≡ at - len s i = length-replicate {A = ℕ} (at - len s i) 0 in
        let u = put s (data_at i + len s i) zeros in
        only_then (data_at i) (data_at i + 4096) s u _
        (only_wider (data_at i + len s i) (data_at i + len s i + length zeros) (data_at i) (data_at i + 4096) s u (omega arith) (omega arith) (only-put s _ zeros))
        (only_wider (data_at i + at) (data_at i + at + length bs) (data_at i) (data_at i + 4096) u _ (omega arith) (omega arith) (only-put u _ bs))

    -- a word of the tables that is not the file's length
    pub word-write_at : (b : ℕ) → b + 8 ≤ 2848 → (entry_at i + 16 < b + 8 → entry_at i + 24 ≤ b) → num_at 8 (write_at s i at bs) b ≡ num_at 8 s b
    word-write_at b t h =
        num_at-only _ _ _ _ only-length 8 b h ∙ num_at-only _ _ _ _ only-filled 8 b (λ q. absurd (omega arith))

    -- a part that is clear of the length and of the slot's data
    pub part-write_at : (n b : ℕ) → (entry_at i + 16 < b + n → entry_at i + 24 ≤ b) → (data_at i < b + n → data_at i + 4096 ≤ b)
        → take n (drop b (write_at s i at bs)) ≡ take n (drop b s)
    part-write_at n b h k = part-only _ _ _ _ only-length n b h ∙ part-only _ _ _ _ only-filled n b k

    -- so a file in another slot is as it was
    pub file-write_at-other : (j : ℕ) → i < 64 → j < 64 → j ≢ i → len s j ≤ 4096 → file_bytes (write_at s i at bs) j ≡ file_bytes s j
    unfolding file_bytes
    file-write_at-other j low low' d small =
        ap (λ (n : ℕ). take n (drop (data_at j) (write_at s i at bs))) (word-write_at (entry_at j + 16) (omega arith) (λ q. omega arith))
        ∙ part-write_at (len s j) (data_at j) (λ q. omega arith) (λ q. omega arith)

    pub bytes-write_at : data_at i + 4096 ≤ length s → Bytes s → Bytes bs → Bytes (write_at s i at bs)
    unfolding write_at
    bytes-write_at room p q =
        let zeros : List ℕ = replicate (at - len s i) 0 in
        let long : length zeros ≡ at - len s i = length-replicate {A = ℕ} (at - len s i) 0 in
        let u = put s (data_at i + len s i) zeros in
        let same : length u ≡ length s = length-put s (data_at i + len s i) zeros in
        bytes-put_num 8 _ (entry_at i + 16) _ (simp length-put (omega arith))
        (bytes-put u (data_at i + at) bs (omega arith) (bytes-put s (data_at i + len s i) zeros (omega arith) p (bytes-zeros (at - len s i))) q)

-- ---- left and right: the bytes, then the length

module _ (s : List ℕ) (side : Side) (bs : List ℕ) where
  pub only-side_len : OnlyIn (side_len_at side) (side_len_at side + 8) (put s (side_at side) bs) (write_side s side bs)
  unfolding write_side
  only-side_len = only-put_num 8 _ (side_len_at side) _

  pub length-write_side : length (write_side s side bs) ≡ length s
  length-write_side = only-side_len.long ∙ length-put s (side_at side) bs

module _ (s : List ℕ) (bs : List ℕ) (fit : length bs ≤ 512) where
  pub only-side_data : (side : Side) → OnlyIn (side_at side) (side_at side + 512) s (put s (side_at side) bs)
  only-side_data side = only_wider _ _ (side_at side) (side_at side + 512) s _ (omega arith) (omega arith) (only-put s (side_at side) bs)

  pub side_len-write_side : (side : Side) → 32 ≤ length s → side_len s side < 256 ^ 8 → side_len (write_side s side bs) side ≡ max (side_len s side) (length bs)
  unfolding write_side
  side_len-write_side side room f =
      let place = side-place side in
      num_at-put_num-same 8 _ (side_len_at side) _ (simp length-put (omega arith)) (omega arith)

  -- clear of the length and of the side's bytes
  pub word-write_side : (side : Side) (b : ℕ) → (side_len_at side < b + 8 → side_len_at side + 8 ≤ b) → (side_at side < b + 8 → side_at side + 512 ≤ b)
      → num_at 8 (write_side s side bs) b ≡ num_at 8 s b
  word-write_side side b h k = num_at-only _ _ _ _ (only-side_len s side bs) 8 b h ∙ num_at-only _ _ _ _ (only-side_data side) 8 b k

  pub part-write_side : (side : Side) (n b : ℕ) → (side_len_at side < b + n → side_len_at side + 8 ≤ b) → (side_at side < b + n → side_at side + 512 ≤ b)
      → take n (drop b (write_side s side bs)) ≡ take n (drop b s)
  part-write_side side n b h k = part-only _ _ _ _ (only-side_len s side bs) n b h ∙ part-only _ _ _ _ (only-side_data side) n b k

  pub only-write_side : (side : Side) → OnlyIn 16 1312 s (write_side s side bs)
  only-write_side Left =
      only_then 16 1312 s (put s 288 bs) _
      (only_wider 288 800 16 1312 s _ (omega arith) (omega arith) (only-side_data Left))
      (only_wider 16 24 16 1312 _ _ (omega arith) (omega arith) (only-side_len s Left bs))
  only-write_side Right =
      only_then 16 1312 s (put s 800 bs) _
      (only_wider 800 1312 16 1312 s _ (omega arith) (omega arith) (only-side_data Right))
      (only_wider 24 32 16 1312 _ _ (omega arith) (omega arith) (only-side_len s Right bs))

  pub bytes-write_side : (side : Side) → 1312 ≤ length s → Bytes s → Bytes bs → Bytes (write_side s side bs)
  unfolding write_side
  bytes-write_side side room p q =
      let place = side-place side in
      bytes-put_num 8 _ (side_len_at side) _ (simp length-put (omega arith)) (bytes-put s (side_at side) bs (omega arith) p q)

-- ---- format

module _ (s : List ℕ) (n : ℕ) where
  pub length-formatted : length (formatted s n) ≡ length s
  unfolding formatted
  length-formatted = length-put_words _ 0 _ ∙ length-put s 0 _

  pub only-formatted : OnlyIn 0 2848 s (formatted s n)
  unfolding formatted
  only-formatted =
      let zeros : List ℕ = replicate 2848 0 in
      let long : length zeros ≡ 2848 = length-replicate {A = ℕ} 2848 0 in
      let u = put s 0 zeros in
      only_then 0 2848 s u _
      (only_wider 0 (0 + length zeros) 0 2848 s u (omega arith) (omega arith) (only-put s 0 zeros))
      (only_wider 0 16 0 2848 u _ (omega arith) (omega arith) (only-put_words u 0 (mark ∷ n ∷ [])))

  module _ (room : 2848 ≤ length s) where
    pub mark-formatted : num_at 8 (formatted s n) 0 ≡ mark
    unfolding formatted
    mark-formatted = word-put_words _ 0 (mark ∷ n ∷ []) 0 (simp length-put (omega arith)) (omega arith) (omega arith)

    pub slots-formatted : n < 256 ^ 8 → slots (formatted s n) ≡ n
    unfolding formatted
    slots-formatted f = word-put_words _ 0 (mark ∷ n ∷ []) 1 (simp length-put (omega arith)) (omega arith) f

    -- everything else before the slots is zeros
    pub word-formatted : (b : ℕ) → 16 ≤ b → b + 8 ≤ 2848 → num_at 8 (formatted s n) b ≡ 0
    unfolding formatted
    word-formatted b low high =
        num_at-only 0 16 _ _ (only-put_words (put s 0 (replicate 2848 0)) 0 (mark ∷ n ∷ [])) 8 b (λ q. low)
        ∙ num_at-put-zeros 8 s 0 2848 b (omega arith) (omega arith) high

    pub bytes-formatted : Bytes s → Bytes (formatted s n)
    unfolding formatted
    bytes-formatted p =
        let zeros : List ℕ = replicate 2848 0 in
        let long : length zeros ≡ 2848 = length-replicate {A = ℕ} 2848 0 in
        bytes-put_words _ 0 (mark ∷ n ∷ []) (simp length-put (omega arith)) (bytes-put s 0 zeros (omega arith) p (bytes-zeros 2848))

-- a slot that a sweep looks at is freed or left
module _ (d i : ℕ) (s : List ℕ) where
  pub only-empty_slot : OnlyIn (entry_at i) (entry_at i + 24) s (empty_slot d i s)
  unfolding empty_slot
  only-empty_slot =
      picked (λ (t : List ℕ). OnlyIn (entry_at i) (entry_at i + 24) s t) (eqb (owner s i) (d + 1)) (removed s i) s (λ e. only-removed s i) (λ e. only_none _ _ s)

  pub bytes-empty_slot : entry_at i + 24 ≤ length s → Bytes s → Bytes (empty_slot d i s)
  unfolding empty_slot
  bytes-empty_slot room p = picked Bytes (eqb (owner s i) (d + 1)) (removed s i) s (λ e. bytes-removed s i room p) (λ e. p)

-- ---- the length after a step that goes by cases

module _ (s : List ℕ) where
  pub length-empty_directory : (d : ℕ) → length (empty_directory s d) ≡ length s
  unfolding empty_directory
  length-empty_directory d =
      sweep-keeps (λ (t : List ℕ). length t ≡ length s) (empty_slot d) (slots s) 0 s (λ j t l h p. (only-empty_slot d j t).long ∙ p) refl

  pub length-add_directory : (wanted : List ℕ) → length wanted ≤ 24 → length (add_directory s wanted).area ≡ length s
  unfolding add_directory
  length-add_directory wanted small = by (find_name s directories [])
    where
      by : (f : Option ℕ) → length (add_at s wanted f).area ≡ length s
      by (Some d) = (only-put_name s directories d wanted small).long
      by None = refl

  pub length-make_file : (d n : ℕ) → length (make_file s d n).area ≡ length s
  unfolding make_file
  length-make_file d n = by (find_in s d n)
    where
      new : (f : Option ℕ) → length (make_new s d n f).area ≡ length s
      new (Some i) = length-put_entry s i _
      new None = refl

      by : (f : Option ℕ) → length (make_unless s d n f).area ≡ length s
      by (Some i) = refl
      by None = new (free_slot s)

-- ---- what the searches find

module _ (s : List ℕ) where
  pub directory-low : (w : List ℕ) (d : ℕ) → find_name s directories w ≡ Some d → d < 8
  directory-low w d e = name-low s directories w d e

  pub find-low : (d n i : ℕ) → find_in s d n ≡ Some i → i < slots s
  unfolding find_in
  find-low d n i e = omega (arith, (first-hits (is_file s d n) (slots s) 0 i e).high)

  pub found-is : (d n i : ℕ) → find_in s d n ≡ Some i → (owner s i ≡ d + 1) × (number s i ≡ n)
  unfolding find_in
  found-is d n i e =
      let h = (first-hits (is_file s d n) (slots s) 0 i e).holds in
      (eqb-true _ _ (and_l _ _ h), eqb-true _ _ (and_r (eqb (owner s i) (d + 1)) _ h))

  pub free-low : (i : ℕ) → free_slot s ≡ Some i → i < slots s
  unfolding free_slot
  free-low i e = omega (arith, (first-hits (is_free s) (slots s) 0 i e).high)

  pub free-is : (i : ℕ) → free_slot s ≡ Some i → owner s i ≡ 0
  unfolding free_slot
  free-is i e = eqb-true _ _ (first-hits (is_free s) (slots s) 0 i e).holds
