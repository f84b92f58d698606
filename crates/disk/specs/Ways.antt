-- The ways out of the disk's steps, each as the code takes it. Assumes nothing.
use Rattle.std.specs.Prelude.{◌≡◌, ◌≢◌, Bool, true, false, ℕ, ◌+◌, ◌≤◌, eqb, replicate, Some, None}
use Rattle.std.proofs.Math.Path.{ap}
use Rattle.std.proofs.Common.{◌∙◌, eq-eqb, ne_eqb}
use mathlib.Core.List.{List, [], ◌∷◌}
use native.Mathlib.Omega.{arith}
use Rattle.octets.specs.Bytes.{put}
use Rattle.octets.specs.Number.{put_num}
use Rattle.octets.specs.Words.{put_words-none, put_words-more}
use Rattle.octets.specs.Cases.{decide}
use Rattle.octets.specs.Compare.{same_bytes}
use Rattle.layout.specs.Names.{name, find_name, put_name}
use Rattle.layout.specs.Disk.{mark, directories, left_at, right_at, entry_at, owner, number, len, Sound}
use Rattle.metadata.specs.declared.choice.Side.{Side}
use Rattle.metadata.specs.declared.choice.Side.TheVariants.{Left, Right}
use Rattle.disk.specs.declared.files.Entry.{Entry}
use Rattle.disk.specs.Steps.{after, formatted, entry_of, put_entry, removed, is_file, find_in, free_slot, add_directory, empty_slot, make_file, side_at, side_len_at, side_len}

-- ---- searches

-- a directory place has a name
abbrev pub named : List ℕ → List ℕ → ℕ → Bool
named s tape i = same_bytes (name s directories i) tape

module _ (s : List ℕ) where
  pub not-number : (d n i : ℕ) → number s i ≢ n → is_file s d n i ≡ false
  not-number d n i h =
      decide (eqb (owner s i) (d + 1)) (λ (t : eqb (owner s i) (d + 1) ≡ true). rw (t, ne_eqb (number s i) n h)) (λ (f : eqb (owner s i) (d + 1) ≡ false). rw f)

  pub by-owner : (d n i : ℕ) → number s i ≡ n → is_file s d n i ≡ eqb (owner s i) (d + 1)
  by-owner d n i h =
      decide (eqb (owner s i) (d + 1)) (λ (t : eqb (owner s i) (d + 1) ≡ true). rw (t, eq-eqb (number s i) n h)) (λ (f : eqb (owner s i) (d + 1) ≡ false). rw f)

-- ---- steps

-- the words of an entry that was read
module _ (s : List ℕ) (i : ℕ) (e : Entry) (read : e ≡ entry_of s i) where
  pub entry-owner : e.owner ≡ owner s i
  unfolding entry_of
  entry-owner = ap (λ (x : Entry). x.owner) read

  pub entry-len : e.len ≡ len s i
  unfolding entry_of
  entry-len = ap (λ (x : Entry). x.len) read

module _ (s : List ℕ) where
  pub formatted-is : (n : ℕ) → formatted s n ≡ put_num 8 (put_num 8 (put s 0 (replicate 2848 0)) 0 mark) 8 n
  unfolding formatted
  formatted-is n =
      let zeros = put s 0 (replicate 2848 0) in
      put_words-more zeros 0 mark (n ∷ []) ∙ put_words-more (put_num 8 zeros 0 mark) 8 n [] ∙ put_words-none _ 16

  pub put_entry-is : (i : ℕ) (e : Entry)
      → put_entry s i e ≡ put_num 8 (put_num 8 (put_num 8 s (entry_at i) e.owner) (entry_at i + 8) e.number) (entry_at i + 16) e.len
  unfolding put_entry
  put_entry-is i e =
      let at = entry_at i in
      let t = put_num 8 s at e.owner in
      let u = put_num 8 t (at + 8) e.number in
      let next : at + 8 + 8 ≡ at + 16 = omega arith in
      put_words-more s at e.owner _
      ∙ put_words-more t (at + 8) e.number _
      ∙ put_words-more u (at + 8 + 8) e.len []
      ∙ put_words-none _ _
      ∙ ap (λ (p : ℕ). put_num 8 u p e.len) next

  module _ (d n : ℕ) where
    pub make-met : (i : ℕ) → find_in s d n ≡ Some i → make_file s d n ≡ after (Some i) s
    unfolding make_file
    make-met i e = rw e

    pub make-full : find_in s d n ≡ None → free_slot s ≡ None → make_file s d n ≡ after None s
    unfolding make_file
    make-full e f = rw (e, f)

    pub make-new : (i : ℕ) → find_in s d n ≡ None → free_slot s ≡ Some i
        → make_file s d n ≡ after (Some i) (put_entry s i (record { owner = d + 1; number = n; len = 0 }))
    unfolding make_file
    make-new i e f = rw (e, f)

  module _ (tape : List ℕ) where
    pub add-full : find_name s directories [] ≡ None → add_directory s tape ≡ after None s
    unfolding add_directory
    add-full e = rw e

    pub add-new : (d : ℕ) → find_name s directories [] ≡ Some d → add_directory s tape ≡ after (Some d) (put_name s directories d tape)
    unfolding add_directory
    add-new d e = rw e

  module _ (d i : ℕ) where
    pub slot-goes : owner s i ≡ d + 1 → empty_slot d i s ≡ removed s i
    unfolding empty_slot
    slot-goes h = rw (eq-eqb (owner s i) (d + 1) h)

    pub slot-stays : owner s i ≢ d + 1 → empty_slot d i s ≡ s
    unfolding empty_slot
    slot-stays h = rw (ne_eqb (owner s i) (d + 1) h)

-- ---- left and right

-- where a side and its length stand
pub side-place : (side : Side) → (side_at side ≤ right_at) × (side_len_at side ≤ 24)
side-place Left = (omega arith, omega arith)
side-place Right = (omega arith, omega arith)

pub side-from : (side : Side) → left_at ≤ side_at side
side-from Left = omega arith
side-from Right = omega arith

pub side-short : (s : List ℕ) → Sound s → (side : Side) → side_len s side ≤ 512
side-short s h Left = h.head.left
side-short s h Right = h.head.right
