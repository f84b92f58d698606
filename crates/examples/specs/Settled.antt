-- Readings of document 01 that its nine examples do not show, as the definitions compute them: one table, proved by the one theorem `settled`.
-- Assumes nothing.
use Rattle.std.specs.Prelude.{◌≡◌, refl, Bool, true, false, List, [], ◌∷◌, ℕ, eqb, None}
use Rattle.octets.specs.Bytes.{put}
use Rattle.ring_buffer.specs.Ring.{nth, nths, from_cache, ring_at, first_part, second_part, around, ring, pushed, popped, truncated, prepared}
use Rattle.ring_buffer.specs.Put.{after_put, bytes_after_put}
use Rattle.components.specs.Pieces.{file_of, piece, pieces_from, pieces}
use Rattle.components.specs.FileBytes.{written}
use Rattle.components.specs.Files.{File, Files, gone, write_byte, write, mark_below, ripe_below, remove, clear_from, track}
use Rattle.components.specs.Epochs.{least, oldest_other}
use Rattle.components.specs.Slots.{Staged, lacking_from, covered, lacking, no_slot}
use Rattle.components.specs.Bounds.{shifted_start, cut_start}
use Rattle.examples.specs.Examples.{ten, commit, filled, filled_bytes, staged, staged_bytes}

abbrev file : Bool → List ℕ → File
file tracked bytes = record { there = true; tracked = tracked; mark = None; bytes = bytes }

-- files 0 to 2
abbrev three : Files → List File
three f = f 0 ∷ f 1 ∷ f 2 ∷ []

-- ten bytes, shifted to 8, cut to 2, and `x` put
abbrev again : Files
again = write 4 (clear_from (file_of 4 2) (commit 8 1 [] ten)) 2 (0x78 ∷ [])

-- a tape of file size 4 with staged bytes
abbrev of4 : ℕ → ℕ → ℕ → Staged
of4 tape base end = record { tape = tape; size = 4; base = base; end = end }

pub record Settled : Type 0 where
  -- a run of bytes in its pieces: `hello` at 6 in files of 4
  in_pieces : pieces 4 6 5 ≡ piece 1 2 2 ∷ piece 2 0 3 ∷ []
  -- a mark is set once and never renewed: a reader of the next epoch holds nothing back
  not-renewed : three (commit 8 2 (2 ∷ []) (commit 8 1 (1 ∷ []) ten)) ≡ gone ∷ gone ∷ ten 2 ∷ []
  -- a removed number is made again behind a hole of zeros; a higher file is untracked and keeps its bytes
  made_again : three again ≡ file true (0 ∷ 0 ∷ 0x78 ∷ []) ∷ gone ∷ file false (0x38 ∷ 0x39 ∷ []) ∷ []
  -- they return when its number is reached: six bytes more, the last of them `y`
  returned : three (write 4 again 3 (0x61 ∷ 0x62 ∷ 0x63 ∷ 0x64 ∷ 0x65 ∷ 0x79 ∷ []))
      ≡ file true (0 ∷ 0 ∷ 0x78 ∷ 0x61 ∷ []) ∷ file true (0x62 ∷ 0x63 ∷ 0x64 ∷ 0x65 ∷ []) ∷ file true (0x79 ∷ 0x39 ∷ []) ∷ []
  -- a hole in the middle of a file that is too short
  too_short : written (0x30 ∷ 0x31 ∷ []) 4 (0x78 ∷ []) ≡ 0x30 ∷ 0x31 ∷ 0 ∷ 0 ∷ 0x78 ∷ []
  -- opening at len 8 tracks the file that holds no byte below it too; at len 7 it does not
  boundary : three (track (file_of 4 8) ten) ≡ three ten
  below-it : three (track (file_of 4 7) ten) ≡ ten 0 ∷ ten 1 ∷ file false (0x38 ∷ 0x39 ∷ []) ∷ []
  -- 15 with 8 slots, 7 files on the disk: two tapes that lack one file each; one that lacks one beside one that lacks none
  two-lack : no_slot 7 (λ tape k. false) (of4 0 0 4 ∷ of4 1 3 4 ∷ []) 8 ≡ true
  one-lacks : no_slot 7 (λ tape k. eqb tape 1) (of4 0 0 4 ∷ of4 1 3 9 ∷ []) 8 ≡ false
  -- the ring's two parts in tape order: `def` and `g`
  the_first_part : first_part staged staged_bytes ≡ 0x64 ∷ 0x65 ∷ 0x66 ∷ []
  second-part : second_part staged staged_bytes ≡ 0x67 ∷ []
  -- after a cut to 3 an old window still finds its bytes in the cache above the length
  shortened : truncated filled 3 ≡ ring 4 0 1 2
  old-window : nths (truncated filled 3) filled_bytes 0 4 ≡ 0x63 ∷ 0x64 ∷ 0x65 ∷ 0x66 ∷ []
  old-offset : from_cache (truncated filled 3) 5 ≡ true
  old-byte : ring_at (truncated filled 3) filled_bytes 5 ≡ 0x66
  -- a cut to 1 empties the cache and leaves its first index; the next write takes the tape's length
  emptied : truncated filled 1 ≡ ring 4 0 0 2
  begun : prepared (truncated filled 1) 1 ≡ ring 4 0 0 1
  -- all six bytes dropped, of which the cache holds four: the first index goes back to 0
  all-dropped : popped filled 6 ≡ ring 4 0 0 0
  -- a shift never goes back; a cut below the start takes the start along
  shift_back : shifted_start 8 3 ≡ 8
  the_cut_below : cut_start 8 4 ≡ 4
  cut-above : cut_start 3 4 ≡ 3

pub settled : Settled
unfolding pieces pieces_from written put write_byte write mark_below ripe_below remove clear_from track least oldest_other no_slot lacking lacking_from covered nth nths first_part second_part around pushed popped truncated prepared after_put bytes_after_put
settled =
    record {
      in_pieces = refl;
      not-renewed = refl;
      made_again = refl;
      returned = refl;
      too_short = refl;
      boundary = refl;
      below-it = refl;
      two-lack = refl;
      one-lacks = refl;
      the_first_part = refl;
      second-part = refl;
      shortened = refl;
      old-window = refl;
      old-offset = refl;
      old-byte = refl;
      emptied = refl;
      begun = refl;
      all-dropped = refl;
      shift_back = refl;
      the_cut_below = refl;
      cut-above = refl;
    }
