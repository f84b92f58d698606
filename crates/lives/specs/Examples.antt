-- Lives of a tape, by computation: reopening, a start that was cut back, dropped creations, what is told of an old window after a cut, another file size.
-- Assumes nothing.
use Rattle.std.specs.Prelude.{◌≡◌, refl, true, List, [], ◌∷◌, ◌++◌, ℕ, replicate, Some}
use Rattle.octets.specs.Bytes as B
use Rattle.ring_buffer.specs.Ring.{nth, nths, around, pushed, popped, truncated, prepared}
use Rattle.ring_buffer.specs.Put.{after_put, bytes_after_put, unwritten_of, sent, unwritten_after}
use Rattle.components.specs.FileBytes.{written}
use Rattle.components.specs.Files.{byte_at, write_byte, write, mark_below, ripe_below, remove, clear_from, track}
use Rattle.components.specs.Epochs.{older, least, oldest_other}
use Rattle.held.specs.Held.{flush, put_held, settled, taken_back, trimmed, byte_in, fetch, forget, taken, on_disk_at, load, filled}
use Rattle.lives.specs.Life.{Store, TapeCall, Answer, Bytes, Refused, restart, reader, append, truncate, open', put, shift, cut, read, commit, drop', find, without, view, step, blank}
use Rattle.lives.specs.Told.{Told, told, page_in, page, nothing, closed}

unfoldable run : List TapeCall → Store → Store
run [] s = s
run (c ∷ cs) s = run cs (step c s).store

unfoldable telling : List TapeCall → Store → Told → Told
telling [] s t = t
telling (c ∷ cs) s t = telling cs (step c s).store (told t c (step c s).answer)

-- the append k opens it: file size 4
abbrev opens : (k capacity start : ℕ) → TapeCall
opens k capacity start = open' k 4 capacity start (replicate 16 0)

-- a tape made: file size 4, cache 16, ten bytes, files 0 to 2, epoch 1
abbrev P : List TapeCall
P = append ∷ opens 1 16 0 ∷ put 1 (0 ∷ 1 ∷ 2 ∷ 3 ∷ 4 ∷ 5 ∷ 6 ∷ 7 ∷ 8 ∷ 9 ∷ []) ∷ commit 1 ∷ []

-- .. then a shift to 8, a cut to 2, and x put
abbrev back : List TapeCall
back = P ++ (append ∷ shift 2 8 ∷ commit 2 ∷ truncate ∷ cut 3 2 ∷ commit 3 ∷ append ∷ put 4 (0x78 ∷ []) ∷ commit 4 ∷ [])

abbrev asks : List TapeCall → TapeCall → Answer
asks cs c = (step c (run cs blank)).answer

abbrev file : ℕ → List TapeCall → List ℕ
file n cs = ((run cs blank).held.files n).bytes

abbrev tells : List TapeCall → Told
tells cs = telling cs blank nothing

record Lives : Type 0 where
  -- the session ends, the tape is opened again with a cache of 3: a window begun before the opening reads across files and cache
  again : asks (P ++ (restart ∷ reader ∷ append ∷ opens 2 3 0 ∷ [])) (read 1 2 8) ≡ Bytes (2 ∷ 3 ∷ 4 ∷ 5 ∷ 6 ∷ 7 ∷ 8 ∷ 9 ∷ [])
  -- no handle before that
  shut : asks (P ++ (restart ∷ reader ∷ [])) (read 1 2 8) ≡ Refused 2 0
  -- with another file size it isn't served
  other : asks (P ++ (restart ∷ append ∷ [])) (open' 1 8 16 0 (replicate 16 0)) ≡ Refused 8 0
  -- files 0 and 1 go at the shift's commit; after the cut file 0 is made again with its hole, and 2 stays on the disk (`b23-numbers-come-back` of the cases)
  hole : file 0 back ≡ 0 ∷ 0 ∷ 0x78 ∷ []
  stay : file 2 back ≡ 8 ∷ 9 ∷ []
  -- a dropped creation loses its handle, a known tape opened in a dropped append keeps it
  lost : asks (append ∷ opens 1 16 6 ∷ put 1 (5 ∷ []) ∷ drop' 1 ∷ append ∷ []) (put 2 (5 ∷ [])) ≡ Refused 2 0
  kept : asks (P ++ (restart ∷ append ∷ opens 1 16 0 ∷ drop' 1 ∷ append ∷ [])) (opens 2 16 0) ≡ Refused 9 0
  -- what is told: the window's page stands after a cut to 4, and the new window sees the cut
  old : page 2 (tells (P ++ (reader ∷ truncate ∷ cut 3 4 ∷ commit 3 ∷ reader ∷ []))) ≡ Some (record { here = true; start = 0; content = 0 ∷ 1 ∷ 2 ∷ 3 ∷ 4 ∷ 5 ∷ 6 ∷ 7 ∷ 8 ∷ 9 ∷ [] })
  new : page 4 (tells (P ++ (reader ∷ truncate ∷ cut 3 4 ∷ commit 3 ∷ reader ∷ []))) ≡ Some (record { here = true; start = 0; content = 0 ∷ 1 ∷ 2 ∷ 3 ∷ [] })
  -- an append waits for the window that is longer than the tape
  waits : asks (P ++ (reader ∷ truncate ∷ cut 3 4 ∷ commit 3 ∷ reader ∷ [])) append ≡ Refused 4 1
  -- a second commit is published too; a dropped append leaves nothing behind; a removal heeds the oldest window
  second : asks (P ++ (append ∷ put 2 (0x78 ∷ []) ∷ commit 2 ∷ reader ∷ [])) (read 3 9 2) ≡ Bytes (9 ∷ 0x78 ∷ [])
  dropped : asks (P ++ (append ∷ put 2 (0x78 ∷ []) ∷ drop' 2 ∷ append ∷ put 3 (0x79 ∷ []) ∷ [])) (read 3 9 2) ≡ Bytes (9 ∷ 0x79 ∷ [])
  heeded : asks (append ∷ opens 1 2 0 ∷ put 1 (0 ∷ 1 ∷ 2 ∷ 3 ∷ 4 ∷ 5 ∷ []) ∷ commit 1 ∷ reader ∷ append ∷ shift 3 5 ∷ commit 3 ∷ []) (read 2 0 6) ≡ Bytes (0 ∷ 1 ∷ 2 ∷ 3 ∷ 4 ∷ 5 ∷ [])
  -- a reader begun before the creation never sees the tape
  absent : asks (reader ∷ append ∷ opens 2 16 0 ∷ put 2 (5 ∷ []) ∷ commit 2 ∷ []) (read 1 0 1) ≡ Refused 11 0

lives : Lives
unfolding run telling step blank nothing page_in closed find without view older least oldest_other flush put_held settled taken_back trimmed byte_in fetch forget taken on_disk_at load filled byte_at write_byte write mark_below ripe_below remove clear_from track written B.put nth nths around pushed popped truncated prepared after_put bytes_after_put unwritten_of sent unwritten_after
lives =
    record { again = refl; shut = refl; other = refl; hole = refl; stay = refl; lost = refl; kept = refl; old = refl; new = refl; waits = refl; second = refl; dropped = refl; heeded = refl; absent = refl }
