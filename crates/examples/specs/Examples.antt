-- Document 01, "Nine checked examples": one table of the definitions, proved by the one theorem `examples`. Where an example runs through several
-- calls, its row composes the definitions that those calls are built from. Assumes nothing.
use Rattle.std.specs.Prelude.{◌≡◌, refl, Bool, true, false, cond, List, [], ◌∷◌, ℕ, length, replicate, Option, Some}
use Rattle.octets.specs.Bytes.{put}
use Rattle.octets.specs.Number.{le}
use Rattle.borsh.specs.Encoding.{vec, each, sorted_map}
use Rattle.metadata.specs.Tapes.{Tape, encode_tape, encode_list}
use Rattle.metadata.specs.Record.{encode_record}
use Rattle.metadata.specs.RecordLaws.{length-record}
use Rattle.ring_buffer.specs.declared.bookkeeping.RingBuffer.{RingBuffer}
use Rattle.ring_buffer.specs.Ring.{nth, nths, held, from_cache, ring_at, around, fresh, pushed, popped, prepared}
use Rattle.ring_buffer.specs.Put.{after_put, bytes_after_put, unwritten_of, sent, unwritten_after}
use Rattle.components.specs.Pieces.{file_of}
use Rattle.components.specs.FileBytes.{written}
use Rattle.components.specs.Files.{Files, no_files, byte_at, write_byte, write, mark_below, ripe_below, remove}
use Rattle.components.specs.Epochs.{older, least, oldest_other}
use Rattle.components.specs.Bounds.{in_bounds, shifted_start}

-- ---- 2: tape `a`, len 11, start 6

abbrev a : List Tape
a = record { name = 0x61 ∷ []; len = 11; start = 6 } ∷ []

-- ---- 3: `hello` in files of 4 bytes, from index 6 on

abbrev hello : Files
hello = write 4 no_files 6 (0x68 ∷ 0x65 ∷ 0x6C ∷ 0x6C ∷ 0x6F ∷ [])

-- ---- 4 and 5: a cache of 4 bytes; files of 4 bytes below it

abbrev abcdef : List ℕ
abcdef = 0x61 ∷ 0x62 ∷ 0x63 ∷ 0x64 ∷ 0x65 ∷ 0x66 ∷ []

-- `abcdef` put at 0, which fills the cache
abbrev pub filled : RingBuffer
filled = after_put (fresh 4 0) 0 abcdef

abbrev pub filled_bytes : List ℕ
filled_bytes = bytes_after_put (fresh 4 0) (replicate 4 0) abcdef

abbrev files : Files
files = write 4 no_files 0 (sent (fresh 4 0) (replicate 4 0) 0 abcdef)

-- the commit finds nothing unwritten; then `g` is put at 6, and dropped
abbrev pub staged : RingBuffer
staged = after_put filled 6 (0x67 ∷ [])

abbrev pub staged_bytes : List ℕ
staged_bytes = bytes_after_put filled filled_bytes (0x67 ∷ [])

abbrev dropped : RingBuffer
dropped = popped staged 1

-- a byte read through the cache
abbrev byte : ℕ → Option ℕ
byte o = cond (from_cache dropped o) (Some (ring_at dropped staged_bytes o)) (byte_at 4 files o)

-- ---- 6 and 7: ten bytes in the files 0 to 2, at epoch 1

abbrev pub ten : Files
ten = write 4 no_files 0 (0x30 ∷ 0x31 ∷ 0x32 ∷ 0x33 ∷ 0x34 ∷ 0x35 ∷ 0x36 ∷ 0x37 ∷ 0x38 ∷ 0x39 ∷ [])

-- what an append commit leaves: the new start, the epoch at which it began, and those of the other transactions
abbrev pub commit : ℕ → ℕ → List ℕ → Files → Files
commit start began others f = remove (oldest_other began others) (mark_below (file_of 4 start) began f)

-- which of the files 0, 1 and 2 are there
abbrev there : Files → List Bool
there f = (f 0).there ∷ (f 1).there ∷ (f 2).there ∷ []

pub record Examples : Type 0 where
  -- 1: the empty list, and its record of 52 bytes
  one : encode_list [] ≡ 0x00 ∷ 0x00 ∷ 0x00 ∷ 0x00 ∷ []
  one-record : (epoch : ℕ) → length (encode_record epoch (encode_list [])) ≡ 52
  -- 2: one tape, 25 bytes, and its record of 73
  two : encode_list a
      ≡ 0x01 ∷ 0x00 ∷ 0x00 ∷ 0x00 ∷ 0x01 ∷ 0x00 ∷ 0x00 ∷ 0x00 ∷ 0x61
      ∷ 0x0B ∷ 0x00 ∷ 0x00 ∷ 0x00 ∷ 0x00 ∷ 0x00 ∷ 0x00 ∷ 0x00
      ∷ 0x06 ∷ 0x00 ∷ 0x00 ∷ 0x00 ∷ 0x00 ∷ 0x00 ∷ 0x00 ∷ 0x00
      ∷ []
  two-length : length (encode_list a) ≡ 25
  two-record : (epoch : ℕ) → length (encode_record epoch (encode_list a)) ≡ 73
  -- 3: file 1 is `00 00 68 65`, file 2 `6C 6C 6F`; there is no file 0
  three : (hello 1).bytes ≡ 0x00 ∷ 0x00 ∷ 0x68 ∷ 0x65 ∷ []
  three-2 : (hello 2).bytes ≡ 0x6C ∷ 0x6C ∷ 0x6F ∷ []
  three-there : there hello ≡ false ∷ true ∷ true ∷ []
  -- 4: the cache is `cdef`, first index 2
  four : held filled filled_bytes ≡ 0x63 ∷ 0x64 ∷ 0x65 ∷ 0x66 ∷ []
  four-first : filled.first ≡ 2
  four-sent : sent (fresh 4 0) (replicate 4 0) 0 abcdef ≡ abcdef
  four-unwritten : unwritten_after (fresh 4 0) 0 6 ≡ 0
  -- 5: `g` staged: `defg`, index 3; dropped: `def`, index 3; 2 bytes at 2 are `cd`
  five : held staged staged_bytes ≡ 0x64 ∷ 0x65 ∷ 0x66 ∷ 0x67 ∷ []
  five-first : staged.first ≡ 3
  five-sent : sent filled filled_bytes 0 (0x67 ∷ []) ≡ []
  five-unwritten : unwritten_after filled 0 1 ≡ 1
  five-dropped : held dropped staged_bytes ≡ 0x64 ∷ 0x65 ∷ 0x66 ∷ []
  five-dropped-first : dropped.first ≡ 3
  five-read : byte 2 ∷ byte 3 ∷ [] ≡ Some 0x63 ∷ Some 0x64 ∷ []
  -- 6: shift to 8 beside a reader of epoch 1: nothing is removed; the next touching commit, with nobody else, removes 0 and 1
  six : there (commit (shifted_start 0 8) 1 (1 ∷ []) ten) ≡ true ∷ true ∷ true ∷ []
  six-closed : there (commit 8 2 [] (commit (shifted_start 0 8) 1 (1 ∷ []) ten)) ≡ false ∷ false ∷ true ∷ []
  -- 7: the same without a reader, shift to 7: file 0 goes at once
  seven : there (commit (shifted_start 0 7) 1 [] ten) ≡ false ∷ true ∷ true ∷ []
  -- 8: readers at epochs 2 and 3, epoch 3: an append waits for 1
  eight : older 3 (2 ∷ 3 ∷ []) ≡ 1
  -- 9: len 10: 0 bytes at 10 are in bounds, 1 byte at 10 is not
  nine : in_bounds 1 0 10 10 0 ≡ true
  nine-past : in_bounds 1 0 10 10 1 ≡ false

pub examples : Examples
unfolding encode_list sorted_map each encode_tape vec le written put byte_at write_byte write mark_below ripe_below remove least oldest_other older in_bounds nth nths around pushed popped prepared after_put bytes_after_put unwritten_of sent unwritten_after
examples =
    record {
      one = refl;
      one-record = λ epoch. length-record epoch (encode_list []);
      two = refl;
      two-length = refl;
      two-record = λ epoch. length-record epoch (encode_list a);
      three = refl;
      three-2 = refl;
      three-there = refl;
      four = refl;
      four-first = refl;
      four-sent = refl;
      four-unwritten = refl;
      five = refl;
      five-first = refl;
      five-sent = refl;
      five-unwritten = refl;
      five-dropped = refl;
      five-dropped-first = refl;
      five-read = refl;
      six = refl;
      six-closed = refl;
      seven = refl;
      eight = refl;
      nine = refl;
      nine-past = refl;
    }
