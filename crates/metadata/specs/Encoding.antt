-- What a request to write answers, and what the caller's buffer then holds. Assumes nothing.
use Rattle.std.specs.Prelude.{cond, Result, Ok, Err, List, ℕ, leb, length}
use Rattle.octets.specs.Bytes.{put}
use Rattle.metadata.specs.declared.list.TapeList.{TapeList}
use Rattle.metadata.specs.declared.encode.EncodeError.{EncodeError}
use Rattle.metadata.specs.declared.encode.EncodeError.TheVariants.{NotStorable, NoRoom}
use Rattle.metadata.specs.Tapes.{encode_list}
use Rattle.metadata.specs.Struct.{storable, tapes_of}

-- an answer, and every byte of the buffer after it
pub record After : Type 0 where
  pub answer : Result ℕ EncodeError
  pub bytes : List ℕ

abbrev pub after : Result ℕ EncodeError → List ℕ → After
after a b = record { answer = a; bytes = b }

-- bytes that go to the front of a buffer, if the list may be stored and they fit
unfoldable pub writes : TapeList → List ℕ → List ℕ → After
writes list bytes out =
    cond (storable list)
    (cond (leb (length bytes) (length out)) (after (Ok (length bytes)) (put out 0 bytes)) (after (Err NoRoom) out))
    (after (Err NotStorable) out)

abbrev pub writes_list : TapeList → List ℕ → After
writes_list list out = writes list (encode_list (tapes_of list)) out
