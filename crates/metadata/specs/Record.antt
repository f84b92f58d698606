-- Document 01, "The record": version u32 = 1, hash of 32 bytes, epoch u64, the tape list as u32 length and bytes. Assumes nothing.
use Rattle.std.specs.Prelude.{cond, Option, Some, None, List, [], ◌∷◌, ◌++◌, ℕ, take, drop}
use Rattle.octets.specs.Compare.{same_bytes}
use Rattle.blake2b.specs.Blake2b.{blake2b}
use Rattle.borsh.specs.Encoding.{u32, u64, array, vec}
use Rattle.borsh.specs.Taking.{Span, take_number, take_array, take_vec}
use Rattle.metadata.specs.declared.list.TapeList.{TapeList}
use Rattle.metadata.specs.declared.record.Record.{Record}
use Rattle.metadata.specs.Tapes.{encode_list}
use Rattle.metadata.specs.Struct.{tapes_of}
use Rattle.metadata.specs.Encoding.{After, writes}

-- "epoch" and "tapes"
abbrev pub EPOCH : List ℕ
EPOCH = 0x65 ∷ 0x70 ∷ 0x6f ∷ 0x63 ∷ 0x68 ∷ []

abbrev pub TAPES : List ℕ
TAPES = 0x74 ∷ 0x61 ∷ 0x70 ∷ 0x65 ∷ 0x73 ∷ []

-- "BLAKE2b of 32 bytes, no key, over `epoch`, the 8 epoch bytes, `tapes`, the list bytes (its length not hashed)"
unfoldable pub hash_of : ℕ → List ℕ → List ℕ
hash_of epoch list = blake2b 32 [] ((EPOCH ++ (u64 epoch ++ TAPES)) ++ list)

-- the struct StoredMetadata
unfoldable pub encode_record : ℕ → List ℕ → List ℕ
encode_record epoch list = u32 1 ++ (array (hash_of epoch list) ++ (u64 epoch ++ vec list))

abbrev pub writes_record : ℕ → TapeList → List ℕ → After
writes_record epoch list out = writes list (encode_record epoch (encode_list (tapes_of list))) out

-- ---- reading: "short data or a wrong hash counts as epoch 0 with an empty list; bytes after the record are ignored. The stored version is not
-- looked at."

abbrev pub record_of : ℕ → ℕ → Record
record_of epoch list_len = record { epoch = epoch; list_len = list_len }

abbrev pub with_list : List ℕ → ℕ → ℕ → Option Span → Option Record
with_list s hash epoch (Some b) =
    cond (same_bytes (take 32 (drop hash s)) (hash_of epoch (take b.len (drop b.start s)))) (Some (record_of epoch b.len)) None
with_list s hash epoch None = None

abbrev pub with_epoch : List ℕ → ℕ → Option (ℕ × ℕ) → Option Record
with_epoch s hash (Some n) = with_list s hash n.0 (take_vec s n.1)
with_epoch s hash None = None

abbrev pub with_hash : List ℕ → Option Span → Option Record
with_hash s (Some b) = with_epoch s b.start (take_number 8 s b.next)
with_hash s None = None

abbrev pub with_version : List ℕ → Option (ℕ × ℕ) → Option Record
with_version s (Some n) = with_hash s (take_array 32 s n.1)
with_version s None = None

unfoldable pub read_record : List ℕ → Option Record
read_record s = with_version s (take_number 4 s 0)
