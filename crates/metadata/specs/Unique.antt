-- The contract of each public function leaves one answer, and one content of the lent buffer. Assumes nothing.
use Rattle.std.specs.Prelude.{◌≡◌, Bool, Option, Result, List, ℕ}
use Rattle.std.proofs.Common.{sym, ◌∙◌}
use Rattle.metadata.specs.declared.choice.Side.{Side}
use Rattle.metadata.specs.declared.encode.EncodeError.{EncodeError}
use Rattle.metadata.specs.declared.list.TapeList.{TapeList}
use Rattle.metadata.specs.declared.record.Record.{Record}
use Rattle.metadata.specs.Name.{name_rule}
use Rattle.metadata.specs.Tapes.{encode_list}
use Rattle.metadata.specs.Struct.{tapes_of, storable, decoded_of}
use Rattle.metadata.specs.Decoding.{decode_list}
use Rattle.metadata.specs.Encoding.{after, writes_list}
use Rattle.metadata.specs.StructLaws.{writes-unique}
use Rattle.metadata.specs.Record.{encode_record, read_record, writes_record}
use Rattle.metadata.specs.Choice.{chosen, next_side, chosen_epoch, chosen_list}

-- what equals one value is one value
one : {A : Type 0} {a b c : A} → a ≡ c → b ≡ c → a ≡ b
one p q = p ∙ sym q

-- `is_name`
pub is-name-unique : (s : List ℕ) {r r' : Bool} → r ≡ name_rule s → r' ≡ name_rule s → r ≡ r'
is-name-unique s = one

-- `is_storable`
pub is-storable-unique : (l : TapeList) {r r' : Bool} → r ≡ storable l → r' ≡ storable l → r ≡ r'
is-storable-unique l = one

-- `encode_list`: the answer and the buffer
pub encode-list-unique : (l : TapeList) (out : List ℕ) {r r' : Result ℕ EncodeError} {x x' : List ℕ} → writes_list l out ≡ after r x → writes_list l out ≡ after r' x' → (r ≡ r') × (x ≡ x')
encode-list-unique l out = writes-unique l (encode_list (tapes_of l)) out

-- `decode_list`
pub decode-list-unique : (s : List ℕ) {r r' : Option TapeList} → r ≡ decoded_of (decode_list s) → r' ≡ decoded_of (decode_list s) → r ≡ r'
decode-list-unique s = one

-- `encode_record`: the answer and the buffer
pub encode-record-unique : (e : ℕ) (l : TapeList) (out : List ℕ) {r r' : Result ℕ EncodeError} {x x' : List ℕ} → writes_record e l out ≡ after r x → writes_record e l out ≡ after r' x' → (r ≡ r') × (x ≡ x')
encode-record-unique e l out = writes-unique l (encode_record e (encode_list (tapes_of l))) out

-- `read_record`
pub read-record-unique : (s : List ℕ) {r r' : Option Record} → r ≡ read_record s → r' ≡ read_record s → r ≡ r'
read-record-unique s = one

-- `pick`: the bytes that are handed on
pub pick-unique : (left right : List ℕ) {r r' : List ℕ} → r ≡ chosen left right → r' ≡ chosen left right → r ≡ r'
pick-unique left right = one

-- `next_side`
pub next-side-unique : (left right : List ℕ) {r r' : Side} → r ≡ next_side left right → r' ≡ next_side left right → r ≡ r'
next-side-unique left right = one

-- `epoch_of`
pub epoch-of-unique : (s : List ℕ) {r r' : ℕ} → r ≡ chosen_epoch s → r' ≡ chosen_epoch s → r ≡ r'
epoch-of-unique s = one

-- `list_of`
pub list-of-unique : (s : List ℕ) {r r' : Option TapeList} → r ≡ decoded_of (chosen_list s) → r' ≡ decoded_of (chosen_list s) → r ≡ r'
list-of-unique s = one
