-- `metadata::choice::list_of`: fewer than 48 bytes are no record, else the list's bytes are all from 48 on. Assumes nothing.
use Rattle.std.proofs.Common.{◌≡◌, sym, ap, ◌∙◌, List, ℕ, ◌-◌, arith, length, take, drop, length-drop, take_all}
use Rattle.metadata.specs.Struct.{decoded_of}
use Rattle.metadata.specs.Decoding.{decode_list}
use Rattle.metadata.specs.RecordLaws.{some-list}
use Rattle.metadata.proofs.choice.list_of.Goals as goal

pub returns : goal.returns
returns c =
    let bytes = c.args.«record».now in
    let all : take (length bytes - 48) (drop 48 bytes) ≡ drop 48 bytes = take_all (length bytes - 48) (drop 48 bytes) (simp length-drop (omega arith)) in
    c.decode_list.ensures
    ∙ ap (λ (l : List ℕ). decoded_of (decode_list l)) all
    ∙ sym (ap decoded_of (some-list bytes (omega arith)))
