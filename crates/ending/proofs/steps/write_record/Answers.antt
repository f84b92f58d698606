-- `write_record` leaves `recorded`: a list that may be stored has a record of at most 404 bytes, so the encoder always answers that it wrote it. Assumes nothing.
use Rattle.std.proofs.Common.{length, rules, ◌≡◌, sym, ap, ◌∙◌, true, List, ℕ, ◌+◌, ◌≤◌, arith, take, replicate, length-take-le}
use Rattle.octets.specs.Bytes.{put, length-put, part-put}
use Rattle.std.specs.Prelude.{Result, Ok}
use Rattle.metadata.specs.declared.encode.EncodeError.{EncodeError}
use Rattle.metadata.specs.declared.list.TapeList.{TapeList}
use Rattle.metadata.specs.Encoding.{after}
use Rattle.metadata.specs.Tapes.{encode_list}
use Rattle.metadata.specs.Struct.{tapes_of, storable}
use Rattle.metadata.specs.StructLaws.{writes-served, writes-unique}
use Rattle.metadata.specs.Record.{encode_record, writes_record}
use Rattle.metadata.specs.RecordLaws.{record-most}
use Rattle.session.specs.Rows.{head_of}
use Rattle.session.specs.declared.head.Head.{Head}
use Rattle.ending.specs.Steps.{recorded}
use Rattle.ending.proofs.steps.write_record.Goals as goal

module _ (epoch : ℕ) (list : TapeList) (ok : storable list ≡ true) (r : Result ℕ EncodeError) (x : List ℕ) (wrote : writes_record epoch list (replicate 404 0) ≡ after r x) where
  abbrev whole : List ℕ
  whole = encode_record epoch (encode_list (tapes_of list))

  most : length whole ≤ 404
  most = record-most epoch list ok

  served : (r ≡ Ok (length whole)) × (x ≡ put (replicate 404 0) 0 whole)
  served = writes-unique list whole (replicate 404 0) wrote (writes-served list whole (replicate 404 0) ok most)

  -- no other answer
  never : {P : Type 0} → ((n : ℕ) → r ≡ Ok n → ⊥) → P
  never k = absurd (k (length whole) served.0)

  long : length x ≡ 404
  long = ap length served.1 ∙ length-put _ _ _

  module _ (n : ℕ) (answer : r ≡ Ok n) where
    count : n ≡ length whole
    count = let e : ◌≡◌ {A = Result ℕ EncodeError} (Ok n) (Ok (length whole)) = sym answer ∙ served.0 in cc

    fits : n ≤ length x
    fits = omega (arith, count, most, long)

    written : take n x ≡ whole
    written = rw (count, served.1) (part-put (replicate 404 0) 0 whole (omega (arith, most)))

pub overflow_add-head : goal.overflow_add-head
overflow_add-head c =
    let e : c.get_head-head.result.epoch ≡ (head_of c.args.session.now).epoch = ap (λ (h : Head). h.epoch) c.get_head-head.ensures in
    omega arith

pub returns-in_default : goal.returns-in_default
returns-in_default c =
    never (c.get_head-head.result.epoch + 1) c.args.list c.requires.1.0 c.encode_record.result c.encode_record.new.out c.encode_record.ensures c.in_default.not-Ok

pub slice_bounds-record-end : goal.slice_bounds-record-end
slice_bounds-record-end c =
    fits (c.get_head-head.result.epoch + 1) c.args.list c.requires.1.0 c.encode_record.result c.encode_record.new.out c.encode_record.ensures c.in-Ok.n c.in-Ok.is

pub slice_bounds-write_side-end : goal.slice_bounds-write_side-end
slice_bounds-write_side-end c =
    let fit = fits (c.get_head-head.result.epoch + 1) c.args.list c.requires.1.0 c.encode_record.result c.encode_record.new.out c.encode_record.ensures c.in-Ok.n c.in-Ok.is in
    sym (length-take-le c.in-Ok.n c.encode_record.new.out fit)

pub write_side-requires : goal.write_side-requires
write_side-requires c =
    let e = c.get_head-head.result.epoch + 1 in
    let r = c.encode_record.result in
    let x = c.encode_record.new.out in
    let small = most e c.args.list c.requires.1.0 r x c.encode_record.ensures in
    (c.requires.0.0, rw (written e c.args.list c.requires.1.0 r x c.encode_record.ensures c.in-Ok.n c.in-Ok.is) (omega arith))

pub returns : goal.returns
unfolding recorded
returns c =
    let w = written (c.get_head-head.result.epoch + 1) c.args.list c.requires.1.0 c.encode_record.result c.encode_record.new.out c.encode_record.ensures c.in-Ok.n c.in-Ok.is in
    c.write_side.ensures ∙ rw w (search rules)
