-- `metadata::record::encode_record`: each way out is a law of `writes`; the bytes that go into the record are the list's encoding. Assumes nothing.
use Rattle.std.proofs.Common.{Ok, ◌≡◌, sym, ap, ◌∙◌, List, ℕ, ◌+◌, arith, length, take, replicate, length-take-le}
use Rattle.octets.specs.Bytes.{put, length-put, part-put}
use Rattle.metadata.specs.Tapes.{encode_list}
use Rattle.metadata.specs.Struct.{tapes_of}
use Rattle.metadata.specs.Encoding.{after}
use Rattle.metadata.specs.Record.{encode_record}
use Rattle.metadata.specs.StructLaws.{length-encode_list, storable-good, writes_short, writes-served}
use Rattle.metadata.specs.RecordLaws.{length-record}
use Rattle.metadata.proofs.record.encode_record.Goals as goal

pub overflow_add-n : goal.overflow_add-n
overflow_add-n c =
    let ok = c.in_ok-n.ensures.0 in
    let size = c.in_ok-n.ensures.1 in
    let most = length-encode_list (tapes_of c.args.list) (storable-good c.args.list ok) in
    omega arith

pub returns-then-out-n : goal.returns-then-out-n
returns-then-out-n c =
    let ok = c.in_ok-n.ensures.0 in
    let size = c.in_ok-n.ensures.1 in
    let bytes = encode_list (tapes_of c.args.list) in
    let all = length-record c.args.epoch bytes in
    writes_short c.args.list (encode_record c.args.epoch bytes) c.args.out.now ok (omega arith)

pub put_list-requires : goal.put_list-requires
put_list-requires c =
    let ok = c.in_ok-n.ensures.0 in
    (ok, length-encode_list (tapes_of c.args.list) (storable-good c.args.list ok))

pub slice_bounds-bytes-end : goal.slice_bounds-bytes-end
slice_bounds-bytes-end c =
    let ok = c.in_ok-n.ensures.0 in
    let size = c.in_ok-n.ensures.1 in
    let most = length-encode_list (tapes_of c.args.list) (storable-good c.args.list ok) in
    let long : length c.put_list.new.out ≡ 356 = ap length c.put_list.ensures ∙ length-put _ _ _ in
    omega arith

pub slice_bounds-contents-end : goal.slice_bounds-contents-end
slice_bounds-contents-end c =
    let most = length-encode_list (tapes_of c.args.list) (storable-good c.args.list c.in_ok-n.ensures.0) in
    let long : length c.put_list.new.out ≡ 356 = ap length c.put_list.ensures ∙ length-put _ _ _ in
    let size = c.in_ok-n.ensures.1 in
    sym (length-take-le c.in_ok-n.n c.put_list.new.out (omega arith))

pub returns : goal.returns
returns c =
    let ok = c.in_ok-n.ensures.0 in
    let size = c.in_ok-n.ensures.1 in
    let most = length-encode_list (tapes_of c.args.list) (storable-good c.args.list ok) in
    let bytes = encode_list (tapes_of c.args.list) in
    let all = length-record c.args.epoch bytes in
    let whole = encode_record c.args.epoch bytes in
    let count : length whole ≡ 48 + c.in_ok-n.n = omega arith in
    let part : take c.in_ok-n.n c.put_list.new.out ≡ bytes
    = ap (λ (n : ℕ). take n c.put_list.new.out) size ∙ ap (take (length bytes)) c.put_list.ensures ∙ part-put (replicate 356 0) 0 bytes (omega arith) in
    let written : c.put.new.out ≡ put c.args.out.now 0 whole
    = c.put.ensures ∙ ap (λ (l : List ℕ). put c.args.out.now 0 (encode_record c.args.epoch l)) part in
    writes-served c.args.list whole c.args.out.now ok (omega arith)
    ∙ ap (λ (n : ℕ). after (Ok n) (put c.args.out.now 0 whole)) count
    ∙ ap (λ (b : List ℕ). after (Ok (48 + c.in_ok-n.n)) b) (sym written)
