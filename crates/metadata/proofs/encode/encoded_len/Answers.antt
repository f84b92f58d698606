use Rattle.std.proofs.Common.{◌≡◌, sym, ap, ◌∙◌, List, ℕ, ◌+◌, arith, rules, length, get_or, take}
use Rattle.metadata.specs.Tapes.{Tape}
use Rattle.metadata.specs.Struct.{tapes_of}
use Rattle.metadata.specs.StructLaws.{storable-count, storable-good, length-encode_list}
use Rattle.metadata.proofs.Turns.{none, short-name, firsts, firsts-none, shown-length, length-all, length_more, length_most, tape-letters}
use Rattle.metadata.proofs.encode.encoded_len.Goals as goal

pub shared_ref_as_front-t-items : goal.shared_ref_as_front-t-items
shared_ref_as_front-t-items c = storable-count c.args.list c.requires

pub loop-t-init : goal.loop-t-init
loop-t-init c = sym (ap (λ (b : List ℕ). 4 + length b) (firsts-none (take c.args.list.count c.args.list.tapes)))

pub view-requires : goal.view-requires
view-requires c =
    let long : length c.args.list.tapes ≡ 8 = search rules in
    let shown = shown-length c.args.list c.requires long in
    tape-letters c.args.list c.requires long c.loop-t.t-index none (omega arith)

pub tape_len-n-requires : goal.tape_len-n-requires
tape_len-n-requires c =
    let long : length c.args.list.tapes ≡ 8 = search rules in
    let shown = shown-length c.args.list c.requires long in
    let short = short-name (get_or (take c.args.list.count c.args.list.tapes) c.loop-t.t-index none) (tape-letters c.args.list c.requires long c.loop-t.t-index none (omega arith)) in
    omega (arith, ap (λ (t : Tape). length t.name) c.view.ensures)

pub overflow_add-n : goal.overflow_add-n
overflow_add-n c =
    let long : length c.args.list.tapes ≡ 8 = search rules in
    let shown = shown-length c.args.list c.requires long in
    let more = length_more c.args.list c.requires long c.loop-t.t-index none (omega arith) in
    let most = length_most c.args.list c.requires long c.loop-t.t-index none (omega arith) in
    let least = length-encode_list (tapes_of c.args.list) (storable-good c.args.list c.requires) in
    omega (arith, rw c.view.ensures at c.tape_len-n.ensures)

pub loop-t-preserved : goal.loop-t-preserved
loop-t-preserved c =
    let long : length c.args.list.tapes ≡ 8 = search rules in
    let shown = shown-length c.args.list c.requires long in
    let more = length_more c.args.list c.requires long c.loop-t.t-index none (omega arith) in
    omega (arith, rw c.view.ensures at c.tape_len-n.ensures)

pub returns : goal.returns
returns c =
    let long : length c.args.list.tapes ≡ 8 = search rules in
    let shown = shown-length c.args.list c.requires long in
    let end : c.loop-t.t-index ≡ c.args.list.count = omega arith in
    c.loop-t.invariant ∙ ap (λ (i : ℕ). 4 + length (firsts (take c.args.list.count c.args.list.tapes) i)) end ∙ sym (length-all c.args.list c.requires long)
