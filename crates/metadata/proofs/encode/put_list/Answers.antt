use Rattle.std.proofs.Common.{◌≡◌, refl, sym, ap, ◌∙◌, List, ℕ, ◌+◌, ◌≤◌, arith, rules, length, get_or, take}
use Rattle.octets.specs.Bytes.{put, length-put}
use Rattle.borsh.specs.Encoding.{u32}
use Rattle.metadata.specs.Tapes.{Tape, encode_list}
use Rattle.metadata.specs.Rules.{tape}
use Rattle.metadata.specs.Struct.{meaning, tapes_of}
use Rattle.metadata.specs.StructLaws.{storable-count}
use Rattle.metadata.proofs.Turns.{none, short-name, firsts, firsts-none, shown-length, length-all, length_more, length_most, tape-letters, put_first, put-more, put_all}
use Rattle.metadata.proofs.encode.put_list.Goals as goal

pub overflow_cast-list : goal.overflow_cast-list
overflow_cast-list c =
    let few = storable-count c.args.list c.requires.0 in
    omega arith

pub u32-requires : goal.u32-requires
u32-requires c =
    let long : length c.args.list.tapes ≡ 8 = search rules in
    let size = length-all c.args.list c.requires.0 long in
    let room = ap length c.new-w.ensures.bytes in
    omega (arith, c.new-w.ensures.place)

pub shared_ref_as_front-t-items : goal.shared_ref_as_front-t-items
shared_ref_as_front-t-items c = storable-count c.args.list c.requires.0

pub loop-t-init : goal.loop-t-init
loop-t-init c =
    let ts = take c.args.list.count c.args.list.tapes in (
      refl,
      record {
        place = c.u32.ensures.place ∙ ap (λ (n : ℕ). n + 4) c.new-w.ensures.place ∙ sym (ap (λ (b : List ℕ). 4 + length b) (firsts-none ts));
        bytes = put_first c.u32.new.self.out.now ts;
      },
    )

pub view-requires : goal.view-requires
view-requires c =
    let long : length c.args.list.tapes ≡ 8 = search rules in
    let shown = shown-length c.args.list c.requires.0 long in
    tape-letters c.args.list c.requires.0 long c.loop-t.t-index none (omega arith)

pub put_tape-requires : goal.put_tape-requires
put_tape-requires c =
    let long : length c.args.list.tapes ≡ 8 = search rules in
    let shown = shown-length c.args.list c.requires.0 long in
    let room : length c.u32.new.self.out.now ≡ length c.args.out.now = ap length c.u32.ensures.bytes ∙ length-put _ _ _ ∙ ap length c.new-w.ensures.bytes in
    let same : length c.loop-t.w.out.now ≡ length c.u32.new.self.out.now = ap length c.loop-t.invariant.1.bytes ∙ length-put _ _ _ in
    let more = length_more c.args.list c.requires.0 long c.loop-t.t-index none (omega arith) in
    let most = length_most c.args.list c.requires.0 long c.loop-t.t-index none (omega arith) in
    let place = c.loop-t.invariant.1.place in
    let t = get_or (take c.args.list.count c.args.list.tapes) c.loop-t.t-index none in
    let short = short-name t (tape-letters c.args.list c.requires.0 long c.loop-t.t-index none (omega arith)) in
    let viewed : tape c.view.result.name.now c.view.result.len c.view.result.start ≡ meaning t = c.view.ensures in
    (omega (arith, ap (λ (u : Tape). length u.name) viewed), rw viewed (omega arith))

pub loop-t-preserved : goal.loop-t-preserved
loop-t-preserved c =
    let long : length c.args.list.tapes ≡ 8 = search rules in
    let shown = shown-length c.args.list c.requires.0 long in
    let ts = take c.args.list.count c.args.list.tapes in
    let more = length_more c.args.list c.requires.0 long c.loop-t.t-index none (omega arith) in
    let place = c.loop-t.invariant.1.place in (
      c.put_tape.ensures.lent ∙ c.loop-t.invariant.0,
      record {
        place = omega (arith, rw c.view.ensures at c.put_tape.ensures.place);
        bytes = put-more ts c.loop-t.t-index none _ _ _ c.loop-t.w.at (omega arith) place c.loop-t.invariant.1.bytes (rw c.view.ensures at c.put_tape.ensures.bytes);
      },
    )

pub returns : goal.returns
returns c =
    let long : length c.args.list.tapes ≡ 8 = search rules in
    let shown = shown-length c.args.list c.requires.0 long in
    let ts = take c.args.list.count c.args.list.tapes in
    let end : c.loop-t.t-index ≡ c.args.list.count = omega arith in
    let start : c.u32.new.self.out.now ≡ put c.args.out.now 0 (u32 c.args.list.count) = rw (← c.new-w.ensures.bytes, ← c.new-w.ensures.place) c.u32.ensures.bytes in
    let room : c.args.list.count ≤ length c.args.list.tapes = omega (arith, storable-count c.args.list c.requires.0) in
    let all : c.loop-t.w.out.now ≡ put c.args.out.now 0 (encode_list (tapes_of c.args.list))
    = put_all c.args.list c.args.out.now c.u32.new.self.out.now c.loop-t.w.out.now room start (c.loop-t.invariant.1.bytes ∙ ap (λ (i : ℕ). put c.u32.new.self.out.now 4 (firsts ts i)) end) in
    grind (arith, all)
