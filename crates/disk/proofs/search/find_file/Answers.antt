use Rattle.std.proofs.Common.{◌≡◌, refl, sym, ap, ◌∙◌, arith}
use Rattle.octets.specs.First.{first-hit, first-miss, first-none}
use Rattle.layout.specs.Disk.{slots}
use Rattle.layout.specs.Names.{find_name}
use Rattle.disk.specs.Steps.{is_file, find_in, find_file, within}
use Rattle.disk.specs.Ways.{named}
use Rattle.disk.proofs.search.find_file.Goals as goal

pub loop-place-init : goal.loop-place-init
unfolding find_file find_name
loop-place-init c = (omega arith, refl)

pub loop-slot-init : goal.loop-slot-init
loop-slot-init c =
    let s = c.args.disk.now in
    let n : c.slot_count-count.result ≡ slots s = c.slot_count-count.ensures in
    let here = first-hit (named s c.args.name.now) 8 c.loop-place.place (omega arith) (sym c.has_name.ensures ∙ c.if-has_name.true) in
    let whole : find_in s c.loop-place.place c.args.number ≡ find_file s c.args.name.now c.args.number = ap (within s c.args.number) (sym here) ∙ c.loop-place.invariant.1 in
    (omega arith, rw n c.search_from-slot.ensures.1 ∙ whole)

pub loop-slot-preserved : goal.loop-slot-preserved
loop-slot-preserved c =
    let miss = sym c.is_file.ensures ∙ c.if-is_file.false in
    (omega arith, sym (first-miss (is_file c.args.disk.now c.loop-place.place c.args.number) c.slot_count-count.result c.loop-slot.slot c.loop-slot-test.true miss) ∙ c.loop-slot.invariant.1)

pub loop-place-preserved : goal.loop-place-preserved
loop-place-preserved c =
    let s = c.args.disk.now in
    let turn = first-miss (named s c.args.name.now) 8 c.loop-place.place (omega arith) (sym c.has_name.ensures ∙ c.if-has_name.false) in
    (omega arith, ap (within s c.args.number) (sym turn) ∙ c.loop-place.invariant.1)

pub returns-after-loop-place : goal.returns-after-loop-place
returns-after-loop-place c =
    let s = c.args.disk.now in
    ap (within s c.args.number) (sym (first-none (named s c.args.name.now) 8 c.loop-place.place (omega arith))) ∙ c.loop-place.invariant.1

pub returns-then-is_file : goal.returns-then-is_file
returns-then-is_file c =
    let hit = sym c.is_file.ensures ∙ c.if-is_file.true in
    sym (first-hit (is_file c.args.disk.now c.loop-place.place c.args.number) c.slot_count-count.result c.loop-slot.slot c.loop-slot-test.true hit) ∙ c.loop-slot.invariant.1

pub returns-after-loop-slot : goal.returns-after-loop-slot
returns-after-loop-slot c =
    sym (first-none (is_file c.args.disk.now c.loop-place.place c.args.number) c.slot_count-count.result c.loop-slot.slot c.loop-slot-test.false) ∙ c.loop-slot.invariant.1
