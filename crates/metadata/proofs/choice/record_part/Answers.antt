-- `metadata::choice::record_part`: a record that was read ends inside its file. Assumes nothing.
use Rattle.std.proofs.Common.{sym, ◌∙◌, ◌+◌, arith, length-take-le}
use Rattle.metadata.specs.RecordLaws.{record-ends}
use Rattle.metadata.proofs.choice.record_part.Goals as goal

pub overflow_add-result : goal.overflow_add-result
overflow_add-result c =
    let ends = record-ends c.args.s.now (sym c.requires ∙ c.in-Some.is) in
    omega arith

pub slice_bounds-result-end : goal.slice_bounds-result-end
slice_bounds-result-end c =
    sym (length-take-le (48 + c.in-Some.r.list_len) c.args.s.now (record-ends c.args.s.now (sym c.requires ∙ c.in-Some.is)))
