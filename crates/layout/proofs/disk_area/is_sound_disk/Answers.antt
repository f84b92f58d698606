-- A head that fits gives what the other two tests require. Assumes nothing.
use Rattle.std.proofs.Common.{sym, ◌∙◌, arith}
use Rattle.layout.specs.DiskLaws.{head→}
use Rattle.layout.proofs.disk_area.is_sound_disk.Goals as goal

pub names_fit-requires : goal.names_fit-requires
names_fit-requires c =
    let head = head→ c.args.disk.now (sym c.head_fits.ensures ∙ c.if-not-head_fits.false) in
    omega arith

pub invariant_of-entries_fit : goal.invariant_of-entries_fit
invariant_of-entries_fit c =
    record { head = head→ c.args.disk.now (sym c.head_fits.ensures ∙ c.if-not-head_fits.false) }
