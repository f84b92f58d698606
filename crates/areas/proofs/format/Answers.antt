-- `format` does `format_step`: each way out is its law at the facts of the tests before it. Assumes nothing.
use Rattle.std.proofs.Common.{length, ℕ, ◌≤◌, ◌≡◌, sym, ap, ◌∙◌, List, arith}
use Rattle.layout.specs.Disk.{data_at}
use Rattle.disk.specs.Steps.{formatted}
use Rattle.session.specs.Begin.{ended}
use Rattle.areas.specs.Format.{outcome}
use Rattle.areas.specs.FormatLaws.{no-slots, many-slots, small-disk, small-session, format-done}
use Rattle.std.specs.Prelude.{Ok}
use Rattle.areas.proofs.format.Goals.{then-slots-lt1-via-then-slots-lt1, then-slots-lt1-via-else-slots-lt1+then-slots, then-disk-disk_bytes-via-then-disk-disk_bytes, then-disk-disk_bytes-via-else-disk-disk_bytes+then-session-lt-BYTES}
use Rattle.areas.proofs.format.Goals as goal

pub returns-then-slots-lt1 : goal.returns-then-slots-lt1
returns-then-slots-lt1 c =
    let none = no-slots c.args.disk.now c.args.session.now c.args.slots in
    let many = many-slots c.args.disk.now c.args.session.now c.args.slots in
    elim c.then-slots-lt1.branch [
      | then-slots-lt1-via-then-slots-lt1 w ↦ none w.if-slots-lt1.true
      | then-slots-lt1-via-else-slots-lt1+then-slots w ↦ many w.if-slots.true
    ]

pub returns-then-disk-disk_bytes : goal.returns-then-disk-disk_bytes
returns-then-disk-disk_bytes c =
    let n : c.disk_bytes.result ≡ data_at c.args.slots = c.disk_bytes.ensures in
    let disk = small-disk c.args.disk.now c.args.session.now c.args.slots (omega arith) (omega arith) in
    let session = small-session c.args.disk.now c.args.session.now c.args.slots (omega arith) (omega arith) in
    elim c.then-disk-disk_bytes.branch [
      | then-disk-disk_bytes-via-then-disk-disk_bytes w ↦ disk (omega (arith, w.if-disk-disk_bytes.true))
      | then-disk-disk_bytes-via-else-disk-disk_bytes+then-session-lt-BYTES w ↦ session (omega (arith, w.if-disk-disk_bytes.false)) w.if-session-lt-BYTES.true
    ]

pub returns : goal.returns
returns c =
    let d = c.args.disk.now in
    let s = c.args.session.now in
    let n : c.disk_bytes.result ≡ data_at c.args.slots = c.disk_bytes.ensures in
    let room : data_at c.args.slots ≤ length d = omega arith in
    let made : c.format.new.disk ≡ formatted d c.args.slots = c.format.ensures in
    let gone : c.end.new.session ≡ ended s = c.end.ensures in
    format-done d s c.args.slots (omega arith) (omega arith) room (omega arith)
    ∙ ap (λ (x : List ℕ). outcome (Ok tt) x (ended s)) (sym made)
    ∙ ap (λ (x : List ℕ). outcome (Ok tt) c.format.new.disk x) (sym gone)
