use Rattle.std.proofs.Common.{sym, ◌∙◌, add-zero, zero-add, arith}
use native.Mathlib.Nat.{sub-zero}
use Rattle.rolling_tape.specs.Room.{on_disk}
use Rattle.rolling_tape.specs.RoomWays.{lacking-hit, lacking-miss, lacking-end}
use Rattle.rolling_tape.proofs.room.lacking_files.Goals as goal
use Rattle.rolling_tape.proofs.room.lacking_files.Goals.{then-not-has_file, else-not-has_file}

pub loop-done-init : goal.loop-done-init
loop-done-init c = record { within = omega arith; few = omega arith; rest = rw (zero-add, add-zero, sub-zero) }

pub returns-then-most-lacking : goal.returns-then-most-lacking
returns-then-most-lacking c =
    let whole = c.loop-done.invariant.rest in
    omega arith

pub loop-done-preserved : goal.loop-done-preserved
loop-done-preserved c =
    let whole = c.loop-done.invariant.rest in
    elim c.if-not-has_file.branch [
      | then-not-has_file w ↦
          let gone = sym c.has_file.ensures ∙ w.if-not-has_file.true in
          let turn = lacking-miss (on_disk c.args.disk.now c.args.place) c.args.first c.args.count c.loop-done.done (omega arith) gone in
          let now = w.lacking-is in
          record { within = omega arith; few = omega arith; rest = omega arith }
      | else-not-has_file w ↦
          let there = sym c.has_file.ensures ∙ w.if-not-has_file.false in
          let turn = lacking-hit (on_disk c.args.disk.now c.args.place) c.args.first c.args.count c.loop-done.done (omega arith) there in
          let now = w.lacking-is in
          record { within = omega arith; few = omega arith; rest = omega arith }
    ]

pub returns : goal.returns
returns c =
    let none = lacking-end (on_disk c.args.disk.now c.args.place) c.args.first c.args.count c.loop-done.done c.loop-done-test.false in
    let whole = c.loop-done.invariant.rest in
    let least = c.min.ensures in
    omega arith
