use Rattle.std.proofs.Common.{◌≡◌, ℕ, sym, ◌∙◌, ◌&&◌, Bool, ◌+◌, ◌*◌, ◌-◌, ◌/◌, ◌≤◌, true, false, arith}
use Rattle.octets.specs.First.{all, all_split}
use Rattle.layout.specs.Disk.{entry_fits}
use Rattle.layout.specs.DiskLaws.{next-eight}
use Rattle.layout.proofs.disk_area.Table.entries_fit.Goals as goal

-- the eights that are left, and the slots behind them
left : (p : ℕ → Bool) (n k i : ℕ) → i ≤ k → 8 * k ≤ n → all p (n - 8 * i) (8 * i) ≡ (all p (8 * (k - i)) (8 * i) && all p (n - 8 * k) (8 * k))
left p n k i low high =
    let e : n - 8 * i ≡ 8 * (k - i) + (n - 8 * k) = omega arith in
    let f : 8 * i + 8 * (k - i) ≡ 8 * k = omega arith in
    rw e (all_split p (8 * (k - i)) (n - 8 * k) (8 * i) ∙ rw f)

pub returns-then-eights_fit : goal.returns-then-eights_fit
returns-then-eights_fit c =
    let n = c.u64_at-count.result in
    let whole = left (entry_fits c.args.self.now.disk.now) n (n / 8) c.loop-i.i (omega arith) (omega arith) in
    sym (whole ∙ rw (sym c.eights_fit.ensures, c.if-eights_fit.true) (sym c.each_fits.ensures)) ∙ c.loop-i.invariant

pub returns-else-eights_fit : goal.returns-else-eights_fit
returns-else-eights_fit c =
    let n = c.u64_at-count.result in
    let whole = left (entry_fits c.args.self.now.disk.now) n (n / 8) c.loop-i.i (omega arith) (omega arith) in
    sym (whole ∙ rw (sym c.eights_fit.ensures, c.if-eights_fit.false)) ∙ c.loop-i.invariant

pub returns-then-not-lengths_fit : goal.returns-then-not-lengths_fit
returns-then-not-lengths_fit c =
    let here = next-eight c.args.self.now.disk.now c.u64_at-count.result (8 * c.loop-i.i) false (omega arith) (sym c.lengths_fit.ensures ∙ c.if-not-lengths_fit.true) in
    sym here ∙ c.loop-i.invariant

pub loop-i-preserved : goal.loop-i-preserved
loop-i-preserved c =
    let here = next-eight c.args.self.now.disk.now c.u64_at-count.result (8 * c.loop-i.i) true (omega arith) (sym c.lengths_fit.ensures ∙ c.if-not-lengths_fit.false) in
    let e : 8 * (c.loop-i.i + 1) ≡ 8 * c.loop-i.i + 8 = omega arith in
    rw e (sym here ∙ c.loop-i.invariant)
