-- Each owner is no more than the join, so the lengths decide. Assumes nothing.
use Rattle.std.proofs.Common.{◌≡◌, List, ℕ, ◌+◌, ◌-◌, ◌≤◌, ◌<◌, leb, rules, arith, ap, ◌∙◌}
use Rattle.octets.specs.First.{all}
use Rattle.layout.specs.Disk.{len, entry_fits}
use Rattle.layout.specs.DiskLaws.{owners_joined, joined_length}
use Rattle.layout.proofs.disk_area.Table.lengths_fit.Goals as goal

by-length : (s : List ℕ) (slot i : ℕ) → slot ≤ i → i < slot + 8 → owners_joined s slot ≤ 8 → entry_fits s i ≡ leb (len s i) 4096
by-length s slot i low high fit =
    let e : i ≡ slot + (i - slot) = omega arith in
    rw e (joined_length s slot (i - slot) (omega arith) fit)

pub returns : goal.returns
returns c =
    let s = c.args.self.now.disk.now in
    let few : c.args.slot + 8 - c.args.slot ≡ 8 = omega arith in
    c.all.ensures (entry_fits s) (search (rules, by-length s c.args.slot)) ∙ ap (λ n. all (entry_fits s) n c.args.slot) few
