-- `metadata::record::read_record` answers `read_record`: each way out is that of the first part that is not there. Assumes nothing.
use Rattle.std.proofs.Common.{◌≡◌, sym, ap, ◌∙◌, Bool, true, false, cond, List, ℕ, length, take, drop}
use Rattle.std.specs.Prelude.{Some, None}
use Rattle.octets.specs.Compare.{same_bytes}
use Rattle.borsh.specs.Taking.{take_number, take_array, take_vec, Took}
use Rattle.borsh.specs.Back.{take-array-was}
use Rattle.metadata.specs.Record.{record_of, hash_of, read_record}
use Rattle.metadata.specs.RecordLaws.{read_all}
use Rattle.metadata.proofs.record.read_record.Goals as goal

-- all parts were found: the hash decides
whole : (s hash list : List ℕ) {version epoch a b c d : ℕ} → take_number 4 s 0 ≡ Some (version, a) → Took s (take_array 32 s a) hash b
    → take_number 8 s b ≡ Some (epoch, c) → Took s (take_vec s c) list d → (t : Bool) → same_bytes hash (hash_of epoch list) ≡ t
    → read_record s ≡ cond t (Some (record_of epoch (length list))) None
whole s hash list {version} {epoch} {a} {b} {c} {d} p q r o t e =
    let size : length hash ≡ 32 = (take-array-was 32 s a q.is).size in
    let named : hash ≡ take 32 (drop q.start s) = q.bytes-are ∙ ap (λ (n : ℕ). take n (drop q.start s)) size in
    read_all s p q.is r o.is
    ∙ ap (λ (b : Bool). cond b (Some (record_of epoch (length list))) None) (rw (← named, ← o.bytes-are) e)

pub returns-then-not-agrees : goal.returns-then-not-agrees
returns-then-not-agrees c =
    let s = c.args.s.now in
    let version : take_number 4 s 0 ≡ Some (c.in_ok-_version._version, c.u32.new.self.at) = cc (c.new-r.ensures.source, c.new-r.ensures.place, c.in_ok-_version.ensures.taken) in
    let source : c.u32.new.self.src.now ≡ s = cc (c.new-r.ensures.source, c.u32.ensures.source) in
    let hash : Took s (take_array 32 s c.u32.new.self.at) c.in_ok-hash.hash.now c.array32.new.self.at = rw (← source) c.in_ok-hash.ensures.taken in
    let epoch : take_number 8 s c.array32.new.self.at ≡ Some (c.in_ok-epoch.epoch, c.u64.new.self.at) = cc (source, c.array32.ensures.source, c.in_ok-epoch.ensures.taken) in
    let source2 : c.u64.new.self.src.now ≡ s = cc (source, c.array32.ensures.source, c.u64.ensures.source) in
    let list : Took s (take_vec s c.u64.new.self.at) c.in_ok-list.list.now c.vec.new.self.at = rw (← source2) c.in_ok-list.ensures.taken in
    sym (whole s c.in_ok-hash.hash.now c.in_ok-list.list.now version hash epoch list false (sym c.if-not-agrees.ensures))

pub returns : goal.returns
returns c =
    let s = c.args.s.now in
    let version : take_number 4 s 0 ≡ Some (c.in_ok-_version._version, c.u32.new.self.at) = cc (c.new-r.ensures.source, c.new-r.ensures.place, c.in_ok-_version.ensures.taken) in
    let source : c.u32.new.self.src.now ≡ s = cc (c.new-r.ensures.source, c.u32.ensures.source) in
    let hash : Took s (take_array 32 s c.u32.new.self.at) c.in_ok-hash.hash.now c.array32.new.self.at = rw (← source) c.in_ok-hash.ensures.taken in
    let epoch : take_number 8 s c.array32.new.self.at ≡ Some (c.in_ok-epoch.epoch, c.u64.new.self.at) = cc (source, c.array32.ensures.source, c.in_ok-epoch.ensures.taken) in
    let source2 : c.u64.new.self.src.now ≡ s = cc (source, c.array32.ensures.source, c.u64.ensures.source) in
    let list : Took s (take_vec s c.u64.new.self.at) c.in_ok-list.list.now c.vec.new.self.at = rw (← source2) c.in_ok-list.ensures.taken in
    sym (whole s c.in_ok-hash.hash.now c.in_ok-list.list.now version hash epoch list true (sym c.if-not-agrees.ensures))
