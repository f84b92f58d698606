-- What `lives` says of a good tape, as the calls need it: it starts inside itself, and in a truncate no byte of it is unwritten. Assumes nothing.
use Rattle.std.specs.Prelude.{◌≡◌, refl, Bool, true, false, List, ℕ, ◌≤◌, length}
use Rattle.std.proofs.Common.{ap, subst, arith}
use Rattle.lives.specs.Invariant.{Phys, erase_w, build, top, is_append, Live, GoodIf, Good}
use Rattle.lives.specs.Life.{cutting}
use Rattle.lives.specs.Told.{Staging, Told}
use Rattle.lives.specs.Told as T

pub good-bounded : (t : Told) (p : Phys) → Good t p → t.start ≤ length t.content
good-bounded t p good = by t.live good
  where
    by : (live : Bool) → GoodIf live t p → t.start ≤ length t.content
    by true g = g.bounded
    by false g = g.bounded

-- the writer is no append
cutting-tops : (epoch k len : ℕ) (c : List ℕ) (w : Staging) → erase_w epoch w ≡ cutting k len → (is_append w ≡ false) × (top c w ≡ c)
cutting-tops epoch k len c T.idle e = (refl, refl)
cutting-tops epoch k len c (T.appending m h x y) e = let z : ◌≡◌ {A = ℕ} 0 1 = cc in absurd (omega arith)
cutting-tops epoch k len c (T.cutting m x) e = (refl, refl)

pub all-written : (t : Told) (p : Phys) → Good t p → (k len : ℕ) → (build t p).writer ≡ cutting k len → t.live ≡ true → p.held.unwritten ≡ 0
all-written t p good k len e live =
    let alive : Live t p = subst (λ (b : Bool). GoodIf b t p) live good in
    let tops = cutting-tops t.epoch k len t.content t.writer e in
    let new = alive.sound.new in
    let even = alive.even tops.0 in
    let end : length (top t.content t.writer) ≡ length t.content = ap length tops.1 in
    omega arith
