-- Older readers counted, and the oldest of the others: a file is kept as long as anyone who may read it is open. Assumes nothing.
use Rattle.std.specs.Prelude.{◌≡◌, refl, false, ℕ, suc, ◌+◌, ◌≤◌, ◌<◌, min, ltb, length, Some}
use Rattle.std.proofs.Common.{sym, ap, ◌∙◌, ⊎_elim, zero-add, suc-add, arith, lt-ltb, le-ltb}
use mathlib.Core.List.Memᴰ
use mathlib.Core.List.{List, [], ◌∷◌, ◌++◌, Memᴰ}
use Rattle.octets.specs.Cases.{picked, decide, order}
use Rattle.components.specs.Files.{Files, removes}
use Rattle.components.proofs.MarkLaws.{kept-young}
use Rattle.components.specs.Epochs.{older, least, oldest_other}

-- ---- older readers

module _ (epoch e : ℕ) (es : List ℕ) where
  pub older-hit : e < epoch → older epoch (e ∷ es) ≡ suc (older epoch es)
  unfolding older
  older-hit l = rw (lt-ltb e epoch l)

  pub older-miss : epoch ≤ e → older epoch (e ∷ es) ≡ older epoch es
  unfolding older
  older-miss l = rw (le-ltb e epoch l)

pub older-append : (epoch : ℕ) (xs ys : List ℕ) → older epoch (xs ++ ys) ≡ older epoch xs + older epoch ys
unfolding older
older-append epoch [] ys = sym (zero-add (older epoch ys))
older-append epoch (x ∷ xs) ys =
    let ih = older-append epoch xs ys in
    decide (ltb x epoch) (λ t. rw t (ap suc ih ∙ sym (suc-add (older epoch xs) (older epoch ys)))) (λ t. rw t ih)

pub older-le : (epoch : ℕ) (es : List ℕ) → older epoch es ≤ length es
unfolding older
older-le epoch [] = omega arith
older-le epoch (e ∷ es) =
    let ih = older-le epoch es in
    picked (λ (n : ℕ). n ≤ suc (length es)) (ltb e epoch) (suc (older epoch es)) (older epoch es) (λ _. omega arith) (λ _. omega arith)

-- 0 exactly if none is older
pub none-older : (epoch : ℕ) (es : List ℕ) {e : ℕ} → older epoch es ≡ 0 → Memᴰ e es → epoch ≤ e
none-older epoch [] q m = absurd (Memᴰ.not-nil m)
none-older epoch (d ∷ es) {e} q m =
    order d epoch
    (λ l. absurd (omega (arith, older-hit epoch d es l)))
    (λ l. ⊎_elim (λ (s : e ≡ d). omega arith) (λ n. none-older epoch es (sym (older-miss epoch d es l) ∙ q) n) (Memᴰ.cases_cons m))

pub →none-older : (epoch : ℕ) (es : List ℕ) → ((e : ℕ) → Memᴰ e es → epoch ≤ e) → older epoch es ≡ 0
unfolding older
→none-older epoch [] h = refl
→none-older epoch (e ∷ es) h =
    let l : epoch ≤ e = h e (Memᴰ.head refl) in
    rw (le-ltb e epoch l) (→none-older epoch es (λ d m. h d (Memᴰ.tail m)))

-- ---- the least

pub least-le : (e : ℕ) (es : List ℕ) {d : ℕ} → Memᴰ d (e ∷ es) → least e es ≤ d
unfolding least
least-le e [] {d} m = ⊎_elim (λ (s : d ≡ e). omega arith) (λ n. absurd (Memᴰ.not-nil n)) (Memᴰ.cases_cons m)
least-le e (c ∷ es) {d} m =
    ⊎_elim (λ (s : d ≡ e). omega arith) (λ n. omega (arith, least-le c es n)) (Memᴰ.cases_cons m)

pub least-member : (e : ℕ) (es : List ℕ) → Memᴰ (least e es) (e ∷ es)
unfolding least
least-member e [] = Memᴰ.head refl
least-member e (c ∷ es) =
    let ih = least-member c es in
    order (least c es) e
    (λ l. let q : min e (least c es) ≡ least c es = omega arith in rw q (Memᴰ.tail ih))
    (λ l. Memᴰ.head (omega arith))

-- ---- the oldest of the others

pub oldest-none : (own : ℕ) → oldest_other own [] ≡ own + 1
unfolding oldest_other
oldest-none own = refl

pub oldest-le : (own : ℕ) (es : List ℕ) {e : ℕ} → Memᴰ e es → oldest_other own es ≤ e
unfolding oldest_other
oldest-le own [] m = absurd (Memᴰ.not-nil m)
oldest-le own (d ∷ es) m = least-le d es m

pub oldest-member : (own e : ℕ) (es : List ℕ) → Memᴰ (oldest_other own (e ∷ es)) (e ∷ es)
unfolding oldest_other
oldest-member own e es = least-member e es

-- a file that fell out of range at an epoch stays as long as a transaction of that epoch or an older one is open
pub kept_for : (own : ℕ) (es : List ℕ) (f : Files) (k : ℕ) {e m : ℕ} → Memᴰ e es → (f k).mark ≡ Some m → e ≤ m → removes (oldest_other own es) f k ≡ false
kept_for own es f k x q l = kept-young (oldest_other own es) f k q (omega (arith, oldest-le own es x))
