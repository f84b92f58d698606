-- For one tape: whom an append waits for, by what is told. Assumes nothing.
use Rattle.std.specs.Prelude.{◌≡◌, refl, true, ◌⊎◌, ℕ, ◌<◌, eqb, ltb, length}
use Rattle.std.proofs.Common.{ap, inl, inr, ⊎_elim, arith, ltb-true, ltb-false}
use Rattle.std.proofs.lemmas.Bool.{false≢true}
use mathlib.Core.List.Memᴰ
use mathlib.Core.List.{List, [], ◌∷◌, Memᴰ}
use Rattle.octets.specs.Cases.{picked}
use Rattle.lives.specs.Life.{TapeCall, Answer, Done, Bytes, Refused, restart, reader, append, truncate, open', put, shift, cut, read, commit, drop'}
use Rattle.lives.specs.Told.{Window, Staging, idle, appending, cutting, Told, told, before, quiet, told_drop}
use Rattle.lives.specs.StepsDrop.{closed-mem}

-- ---- without a commit the epoch stands, and a window that is new is of this epoch

pub record Unmoved (t t' : Told) : Type 0 where
  pub epoch : t'.epoch ≡ t.epoch
  pub cut : t'.cut ≡ t.cut
  pub windows : (w : Window) → Memᴰ w t'.windows → Memᴰ w t.windows ⊎ (w.epoch ≡ t.epoch)

still : (t : Told) → Unmoved t t
still t = record { epoch = refl; cut = refl; windows = λ w i. inl i }

unmoved-drop : (k : ℕ) (t : Told) (x : Staging) → Unmoved t (told_drop k t x)
unmoved-drop k t idle = record { epoch = refl; cut = refl; windows = λ w i. inl (closed-mem k t.windows i) }
unmoved-drop k t (appending m h c s) =
    picked (Unmoved t) (eqb k m) _ _
    (λ _. record { epoch = refl; cut = refl; windows = λ w i. inl i })
    (λ _. record { epoch = refl; cut = refl; windows = λ w i. inl (closed-mem k t.windows i) })
unmoved-drop k t (cutting m c) =
    picked (Unmoved t) (eqb k m) _ _
    (λ _. record { epoch = refl; cut = refl; windows = λ w i. inl i })
    (λ _. record { epoch = refl; cut = refl; windows = λ w i. inl (closed-mem k t.windows i) })

pub unmoved : (t : Told) (c : TapeCall) (a : Answer) → quiet c a ≡ true → Unmoved t (told t c a)
unmoved t c (Refused x v) q = still t
unmoved t c (Bytes l) q = still t
unmoved t reader (Done n) q = record { epoch = refl; cut = refl; windows = λ w i. ⊎_elim (λ e. inr (ap (λ (x : Window). x.epoch) e)) inl (Memᴰ.cases_cons i) }
unmoved t restart (Done n) q = absurd (false≢true q)
unmoved t (open' k size c st memory) (Done n) q = record { epoch = refl; cut = refl; windows = λ w i. inl i }
unmoved t append (Done n) q = record { epoch = refl; cut = refl; windows = λ w i. inl i }
unmoved t truncate (Done n) q = record { epoch = refl; cut = refl; windows = λ w i. inl i }
unmoved t (put k d) (Done n) q = record { epoch = refl; cut = refl; windows = λ w i. inl i }
unmoved t (shift k j) (Done n) q = record { epoch = refl; cut = refl; windows = λ w i. inl i }
unmoved t (cut k j) (Done n) q = record { epoch = refl; cut = refl; windows = λ w i. inl i }
unmoved t (read k o j) (Done n) q = still t
unmoved t (commit k) (Done n) q = absurd (false≢true q)
unmoved t (drop' k) (Done n) q = unmoved-drop k t t.writer

pub before-is : (e : ℕ) (ws : List Window) {w : Window} → Memᴰ w (before e ws) → Memᴰ w ws × (w.epoch < e)
unfolding before
before-is e [] = λ i. absurd (Memᴰ.not-nil i)
before-is e (v ∷ ws) {w} =
    picked (λ l. Memᴰ w l → Memᴰ w (v ∷ ws) × (w.epoch < e)) (ltb v.epoch e) (v ∷ before e ws) (before e ws)
    (λ t i.
    ⊎_elim
    (λ r. (Memᴰ.head r, omega (arith, ltb-true v.epoch e t, ap (λ (x : Window). x.epoch) r)))
    (λ j. let (a, b) = before-is e ws j in (Memᴰ.tail a, b))
    (Memᴰ.cases_cons i))
    (λ t i. let (a, b) = before-is e ws i in (Memᴰ.tail a, b))

pub is-before : (e : ℕ) (ws : List Window) {w : Window} → Memᴰ w ws → w.epoch < e → Memᴰ w (before e ws)
unfolding before
is-before e [] i l = absurd (Memᴰ.not-nil i)
is-before e (v ∷ ws) {w} i l =
    picked (λ x. Memᴰ w x) (ltb v.epoch e) (v ∷ before e ws) (before e ws)
    (λ t. ⊎_elim (λ r. Memᴰ.head r) (λ j. Memᴰ.tail (is-before e ws j l)) (Memᴰ.cases_cons i))
    (λ t. ⊎_elim (λ r. absurd (omega (arith, ltb-false v.epoch e t, ap (λ (x : Window). x.epoch) r))) (λ j. is-before e ws j l) (Memᴰ.cases_cons i))

-- ---- what an append is answered

pub data Asked (t : Told) : Answer → Type 0 where
  busy : (t.writer ≡ idle → ⊥) → Asked t (Refused 3 0)
  wait : t.writer ≡ idle → t.cut ≡ true → 0 < length (before t.epoch t.windows) → Asked t (Refused 4 (length (before t.epoch t.windows)))
  go : (v : ℕ) → t.writer ≡ idle → (t.cut ≡ true → length (before t.epoch t.windows) ≡ 0) → Asked t (Done v)

-- "wait for n" is about exactly the windows opened before the last commit, which was a cut
pub told-wait : (t : Told) (a : Answer) (n : ℕ) → Asked t a → a ≡ Refused 4 n → (t.cut ≡ true) × (n ≡ length (before t.epoch t.windows))
told-wait t a n (busy _) e = absurd (let z : ◌≡◌ {A = ℕ} 3 4 = cc in omega arith)
told-wait t a n (wait _ c _) e = (c, cc)
told-wait t a n (go v _ _) e = absurd (let z : ◌≡◌ {A = ℕ} 0 1 = cc in omega arith)

pub let-in : (t : Told) (a : Answer) → Asked t a → t.writer ≡ idle → length (before t.epoch t.windows) ≡ 0 → (v : ℕ) × (a ≡ Done v)
let-in t a (busy h) e z = absurd (h e)
let-in t a (wait _ _ l) e z = absurd (omega arith)
let-in t a (go v _ _) e z = (v, refl)

pub kept_out : (t : Told) (a : Answer) (v : ℕ) → Asked t a → t.cut ≡ true → 0 < length (before t.epoch t.windows) → a ≡ Done v → ⊥
kept_out t a v (busy _) c l e = let z : ◌≡◌ {A = ℕ} 0 1 = cc in omega arith
kept_out t a v (wait _ _ _) c l e = let z : ◌≡◌ {A = ℕ} 0 1 = cc in omega arith
kept_out t a v (go _ _ h) c l e = omega (arith, h c)

pub none_before : (e : ℕ) (ws : List Window) → ((w : Window) → Memᴰ w ws → w.epoch < e → ⊥) → length (before e ws) ≡ 0
none_before e ws h = empty (before e ws) (λ w i. let (a, b) = before-is e ws i in h w a b)
  where
    empty : (l : List Window) → ((w : Window) → Memᴰ w l → ⊥) → length l ≡ 0
    empty [] k = refl
    empty (v ∷ l) k = absurd (k v (Memᴰ.head refl))

pub some-before : {w : Window} {l : List Window} → Memᴰ w l → 0 < length l
some-before (Memᴰ.head _) = omega arith
some-before (Memᴰ.tail _) = omega arith

-- ---- the promise. s and t: the store and what is told after some exchanges; xs: further ones, to the store s'
