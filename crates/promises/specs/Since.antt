-- Without a served commit, format or store: the epoch stands, the last commit is what it was, and a window that is new since then began at this epoch and has a
-- new number. Assumes nothing.
use Rattle.std.specs.Prelude.{◌≡◌, refl, true, ◌⊎◌, ℕ, ◌≤◌, ◌<◌, eqb}
use Rattle.std.proofs.Common.{ap, ◌∙◌, inl, inr, ⊎_elim, arith}
use Rattle.std.proofs.lemmas.Bool.{false≢true}
use mathlib.Core.List.Memᴰ
use mathlib.Core.List.{Memᴰ}
use Rattle.octets.specs.Cases.{picked}
use Rattle.lives.specs.Life as L
use Rattle.lives.specs.Told.{Window, Staging, idle, appending, cutting, Told, told_drop, quiet}
use Rattle.lives.specs.Told as T
use Rattle.lives.specs.StepsDrop.{closed-mem}
use Rattle.lives.specs.Waits.{unmoved}
use Rattle.promises.specs.Told.{Known, last_after}

pub record Since (k m : Known) : Type 0 where
  pub epoch : m.tape.epoch ≡ k.tape.epoch
  pub cut : m.tape.cut ≡ k.tape.cut
  pub last : k.last ≤ m.last
  pub windows : (w : Window) → Memᴰ w m.tape.windows → Memᴰ w k.tape.windows ⊎ ((w.epoch ≡ k.tape.epoch) × (k.last < w.number))

pub since-same : (k : Known) → Since k k
since-same k = record { epoch = refl; cut = refl; last = omega arith; windows = λ w i. inl i }

pub since-then : (k m x : Known) → Since k m → Since m x → Since k x
since-then k m x a b =
    record {
      epoch = b.epoch ∙ a.epoch;
      cut = b.cut ∙ a.cut;
      last = omega (arith, a.last, b.last);
      windows = λ w i.
          ⊎_elim (a.windows w) (λ (e : (w.epoch ≡ m.tape.epoch) × (m.last < w.number)). inr (e.0 ∙ a.epoch, (omega (arith, a.last, e.1)))) (b.windows w i);
    }

-- ---- the windows of one tape

dropped-windows : (k : ℕ) (t : Told) (x : Staging) (w : Window) → Memᴰ w (told_drop k t x).windows → Memᴰ w t.windows
dropped-windows k t idle w = λ i. closed-mem k t.windows i
dropped-windows k t (appending m h c s) w =
    picked (λ (u : Told). Memᴰ w u.windows → Memᴰ w t.windows) (eqb k m) _ _ (λ e i. i) (λ e i. closed-mem k t.windows i)
dropped-windows k t (cutting m c) w =
    picked (λ (u : Told). Memᴰ w u.windows → Memᴰ w t.windows) (eqb k m) _ _ (λ e i. i) (λ e i. closed-mem k t.windows i)

-- a begin gives a number that is new
abbrev pub New : ℕ → L.TapeCall → ℕ → Type 0
New last L.restart v = Unit {0}
New last L.reader v = last < v
New last L.append v = last < v
New last L.truncate v = last < v
New last (L.open' t size cache start memory) v = Unit {0}
New last (L.put t bs) v = Unit {0}
New last (L.shift t o) v = Unit {0}
New last (L.cut t o) v = Unit {0}
New last (L.read t o n) v = Unit {0}
New last (L.commit t) v = Unit {0}
New last (L.drop' t) v = Unit {0}

numbered : (t : Told) (last : ℕ) (c : L.TapeCall) (v : ℕ) → New last c v → quiet c (L.Done v) ≡ true → (w : Window) → Memᴰ w (T.told t c (L.Done v)).windows
    → Memᴰ w t.windows ⊎ (last < w.number)
numbered t last L.restart v n q w i = absurd (false≢true q)
numbered t last L.reader v n q w i = ⊎_elim (λ e. inr (omega (arith, ap (λ (x : Window). x.number) e))) inl (Memᴰ.cases_cons i)
numbered t last L.append v n q w i = inl i
numbered t last L.truncate v n q w i = inl i
numbered t last (L.open' k size cache start memory) v n q w i = inl i
numbered t last (L.put k bs) v n q w i = inl i
numbered t last (L.shift k o) v n q w i = inl i
numbered t last (L.cut k o) v n q w i = inl i
numbered t last (L.read k o j) v n q w i = inl i
numbered t last (L.commit k) v n q w i = absurd (false≢true q)
numbered t last (L.drop' k) v n q w i = inl (dropped-windows k t t.writer w i)

rising : (last : ℕ) (c : L.TapeCall) (v : ℕ) → New last c v → quiet c (L.Done v) ≡ true → last ≤ last_after last c v
rising last L.restart v n q = absurd (false≢true q)
rising last L.reader v n q = omega arith
rising last L.append v n q = omega arith
rising last L.truncate v n q = omega arith
rising last (L.open' k size cache start memory) v n q = omega arith
rising last (L.put k bs) v n q = omega arith
rising last (L.shift k o) v n q = omega arith
rising last (L.cut k o) v n q = omega arith
rising last (L.read k o j) v n q = omega arith
rising last (L.commit k) v n q = absurd (false≢true q)
rising last (L.drop' k) v n q = omega arith

-- a call of one tape
pub since-told : (k : Known) (c : L.TapeCall) (v handle entry : ℕ) → New k.last c v → quiet c (L.Done v) ≡ true
    → Since k (record { tape = T.told k.tape c (L.Done v); handle = handle; entry = entry; last = last_after k.last c v })
since-told k c v handle entry new q =
    let t = k.tape in
    let s = unmoved t c (L.Done v) q in
    record {
      epoch = s.epoch;
      cut = s.cut;
      last = rising k.last c v new q;
      windows = λ w i.
          ⊎_elim inl
          (λ (e : w.epoch ≡ t.epoch). ⊎_elim inl (λ (m : k.last < w.number). inr (e, m)) (numbered t k.last c v new q w i))
          (s.windows w i);
    }
