-- Calls that leave a transaction open, for the tape of a name: an open tape keeps its handle. That what each of them keeps, all of them keep, is in
-- proofs/StaysOpen.antt. Assumes nothing.
use Rattle.std.specs.Prelude.{◌≡◌, refl, ◌≢◌, ◌⊎◌, Bool, true, false, cond, ℕ, ◌+◌, ◌<◌, eqb, length}
use Rattle.std.proofs.Common.{sym, ap, ◌∙◌, inl, inr, true≢false, eq-eqb, eqb-true}
use mathlib.Core.List.{List}
use Rattle.octets.specs.Cases.{picked, and_both}
use Rattle.rolling_tape.specs.Removal.{Areas}
use Rattle.lives.specs.Life as L
use Rattle.lives.specs.Told.{Staging, idle, appending, cutting, Told, told_commit, told_drop}
use Rattle.lives.specs.Told as T
use Rattle.promises.specs.Told.{Known, unknown, Concern, apart, anew, opens, calls, tell_as}
use Rattle.promises.specs.Standing.{Lore, Running, lives}
use Rattle.promises.specs.Promise.{is_writer}

-- ---- a served call that leaves transaction t open, for one tape

-- a reader gets the next number; a writer begins where none is open; t is neither committed nor dropped; no session ends. Openings are concerns of their own
abbrev pub KeepsCall : ℕ → Known → ℕ → L.TapeCall → Type 0
KeepsCall t k v L.restart = ⊥
KeepsCall t k v L.reader = v ≡ k.last + 1
KeepsCall t k v L.append = k.tape.writer ≡ idle
KeepsCall t k v L.truncate = k.tape.writer ≡ idle
KeepsCall t k v (L.open' u size cache start memory) = ⊥
KeepsCall t k v (L.put u bs) = Unit {0}
KeepsCall t k v (L.shift u o) = Unit {0}
KeepsCall t k v (L.cut u o) = Unit {0}
KeepsCall t k v (L.read u o n) = Unit {0}
KeepsCall t k v (L.commit u) = eqb t u ≡ false
KeepsCall t k v (L.drop' u) = eqb t u ≡ false

-- a tape that is open is not opened again
abbrev pub KeepsTape : ℕ → Known → ℕ → Concern → Type 0
KeepsTape t k v apart = Unit {0}
KeepsTape t k v anew = ⊥
KeepsTape t k v (opens u entry size cache start) = k.handle ≡ 0
KeepsTape t k v (calls c) = KeepsCall t k v c

-- ---- what such calls keep, of the tape of a name, they all keep

-- it is kept in a running session, and can't hold before one
pub record KeptOpen (t : ℕ) (n : List ℕ) (P : Known → Type 0) : Type 0 where
  pub begun : P unknown → ⊥
  pub keeps : (a : Areas) (K : Lore) → Running a K → P (K n) → (v : ℕ) (x : Concern) → KeepsTape t (K n) v x → P (tell_as (K n) v x)

-- ---- the handle of an open tape

-- a drop of another transaction takes no handle from a tape that is listed, or that t itself may have made
live-drop : (t u : ℕ) (tape : Told) (x : Staging) → eqb t u ≡ false → tape.live ≡ true → (tape.listed ≡ true) ⊎ (is_writer t x ≡ true) → (told_drop u tape x).live ≡ true
live-drop t u tape idle other live known = live
live-drop t u tape (appending m h c s) other live known =
    picked (λ (y : Told). y.live ≡ true) (eqb u m) _ _ (λ e. and_both tape.live tape.listed live (by e known)) (λ e. live)
  where
    by : eqb u m ≡ true → (tape.listed ≡ true) ⊎ (eqb t m ≡ true) → tape.listed ≡ true
    by e (inl l) = l
    by e (inr w) = absurd (true≢false (sym (eq-eqb t u (eqb-true t m w ∙ sym (eqb-true u m e))) ∙ other))
live-drop t u tape (cutting m c) other live known = picked (λ (y : Told). y.live ≡ true) (eqb u m) _ _ (λ e. live) (λ e. live)

live-commit : (u : ℕ) (tape : Told) (x : Staging) → tape.live ≡ true → (told_commit u tape x).live ≡ true
live-commit u tape idle live = live
live-commit u tape (appending m h c s) live = picked (λ (y : Told). y.live ≡ true) (eqb u m) _ _ (λ e. live) (λ e. live)
live-commit u tape (cutting m c) live = picked (λ (y : Told). y.live ≡ true) (eqb u m) _ _ (λ e. live) (λ e. live)

live-call : (t : ℕ) (k : Known) (v : ℕ) (c : L.TapeCall) → KeepsCall t k v c → k.tape.live ≡ true → (k.tape.listed ≡ true) ⊎ (is_writer t k.tape.writer ≡ true)
    → (T.told k.tape c (L.Done v)).live ≡ true
live-call t k v L.restart l live known = absurd l
live-call t k v L.reader l live known = live
live-call t k v L.append l live known = live
live-call t k v L.truncate l live known = live
live-call t k v (L.open' u size cache start memory) l live known = absurd l
live-call t k v (L.put u bs) l live known = live
live-call t k v (L.shift u o) l live known = live
live-call t k v (L.cut u o) l live known = live
live-call t k v (L.read u o i) l live known = live
live-call t k v (L.commit u) l live known = live-commit u k.tape k.tape.writer live
live-call t k v (L.drop' u) l live known = live-drop t u k.tape k.tape.writer l live known

-- an open tape keeps its handle, with its entry size
module _ (a : Areas) (K : Lore) (r : Running a K) (n : List ℕ) (long : 0 < length n) (some-handle : (K n).handle ≢ 0) where
  pub handle-kept : (t v : ℕ) (x : Concern) → KeepsTape t (K n) v x → ((K n).tape.listed ≡ true) ⊎ (is_writer t (K n).tape.writer ≡ true)
      → ((tell_as (K n) v x).handle ≡ (K n).handle) × ((tell_as (K n) v x).entry ≡ (K n).entry)
  handle-kept t v apart l known = (refl, refl)
  handle-kept t v anew l known = absurd l
  handle-kept t v (opens u entry size cache start) l known = absurd (some-handle l)
  handle-kept t v (calls c) l known = (ap (λ (b : Bool). cond b (K n).handle 0) (live-call t (K n) v c l (lives a K r n long some-handle) known), refl)
