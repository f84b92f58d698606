-- What an append of one tape is answered, by what is told. Assumes nothing.
use Rattle.std.specs.Prelude.{◌≡◌, refl, false, cond, ◌&&◌, ℕ, suc, ◌+◌, ltb, length}
use Rattle.std.proofs.Common.{ap, arith, ltb-true, ltb-false}
use mathlib.Core.List.{List, [], ◌∷◌, map}
use Rattle.octets.specs.Cases.{picked, and_l, and_r}
use Rattle.components.specs.Epochs.{older}
use Rattle.lives.specs.Life.{Writer, Store, After, Done, append, epochs, refuse, then, step_append, step}
use Rattle.lives.specs.Told.{Window, Staging, idle, appending, cutting, Told, with_writer, before}
use Rattle.lives.specs.Invariant.{Phys, erase, erase_w, build}
use Rattle.lives.specs.Reads.{Tied}
use Rattle.lives.specs.Waits.{Asked, busy, wait, go}

older-before : (e : ℕ) (ws : List Window) → older e (epochs (map erase ws)) ≡ length (before e ws)
unfolding older before
older-before e [] = refl
older-before e (w ∷ ws) =
    let n = older e (epochs (map erase ws)) in
    picked (λ x. cond (ltb w.epoch e) (suc n) n ≡ length x) (ltb w.epoch e) (w ∷ before e ws) (before e ws)
    (λ t. rw t (ap suc (older-before e ws)))
    (λ t. rw t (older-before e ws))

asked_in : (t : Told) (p : Phys) (x : Staging) → Asked (with_writer t x t.live) (step_append (build (with_writer t x t.live) p) (erase_w t.epoch x)).answer
asked_in t p (appending m h c s) = busy (λ e. let z : ◌≡◌ {A = ℕ} 0 1 = cc in omega arith)
asked_in t p (cutting m c) = busy (λ e. let z : ◌≡◌ {A = ℕ} 0 1 = cc in omega arith)
asked_in t p idle =
    let u = with_writer t idle t.live in
    let n = older t.epoch (epochs (map erase t.windows)) in
    let q : n ≡ length (before t.epoch t.windows) = older-before t.epoch t.windows in
    let l = p.last + 1 in
    picked (λ (a : After). Asked u a.answer) (t.cut && ltb 0 n) (refuse 4 n (build u p))
    (then (Done l) l (build u p) (map erase t.windows) (Writer.appending l t.epoch t.listed (length t.content) t.start) false t.live p.held)
    (λ e. rw q (wait refl (and_l t.cut (ltb 0 n) e) (omega (arith, ltb-true 0 n (and_r t.cut (ltb 0 n) e)))))
    (λ e. go l refl (λ c. omega (arith, ltb-false 0 n (rw c at e))))

pub asked : (s : Store) (t : Told) → Tied s t → Asked t (step append s).answer
unfolding step
asked s t i = rw i.same (asked_in t i.phys t.writer)
