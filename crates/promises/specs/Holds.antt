-- What ties the areas to what is told of the tape of a name, and how a call of `lives` that the areas follow takes it on. Assumes nothing.
use Rattle.std.specs.Prelude.{◌≡◌, ◌≢◌, ◌⊎◌, Bool, false, cond, not, ◌&&◌, List, ℕ, ◌+◌, ◌-◌, max, eqb, ltb, leb, length, Option, Some, None}
use Rattle.std.proofs.Math.Path.{refl}
use Rattle.std.proofs.Common.{sym, ap, ◌∙◌, subst, inl, inr, arith, ne_eqb, eq-eqb}
use Rattle.octets.specs.Cases.{picked, equal}
use Rattle.rolling_tape.specs.Removal.{Areas}
use Rattle.components.specs.Epochs.{older}
use Rattle.held.specs.Held.{load}
use Rattle.lives.specs.Life.{Store, Writer, After, Answer, Done, Refused}
use Rattle.lives.specs.Life as L
use Rattle.lives.specs.Told.{Told}
use Rattle.lives.specs.Told as T
use Rattle.lives.specs.Invariant.{Phys, Good, build}
use Rattle.lives.proofs.Steps.{keeps}
use Rattle.seen.specs.Seen.{place_of, is_open_tape, handle_in, Seen, Handled}
use Rattle.promises.specs.Told.{Known, last_after, afterwards}

pub record Holds (n : List ℕ) (a : Areas) (k : Known) : Type 0 where
  pub phys : Phys
  pub good : Good k.tape phys
  pub seen : Seen a.disk a.session n (build k.tape phys)
  pub handled : Handled a.session n k.handle k.entry
  pub last : phys.last ≡ k.last

-- the areas have followed a call of one tape that was served with v: what is seen of it is what the call makes of it, its handle is as before or gone, and what
-- else the model's own answer w says is the same
pub record Moves (n : List ℕ) (a : Areas) (k : Known) (st : Store) (c : L.TapeCall) (v : ℕ) : Type 0 where
  pub w : ℕ
  pub answer : (L.step c st).answer ≡ Done w
  pub seen : Seen a.disk a.session n (L.step c st).store
  pub handle : ℕ
  pub entry : ℕ
  pub handled : Handled a.session n handle entry
  pub which : ((handle ≡ k.handle) × (entry ≡ k.entry)) ⊎ (handle ≡ 0)
  pub says : T.told k.tape c (Done w) ≡ T.told k.tape c (Done v)
  pub last : last_after k.last c w ≡ last_after k.last c v

-- ---- the last number

refused-done : {x v w : ℕ} {P : Type 0} → ◌≡◌ {A = Answer} (Refused x v) (Done w) → P
refused-done {x} {v} {w} e = absurd (let z : ◌≡◌ {A = ℕ} 0 1 = cc in omega arith)

done-is : {v w : ℕ} → ◌≡◌ {A = Answer} (Done v) (Done w) → v ≡ w
done-is {v} {w} e = cc

module _ (st : Store) (w : ℕ) where
  abbrev Last : ℕ → After → Type 0
  Last l a = a.answer ≡ Done w → a.store.last ≡ l

  last-append : (x : Writer) → Last w (L.step_append st x)
  last-append L.idle =
      picked (Last w) (st.cut && ltb 0 (older st.epoch (L.epochs st.readers))) (L.refuse 4 (older st.epoch (L.epochs st.readers)) st)
      (L.then (Done (st.last + 1)) (st.last + 1) st st.readers (L.appending (st.last + 1) st.epoch st.listed st.len st.start) false st.live st.held)
      (λ e. refused-done) (λ e. done-is)
  last-append (L.appending m b h l s) = refused-done
  last-append (L.cutting m l) = refused-done

  last-truncate : (x : Writer) → Last w (L.step_truncate st x)
  last-truncate L.idle = done-is
  last-truncate (L.appending m b h l s) = refused-done
  last-truncate (L.cutting m l) = refused-done

  last-known : (began len start capacity first : ℕ) (memory : List ℕ) (x : Writer) (bs : Option (List ℕ)) → Last st.last (L.open_known st began len start capacity first memory x bs)
  last-known began len start capacity first memory x None = refused-done
  last-known began len start capacity first memory x (Some bs) = λ d. refl

  last-open : (k size c start : ℕ) (memory : List ℕ) (x : Writer) → Last st.last (L.step_open st k size c start memory x)
  last-open k size c start memory L.idle = refused-done
  last-open k size c start memory (L.appending m b h l s) =
      picked (Last st.last) (eqb k m) _ _
      (λ e. picked (Last st.last) (L.capacity_fits c memory && ltb 0 size) _ _
      (λ e. picked (Last st.last) st.live _ _ (λ e. refused-done)
      (λ e. picked (Last st.last) h _ _
      (λ e. picked (Last st.last) (eqb size st.size) _ _ (λ e. last-known b l s c (max (l - c) s) memory (L.appending m b h l s) (load size st.held.files (max (l - c) s) (l - max (l - c) s))) (λ e. refused-done))
      (λ e d. refl)))
      (λ e. refused-done))
      (λ e. refused-done)
  last-open k size c start memory (L.cutting m l) = refused-done

  last-put : (k : ℕ) (d : List ℕ) (x : Writer) → Last st.last (L.step_put st k d x)
  last-put k d L.idle = refused-done
  last-put k d (L.appending m b h l s) =
      picked (Last st.last) (eqb k m && st.live) _ _ (λ e. picked (Last st.last) (ltb 0xffff_ffff_ffff_ffff (l + length d)) _ _ (λ e. refused-done) (λ e d. refl)) (λ e. refused-done)
  last-put k d (L.cutting m l) = refused-done

  last-shift : (k n : ℕ) (x : Writer) → Last st.last (L.step_shift st k n x)
  last-shift k n L.idle = refused-done
  last-shift k n (L.appending m b h l s) =
      picked (Last st.last) (eqb k m && st.live) _ _ (λ e. picked (Last st.last) (leb n l) _ _ (λ e d. refl) (λ e. refused-done)) (λ e. refused-done)
  last-shift k n (L.cutting m l) = refused-done

  last-cut : (k n : ℕ) (x : Writer) → Last st.last (L.step_cut st k n x)
  last-cut k n L.idle = refused-done
  last-cut k n (L.appending m b h l s) = refused-done
  last-cut k n (L.cutting m l) =
      picked (Last st.last) (eqb k m && st.live) _ _
      (λ e. picked (Last st.last) st.listed _ _ (λ e. picked (Last st.last) (leb n l) _ _ (λ e d. refl) (λ e. refused-done)) (λ e. refused-done))
      (λ e. refused-done)

  last-commit : (k : ℕ) (x : Writer) → Last st.last (L.step_commit st k x)
  last-commit k L.idle = refused-done
  last-commit k (L.appending m b h l s) = picked (Last st.last) (eqb k m) _ _ (λ e d. refl) (λ e. refused-done)
  last-commit k (L.cutting m l) = picked (Last st.last) (eqb k m) _ _ (λ e d. refl) (λ e. refused-done)

  last-reader : (k : ℕ) → Last st.last (L.step_drop_reader st k)
  last-reader k = picked (Last st.last) (L.is_some (L.find k st.readers)) _ _ (λ e d. refl) (λ e. refused-done)

  last-drop : (k : ℕ) (x : Writer) → Last st.last (L.step_drop st k x)
  last-drop k L.idle = last-reader k
  last-drop k (L.appending m b h l s) = picked (Last st.last) (eqb k m) _ _ (λ e d. refl) (λ e. last-reader k)
  last-drop k (L.cutting m l) = picked (Last st.last) (eqb k m) _ _ (λ e d. refl) (λ e. last-reader k)

  last_step : (c : L.TapeCall) → (L.step c st).answer ≡ Done w → (L.step c st).store.last ≡ last_after st.last c w
  unfolding L.step
  last_step L.restart d = refl
  last_step L.reader d = done-is d
  last_step L.append d = last-append st.writer d
  last_step L.truncate d = last-truncate st.writer d
  last_step (L.open' k size c start memory) d = last-open k size c start memory st.writer d
  last_step (L.put k bs) d = last-put k bs st.writer d
  last_step (L.shift k n) d = last-shift k n st.writer d
  last_step (L.cut k n) d = last-cut k n st.writer d
  last_step (L.read k o n) d = refl
  last_step (L.commit k) d = last-commit k st.writer d
  last_step (L.drop' k) d = last-drop k st.writer d

-- ---- the handle

-- an open tape has a handle, and no other
live-handle : (s : List ℕ) (tape : Option ℕ) → is_open_tape s tape ≡ not (eqb (handle_in s tape) 0)
live-handle s (Some p) = refl
live-handle s None = refl

-- a handle is forgotten with its tape
module _ (s n : List ℕ) (live : Bool) (old handle : ℕ) (is : handle_in s (place_of s n) ≡ handle) (lives : is_open_tape s (place_of s n) ≡ live) where
  live-is : live ≡ not (eqb handle 0)
  live-is = sym lives ∙ live-handle s (place_of s n) ∙ rw is

  handle-kept : (handle ≡ old) ⊎ (handle ≡ 0) → cond live old 0 ≡ handle
  handle-kept which =
      equal handle 0
      (λ (e : handle ≡ 0). rw (live-is, eq-eqb handle 0 e) (sym e))
      (λ (ne : handle ≢ 0). rw (live-is, ne_eqb handle 0 ne) (by ne which))
    where
      by : handle ≢ 0 → (handle ≡ old) ⊎ (handle ≡ 0) → old ≡ handle
      by ne (inl e) = sym e
      by ne (inr e) = absurd (ne e)

-- a tape's own part of it
pub record Follows (n : List ℕ) (a : Areas) (t : Told) (last : ℕ) : Type 0 where
  pub phys : Phys
  pub good : Good t phys
  pub seen : Seen a.disk a.session n (build t phys)
  pub count : phys.last ≡ last

pub followed : (n : List ℕ) (a b : Areas) (k : Known) (c : L.TapeCall) (v w : ℕ) (h : Holds n a k) → (L.step c (build k.tape h.phys)).answer ≡ Done w
    → Seen b.disk b.session n (L.step c (build k.tape h.phys)).store → T.told k.tape c (Done w) ≡ T.told k.tape c (Done v)
    → last_after k.last c w ≡ last_after k.last c v → Follows n b (T.told k.tape c (Done v)) (last_after k.last c v)
followed n a b k c v w h answer seen says last =
    let st = build k.tape h.phys in
    let g = keeps c k.tape h.phys h.good in
    let t : Told = T.told k.tape c (Done v) in
    let same : T.told k.tape c (L.step c st).answer ≡ t = ap (T.told k.tape c) answer ∙ says in
    let store : (L.step c st).store ≡ build t g.phys = g.same ∙ ap (λ (x : Told). build x g.phys) same in
    record {
      phys = g.phys;
      good = subst (λ (x : Told). Good x g.phys) same g.good;
      seen = subst (Seen b.disk b.session n) store seen;
      count = ap (λ (x : Store). x.last) (sym store) ∙ last_step st w c answer ∙ ap (λ (x : ℕ). last_after x c w) h.last ∙ last;
    }

pub moved : (n : List ℕ) (a b : Areas) (k : Known) (c : L.TapeCall) (v : ℕ) (h : Holds n a k) → Moves n b k (build k.tape h.phys) c v
    → Holds n b (afterwards k (T.told k.tape c (Done v)) (last_after k.last c v))
moved n a b k c v h m =
    let t : Told = T.told k.tape c (Done v) in
    let f = followed n a b k c v m.w h m.answer m.seen m.says m.last in
    let handle = handle-kept b.session n t.live k.handle m.handle m.handled.number f.seen.live (either m.which) in
    record {
      phys = f.phys;
      good = f.good;
      seen = f.seen;
      handled =
          record {
            number = m.handled.number ∙ sym handle;
            size = λ more. m.handled.size (λ z. more (handle ∙ z)) ∙ entry (λ z. more (handle ∙ z)) m.which;
          };
      last = f.count;
    }
  where
    either : ((m.handle ≡ k.handle) × (m.entry ≡ k.entry)) ⊎ (m.handle ≡ 0) → (m.handle ≡ k.handle) ⊎ (m.handle ≡ 0)
    either (inl e) = inl e.0
    either (inr e) = inr e

    entry : m.handle ≢ 0 → ((m.handle ≡ k.handle) × (m.entry ≡ k.entry)) ⊎ (m.handle ≡ 0) → m.entry ≡ k.entry
    entry more (inl e) = e.1
    entry more (inr e) = absurd (more e)
