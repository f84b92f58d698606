-- A transaction is dropped: a reader's window goes; a writer takes back what it staged, and a tape that it made is gone. Assumes nothing.
use Rattle.std.specs.Prelude.{◌≡◌, refl, Bool, true, false, cond, ℕ, ◌-◌, eqb, Some}
use Rattle.std.proofs.Common.{sym, ap, ◌∙◌, true≢false, ⊎_elim, arith}
use mathlib.Core.List.Memᴰ
use mathlib.Core.List.{List, [], ◌∷◌, map, Memᴰ}
use Rattle.std.proofs.Math.ListN.{length}
use Rattle.octets.specs.Cases.{picked}
use Rattle.held.specs.Held.{Held, taken_back}
use Rattle.held.specs.Page.{Sound}
use Rattle.held.specs.TakeBackLaws.{back-sound, back-ringed}
use Rattle.lives.specs.Life.{Reader, Writer, Done, refuse, then, find, without, is_some, asleep, drop', step_drop, step_drop_reader}
use Rattle.lives.specs.Told.{Window, Staging, idle, appending, cutting, Told, told, closed, with_writer, with_windows}
use Rattle.lives.specs.Invariant.{Phys, settled_as, erase, erase_w, build, now, PageHeld, Live, Good, Goes, refused, goes, no-taller, restaged, rested, rewindowed, reslept}

closed-readers : (k : ℕ) (ws : List Window) → without k (map erase ws) ≡ map erase (closed k ws)
unfolding without closed
closed-readers k [] = refl
closed-readers k (w ∷ ws) =
    picked (λ x. cond (eqb k w.number) (without k (map erase ws)) (erase w ∷ without k (map erase ws)) ≡ map erase x) (eqb k w.number) (closed k ws) (w ∷ closed k ws)
    (λ e. rw e (closed-readers k ws))
    (λ e. rw e (ap (λ (l : List Reader). erase w ∷ l) (closed-readers k ws)))

-- who is still open was open
pub closed-mem : (k : ℕ) (ws : List Window) {w : Window} → Memᴰ w (closed k ws) → Memᴰ w ws
unfolding closed
closed-mem k [] = λ i. i
closed-mem k (v ∷ ws) {w} =
    picked (λ l. Memᴰ w l → Memᴰ w (v ∷ ws)) (eqb k v.number) (closed k ws) (v ∷ closed k ws)
    (λ _ i. Memᴰ.tail (closed-mem k ws i))
    (λ _ i. ⊎_elim (λ e. Memᴰ.head e) (λ j. Memᴰ.tail (closed-mem k ws j)) (Memᴰ.cases_cons i))

module _ (t : Told) (p : Phys) where
  -- ---- a reader

  closed-good : (k : ℕ) (x : Staging) (b : Bool) → Good (with_writer t x b) p → Good (with_windows (with_writer t x b) (closed k t.windows)) p
  closed-good k x true g = rewindowed t p p.last (closed k t.windows) x g (λ w i. g.pages w (closed-mem k t.windows i))
  closed-good k x false g = reslept t p p.last (closed k t.windows) x g (λ w i. g.pages w (closed-mem k t.windows i))

  drop-reader : (k : ℕ) (x : Staging) (b : Bool) → Good (with_writer t x b) p → told (with_writer t x b) (drop' k) (Done 0) ≡ with_windows (with_writer t x b) (closed k t.windows)
      → Goes (with_writer t x b) (drop' k) (step_drop_reader (build (with_writer t x b) p) k)
  drop-reader k x b g e =
      let u = with_writer t x b in
      let X = then (Done 0) p.last (build u p) (without k (map erase t.windows)) (erase_w t.epoch x) p.touched b p.held in
      picked (Goes u (drop' k)) (is_some (find k (map erase t.windows))) X (refuse 2 0 (build u p))
      (λ _. goes u (drop' k) X (with_windows u (closed k t.windows)) p e (rw closed-readers) (closed-good k x b g))
      (λ _. refused u p (drop' k) 2 0 g)

  -- ---- a writer

  module _ (m : ℕ) (h : Bool) (c : List ℕ) (s : ℕ) where
    abbrev left : Held
    left = cond p.touched (cond t.listed (taken_back (length c - length t.content) p.held) (asleep p.held)) p.held

    -- of a known tape: it stays open
    record Left (h' : Held) : Type 0 where
      sound : Sound h' (length t.content) (length t.content)
      fine : (w : Window) → PageHeld t.size p.held t.epoch t.cut t.content true w → PageHeld t.size h' t.epoch t.cut t.content false w
      below : (k e : ℕ) → (h'.files k).mark ≡ Some e → (p.held.files k).mark ≡ Some e

    drop-known : Live (with_writer t (appending m h c s) true) p → t.listed ≡ true → (h' : Held) → Left h' → Live (with_writer t idle true) (settled_as p (length t.content) h')
    drop-known g e h' l =
        record {
          pos = g.pos;
          sound = l.sound;
          low = omega arith;
          even = λ _. refl;
          known = λ _. refl;
          shown = λ _. e;
          bare = g.bare;
          bounded = g.bounded;
          below = λ k x q. g.below k x (l.below k x q);
          committed = l.fine (now t) g.committed;
          pages = λ w i. l.fine w (g.pages w i);
          staged = tt;
        }

    left_back : Live (with_writer t (appending m h c s) true) p → t.listed ≡ true → Left (taken_back (length c - length t.content) p.held)
    unfolding taken_back
    left_back g e =
        let L = length t.content in
        let H : Sound p.held L (length c) = rw (g.known e) at g.sound in
        record {
          sound = back-sound p.held L (length c) H;
          fine = λ w f.
              record {
                kept = f.kept;
                ringed = back-ringed p.held L (length c) H w.start (length w.content) w.content (no-taller f) f.ringed;
                marks = f.marks;
                age = f.age;
                tall = λ l. absurd (omega (arith, no-taller f));
              };
          below = λ k x q. q;
        }

    left_alone : Live (with_writer t (appending m h c s) true) p → t.listed ≡ true → p.touched ≡ false → Left p.held
    left_alone g e q =
        let same : length c ≡ length t.content = (g.staged.whole q).1 in
        let H : Sound p.held (length t.content) (length c) = rw (g.known e) at g.sound in
        record {
          sound = rw same at H;
          fine = λ w f. record { kept = f.kept; ringed = f.ringed; marks = f.marks; age = f.age; tall = λ l. absurd (omega (arith, no-taller f)) };
          below = λ k x q. q;
        }

    drop-append : Live (with_writer t (appending m h c s) true) p → (b : Bool) → t.listed ≡ b → Good (with_writer t idle b) (settled_as p (length t.content) left)
    drop-append g true e =
        let back = taken_back (length c - length t.content) p.held in
        let kept : Held → Type 0 = λ x. Live (with_writer t idle true) (settled_as p (length t.content) x) in
        picked kept p.touched (cond t.listed back (asleep p.held)) p.held
        (λ _. picked kept t.listed back (asleep p.held) (λ _. drop-known g e back (left_back g e)) (λ q. absurd (true≢false (sym e ∙ q))))
        (λ q. drop-known g e p.held (left_alone g e q))
    drop-append g false e =
        let z = g.bare e in
        record {
          pos = λ _. g.pos;
          bare = g.bare;
          bounded = g.bounded;
          untouched = refl;
          kept = λ o a b. absurd (omega arith);
          pages = λ w i. let f = g.pages w i in record { age = f.age; short = no-taller f; part = λ o a b. absurd (omega (arith, no-taller f)) };
          staged = tt;
        }

  pub step-drop : (k : ℕ) (x : Staging) (b : Bool) → Good (with_writer t x b) p → Goes (with_writer t x b) (drop' k) (step_drop (build (with_writer t x b) p) k (erase_w t.epoch x))
  step-drop k idle b g = drop-reader k idle b g refl
  step-drop k (appending m h c s) true g =
      let u = with_writer t (appending m h c s) true in
      let A = left m h c s in
      let X = then (Done 0) p.last (build u p) (map erase t.windows) Writer.idle false t.listed A in
      picked (Goes u (drop' k)) (eqb k m) X (step_drop_reader (build u p) k)
      (λ e. goes u (drop' k) X (with_writer t idle t.listed) (settled_as p (length t.content) A) (rw e) refl (drop-append m h c s g t.listed refl))
      (λ e. drop-reader k (appending m h c s) true g (rw e))
  step-drop k (appending m h c s) false g =
      let u = with_writer t (appending m h c s) false in
      let X = then (Done 0) p.last (build u p) (map erase t.windows) Writer.idle false false (left m h c s) in
      picked (Goes u (drop' k)) (eqb k m) X (step_drop_reader (build u p) k)
      (λ e. goes u (drop' k) X (with_writer t idle false) (settled_as p p.base p.held) (rw e) (rw g.untouched) (rested t p p.last false (appending m h c s) idle g refl tt))
      (λ e. drop-reader k (appending m h c s) false g (rw e))
  step-drop k (cutting m c) true g =
      let u = with_writer t (cutting m c) true in
      let X = then (Done 0) p.last (build u p) (map erase t.windows) Writer.idle false true p.held in
      picked (Goes u (drop' k)) (eqb k m) X (step_drop_reader (build u p) k)
      (λ e. goes u (drop' k) X (with_writer t idle true) (settled_as p p.base p.held) (rw e) refl (restaged t p p.last false (cutting m c) idle refl refl g tt))
      (λ e. drop-reader k (cutting m c) true g (rw e))
  step-drop k (cutting m c) false g =
      let u = with_writer t (cutting m c) false in
      let X = then (Done 0) p.last (build u p) (map erase t.windows) Writer.idle false false p.held in
      picked (Goes u (drop' k)) (eqb k m) X (step_drop_reader (build u p) k)
      (λ e. goes u (drop' k) X (with_writer t idle false) (settled_as p p.base p.held) (rw e) refl (rested t p p.last false (cutting m c) idle g refl tt))
      (λ e. drop-reader k (cutting m c) false g (rw e))
