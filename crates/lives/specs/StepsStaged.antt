-- A writer stages: bytes put, a start shifted, a length cut. Assumes nothing.
use Rattle.std.specs.Prelude.{◌≡◌, refl, Bool, true, false, cond, ◌&&◌, List, ◌++◌, map, ℕ, ◌+◌, ◌≤◌, max, eqb, ltb, leb, length, take}
use Rattle.std.proofs.Common.{◌∙◌, true≢false, arith, leb-true, ltb-false, length-append, length-take, get_or-take}
use Rattle.std.proofs.lemmas.Bool.{false≢true}
use Rattle.octets.specs.Cases.{picked, and_l, and_r}
use Rattle.held.specs.Held.{put_held}
use Rattle.held.specs.PutLaws.{put-held}
use Rattle.lives.specs.Life.{Writer, Done, refuse, then, put, shift, cut, step_put, step_shift, step_cut}
use Rattle.lives.specs.Told.{Window, Staging, idle, appending, cutting, Told, with_writer}
use Rattle.lives.specs.Invariant.{Phys, erase, erase_w, build, now, PageHeld, Live, Good, Goes, refused, goes, no-taller, restaged}

module _ (t : Told) (p : Phys) where
  -- ---- put: the tape is open, or the call is refused

  put-live : (m : ℕ) (h : Bool) (c : List ℕ) (s : ℕ) (d : List ℕ) → length c + length d ≤ 0xffff_ffff_ffff_ffff → Live (with_writer t (appending m h c s) true) p
      → Live (with_writer t (appending m h (c ++ d) s) true) (record { last = p.last; touched = true; base = p.base; held = put_held t.size (length c) p.held d })
  put-live m h c s d l g =
      let u = put-held t.size g.pos p.held p.base (length c) d g.sound (omega arith) in
      let G = g.staged in
      let fine : (w : Window) → PageHeld t.size p.held t.epoch t.cut t.content true w → PageHeld t.size (put_held t.size (length c) p.held d) t.epoch t.cut t.content true w =
      λ w f.
      record {
        kept = u.old_k w.start (length w.content) w.content (omega (arith, no-taller f, g.low)) f.kept;
        ringed = u.old_r w.start (length w.content) w.content (omega (arith, no-taller f, g.low)) f.ringed;
        marks = λ k e q. f.marks k e (u.marks k e q);
        age = f.age;
        tall = f.tall;
      } in
      record {
        pos = g.pos;
        sound = rw length-append u.sound;
        low = g.low;
        even = g.even;
        known = g.known;
        shown = g.shown;
        bare = g.bare;
        bounded = g.bounded;
        below = λ k e q. g.below k e (u.marks k e q);
        committed = fine (now t) g.committed;
        pages = λ w i. fine w (g.pages w i);
        staged =
            record {
              present = G.present;
              whole = λ z. absurd (true≢false z);
              longer = rw length-append (omega (arith, G.longer));
              later = G.later;
              within = rw length-append (omega (arith, G.within));
              kept = rw length-append (u.new_k s c refl G.kept G.ringed);
              ringed = rw length-append (u.new_r s c refl G.ringed);
            };
      }

  pub step-put : (k : ℕ) (d : List ℕ) (x : Staging) (b : Bool) → Good (with_writer t x b) p → Goes (with_writer t x b) (put k d) (step_put (build (with_writer t x b) p) k d (erase_w t.epoch x))
  step-put k d idle b g = refused (with_writer t idle b) p (put k d) 2 0 g
  step-put k d (cutting m c) b g = refused (with_writer t (cutting m c) b) p (put k d) 2 0 g
  step-put k d (appending m h c s) true g =
      let u = with_writer t (appending m h c s) true in
      let full = refuse 18 0 (build u p) in
      let longest : ℕ = 0xffff_ffff_ffff_ffff in
      let X =
      then (Done (length c)) p.last (build u p) (map erase t.windows) (Writer.appending m t.epoch h (length c + length d) s) true true (put_held t.size (length c) p.held d) in
      picked (Goes u (put k d)) (eqb k m && true) (cond (ltb longest (length c + length d)) full X) (refuse 2 0 (build u p))
      (λ e.
      picked (Goes u (put k d)) (ltb longest (length c + length d)) full X
      (λ _. refused u p (put k d) 18 0 g)
      (λ l.
      goes u (put k d) X (with_writer t (appending m h (c ++ d) s) true) (record { last = p.last; touched = true; base = p.base; held = put_held t.size (length c) p.held d })
      (rw (and_l (eqb k m) true e)) (simp length-append) (put-live m h c s d (ltb-false longest (length c + length d) l) g)))
      (λ _. refused u p (put k d) 2 0 g)
  step-put k d (appending m h c s) false g =
      let u = with_writer t (appending m h c s) false in
      picked (Goes u (put k d)) (eqb k m && false) _ (refuse 2 0 (build u p))
      (λ e. absurd (false≢true (and_r (eqb k m) false e)))
      (λ _. refused u p (put k d) 2 0 g)

  abbrev staging : Phys
  staging = record { last = p.last; touched = true; base = p.base; held = p.held }

  pub step-shift : (k n : ℕ) (x : Staging) (b : Bool) → Good (with_writer t x b) p → Goes (with_writer t x b) (shift k n) (step_shift (build (with_writer t x b) p) k n (erase_w t.epoch x))
  step-shift k n idle b g = refused (with_writer t idle b) p (shift k n) 2 0 g
  step-shift k n (cutting m c) b g = refused (with_writer t (cutting m c) b) p (shift k n) 2 0 g
  step-shift k n (appending m h c s) false g =
      let u = with_writer t (appending m h c s) false in
      picked (Goes u (shift k n)) (eqb k m && false) _ (refuse 2 0 (build u p))
      (λ e. absurd (false≢true (and_r (eqb k m) false e)))
      (λ _. refused u p (shift k n) 2 0 g)
  step-shift k n (appending m h c s) true g =
      let u = with_writer t (appending m h c s) true in
      let far = refuse 13 0 (build u p) in
      let X = then (Done 0) p.last (build u p) (map erase t.windows) (Writer.appending m t.epoch h (length c) (max s n)) true true p.held in
      let G = g.staged in
      picked (Goes u (shift k n)) (eqb k m && true) (cond (leb n (length c)) X far) (refuse 2 0 (build u p))
      (λ e.
      picked (Goes u (shift k n)) (leb n (length c)) X far
      (λ l.
      goes u (shift k n) X (with_writer t (appending m h c (max s n)) true) staging (rw (and_l (eqb k m) true e)) refl
      (restaged t p p.last true (appending m h c s) (appending m h c (max s n)) refl refl g
      (record {
        present = G.present;
        whole = λ z. absurd (true≢false z);
        longer = G.longer;
        later = omega (arith, G.later);
        within = omega (arith, G.within, leb-true n (length c) l);
        kept = λ o a b. G.kept o (omega arith) b;
        ringed = λ o a b. G.ringed o (omega arith) b;
      })))
      (λ _. refused u p (shift k n) 13 0 g))
      (λ _. refused u p (shift k n) 2 0 g)

  pub step_cut_lem : (k n : ℕ) (x : Staging) (b : Bool) → Good (with_writer t x b) p → Goes (with_writer t x b) (cut k n) (step_cut (build (with_writer t x b) p) k n (erase_w t.epoch x))
  step_cut_lem k n idle b g = refused (with_writer t idle b) p (cut k n) 2 0 g
  step_cut_lem k n (appending m h c s) b g = refused (with_writer t (appending m h c s) b) p (cut k n) 2 0 g
  step_cut_lem k n (cutting m c) false g =
      let u = with_writer t (cutting m c) false in
      picked (Goes u (cut k n)) (eqb k m && false) _ (refuse 2 0 (build u p))
      (λ e. absurd (false≢true (and_r (eqb k m) false e)))
      (λ _. refused u p (cut k n) 2 0 g)
  step_cut_lem k n (cutting m c) true g =
      let u = with_writer t (cutting m c) true in
      let far = refuse 14 0 (build u p) in
      let X = then (Done 0) p.last (build u p) (map erase t.windows) (Writer.cutting m n) true true p.held in
      let G = g.staged in
      picked (Goes u (cut k n)) (eqb k m && true) (cond t.listed (cond (leb n (length c)) X far) (refuse 11 0 (build u p))) (refuse 2 0 (build u p))
      (λ e.
      picked (Goes u (cut k n)) t.listed (cond (leb n (length c)) X far) (refuse 11 0 (build u p))
      (λ _.
      picked (Goes u (cut k n)) (leb n (length c)) X far
      (λ l.
      let q : length (take n c) ≡ n = length-take n c ∙ omega (arith, leb-true n (length c) l) in
      goes u (cut k n) X (with_writer t (cutting m (take n c)) true) staging (rw (and_l (eqb k m) true e)) (rw q)
      (restaged t p p.last true (cutting m c) (cutting m (take n c)) refl refl g
      (record {
        whole = λ z. absurd (true≢false z);
        shorter = omega (arith, G.shorter, leb-true n (length c) l);
        same = λ o b. get_or-take n c o 0 (omega arith) ∙ G.same o (omega (arith, leb-true n (length c) l));
      })))
      (λ _. refused u p (cut k n) 14 0 g))
      (λ _. refused u p (cut k n) 11 0 g))
      (λ _. refused u p (cut k n) 2 0 g)
