-- Transactions begin: a reader, an append, a truncate. Nothing held changes. Assumes nothing.
use Rattle.std.specs.Prelude.{◌≡◌, refl, Bool, true, false, ◌&&◌, ℕ, ◌+◌, ◌<◌, ltb, length}
use Rattle.std.proofs.Common.{sym, ◌∙◌, true≢false, ⊎_elim, arith, lt-ltb}
use mathlib.Core.List.Memᴰ
use mathlib.Core.List.{List, ◌∷◌, map, Memᴰ}
use Rattle.octets.specs.Cases.{picked, order}
use Rattle.components.specs.Epochs.{older}
use Rattle.components.proofs.EpochsLaws.{none-older}
use Rattle.lives.specs.Life.{Writer, Done, refuse, then, epoch_in, epochs, reader, append, truncate, step_reader, step_append, step_truncate}
use Rattle.lives.specs.Told.{Window, Staging, idle, appending, cutting, Told, with_writer, with_windows}
use Rattle.lives.specs.Invariant.{Phys, erase, erase_w, build, now, PageHeld, Good, Goes, refused, restaged, rested, rewindowed, reslept}

-- a window's epoch is counted
pub epoch-counted : {w : Window} {ws : List Window} → Memᴰ w ws → Memᴰ w.epoch (epochs (map erase ws))
epoch-counted i = Memᴰ.map epoch_in (Memᴰ.map erase i)

older-some : (e : ℕ) (ws : List Window) {w : Window} → Memᴰ w ws → w.epoch < e → 0 < older e (epochs (map erase ws))
older-some e ws i l =
    let n = older e (epochs (map erase ws)) in
    order 0 n (λ m. m) (λ m. absurd (omega (arith, none-older e (epochs (map erase ws)) (omega arith) (epoch-counted i))))

module _ (t : Told) (p : Phys) where
  abbrev with : Bool → ℕ → Phys
  with b n = record { last = n; touched = b; base = p.base; held = p.held }

  abbrev opening : ℕ → Window
  opening n = record { number = n; epoch = t.epoch; here = t.listed; start = t.start; content = t.content }

  one_more : (n : ℕ) (x : Staging) (b : Bool) → Good (with_writer t x b) p → Good (with_windows (with_writer t x b) (opening n ∷ t.windows)) (with p.touched n)
  one_more n x true g =
      let f = g.committed in
      rewindowed t p n (opening n ∷ t.windows) x g
      (λ w i. ⊎_elim (λ e. rw e (record { kept = f.kept; ringed = f.ringed; marks = f.marks; age = f.age; tall = f.tall })) (g.pages w) (Memᴰ.cases_cons i))
  one_more n x false g =
      reslept t p n (opening n ∷ t.windows) x g
      (λ w i. ⊎_elim (λ e. rw e (record { age = omega arith; short = omega arith; part = λ o a b. (a, refl) })) (g.pages w) (Memᴰ.cases_cons i))

  pub step-reader : (x : Staging) (b : Bool) → Good (with_writer t x b) p → Goes (with_writer t x b) reader (step_reader (build (with_writer t x b) p))
  step-reader x b g = record { phys = with p.touched (p.last + 1); same = refl; good = one_more (p.last + 1) x b g }

  -- no page is longer than the tape: one that was would have to be waited for
  begin-append : (b : Bool) → Good (with_writer t idle b) p → (t.cut && ltb 0 (older t.epoch (epochs (map erase t.windows)))) ≡ false
      → Good (with_writer t (appending (p.last + 1) t.listed t.content t.start) b) (with false (p.last + 1))
  begin-append true g e =
      let n = older t.epoch (epochs (map erase t.windows)) in
      let f = g.committed in
      let q = g.even refl in
      let begun : (w : Window) → PageHeld t.size p.held t.epoch t.cut t.content false w → (w.epoch < t.epoch → 0 < n) → PageHeld t.size p.held t.epoch t.cut t.content true w =
      λ w f q.
      record {
        kept = f.kept;
        ringed = f.ringed;
        marks = f.marks;
        age = f.age;
        tall = λ l. let (u, v, _) = f.tall l in absurd (true≢false (sym (rw (u, lt-ltb 0 n (q v)) refl) ∙ e));
      } in
      record {
        pos = g.pos;
        sound = g.sound;
        low = g.low;
        even = λ z. absurd (true≢false z);
        known = λ _. q;
        shown = λ z. absurd (true≢false z);
        bare = g.bare;
        bounded = g.bounded;
        below = g.below;
        committed = begun (now t) f (λ l. absurd (omega arith));
        pages = λ w i. begun w (g.pages w i) (older-some t.epoch t.windows i);
        staged =
            record {
              present = g.shown refl;
              whole = λ _. (omega (arith, g.sound.new), refl);
              longer = omega arith;
              later = omega arith;
              within = g.bounded;
              kept = λ o a b. f.kept o a (omega arith);
              ringed = f.ringed;
            };
      }
  begin-append false g e = rested t p (p.last + 1) false idle (appending (p.last + 1) t.listed t.content t.start) g refl (refl, refl, refl)

  begin-cut : (b : Bool) → Good (with_writer t idle b) p → Good (with_writer t (cutting (p.last + 1) t.content) b) (with false (p.last + 1))
  begin-cut true g = restaged t p (p.last + 1) false idle (cutting (p.last + 1) t.content) refl refl g (record { whole = λ _. refl; shorter = omega arith; same = λ o _. refl })
  begin-cut false g = rested t p (p.last + 1) false idle (cutting (p.last + 1) t.content) g refl refl

  pub step-append : (x : Staging) (b : Bool) → Good (with_writer t x b) p → Goes (with_writer t x b) append (step_append (build (with_writer t x b) p) (erase_w t.epoch x))
  step-append (appending m h c s) b g = refused (with_writer t (appending m h c s) b) p append 3 0 g
  step-append (cutting m c) b g = refused (with_writer t (cutting m c) b) p append 3 0 g
  step-append idle b g =
      let u = with_writer t idle b in
      let n = older t.epoch (epochs (map erase t.windows)) in
      let l = p.last + 1 in
      picked (Goes u append) (t.cut && ltb 0 n) (refuse 4 n (build u p))
      (then (Done l) l (build u p) (map erase t.windows) (Writer.appending l t.epoch t.listed (length t.content) t.start) false b p.held)
      (λ _. refused u p append 4 n g)
      (λ e. record { phys = with false l; same = refl; good = begin-append b g e })

  pub step-truncate : (x : Staging) (b : Bool) → Good (with_writer t x b) p → Goes (with_writer t x b) truncate (step_truncate (build (with_writer t x b) p) (erase_w t.epoch x))
  step-truncate (appending m h c s) b g = refused (with_writer t (appending m h c s) b) p truncate 3 0 g
  step-truncate (cutting m c) b g = refused (with_writer t (cutting m c) b) p truncate 3 0 g
  step-truncate idle b g = record { phys = with false (p.last + 1); same = refl; good = begin-cut b g }
