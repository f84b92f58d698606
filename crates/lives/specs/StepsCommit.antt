-- A writer commits: what it staged is the tape, for all who come; whoever is still open keeps the page that it saw. Assumes nothing.
use Rattle.std.specs.Prelude.{◌≡◌, refl, Bool, true, false, cond, ◌⊎◌, ℕ, ◌+◌, ◌≤◌, ◌<◌, min, eqb, length, Option, Some}
use Rattle.std.proofs.Common.{sym, ap, ◌∙◌, inl, ⊎_elim, arith}
use Rattle.std.proofs.lemmas.Bool.{false≢true}
use mathlib.Core.List.{List, map, Memᴰ}
use Rattle.octets.specs.Cases.{picked, order}
use Rattle.components.specs.Pieces.{file_of}
use Rattle.components.specs.PiecesLaws.{file-mono}
use Rattle.components.specs.Epochs.{oldest_other}
use Rattle.components.proofs.EpochsLaws.{oldest-le}
use Rattle.held.specs.Held.{Held, flush, settled, trimmed}
use Rattle.held.specs.Page.{Kept, Ringed, Sound}
use Rattle.held.specs.FlushLaws.{flush-old, flush-new, flush-mark}
use Rattle.held.specs.SettleLaws.{settled-kept, settled-mark, settled-sound}
use Rattle.held.specs.TrimLaws.{trim-held}
use Rattle.lives.specs.Life.{Writer, After, refuse, committed, epochs, commit, step_commit}
use Rattle.lives.specs.Told.{Window, Staging, idle, appending, cutting, Told, with_writer, published}
use Rattle.lives.specs.Invariant.{Phys, settled_as, erase, erase_w, build, now, PageHeld, Live, Dormant, Good, Goes, refused, goes, no-taller}
use Rattle.lives.specs.StepsBegin.{epoch-counted}

-- a file below those of both offsets is below that of the smaller
below-min : (fs k a b : ℕ) → k < file_of fs a → k < file_of fs b → k < file_of fs (min a b)
below-min fs k a b u v =
    order a b
    (λ l. let e : min a b ≡ a = omega arith in rw e u)
    (λ l. let e : min a b ≡ b = omega arith in rw e v)

module _ (t : Told) (p : Phys) where
  -- ---- an append's: h' is what it leaves, settled if the tape was touched, else as it was

  module _ (m : ℕ) (h : Bool) (c : List ℕ) (s : ℕ) where
    record Left (h' : Held) : Type 0 where
      sound : Sound h' (length c) (length c)
      marks : (k x : ℕ) → (h'.files k).mark ≡ Some x → ((p.held.files k).mark ≡ Some x) ⊎ ((x ≡ t.epoch) × (k < file_of t.size s))
      ringed : (st n : ℕ) (d : List ℕ) → Ringed p.held st n d → Ringed h' st n d
      new : Kept t.size h'.files s (length c) c
      old : (w : Window) → Memᴰ w t.windows → Kept t.size h'.files w.start (length w.content) w.content

    published-live : Live (with_writer t (appending m h c s) true) p → (h' : Held) → Left h' → Live (published (with_writer t idle true) false h c s) (settled_as p (length c) h')
    published-live g h' l =
        let fs = t.size in
        let G = g.staged in
        let below : (k x : ℕ) → (h'.files k).mark ≡ Some x → k < file_of fs s =
        λ k x q. ⊎_elim (λ r. omega (arith, g.below k x r, file-mono fs g.pos t.start s G.later)) (λ r. r.1) (l.marks k x q) in
        record {
          pos = g.pos;
          sound = l.sound;
          low = omega arith;
          even = λ _. refl;
          known = λ _. refl;
          shown = λ _. G.present;
          bare = λ q. absurd (false≢true (sym q ∙ G.present));
          bounded = G.within;
          below = below;
          committed = record { kept = l.new; ringed = l.ringed s (length c) c G.ringed; marks = λ k x q _. below k x q; age = omega arith; tall = λ l. absurd (omega arith) };
          pages = λ w i.
              let f = g.pages w i in
              record {
                kept = l.old w i;
                ringed = l.ringed w.start (length w.content) w.content f.ringed;
                marks = λ k x q y. ⊎_elim (λ r. f.marks k x r y) (λ r. absurd (omega (arith, r.0, f.age))) (l.marks k x q);
                age = omega (arith, f.age);
                tall = λ y. absurd (omega (arith, no-taller f, G.longer));
              };
          staged = tt;
        }

    abbrev oldest : ℕ
    oldest = oldest_other t.epoch (epochs (map erase t.windows))

    abbrev after : Held
    after = settled t.size t.epoch oldest (length c) s p.held

    same-ring : (st n : ℕ) (d : List ℕ) → Ringed p.held st n d → Ringed after st n d
    unfolding settled
    same-ring st n d r = r

    left-settled : Live (with_writer t (appending m h c s) true) p → Left after
    left-settled g =
        let fs = t.size in
        let G = g.staged in
        let H = g.sound in
        let W = length c in
        let before : (k x : ℕ) → (flush fs W p.held k).mark ≡ Some x → (p.held.files k).mark ≡ Some x =
        λ k x q. flush-mark fs g.pos p.held W k q in
        record {
          sound = settled-sound fs p.held t.epoch oldest p.base W s H;
          marks = λ k x q. settled-mark fs p.held t.epoch oldest W s k q;
          ringed = same-ring;
          new =
              settled-kept fs g.pos p.held t.epoch oldest W s s W c
              (flush-new fs g.pos p.held p.base W H s c G.kept G.ringed)
              (λ k x q _. omega (arith, g.below k x (before k x q), file-mono fs g.pos t.start s G.later))
              (λ _. omega arith);
          old = λ w i.
              let f = g.pages w i in
              let n = length w.content in
              let y : oldest ≤ w.epoch = oldest-le t.epoch (epochs (map erase t.windows)) (epoch-counted i) in
              settled-kept fs g.pos p.held t.epoch oldest W s w.start n w.content
              (flush-old fs g.pos p.held p.base W H w.start n w.content (omega (arith, no-taller f, g.low)) f.kept)
              (λ k x q l. f.marks k x (before k x q) (omega arith))
              (λ l. absurd (omega (arith, f.age)));
        }

    left_alone : Live (with_writer t (appending m h c s) true) p → p.touched ≡ false → Left p.held
    left_alone g q =
        let G = g.staged in
        let H = g.sound in
        let (none, same) = G.whole q in
        record {
          sound = record { ring = H.ring; few = H.few; new = omega arith; joined = H.joined; empty = λ _. refl };
          marks = λ k x r. inl r;
          ringed = λ st n d r. r;
          new = λ o a b. G.kept o a (omega arith);
          old = λ w i. (g.pages w i).kept;
        }

    commit-append-live : (k : ℕ) → Live (with_writer t (appending m h c s) true) p
        → Goes (with_writer t (appending m h c s) true) (commit k) (step_commit (build (with_writer t (appending m h c s) true) p) k (Writer.appending m t.epoch h (length c) s))
    commit-append-live k g =
        let u = with_writer t (appending m h c s) true in
        let X : Held → After = committed (build u p) false h (length c) s in
        picked (Goes u (commit k)) (eqb k m) (X (cond p.touched after p.held)) (refuse 2 0 (build u p))
        (λ e.
        let commits : (h' : Held) → Left h' → Goes u (commit k) (X h') =
        λ h' l. goes u (commit k) (X h') (published (with_writer t idle true) false h c s) (settled_as p (length c) h') (rw e) refl (published-live g h' l) in
        picked (λ (h' : Held). Goes u (commit k) (X h')) p.touched after p.held
        (λ _. commits after (left-settled g))
        (λ q. commits p.held (left_alone g q)))
        (λ _. refused u p (commit k) 2 0 g)

  -- ---- a truncate's

  commit-cut-live : (k m : ℕ) (c : List ℕ) → Live (with_writer t (cutting m c) true) p
      → Goes (with_writer t (cutting m c) true) (commit k) (step_commit (build (with_writer t (cutting m c) true) p) k (Writer.cutting m (length c)))
  commit-cut-live k m c g =
      let u = with_writer t (cutting m c) true in
      let fs = t.size in
      let h' : Held = cond p.touched (trimmed fs (length c) p.held) p.held in
      let G = g.staged in
      let st = min t.start (length c) in
      let X = committed (build u p) true t.listed (length c) st h' in
      picked (Goes u (commit k)) (eqb k m) X (refuse 2 0 (build u p))
      (λ e.
      let tr = trim-held fs p.held (length t.content) (length c) p.touched (rw (g.even refl) at g.sound) G.shorter G.whole in
      let fine : (w : Window) → PageHeld fs p.held t.epoch t.cut t.content false w → PageHeld fs h' (t.epoch + 1) true c false w =
      λ w f.
      record {
        kept = tr.kept w.start (length w.content) w.content f.kept;
        ringed = tr.ringed w.start (length w.content) w.content f.ringed;
        marks = λ k x q. f.marks k x (tr.marks k x q).0;
        age = omega (arith, f.age);
        tall = λ l. (refl, omega (arith, f.age), refl);
      } in
      let B = fine (now t) g.committed in
      let below : (k x : ℕ) → (h'.files k).mark ≡ Some x → k < file_of fs st =
      λ k x q.
      let (a, v) = tr.marks k x q in
      below-min fs k t.start (length c) (g.below k x a) (⊎_elim (λ r. r) (λ r. omega (arith, g.below k x a, file-mono fs g.pos t.start (length c) (omega (arith, g.bounded)))) v) in
      goes u (commit k) X (published (with_writer t idle true) true t.listed c st) (settled_as p (length c) h')
      (rw e) refl
      (record {
        pos = g.pos;
        sound = tr.sound;
        low = omega arith;
        even = λ _. refl;
        known = λ _. refl;
        shown = λ _. g.shown refl;
        bare = λ q. omega (arith, g.bare q, G.shorter);
        bounded = omega arith;
        below = below;
        committed =
            record {
              kept = λ o a b. B.kept o (omega arith) (omega (arith, G.shorter)) ∙ ap {B = Option ℕ} Some (sym (G.same o b));
              ringed = λ o a b l. B.ringed o (omega arith) (omega (arith, G.shorter)) l ∙ sym (G.same o b);
              marks = λ k x q _. below k x q;
              age = omega arith;
              tall = λ l. absurd (omega arith);
            };
        pages = λ w i. fine w (g.pages w i);
        staged = tt;
      }))
      (λ _. refused u p (commit k) 2 0 g)

  -- ---- of a sleeping tape: nothing but the epoch changes

  abbrev later : Bool → Told
  later b = published (with_writer t idle false) b t.listed t.content t.start

  published-dormant : (x : Staging) (b : Bool) → Dormant (with_writer t x false) p → Dormant (later b) (settled_as p p.base p.held)
  published-dormant x b g =
      record {
        pos = g.pos;
        bare = g.bare;
        bounded = g.bounded;
        untouched = refl;
        kept = g.kept;
        pages = λ w i. let v = g.pages w i in record { age = omega (arith, v.age); short = v.short; part = v.part };
        staged = tt;
      }

  pub step-commit : (k : ℕ) (x : Staging) (b : Bool) → Good (with_writer t x b) p → Goes (with_writer t x b) (commit k) (step_commit (build (with_writer t x b) p) k (erase_w t.epoch x))
  step-commit k idle b g = refused (with_writer t idle b) p (commit k) 2 0 g
  step-commit k (appending m h c s) true g = commit-append-live m h c s k g
  step-commit k (cutting m c) true g = commit-cut-live k m c g
  step-commit k (appending m h c s) false g =
      let u = with_writer t (appending m h c s) false in
      let X = committed (build u p) false h (length c) s (cond p.touched (after m h c s) p.held) in
      let (x, y, z) = g.staged in
      picked (Goes u (commit k)) (eqb k m) X (refuse 2 0 (build u p))
      (λ e. goes u (commit k) X (later false) (settled_as p p.base p.held) (rw (e, x, y, z)) (rw (g.untouched, x, y, z)) (published-dormant (appending m h c s) false g))
      (λ _. refused u p (commit k) 2 0 g)
  step-commit k (cutting m c) false g =
      let u = with_writer t (cutting m c) false in
      let X = committed (build u p) true t.listed (length c) (min t.start (length c)) (cond p.touched (trimmed t.size (length c) p.held) p.held) in
      let y : c ≡ t.content = g.staged in
      let z : min t.start (length t.content) ≡ t.start = omega (arith, g.bounded) in
      picked (Goes u (commit k)) (eqb k m) X (refuse 2 0 (build u p))
      (λ e. goes u (commit k) X (later true) (settled_as p p.base p.held) (rw (e, y, z)) (rw (g.untouched, y, z)) (published-dormant (cutting m c) true g))
      (λ _. refused u p (commit k) 2 0 g)
