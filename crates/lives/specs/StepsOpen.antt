-- A session ends, and a tape is opened: made new, or found on the disk as it was left. Assumes nothing.
use Rattle.std.proofs.lemmas.Option.{none-some}
use Rattle.std.specs.Prelude.{◌≡◌, refl, Bool, true, false, cond, ◌&&◌, List, [], map, ℕ, ◌-◌, ◌≤◌, ◌<◌, max, eqb, ltb, leb, take, drop, replicate, Option, Some}
use Rattle.std.proofs.Math.Path.{sym, ap}
use Rattle.std.proofs.Common.{◌∙◌, subst, true≢false, arith, eqb-true, ltb-true, leb-true}
use Rattle.std.proofs.lemmas.Bool.{false≢true}
use mathlib.Core.List.Memᴰ
use Rattle.std.proofs.Math.ListN.{length, length-replicate}
use Rattle.octets.specs.Cases.{picked, and_l, and_r}
use Rattle.components.specs.Pieces.{file_of}
use Rattle.components.specs.Files.{Files, no_files}
use Rattle.held.specs.Held.{Held, taken, load, filled}
use Rattle.held.specs.Page.{Kept, Ringed}
use Rattle.held.specs.OpenLaws.{track-forget, track-kept, taken-kept, taken-mark, load_kept, fill-ringed, fill-sound, made-sound}
use Rattle.lives.specs.Life.{Writer, Done, refuse, then, asleep, capacity_fits, open_known, open_new, restart, open', step_restart, step_open}
use Rattle.lives.specs.Told.{Staging, idle, appending, cutting, Told, with_writer, with_open}
use Rattle.lives.specs.Invariant.{Phys, erase, erase_w, build, Live, Dormant, Good, Goes, refused, goes, rested}

-- what the test of a cache says
record Fits (c : ℕ) (memory : List ℕ) (size : ℕ) : Type 0 where
  one : 1 ≤ c
  small : c ≤ 4096
  room : c ≤ length memory
  pos : 0 < size

fits : (c : ℕ) (memory : List ℕ) (size : ℕ) → (capacity_fits c memory && ltb 0 size) ≡ true → Fits c memory size
fits c memory size e =
    let a = and_l (capacity_fits c memory) (ltb 0 size) e in
    let b = and_r (leb 1 c) (leb c 4096 && leb c (length memory)) a in
    record {
      one = leb-true 1 c (and_l (leb 1 c) (leb c 4096 && leb c (length memory)) a);
      small = leb-true c 4096 (and_l (leb c 4096) (leb c (length memory)) b);
      room = leb-true c (length memory) (and_r (leb c 4096) (leb c (length memory)) b);
      pos = ltb-true 0 size (and_r (capacity_fits c memory) (ltb 0 size) e);
    }

module _ (t : Told) (p : Phys) where
  -- ---- the session's end

  abbrev ended : Phys
  ended = record { last = 0; touched = false; base = 0; held = asleep p.held }

  pub step-restart : (x : Staging) (b : Bool) → Good (with_writer t x b) p → Goes (with_writer t x b) restart (step_restart (build (with_writer t x b) p))
  step-restart x true g =
      record {
        phys = ended;
        same = refl;
        good =
            record {
              pos = λ _. g.pos;
              bare = g.bare;
              bounded = g.bounded;
              untouched = refl;
              kept =
                  subst (λ (f : Files). Kept t.size f t.start (length t.content) t.content) (sym (track-forget (file_of t.size (length t.content)) p.held.files))
                  (track-kept t.size g.pos p.held.files (length t.content) t.start (length t.content) t.content g.committed.kept (omega arith));
              pages = λ w i. absurd (Memᴰ.not-nil i);
              staged = tt;
            };
      }
  step-restart x false g =
      record {
        phys = ended;
        same = refl;
        good =
            record {
              pos = g.pos;
              bare = g.bare;
              bounded = g.bounded;
              untouched = refl;
              kept = subst (λ (f : Files). Kept t.size f t.start (length t.content) t.content) (sym (track-forget (file_of t.size (length t.content)) p.held.files)) g.kept;
              pages = λ w i. absurd (Memᴰ.not-nil i);
              staged = tt;
            };
      }

  -- ---- opening

  abbrev resting : ℕ → Told
  resting m = with_writer t (appending m t.listed t.content t.start) false

  abbrev opened : ℕ → Held → Phys
  opened base h = record { last = p.last; touched = true; base = base; held = h }

  -- a tape made new, of a file size
  abbrev made : (m size st : ℕ) → Told
  made m size st = with_open t (appending m true (replicate st 0) st) size

  made-live : (m size c st : ℕ) (memory : List ℕ) → Dormant (resting m) p → t.listed ≡ false → Fits c memory size → Live (made m size st) (opened st (filled c st memory [] no_files))
  unfolding filled
  made-live m size c st memory g a f =
      let e = length-replicate {A = ℕ} st 0 in
      let y = g.bare a in
      record {
        pos = f.pos;
        sound = rw e (made-sound c st memory no_files f.one f.small f.room);
        low = omega arith;
        even = λ q. absurd (true≢false q);
        known = λ q. absurd (false≢true (sym a ∙ q));
        shown = λ q. absurd (true≢false q);
        bare = g.bare;
        bounded = g.bounded;
        below = λ k x q. absurd (none-some x q);
        committed =
            record {
              kept = λ o a b. absurd (omega arith);
              ringed = λ o a b. absurd (omega arith);
              marks = λ k x q. absurd (none-some x q);
              age = omega arith;
              tall = λ l. absurd (omega arith);
            };
        pages = λ w i.
            let v = g.pages w i in
            record {
              kept = λ o a b. absurd (omega (arith, v.short));
              ringed = λ o a b. absurd (omega (arith, v.short));
              marks = λ k x q. absurd (none-some x q);
              age = v.age;
              tall = λ l. absurd (omega (arith, v.short));
            };
        staged =
            record {
              present = refl;
              whole = λ q. absurd (true≢false q);
              longer = omega arith;
              later = omega (arith, g.bounded);
              within = omega arith;
              kept = λ o a b. absurd (omega arith);
              ringed = λ o a b. absurd (omega arith);
            };
      }

  -- where a known tape's cache begins, and what it is filled with
  abbrev first_in : ℕ → ℕ
  first_in c = max (length t.content - c) t.start

  abbrev last_bytes : ℕ → List ℕ
  last_bytes c = take (length t.content - first_in c) (drop (first_in c) t.content)

  abbrev known : ℕ → List ℕ → Held
  known c memory = filled c (first_in c) memory (last_bytes c) (taken t.size t.epoch (length t.content) t.start p.held.files)

  loads : (m c : ℕ) → Dormant (resting m) p → load t.size p.held.files (first_in c) (length t.content - first_in c) ≡ Some (last_bytes c)
  loads m c g =
      let l = length t.content in
      load_kept t.size (file_of t.size l) p.held.files t.start t.content g.kept (l - first_in c) (first_in c) (omega arith) (omega (arith, g.bounded))

  known-live : (m c : ℕ) (memory : List ℕ) → Dormant (resting m) p → t.listed ≡ true → Fits c memory t.size
      → Live (with_writer t (appending m t.listed t.content t.start) true) (opened (length t.content) (known c memory))
  unfolding filled
  known-live m c memory g y f =
      let fs = t.size in
      let l = length t.content in
      let F = taken fs t.epoch l t.start p.held.files in
      let u = g.bounded in
      let kept : Kept fs F t.start l t.content = taken-kept fs f.pos p.held.files t.epoch l t.start t.start l t.content g.kept (omega arith) in
      let ringed : Ringed (known c memory) t.start l t.content =
      fill-ringed c t.start (first_in c) memory t.content F (omega arith) (omega arith) (omega arith) f.one f.room in
      let mark : (k x : ℕ) → (F k).mark ≡ Some x → (x ≡ t.epoch) × (k < file_of fs t.start) =
      λ k x q. taken-mark fs p.held.files t.epoch l t.start k q in
      record {
        pos = f.pos;
        sound = fill-sound c (first_in c) memory t.content F f.one f.small f.room (omega arith) (omega arith);
        low = omega arith;
        even = λ _. refl;
        known = λ _. refl;
        shown = λ _. y;
        bare = g.bare;
        bounded = u;
        below = λ k x q. (mark k x q).1;
        committed = record { kept = kept; ringed = ringed; marks = λ k x q _. (mark k x q).1; age = omega arith; tall = λ l. absurd (omega arith) };
        pages = λ w i.
            let v = g.pages w i in
            record {
              kept = λ o a b. let (x, q) = v.part o a b in kept o x (omega (arith, v.short)) ∙ ap {B = Option ℕ} Some (sym q);
              ringed = λ o a b l. let (x, q) = v.part o a b in ringed o x (omega (arith, v.short)) l ∙ sym q;
              marks = λ k x q l. absurd (omega (arith, (mark k x q).0, v.age));
              age = v.age;
              tall = λ l. absurd (omega (arith, v.short));
            };
        staged = record { present = y; whole = λ q. absurd (true≢false q); longer = omega arith; later = omega arith; within = u; kept = λ o a b. kept o a (omega arith); ringed = ringed };
      }

  open-resting : (k size c st : ℕ) (memory : List ℕ) (m : ℕ) → Dormant (resting m) p
      → Goes (resting m) (open' k size c st memory) (step_open (build (resting m) p) k size c st memory (Writer.appending m t.epoch t.listed (length t.content) t.start))
  open-resting k size c st memory m g =
      let u = resting m in
      let s = build u p in
      let call = open' k size c st memory in
      let l = length t.content in
      let w = Writer.appending m t.epoch t.listed l t.start in
      let other = refuse 8 0 s in
      let A = open_known s t.epoch l t.start c (first_in c) memory w (load size p.held.files (first_in c) (l - first_in c)) in
      let B = open_new s m t.epoch size c st memory in
      let C = cond t.listed (cond (eqb size t.size) A other) B in
      picked (Goes u call) (eqb k m) (cond (capacity_fits c memory && ltb 0 size) C other) (refuse 2 0 s)
      (λ e.
      picked (Goes u call) (capacity_fits c memory && ltb 0 size) C other
      (λ n.
      let f = fits c memory size n in
      picked (Goes u call) t.listed (cond (eqb size t.size) A other) B
      (λ y.
      picked (Goes u call) (eqb size t.size) A other
      (λ z.
      let same : size ≡ t.size = eqb-true size t.size z in
      let X = then (Done 1) p.last s (map erase t.windows) w true true (known c memory) in
      let found : A ≡ X = ap (open_known s t.epoch l t.start c (first_in c) memory w) (ap (λ (fs : ℕ). load fs p.held.files (first_in c) (l - first_in c)) same ∙ loads m c g) in
      subst (Goes u call) (sym found)
      (goes u call X (with_writer t (appending m t.listed t.content t.start) true) (opened l (known c memory)) (rw (e, y)) refl
      (known-live m c memory g y (subst (Fits c memory) same f))))
      (λ _. refused u p call 8 0 g))
      (λ y. goes u call B (made m size st) (opened st (filled c st memory [] no_files)) (rw (e, y)) (rw length-replicate) (made-live m size c st memory g y f)))
      (λ _. refused u p call 8 0 g))
      (λ _. refused u p call 2 0 g)

  pub step-open : (k size c st : ℕ) (memory : List ℕ) (x : Staging) (b : Bool) → Good (with_writer t x b) p
      → Goes (with_writer t x b) (open' k size c st memory) (step_open (build (with_writer t x b) p) k size c st memory (erase_w t.epoch x))
  step-open k size c st memory idle b g = refused (with_writer t idle b) p (open' k size c st memory) 2 0 g
  step-open k size c st memory (cutting m d) b g = refused (with_writer t (cutting m d) b) p (open' k size c st memory) 2 0 g
  step-open k size c st memory (appending m h d s) true g =
      let u = with_writer t (appending m h d s) true in
      let call = open' k size c st memory in
      picked (Goes u call) (eqb k m) (cond (capacity_fits c memory && ltb 0 size) (refuse 9 0 (build u p)) (refuse 8 0 (build u p))) (refuse 2 0 (build u p))
      (λ _.
      picked (Goes u call) (capacity_fits c memory && ltb 0 size) (refuse 9 0 (build u p)) (refuse 8 0 (build u p))
      (λ _. refused u p call 9 0 g)
      (λ _. refused u p call 8 0 g))
      (λ _. refused u p call 2 0 g)
  step-open k size c st memory (appending m h d s) false g =
      let (a, b, e) = g.staged in
      rw (a, b, e)
      (open-resting k size c st memory m (rested t p p.last p.touched (appending m h d s) (appending m t.listed t.content t.start) g g.untouched (refl, refl, refl)))
