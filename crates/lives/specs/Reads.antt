-- For one tape: what ties a store to what is told, and that an open transaction's page is found in cache and files. Assumes nothing.
use Rattle.octets.specs.Cases.{some-injective}
use Rattle.std.proofs.lemmas.Option.{none-some}
use Rattle.std.specs.Prelude.{◌≡◌, refl, Bool, true, false, ℕ, ◌+◌, ◌-◌, ◌≤◌, eqb, length, take, drop, Option, Some}
use Rattle.std.proofs.Common.{sym, ap, ◌∙◌, subst, arith}
use Rattle.std.proofs.lemmas.Bool.{false≢true}
use mathlib.Core.List.Memᴰ
use mathlib.Core.List.{List, [], ◌∷◌, Memᴰ}
use Rattle.octets.specs.Cases.{picked, order}
use Rattle.held.specs.Held.{fetch}
use Rattle.held.specs.ReadLaws.{Serves, serves, fetch-serves}
use Rattle.lives.specs.Life.{Store, blank, nothing_held}
use Rattle.lives.specs.Told.{Window, Staging, idle, appending, cutting, Told, with_writer, Page, page_w, page_in, page_of, page, nothing}
use Rattle.lives.specs.Invariant.{Phys, build, Live, GoodIf, Good}

pub record Tied (s : Store) (t : Told) : Type 0 where
  pub phys : Phys
  pub same : s ≡ build t phys
  pub good : Good t phys

pub tied-blank : Tied blank nothing
unfolding blank nothing
tied-blank =
    record {
      phys = record { last = 0; touched = false; base = 0; held = nothing_held };
      same = refl;
      good =
          record {
            pos = λ q. absurd (false≢true q);
            bare = λ _. refl;
            bounded = omega arith;
            untouched = refl;
            kept = λ o x y. absurd (omega arith);
            pages = λ w i. absurd (Memᴰ.not-nil i);
            staged = tt;
          };
    }

-- ---- the page of a transaction

find-window : (k : ℕ) (ws : List Window) (q : Page) → page_in k ws ≡ Some q → (w : Window) × Memᴰ w ws × (page_w w ≡ q)
unfolding page_in
find-window k [] q = λ e. absurd (none-some q e)
find-window k (w ∷ ws) q =
    picked (λ x. x ≡ Some q → (v : Window) × Memᴰ v (w ∷ ws) × (page_w v ≡ q)) (eqb k w.number) (Some (page_w w)) (page_in k ws)
    (λ _ e. (w, Memᴰ.head refl, some-injective _ _ e))
    (λ _ e. let (v, i, r) = find-window k ws q e in (v, Memᴰ.tail i, r))

module _ (t : Told) (p : Phys) where
  abbrev Gives : Page → Type 0
  Gives q = Serves t.size p.held q.start q.content

  window-gives : (k : ℕ) (x : Staging) (q : Page) → Live (with_writer t x t.live) p → page_in k t.windows ≡ Some q → Gives q
  window-gives k x q g e =
      let (w, i, r) = find-window k t.windows q e in
      let f = g.pages w i in
      subst Gives r (serves t.size p.held w.start (length w.content) w.content (λ o a b. a) f.kept f.ringed)

  gives : (k : ℕ) (x : Staging) (q : Page) → Live (with_writer t x t.live) p → page_of k t x ≡ Some q → Gives q
  gives k idle q g = window-gives k idle q g
  gives k (appending m h c s) q g =
      picked (λ y. y ≡ Some q → Gives q) (eqb k m) (Some (record { here = h; start = s; content = c })) (page_in k t.windows)
      (λ r e.
      let G = g.staged in
      let H = g.sound in
      subst Gives (some-injective _ _ e)
      (serves t.size p.held s (length c - p.held.unwritten) c
      (λ o a b. order 0 p.held.ring.len (λ z. omega (arith, H.joined z, H.few)) (λ z. omega (arith, H.few)))
      G.kept G.ringed))
      (λ r e. window-gives k (appending m h c s) q g e)
  gives k (cutting m c) q g =
      picked (λ y. y ≡ Some q → Gives q) (eqb k m) (Some (record { here = t.listed; start = t.start; content = c })) (page_in k t.windows)
      (λ r e.
      let G = g.staged in
      let f = g.committed in
      subst Gives (some-injective _ _ e)
      (λ o a b. serves t.size p.held t.start (length t.content) t.content (λ o a b. a) f.kept f.ringed o a (omega (arith, G.shorter)) ∙ ap {B = Option ℕ} Some (sym (G.same o b))))
      (λ r e. window-gives k (cutting m c) q g e)

-- bytes inside the page of a transaction, of an open tape
pub reads_held : (t : Told) (p : Phys) → Good t p → t.live ≡ true → (k o n : ℕ) (q : Page) → page k t ≡ Some q → q.start ≤ o → o + n ≤ length q.content
    → fetch t.size p.held o n ≡ Some (take n (drop o q.content))
reads_held t p g l k o n q e a b =
    fetch-serves t.size p.held q.start q.content (gives t p k t.writer q (subst (λ (x : Bool). GoodIf x t p) l g) e) n o a b
