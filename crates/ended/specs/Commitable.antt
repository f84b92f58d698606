-- What a commit publishes makes a list that has every published tape just once, and no start in it is above its length. What is served with it is in
-- proofs/Commitable.antt. Assumes nothing.
use Rattle.std.specs.Prelude.{◌≡◌, ◌≢◌, Bool, ◌&&◌, Option, Some, None}
use Rattle.std.proofs.Math.Path.{refl, sym, ap}
use Rattle.std.proofs.Common.{subst, ◌∙◌}
use Rattle.std.proofs.Math.Bool.{true, false}
use mathlib.Core.List.{List}
use Prim.Native.Nat.{ℕ, zero, suc, ◌+◌, ◌≤◌, ◌<◌}
use native.Mathlib.Omega.{arith}
use Rattle.std.proofs.Math.ListN.{length}
use Rattle.octets.specs.Cases.{decide}
use Rattle.octets.specs.Compare.{comes_before, before-irrefl, before-trans, before-total}
use Rattle.octets.specs.First.{count, count_same, count-more}
use Rattle.layout.specs.Names.{name}
use Rattle.layout.specs.Session.{names_at}
use Rattle.session.specs.Rows.{view_of, staged_of}
use Rattle.beginning.specs.Transactions.{is_open_at}
use Rattle.staging.specs.Seeing.{writes, cuts}
use Rattle.ending.specs.Listing.{is_touched, published, next_behind, with_next, list_behind}
use Rattle.ending.specs.ListingLaws.{next-found, next-first, next-none}
use Rattle.ending.specs.StepLaws.{touched-held}
use Rattle.held.specs.Held.{Held}
use Rattle.lives.specs.Life.{Writer}
use Rattle.lives.specs.Told.{Staging, Told}
use Rattle.lives.specs.Invariant.{Phys, erase_w, build, Staged, Live, GoodIf, Good}
use Rattle.seen.specs.Seen.{place_of, view_in, staged_in, Seen}
use Rattle.seen.specs.Orderly.{Orderly}
use Rattle.ended.specs.CommitAppends.{touched-view}
use Rattle.seen.specs.GoodTapes.{good-bounded}
use Rattle.seen.specs.Shown.{shown-whole}
use Rattle.seen.specs.Handles.{live_at}
use Rattle.seen.specs.Places.{found_at}
use Rattle.seen.specs.ProperLaws.{listed-named}
use Rattle.ended.specs.Turns.{touched-named}
use Rattle.seen.specs.Kinds.{writes-kind, writes-open, cuts-open}

-- ---- the list has as many tapes as are published, where no two of them have one name

count_none : (p : ℕ → Bool) → ((j : ℕ) → j < 8 → p j ≡ false) → count p 8 0 ≡ 0
unfolding count
count_none p h = count_same p (λ (j : ℕ). false) 8 0 (λ j l m. h j (omega arith))

-- a published tape whose name comes behind one
abbrev pub is_behind : List ℕ → Bool → List ℕ → ℕ → Bool
is_behind s cut before p = (published s cut p).listed && comes_before before (name s names_at p)

module _ (s : List ℕ) (cut : Bool)
    (apart : (p q : ℕ) → p < 8 → q < 8 → (published s cut p).listed ≡ true → (published s cut q).listed ≡ true → name s names_at p ≡ name s names_at q → p ≡ q) where
  -- behind the name that is found there is one tape less
  one_less : (before : List ℕ) (p : ℕ) → next_behind s cut before ≡ Some p → count (is_behind s cut before) 8 0 ≡ count (is_behind s cut (name s names_at p)) 8 0 + 1
  one_less before p e =
      let found = next-found s cut before p e in
      count-more (is_behind s cut (name s names_at p)) (is_behind s cut before) 8 0 p (omega arith) found.low
      (rw (found.listed, before-irrefl (name s names_at p)))
      (rw (found.listed, found.behind))
      (λ m a b other.
      decide (published s cut m).listed
      (λ (listed : (published s cut m).listed ≡ true). rw listed (alike m (omega arith) other listed))
      (λ (unlisted : (published s cut m).listed ≡ false). rw unlisted))
    where
      alike : (m : ℕ) → m < 8 → m ≢ p → (published s cut m).listed ≡ true → comes_before before (name s names_at m) ≡ comes_before (name s names_at p) (name s names_at m)
      alike m low other listed =
          let found = next-found s cut before p e in
          decide (comes_before (name s names_at p) (name s names_at m))
          (λ (later : comes_before (name s names_at p) (name s names_at m) ≡ true).
          before-trans before (name s names_at p) (name s names_at m) found.behind later ∙ sym later)
          (λ (no : comes_before (name s names_at p) (name s names_at m) ≡ false).
          decide (comes_before before (name s names_at m))
          (λ (behind : comes_before before (name s names_at m) ≡ true).
          let same = before-total (name s names_at p) (name s names_at m) no (next-first s cut before p m e low listed behind) in
          absurd (other (sym (apart p m found.low low found.listed listed same))))
          (λ (before-it : comes_before before (name s names_at m) ≡ false). before-it ∙ sym no))

  none_left : (before : List ℕ) → next_behind s cut before ≡ None → count (is_behind s cut before) 8 0 ≡ 0
  none_left before e =
      count_none (is_behind s cut before)
      (λ q low.
      decide (published s cut q).listed
      (λ (listed : (published s cut q).listed ≡ true). rw (listed, next-none s cut before q e low listed))
      (λ (unlisted : (published s cut q).listed ≡ false). rw unlisted))

  pub as_many : (k : ℕ) (before : List ℕ) → count (is_behind s cut before) 8 0 ≤ k → length (list_behind s cut k before) ≡ count (is_behind s cut before) 8 0
  unfolding list_behind
  as_many zero before few = omega arith
  as_many (suc k) before few = by (next_behind s cut before) refl (as_many k)
    where
      by : (f : Option ℕ) → next_behind s cut before ≡ f
          → ((last : List ℕ) → count (is_behind s cut last) 8 0 ≤ k → length (list_behind s cut k last) ≡ count (is_behind s cut last) 8 0)
          → length (with_next s cut (list_behind s cut k) f) ≡ count (is_behind s cut before) 8 0
      by (Some p) e rest =
          let less = one_less before p e in
          omega (arith, rest (name s names_at p) (omega arith))
      by None e rest = sym (none_left before e)

-- no published start is above its length
abbrev pub Bounded : List ℕ → Bool → Type 0
Bounded s cut = (p : ℕ) → p < 8 → (published s cut p).listed ≡ true → (published s cut p).start ≤ (published s cut p).len

-- ---- starts are not above lengths, where every tape is as `lives` says

-- what an append has staged
staged-within : (epoch number began len start : ℕ) (here : Bool) (fs : ℕ) (touched : Bool) (h : Held) (content : List ℕ) (old : ℕ) (x : Staging)
    → Writer.appending number began here len start ≡ erase_w epoch x → Staged fs touched h content old x → start ≤ len
staged-within epoch number began len start here fs touched h content old Staging.idle e staged = let z : ◌≡◌ {A = ℕ} 0 1 = cc in absurd (omega arith)
staged-within epoch number began len start here fs touched h content old (Staging.appending m i c st) e staged =
    let long : len ≡ length c = cc in
    let first : start ≡ st = cc in
    omega (arith, staged.within)
staged-within epoch number began len start here fs touched h content old (Staging.cutting m c) e staged = let z : ◌≡◌ {A = ℕ} 0 1 = cc in absurd (omega arith)

module _ (d s : List ℕ) (o : Orderly d s) (t : List ℕ → Told) (h : List ℕ → Phys)
    (each : (n : List ℕ) → 0 < length n → Good (t n) (h n) × Seen d s n (build (t n) (h n))) where
  -- a tape of a name, in its place
  module _ (p : ℕ) (low : p < 8) (some : 0 < length (name s names_at p)) where
    abbrev n : List ℕ
    n = name s names_at p

    at : place_of s (name s names_at p) ≡ Some p
    at = found_at s names_at n p low refl (λ q l same. sym (o.names p q low l some (sym same)))

    -- that is listed
    listed-bounded : (view_of s 17 p).listed ≡ true → (view_of s 17 p).start ≤ (view_of s 17 p).len
    listed-bounded listed =
        let seen = (each n some).1 in
        let view : view_of s 17 p ≡ record { listed = (t n).listed; len = length (t n).content; start = (t n).start }
        = shown-whole (view_of s 17 p) listed ∙ ap (view_in s 17) (sym at) ∙ seen.list in
        rw view (good-bounded (t n) (h n) (each n some).0)

    -- that the append has touched
    touched-bounded : (k : ℕ) → writes s k ≡ true → is_touched s p ≡ true → (staged_of s p).start ≤ (staged_of s p).len
    touched-bounded k w touched =
        let seen = (each n some).1 in
        let live : (t n).live ≡ true = sym seen.live ∙ live_at s n p at (touched-held s p touched) in
        let awake : Live (t n) (h n) = subst (λ (b : Bool). GoodIf b (t n) (h n)) live (each n some).0 in
        let view : staged_in s (place_of s n) ≡ record { listed = true; len = (staged_of s p).len; start = (staged_of s p).start }
        = ap (staged_in s) at ∙ touched-view s p touched in
        staged-within (t n).epoch _ _ (staged_of s p).len (staged_of s p).start _ _ _ _ _ _ (t n).writer (rw (writes-kind s k w, view) at seen.writer) awake.staged

  untouched-bounded : is_open_at s 16 ≡ true → (cut : Bool) (p : ℕ) → p < 8 → is_touched s p ≡ false → (published s cut p).listed ≡ true → (published s cut p).start ≤ (published s cut p).len
  unfolding published
  untouched-bounded running cut p low t listed =
      let view = o.writer-view running p low in
      let is : (view_of s 17 p).listed ≡ true = rw (t, view) at listed in
      rw (t, view) (listed-bounded p low (listed-named d s o p low is) is)

  pub append-bounded : (k : ℕ) → writes s k ≡ true → Bounded s false
  unfolding published
  append-bounded k w p low listed =
      decide (is_touched s p)
      (λ (t : is_touched s p ≡ true). rw t (touched-bounded p low (touched-named d s o p low t) k w t))
      (λ (t : is_touched s p ≡ false). untouched-bounded (writes-open s k w) false p low t listed)

  pub truncate-bounded : (k : ℕ) → cuts s k ≡ true → Bounded s true
  unfolding published
  truncate-bounded k c p low listed =
      decide (is_touched s p)
      (λ (t : is_touched s p ≡ true). rw t (omega arith))
      (λ (t : is_touched s p ≡ false). untouched-bounded (cuts-open s k c) true p low t listed)
