-- Where the names stand after an open, and what the lists of the session's transactions then say of its tape: what they said before. Assumes nothing.
use Rattle.std.specs.Prelude.{◌≡◌, refl, ◌≢◌, Bool, true, false, ◌&&◌, ℕ, ◌<◌, length, Option, Some, None}
use Rattle.std.proofs.Math.Path.{sym, ap}
use Rattle.std.proofs.Common.{◌∙◌, true≢false}
use mathlib.Core.List.{List, []}
use native.Mathlib.Omega.{arith}
use Rattle.octets.specs.Cases.{decide, equal}
use Rattle.octets.specs.Compare.{same_bytes, same_true}
use Rattle.octets.specs.First.{first-same, count_same}
use Rattle.layout.specs.Names.{name, find_name}
use Rattle.layout.specs.NamesLaws.{name-low}
use Rattle.layout.specs.Session.{names_at}
use Rattle.session.specs.declared.views.View.{View}
use Rattle.session.specs.Rows.{view_of}
use Rattle.beginning.specs.Transactions.{is_open_at}
use Rattle.opening.specs.declared.shape.Opening.{Opening}
use Rattle.opening.specs.Calls.{view_found, place_for}
use Rattle.lives.specs.Life.{Reader}
use Rattle.seen.specs.Seen.{place_of, shown, view_in, reader_in, count_open}
use Rattle.seen.specs.Orderly.{Orderly}
use Rattle.seen.specs.Places.{found_name, not_found, found_at}
use Rattle.seen.specs.Rows.{open_row}
use Rattle.seen.specs.Shown.{shown-keeps, shown-none}
use Rattle.opened.specs.OpensRows.{Rows}

-- the place that a tape gets: its own, or a free one
pub place-either : {P : Type 0} (s wanted : List ℕ) (p : ℕ) → place_for s (place_of s wanted) ≡ Some p → (place_of s wanted ≡ Some p → P)
    → (place_of s wanted ≡ None → find_name s names_at [] ≡ Some p → P) → P
place-either {P} s wanted p place own free = by (place_of s wanted) refl place
  where
    by : (tape : Option ℕ) → place_of s wanted ≡ tape → place_for s tape ≡ Some p → P
    by (Some q) e f = own (e ∙ f)
    by None e f = free e f

-- an append began with a tape listed just if it is listed
pub listed_then : (d s n : List ℕ) → Orderly d s → is_open_at s 16 ≡ true → (view_found s (place_of s n)).listed ≡ (view_in s 17 (place_of s n)).listed
listed_then d s n orderly writer = by (place_of s n) refl
  where
    by : (f : Option ℕ) → place_of s n ≡ f → (view_found s f).listed ≡ (view_in s 17 f).listed
    by (Some q) at = ap (λ (x : View). x.listed) (orderly.writer-view writer q (name-low s names_at n q at)) ∙ sym (shown-keeps (view_of s 17 q))
    by None at = refl

differ : (a b : List ℕ) → a ≢ b → same_bytes a b ≡ false
differ a b d = decide (same_bytes a b) (λ e. absurd (d (same_true a b e))) (λ e. e)

module _ (d s u : List ℕ) (p : ℕ) (wanted : List ℕ) (o : Opening) (bs : List ℕ) (orderly : Orderly d s) (low : p < 8) (some : 0 < length wanted)
    (place : place_for s (place_of s wanted) ≡ Some p) (rows : Rows s u p wanted o bs) where
  -- no other place has its name
  pub only_here : (q : ℕ) → q < 8 → name s names_at q ≡ wanted → q ≡ p
  only_here q l e =
      place-either s wanted p place
      (λ found.
      let here : name s names_at p ≡ wanted = found_name s names_at wanted p found in
      orderly.names q p l low (rw e some) (e ∙ sym here))
      (λ missing free. absurd (not_found s names_at wanted missing q l e))

  -- its place had no other name
  pub was-here : (n : List ℕ) → n ≢ wanted → 0 < length n → name s names_at p ≢ n
  was-here n apart more e =
      place-either s wanted p place
      (λ found. apart (sym e ∙ found_name s names_at wanted p found))
      (λ missing free. omega (arith, ap length (sym e ∙ found_name s names_at [] p free)))

  pub own-place : place_of u wanted ≡ Some p
  own-place =
      found_at u names_at wanted p low rows.own_name
      (λ q l e. equal q p (λ same. same) (λ apart. only_here q l (sym (rows.names q l apart) ∙ e)))

  pub other_place : (n : List ℕ) → n ≢ wanted → 0 < length n → place_of u n ≡ place_of s n
  unfolding find_name
  other_place n apart more =
      first-same (λ i. same_bytes (name u names_at i) n) (λ i. same_bytes (name s names_at i) n) 8 0
      (λ i a b.
      equal i p
      (λ (e : i ≡ p).
      rw e
      (ap (λ (m : List ℕ). same_bytes m n) rows.own_name
      ∙ differ wanted n (λ z. apart (sym z))
      ∙ sym (differ (name s names_at p) n (was-here n apart more))))
      (λ (c : i ≢ p). ap (λ (m : List ℕ). same_bytes m n) (rows.names i b c)))

  -- the place of another name is another
  pub apart-place : (n : List ℕ) → n ≢ wanted → 0 < length n → (q : ℕ) → place_of s n ≡ Some q → q ≢ p
  apart-place n apart more q found e = was-here n apart more (ap (name s names_at) (sym e) ∙ found_name s names_at n q found)

  -- ---- what the lists say of it

  -- a place that was free was in no list that counts
  free-length : find_name s names_at [] ≡ Some p → length (name s names_at p) ≡ 0
  free-length free = ap length (found_name s names_at [] p free)

  free-list : find_name s names_at [] ≡ Some p → (view_of s 17 p).listed ≡ false
  free-list free = orderly.free-unlisted p low (free-length free)

  free-reader : find_name s names_at [] ≡ Some p → (t : ℕ) → t < 16 → is_open_at s t ≡ true → (view_of s t p).listed ≡ false
  free-reader free t l is =
      decide (view_of s t p).listed
      (λ e. absurd (true≢false (sym (orderly.views t l is p low e) ∙ free-list free)))
      (λ e. e)

  own_view : (w : ℕ) → w < 18 → (find_name s names_at [] ≡ Some p → (view_of s w p).listed ≡ false) → view_in u w (place_of u wanted) ≡ view_in s w (place_of s wanted)
  own_view w l unlisted =
      ap (view_in u w) own-place
      ∙ ap shown (rows.views w p l low)
      ∙ place-either s wanted p place
      (λ found. sym (ap (view_in s w) found))
      (λ missing free. shown-none (view_of s w p) (unlisted free) ∙ sym (ap (view_in s w) missing))

  pub own-list : view_in u 17 (place_of u wanted) ≡ view_in s 17 (place_of s wanted)
  own-list = own_view 17 (omega arith) free-list

  pub own-readers : (has : Reader → Bool) → count_open has u (place_of u wanted) ≡ count_open has s (place_of s wanted)
  unfolding count_open
  own-readers has =
      count_same (λ t. is_open_at u t && has (reader_in u (place_of u wanted) t)) (λ t. is_open_at s t && has (reader_in s (place_of s wanted) t)) 16 0
      (λ t a b.
      let l : t < 16 = omega arith in
      let same = open_row s u t (rows.transactions t (omega arith)) in
      decide (is_open_at s t)
      (λ (is : is_open_at s t ≡ true).
      rw (same, is, rows.transactions t (omega arith), own_view t (omega arith) (λ free. free-reader free t l is)))
      (λ (shut : is_open_at s t ≡ false). rw (same, shut)))
