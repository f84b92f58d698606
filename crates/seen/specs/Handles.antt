-- A handle and the name that it is for: where the areas are in order, each leads to the other. Assumes nothing.
use Rattle.std.specs.Prelude.{◌≡◌, refl, ◌≢◌, true, not, List, ℕ, ◌<◌, eqb, length, Option, Some, None}
use Rattle.std.proofs.Math.Path.{sym}
use Rattle.std.proofs.Common.{ap, ◌∙◌}
use native.Mathlib.Omega.{arith}
use borrow.Author.Tests.{eq-eqb, ne_eqb, eqb-true}
use Rattle.octets.specs.Cases.{and_r}
use Rattle.octets.specs.First.{first-at, first-hits}
use Rattle.layout.specs.Names.{name}
use Rattle.layout.specs.NamesLaws.{name-low}
use Rattle.layout.specs.Session.{names_at, handle_number, entry_size_of}
use Rattle.session.specs.Rows.{is_handle, find_handle}
use Rattle.staging.specs.Ways.{handle-found}
use Rattle.seen.specs.Seen.{place_of, handle_in, entry_in, is_open_tape, Handled}
use Rattle.seen.specs.Orderly.{Orderly}
use Rattle.seen.specs.Places.{found_name, found_at}
use Rattle.seen.specs.Rows.{open-named}

-- the number of a handle that is found
pub handle-number : (s : List ℕ) (h p : ℕ) → find_handle s h ≡ Some p → handle_number s p ≡ h
unfolding find_handle
handle-number s h p e = eqb-true (handle_number s p) h (and_r (not (eqb h 0)) _ (first-hits (is_handle s h) 8 0 p e).holds)

pub handle-some : (s : List ℕ) (h p : ℕ) → find_handle s h ≡ Some p → h ≢ 0
handle-some s h p e z = (handle-found s h p e).held (handle-number s h p e ∙ z)

-- the place of the tape of a name that is open under a handle
pub record Placed (s n : List ℕ) (h entry : ℕ) : Type 0 where
  pub place : ℕ
  pub low : place < 8
  pub at : place_of s n ≡ Some place
  pub found : find_handle s h ≡ Some place
  pub named : name s names_at place ≡ n
  pub number : handle_number s place ≡ h
  pub entry-size : entry_size_of s place ≡ entry

module _ (d s : List ℕ) (o : Orderly d s) where
  find-handle : (h p : ℕ) → p < 8 → h ≢ 0 → handle_number s p ≡ h → find_handle s h ≡ Some p
  unfolding find_handle
  find-handle h p low some is =
      first-at (is_handle s h) 8 0 p
      (record {
        low = omega arith;
        high = omega arith;
        holds = rw (ne_eqb h 0 some, eq-eqb (handle_number s p) h is);
        before = λ q a b.
            let apart : handle_number s q ≢ h
            = λ same. let z : p ≡ q = o.handles p q low (omega arith) (λ z. some (sym is ∙ z)) (is ∙ sym same) in omega arith in
            rw (ne_eqb h 0 some, ne_eqb (handle_number s q) h apart);
      })

  pub handle-place : (n : List ℕ) (h entry : ℕ) → Handled s n h entry → h ≢ 0 → Placed s n h entry
  handle-place n h entry its some = by (place_of s n) refl
    where
      by : (found : Option ℕ) → place_of s n ≡ found → Placed s n h entry
      by (Some p) e =
          let number : handle_number s p ≡ h = ap (handle_in s) (sym e) ∙ its.number in
          let low = name-low s names_at n p e in
          record {
            place = p;
            low = low;
            at = e;
            found = find-handle h p low some number;
            named = found_name s names_at n p e;
            number = number;
            entry-size = ap (entry_in s) (sym e) ∙ its.size some;
          }
      by None e = absurd (some (sym its.number ∙ ap (handle_in s) e))

  pub handle-same : (n : List ℕ) (h entry : ℕ) → Handled s n h entry → h ≢ 0 → find_handle s h ≡ place_of s n
  handle-same n h entry its some = let at = handle-place n h entry its some in at.found ∙ sym at.at

  -- the same for a handle that is found
  pub handle-own : (n : List ℕ) (h p entry : ℕ) → Handled s n h entry → find_handle s h ≡ Some p → (place_of s n ≡ Some p) × (entry_size_of s p ≡ entry)
  handle-own n h p entry its found =
      let some = handle-some s h p found in
      let at : place_of s n ≡ Some p = sym (handle-same n h entry its some) ∙ found in
      (at, ap (entry_in s) (sym at) ∙ its.size some)

  -- the other way: the name in the place of a handle that is found
  module _ (h p : ℕ) (found : find_handle s h ≡ Some p) where
    pub handle-letters : 0 < length (name s names_at p)
    handle-letters =
        let held = handle-found s h p found in
        open-named d s o p held.low held.held

    pub handle-at : place_of s (name s names_at p) ≡ Some p
    handle-at =
        let low = (handle-found s h p found).low in
        found_at s names_at (name s names_at p) p low refl (λ q l same. sym (o.names p q low l handle-letters (sym same)))

    pub handle-handled : Handled s (name s names_at p) h (entry_size_of s p)
    handle-handled =
        record { number = ap (handle_in s) handle-at ∙ handle-number s h p found; size = λ some. ap (entry_in s) handle-at }

-- the tape of another handle is in another place
pub handle-apart : (s n : List ℕ) (h h' entry p q : ℕ) → Handled s n h' entry → h' ≢ h → handle_number s p ≡ h → place_of s n ≡ Some q → q ≢ p
handle-apart s n h h' entry p q its apart is at e = apart (sym its.number ∙ ap (handle_in s) at ∙ ap (handle_number s) e ∙ is)

-- an open tape is live
pub live_at : (s n : List ℕ) (p : ℕ) → place_of s n ≡ Some p → handle_number s p ≢ 0 → is_open_tape s (place_of s n) ≡ true
live_at s n p at some = ap (is_open_tape s) at ∙ rw (ne_eqb (handle_number s p) 0 some)
