-- A step for each of the eight tapes, made one after the other, in the tape's own directory: what all of them do to each directory's files. And the
-- directories of the tapes that a writer touched, no two of which have the same. Assumes nothing.
use Rattle.std.specs.Prelude.{◌≡◌, ◌≢◌, true, false, cond, not, List, eqb, length, Option, Some, None}
use Rattle.std.proofs.Math.Path.{refl, ap}
use Rattle.std.proofs.Common.{sym, ◌∙◌}
use Prim.Native.Nat.{ℕ, zero, suc, ◌+◌, ◌≤◌, ◌<◌}
use native.Mathlib.Omega.{arith}
use Rattle.octets.specs.Cases.{decide, equal, and_r}
use Rattle.octets.specs.Sweep.{sweep}
use Rattle.components.specs.Files.{Files}
use Rattle.layout.specs.Disk.{data_at, slots, directories}
use Rattle.layout.specs.Names.{name, find_name}
use Rattle.layout.specs.NamesLaws.{name-only}
use Rattle.layout.specs.Session.{names_at, handle_number}
use Rattle.session.specs.Rows.{staged_of}
use Rattle.rolling_tape.specs.Removal.{Areas}
use Rattle.staging.specs.Seeing.{directory_of, touched_as}
use Rattle.ending.specs.Listing.{is_touched}
use Rattle.ending.specs.StepLaws as Step
use Rattle.ending.specs.StepLaws.{Kept, touched-held}
use Rattle.ending.specs.CommitMeaning.{touched-only}
use Rattle.joins.specs.FilesAt.{files_at}
use Rattle.seen.specs.Orderly.{Orderly}
use Rattle.seen.specs.Places.{found_name, find-same}
use Rattle.seen.specs.Rows.{open-named}
use Rattle.seen.specs.Touching.{touched-row}

-- ---- a step for each tape, in the tape's own directory

-- owner: where tape p's directory stands; change: what its step makes of the files there
pub record Turns (owner : ℕ → (Option ℕ)) (change : ℕ → Files → Files) (step : ℕ → Areas → Areas) (P : ℕ → Areas → Type 0) : Type 0 where
  pub apart : (p q place : ℕ) → p < 8 → q < 8 → owner p ≡ Some place → owner q ≡ Some place → p ≡ q
  pub keeps : (p : ℕ) (a : Areas) → p < 8 → P p a → P (p + 1) (step p a)
  pub own : (p : ℕ) (a : Areas) → p < 8 → P p a → (place : ℕ) → owner p ≡ Some place → files_at (step p a) place ≡ change p (files_at a place)
  pub other : (p : ℕ) (a : Areas) → p < 8 → P p a → (q : ℕ) → (owner p ≡ Some q → ⊥) → files_at (step p a) q ≡ files_at a q

module _ (owner : ℕ → (Option ℕ)) (change : ℕ → Files → Files) (step : ℕ → Areas → Areas) (P : ℕ → Areas → Type 0) (each : Turns owner change step P) where
  pub turns-end : (k i : ℕ) (a : Areas) → i + k ≤ 8 → P i a → P (i + k) (sweep step k i a)
  unfolding sweep
  turns-end zero i a room h = let here : i + 0 ≡ i = omega arith in rw here h
  turns-end (suc k) i a room h =
      let here : i + 1 + k ≡ i + suc k = omega arith in
      rw here at (turns-end k (i + 1) (step i a) (omega arith) (each.keeps i a (omega arith) h))

  -- a directory of none of these tapes
  pub turns-other : (k i : ℕ) (a : Areas) → i + k ≤ 8 → P i a → (q : ℕ) → ((p : ℕ) → i ≤ p → p < i + k → owner p ≡ Some q → ⊥)
      → files_at (sweep step k i a) q ≡ files_at a q
  unfolding sweep
  turns-other zero i a room h q none = refl
  turns-other (suc k) i a room h q none =
      turns-other k (i + 1) (step i a) (omega arith) (each.keeps i a (omega arith) h) q (λ p l m e. none p (omega arith) (omega arith) e)
      ∙ each.other i a (omega arith) h q (none i (omega arith) (omega arith))

  -- and the directory of one of them
  pub turns-own : (k i : ℕ) (a : Areas) → i + k ≤ 8 → P i a → (p place : ℕ) → i ≤ p → p < i + k → owner p ≡ Some place
      → files_at (sweep step k i a) place ≡ change p (files_at a place)
  unfolding sweep
  turns-own zero i a room h p place l m e = absurd (omega arith)
  turns-own (suc k) i a room h p place l m e =
      let next = each.keeps i a (omega arith) h in
      equal p i
      (λ (same : p ≡ i).
      let here : owner i ≡ Some place = ap owner (sym same) ∙ e in
      turns-other k (i + 1) (step i a) (omega arith) next place
      (λ q low high f. let z : q ≡ i = each.apart q i place (omega arith) (omega arith) f here in omega arith)
      ∙ each.own i a (omega arith) h place here
      ∙ ap (λ (x : ℕ). change x (files_at a place)) (sym same))
      (λ (d : p ≢ i).
      turns-own k (i + 1) (step i a) (omega arith) next p place (omega arith) (omega arith) e
      ∙ ap (change p) (each.other i a (omega arith) h place (λ f. d (each.apart p i place (omega arith) (omega arith) e f))))

-- ---- the directories of the tapes that were touched

abbrev pub touched_place : List ℕ → List ℕ → ℕ → Option ℕ
touched_place d s p = cond (is_touched s p) (directory_of d s p) None

pub no_place : {place : ℕ} → None ≡ Some place → ⊥
no_place e = let z : ◌≡◌ {A = ℕ} 0 1 = cc in omega arith

pub place-touched : (d s : List ℕ) (p place : ℕ) → touched_place d s p ≡ Some place → is_touched s p ≡ true
place-touched d s p place e = decide (is_touched s p) (λ t. t) (λ (t : is_touched s p ≡ false). absurd (no_place (rw t at e)))

pub place-directory : (d s : List ℕ) (p place : ℕ) → touched_place d s p ≡ Some place → directory_of d s p ≡ Some place
place-directory d s p place e = rw (place-touched d s p place e) at e

pub touched-place : (d s : List ℕ) (p : ℕ) → is_touched s p ≡ true → touched_place d s p ≡ directory_of d s p
touched-place d s p t = rw t

-- such a tape's row
pub touched-its-row : (s : List ℕ) (p : ℕ) → is_touched s p ≡ true → ((staged_of s p).touched ≡ true) × (touched_as s p ≡ staged_of s p)
unfolding is_touched
touched-its-row s p t = let staged = and_r (not (eqb (handle_number s p) 0)) (staged_of s p).touched t in (staged, touched-row s p staged)

-- steps in the rows of tracking and in the file table leave them
pub folder-kept : (a b : Areas) → Step.Whole a → Kept a b → (n : List ℕ) → find_name b.disk directories n ≡ find_name a.disk directories n
folder-kept a b sound kept n =
    find-same a.disk b.disk directories directories n
    (λ i l. name-only 1312 (data_at (slots a.disk)) a.disk b.disk directories kept.only-disk i (λ q. absurd (omega arith)) (sound.sound.names.short i l))

module _ (a b : Areas) (sound : Step.Whole a) (kept : Kept a b) (p : ℕ) (low : p < 8) where
  pub directory-kept : directory_of b.disk b.session p ≡ directory_of a.disk a.session p
  directory-kept =
      ap (find_name b.disk directories)
      (name-only 4936 5960 a.session b.session names_at kept.only p (λ q. omega arith) (sound.begun.names.short p low))
      ∙ folder-kept a b sound kept (name a.session names_at p)

  pub touched-kept : is_touched b.session p ≡ is_touched a.session p
  touched-kept = touched-only 4936 5960 a.session b.session kept.only p (λ q. omega arith)

  -- a turn that is made in such a directory is not made where there is none
  pub turn-nowhere : (turn : Option ℕ → Areas) → turn None ≡ b → touched_place a.disk a.session p ≡ None
      → cond (is_touched b.session p) (turn (directory_of b.disk b.session p)) b ≡ b
  turn-nowhere turn stays e =
      decide (is_touched a.session p)
      (λ (t : is_touched a.session p ≡ true).
      let none : directory_of a.disk a.session p ≡ None = rw t at e in
      rw (touched-kept ∙ t, directory-kept ∙ none) stays)
      (λ (t : is_touched a.session p ≡ false). rw (touched-kept ∙ t))

-- no two of them have the same
pub touched-named : (d s : List ℕ) → Orderly d s → (p : ℕ) → p < 8 → is_touched s p ≡ true → 0 < length (name s names_at p)
touched-named d s o p low t = open-named d s o p low (touched-held s p t)

abbrev pub PlacesApart : List ℕ → List ℕ → Type 0
PlacesApart d s = (p q place : ℕ) → p < 8 → q < 8 → touched_place d s p ≡ Some place → touched_place d s q ≡ Some place → p ≡ q

pub places-apart : (d s : List ℕ) → Orderly d s → PlacesApart d s
places-apart d s o p q place lp lq e f =
    let here = found_name d directories (name s names_at p) place (place-directory d s p place e) in
    let there = found_name d directories (name s names_at q) place (place-directory d s q place f) in
    o.names p q lp lq (touched-named d s o p lp (place-touched d s p place e)) (sym here ∙ there)
