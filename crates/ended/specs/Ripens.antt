-- Marks and removal after an append's commit, of each tape that it touched, in that tape's own directory; no other directory's files change. Assumes
-- nothing.
use Rattle.std.specs.Prelude.{◌≡◌, ℕ, ◌<◌, ◌^◌, Option, Some, None}
use Rattle.std.proofs.Math.Path.{refl}
use Rattle.std.proofs.Common.{sym, ap, ◌∙◌, arith}
use Rattle.components.specs.Pieces.{file_of}
use Rattle.components.specs.Files.{Files, mark_below, remove}
use Rattle.layout.specs.Session.{file_size_of}
use Rattle.session.specs.Rows.{view_of}
use Rattle.session.specs.RowLaws.{view-only}
use Rattle.session.specs.declared.views.View.{View}
use Rattle.rolling_tape.specs.Removal.{Areas}
use Rattle.cached_tape.specs.FlushLaws.{file_size_of-kept}
use Rattle.ending.specs.Steps.{ripen_in, ripened_at, ripen_tape, ripen_all}
use Rattle.ending.specs.StepLaws.{Whole, Kept, kept-none, whole-kept, kept_then, kept-ripen_tape}
use Rattle.joins.specs.FilesAt.{files_at, Once}
use Rattle.joins.specs.Tracks.{Changed}
use Rattle.joins.proofs.Directories.{changed-ripened}
use Rattle.ended.specs.Turns.{Turns, turns-end, turns-other, turns-own, touched_place, place-touched, place-directory, directory-kept, touched-kept, PlacesApart, turn-nowhere}

-- as far as some tapes are done
record Ripening (a : Areas) (p : ℕ) (b : Areas) : Type 0 where
  kept : Kept a b
  once : Once b.disk

module _ (a : Areas) (start : Whole a) (apart : PlacesApart a.disk a.session) (began oldest : ℕ) (fits : began < 2 ^ 64) where
  abbrev owner : ℕ → Option ℕ
  owner p = touched_place a.disk a.session p

  -- the file of the tape's start
  abbrev lowest : ℕ → ℕ
  lowest p = file_of (file_size_of a.session p) (view_of a.session 17 p).start

  abbrev change : ℕ → Files → Files
  change p f = remove oldest (mark_below (lowest p) began f)

  -- ---- one tape

  module _ (p : ℕ) (low : p < 8) (b : Areas) (at : Ripening a p b) where
    whole-b : Whole b
    whole-b = whole-kept a start b at.kept

    same-lowest : file_of (file_size_of b.session p) (view_of b.session 17 p).start ≡ lowest p
    same-lowest =
        ap (λ (n : ℕ). file_of n (view_of b.session 17 p).start) (file_size_of-kept a.session b.session at.kept.only p low)
        ∙ ap (λ (v : View). file_of (file_size_of a.session p) v.start) (view-only 4936 5960 a.session b.session at.kept.only 17 p (λ q. omega arith))

    turn-none : owner p ≡ None → ripen_tape began oldest p b ≡ b
    unfolding ripen_tape
    turn-none = turn-nowhere a b start at.kept p low (ripen_in b began oldest p) refl

    module _ (place : ℕ) (e : owner p ≡ Some place) where
      turn_at : ripen_tape began oldest p b ≡ ripened_at b began oldest p place
      unfolding ripen_tape
      turn_at = rw (touched-kept a b start at.kept p low ∙ place-touched a.disk a.session p place e, directory-kept a b start at.kept p low ∙ place-directory a.disk a.session p place e)

      changed : Changed b (ripen_tape began oldest p b) place (change p (files_at b place))
      changed = rw turn_at (rw same-lowest at (changed-ripened b began oldest p place whole-b fits at.once))

    once-turn : Once (ripen_tape began oldest p b).disk
    once-turn = by (owner p) refl
      where
        by : (f : Option ℕ) → owner p ≡ f → Once (ripen_tape began oldest p b).disk
        by (Some place) e = (changed place e).once
        by None e = rw (turn-none e) at.once

    other-turn : (q : ℕ) → (owner p ≡ Some q → ⊥) → files_at (ripen_tape began oldest p b) q ≡ files_at b q
    other-turn q away = by (owner p) refl
      where
        by : (f : Option ℕ) → owner p ≡ f → files_at (ripen_tape began oldest p b) q ≡ files_at b q
        by (Some place) e = (changed place e).other q (λ same. away (e ∙ ap Some (sym same)))
        by None e = ap (λ (x : Areas). files_at x q) (turn-none e)

  -- ---- all tapes

  turns : Turns owner change (ripen_tape began oldest) (Ripening a)
  turns =
      record {
        apart = apart;
        keeps = λ p b low at.
            record {
              kept = kept_then a b (ripen_tape began oldest p b) at.kept (kept-ripen_tape began oldest p b (whole-b p low b at));
              once = once-turn p low b at;
            };
        own = λ p b low at place e. (changed p low b at place e).own;
        other = λ p b low at q away. other-turn p low b at q away;
      }

  module _ (once : Once a.disk) where
    first : Ripening a 0 a
    first = record { kept = kept-none a start; once = once }

    pub ripened-own : (p place : ℕ) → p < 8 → touched_place a.disk a.session p ≡ Some place
        → files_at (ripen_all began oldest a) place ≡ remove oldest (mark_below (file_of (file_size_of a.session p) (view_of a.session 17 p).start) began (files_at a place))
    ripened-own p place low e = turns-own owner change (ripen_tape began oldest) (Ripening a) turns 8 0 a (omega arith) first p place (omega arith) (omega arith) e

    pub ripened-other : (q : ℕ) → ((p : ℕ) → p < 8 → touched_place a.disk a.session p ≡ Some q → ⊥) → files_at (ripen_all began oldest a) q ≡ files_at a q
    ripened-other q none = turns-other owner change (ripen_tape began oldest) (Ripening a) turns 8 0 a (omega arith) first q (λ p l m. none p (omega arith))

    pub ripened-once : Once (ripen_all began oldest a).disk
    ripened-once = (turns-end owner change (ripen_tape began oldest) (Ripening a) turns 8 0 a (omega arith) first).once
