-- What the calls that stage a start or a length touch: `shift_start`, `truncate_tape`, `drop_entries` and `pop_entry` the staged record of the handle's
-- tape, and nothing else. Assumes nothing.
use Rattle.std.specs.Prelude.{◌≡◌, ◌≢◌, List, [], ◌∷◌, ℕ, ◌*◌, ◌<◌, Option, Some}
use Rattle.std.proofs.Common.{ap, ◌∙◌, arith}
use Rattle.answers.specs.Outcome.{Popping}
use Rattle.session.specs.Rows.{find_handle, handle_of}
use Rattle.session.specs.RowLaws.{only-put_staged}
use Rattle.beginning.specs.Transactions.{After}
use Rattle.staging.specs.Shifting.{shifted, shift_call}
use Rattle.staging.specs.Cutting.{cut_to, cut_call, drop_call}
use Rattle.staging.specs.Laws.{left, shift-cases, cut-cases, drop-cases}
use Rattle.staging.specs.Ways.{handle-found}
use Rattle.entries.specs.Popping.{pop_call}
use Rattle.entries.specs.Laws.{pop-cases}
use Rattle.touches.specs.Parts.{Part, Inside, Outside, Touches, Stays, below_tapes, tape_of, handles, bookkeepings, staged_of, tracking, rings, found, stays-found, touches_none, touches-only}

-- of tape p
abbrev pub staged_parts : ℕ → List Part
staged_parts p = staged_of p ∷ []

pub touches-shifted : (s : List ℕ) (p start : ℕ) → Touches (staged_parts p) s (shifted s p start)
unfolding shifted
touches-shifted s p start = touches-only (staged_parts p) _ _ s _ (only-put_staged s p _) (λ i o l. omega (arith, o.0 (omega arith)))

pub touches-cut_to : (s : List ℕ) (p len : ℕ) → Touches (staged_parts p) s (cut_to s p len)
unfolding cut_to
touches-cut_to s p len = touches-only (staged_parts p) _ _ s _ (only-put_staged s p _) (λ i o l. omega (arith, o.0 (omega arith)))

module _ (d s : List ℕ) (t h i : ℕ) where
  -- the handle's tape, if there is one
  abbrev its : List Part
  its = found staged_parts (find_handle s h)

  pub shift-touches : Touches (found staged_parts (find_handle s h)) s (shift_call d s t h i).session
  shift-touches =
      shift-cases (λ (o : After). Touches its s o.session) d s t h i (λ why. touches_none its s)
      (λ p g. rw g.found (touches-shifted s p (i * (handle_of s p).entry)))

  pub cut-touches : Touches (found staged_parts (find_handle s h)) s (cut_call d s t h i).session
  cut-touches =
      cut-cases (λ (o : After). Touches its s o.session) d s t h i (λ why. touches_none its s)
      (λ p g. rw g.found (touches-cut_to s p (i * (handle_of s p).entry)))

  pub drop-touches : Touches (found staged_parts (find_handle s h)) s (drop_call d s t h i).session
  drop-touches =
      drop-cases (λ (o : After). Touches its s o.session) d s t h i (λ why. touches_none its s)
      (λ p g. rw g.found (touches-cut_to s p (left s p i * (handle_of s p).entry)))

pub pop-touches : (d s : List ℕ) (t h : ℕ) (out : List ℕ) → Touches (found staged_parts (find_handle s h)) s (pop_call d s t h out).session
pop-touches d s t h out =
    pop-cases (λ (o : Popping). Touches (found staged_parts (find_handle s h)) s o.session) d s t h out (λ a none. touches_none (found staged_parts (find_handle s h)) s)
    (λ p g. rw g.found (touches-cut_to s p _))

-- ---- what is left

-- mark, head, names, views, transactions; handles and bookkeeping of rings; tracking and caches; and of every other tape the whole row
pub record StageLeaves (tape : Option ℕ) (s u : List ℕ) : Type 0 where
  pub tables-stay : Stays below_tapes s u
  pub handles-stay : Stays handles s u
  pub bookkeepings-stay : Stays bookkeepings s u
  pub tapes-stay : (q : ℕ) → q < 8 → tape ≢ Some q → Stays (tape_of q) s u
  pub tracking-stays : Stays tracking s u
  pub rings-stay : Stays rings s u

stage-leaves : (tape : Option ℕ) (s u : List ℕ) → ((p : ℕ) → tape ≡ Some p → p < 8) → Touches (found staged_parts tape) s u → StageLeaves tape s u
stage-leaves tape s u low a =
    let rest : (q : Part) → ((p : ℕ) → p < 8 → tape ≡ Some p → (i : ℕ) → Inside i q → Outside i (staged_parts p)) → Stays q s u
    = λ q h. stays-found staged_parts tape q s u a (λ p e. h p (low p e) e) in
    record {
      tables-stay = rest below_tapes (λ p small e i h. search arith);
      handles-stay = rest handles (λ p small e i h. search arith);
      bookkeepings-stay = rest bookkeepings (λ p small e i h. search arith);
      tapes-stay = λ q l d. rest (tape_of q) (λ p small e i h. let n : p ≢ q = λ z. d (e ∙ ap Some z) in search arith);
      tracking-stays = rest tracking (λ p small e i h. search arith);
      rings-stay = rest rings (λ p small e i h. search arith);
    }

module _ (d s : List ℕ) (t h : ℕ) where
  by-handle : (u : List ℕ) → Touches (found staged_parts (find_handle s h)) s u → StageLeaves (find_handle s h) s u
  by-handle u = stage-leaves (find_handle s h) s u (λ p e. (handle-found s h p e).low)

  pub shift-leaves : (i : ℕ) → StageLeaves (find_handle s h) s (shift_call d s t h i).session
  shift-leaves i = by-handle _ (shift-touches d s t h i)

  pub cut-leaves : (i : ℕ) → StageLeaves (find_handle s h) s (cut_call d s t h i).session
  cut-leaves i = by-handle _ (cut-touches d s t h i)

  pub drop-leaves : (i : ℕ) → StageLeaves (find_handle s h) s (drop_call d s t h i).session
  drop-leaves i = by-handle _ (drop-touches d s t h i)

  pub pop-leaves : (out : List ℕ) → StageLeaves (find_handle s h) s (pop_call d s t h out).session
  pop-leaves out = by-handle _ (pop-touches d s t h out)
