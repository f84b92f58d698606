-- What the drop of an append does to the tapes: a touched one that is listed gives up what was staged in its ring, one that the append made loses handle,
-- ring and name, and its files are not tracked any more; the others' rows and files are as before. Assumes nothing.
use Rattle.std.specs.Prelude.{◌≡◌, refl, ◌≢◌, Bool, cond, not, ℕ, ◌-◌, ◌<◌, eqb, Option, Some, None}
use Rattle.std.proofs.Common.{sym, ◌∙◌, true≢false, eq-eqb, ne_eqb}
use Rattle.std.proofs.Math.Path.{ap}
use Rattle.std.proofs.Math.Bool.{true, false, and-false}
use mathlib.Core.List.{List, []}
use native.Mathlib.Omega.{arith}
use Rattle.octets.specs.Cases.{picked}
use Rattle.octets.specs.Number.{Bytes}
use Rattle.octets.specs.Sweep.{sweep}
use Rattle.components.specs.Files.{Files}
use Rattle.ending.specs.CutLaws.{begun-unstage, bytes-unstage}
use Rattle.held.specs.Held.{forget}
use Rattle.layout.specs.Disk.{Sound}
use Rattle.layout.specs.Names.{name, put_name}
use Rattle.layout.specs.Session.{names_at, Begun}
use Rattle.ring_buffer.specs.Ring.{popped}
use Rattle.session.specs.KeepLaws.{begun-ready}
use Rattle.session.specs.Meaning.{Session, no_handle, no_ring, untouched, session_of, with_handle, with_ring, with_name}
use Rattle.session.specs.MeaningLaws.{Ready, view-at, ready-put_handle, ready-put_ring, session-put_handle, session-put_ring, session-put_name}
use Rattle.session.specs.RowLaws.{view-only}
use Rattle.session.specs.Rows.{view_of, put_handle, ring_of, put_ring, ring_bytes, staged_of}
use Rattle.session.specs.declared.tape_rows.Staged.{Staged}
use Rattle.session.specs.declared.views.View.{View}
use Rattle.rolling_tape.specs.Removal.{areas}
use Rattle.rolling_tape.specs.Room.{is_found}
use Rattle.rolling_tape.specs.Tracking.{retracked}
use Rattle.rolling_tape.specs.TrackingLaws.{ChangeFits, only-retracked, begun-retracked}
use Rattle.rolling_tape.specs.declared.tracking.Change.TheVariants.{UntrackAll}
use Rattle.staging.specs.Seeing.{directory_of}
use Rattle.ending.specs.DropLaws.{begun-take_back, bytes-take_back}
use Rattle.ending.specs.Dropping.{reverted, forgotten, take_back}
use Rattle.ending.specs.Listing.{is_touched}
use Rattle.ending.specs.StepLaws.{Whole}
use Rattle.ending.specs.Steps.{unstage}
use Rattle.joins.specs.Caches.{Becomes, unstage-becomes, reverted-becomes}
use Rattle.joins.specs.Tracks.{own-retracked, other-retracked}
use Rattle.seen.specs.Seen.{files_for}
use Rattle.ended.specs.Ends.{Row, row_of, row_in, row_at_lem, touched_row, is-touched-row, rows-only, row-becomes, others-become, files-found, files-tracking, files-apart, TouchedApart, Turn, swept-row, swept-files, swept-apart}

-- ---- a known tape

abbrev pub reverted_row : Row → Row
reverted_row r = record { handle = r.handle; name = r.name; ring = popped r.ring (r.staged.len - r.staged.base); staged = untouched }

module _ (d t : List ℕ) (begun : Begun t) (bytes : Bytes t) (i : ℕ) (low : i < 8) where
  revert-step : Becomes t (reverted i t) i (popped (ring_of t i) ((staged_of t i).len - (staged_of t i).base)) (ring_bytes t i) untouched
  revert-step = reverted-becomes t (begun-ready t begun) i low bytes

  reverted-turn : (wanted : List ℕ) → Turn d t (reverted i t) i wanted (reverted_row (row_of t i)) (files_for d t wanted)
  reverted-turn wanted =
      let same : (m : List ℕ) → files_for d (reverted i t) m ≡ files_for d t m = files-tracking d t (reverted i t) revert-step.tracking in
      record {
        own = row-becomes t (reverted i t) i _ _ _ revert-step low;
        files = same wanted;
        others = others-become t (reverted i t) i _ _ _ revert-step;
        apart = λ m touched. same m;
      }

  reverted-view : (p : ℕ) → p < 8 → view_of (reverted i t) 16 p ≡ view_of t 16 p
  reverted-view p l = sym (view-at (reverted i t) 16 p (omega arith) l) ∙ ap (λ (m : Session). m.view 16 p) revert-step.whole ∙ view-at t 16 p (omega arith) l

-- ---- a tape that the append made

abbrev pub no_row : Row
no_row = record { handle = no_handle; name = []; ring = no_ring; staged = untouched }

-- handle, ring and name taken away
module _ (b : List ℕ) (ready : Ready b) (i : ℕ) (low : i < 8) where
  abbrev wiped : List ℕ
  wiped = put_name (put_ring (put_handle b i no_handle) i no_ring) names_at i []

  wiped-means : session_of wiped ≡ with_name (with_ring (with_handle (session_of b) i no_handle) i no_ring) i []
  wiped-means =
      let h = put_handle b i no_handle in
      let r = put_ring h i no_ring in
      let ready-h = ready-put_handle b i no_handle ready low in
      session-put_name r i [] (ready-put_ring h i no_ring ready-h low) low (omega arith)
      ∙ ap (λ (m : Session). with_name m i [])
      (session-put_ring h i no_ring ready-h low (record { capacity = omega arith; start = omega arith; len = omega arith; first = omega arith })
      ∙ ap (λ (m : Session). with_ring m i no_ring)
      (session-put_handle b i no_handle ready low (record { number = omega arith; entry = omega arith; file = omega arith })))

  wiped-own : row_of wiped i ≡ record { handle = no_handle; name = []; ring = no_ring; staged = staged_of b i }
  wiped-own =
      sym (row_at_lem wiped i low)
      ∙ ap (λ (m : Session). row_in m i) wiped-means
      ∙ rw (eq-eqb i i refl)
      (ap (λ (r : Row). record { handle = no_handle; name = []; ring = no_ring; staged = r.staged }) (row_at_lem b i low))

  wiped-others : (q : ℕ) → q < 8 → q ≢ i → row_of wiped q ≡ row_of b q
  wiped-others q l apart =
      sym (row_at_lem wiped q l)
      ∙ ap (λ (m : Session). row_in m q) wiped-means
      ∙ rw (ne_eqb q i apart) (row_at_lem b q l)

  wiped-tracking : (session_of wiped).tracking ≡ (session_of b).tracking
  wiped-tracking = ap (λ (m : Session). m.tracking) wiped-means

  wiped-view : (p : ℕ) → p < 8 → view_of wiped 16 p ≡ view_of b 16 p
  wiped-view p l = sym (view-at wiped 16 p (omega arith) l) ∙ ap (λ (m : Session). m.view 16 p) wiped-means ∙ view-at b 16 p (omega arith) l

module _ (d t : List ℕ) (sound : Sound d) (begun : Begun t) (bytes : Bytes t) (i : ℕ) (low : i < 8) where
  abbrev a : List ℕ
  a = unstage i t

  unstage-step : Becomes t a i (ring_of t i) (ring_bytes t i) untouched
  unstage-step = unstage-becomes t (begun-ready t begun) i low

  unstage-whole : Whole (areas d a)
  unstage-whole = record { sound = sound; begun = begun-unstage t begun i low; bytes = bytes-unstage t begun.long bytes i low }

  module _ (place : ℕ) (found : directory_of d t i ≡ Some place) where
    abbrev b : List ℕ
    b = retracked d a place UntrackAll

    b-ready : Ready b
    b-ready = begun-ready b (begun-retracked d a place UntrackAll sound.head.few unstage-whole.begun)

    b-rows : (q : ℕ) → q < 8 → row_of b q ≡ row_of a q
    b-rows = rows-only 4936 5960 a b (only-retracked d a place UntrackAll sound.head.few) (λ q. omega arith) (λ q. omega arith) unstage-whole.begun

    b-staged : staged_of b i ≡ untouched
    b-staged = ap (λ (r : Row). r.staged) (b-rows i low) ∙ unstage-step.staged

    forgotten-is : forgotten d i t ≡ wiped b b-ready i low
    unfolding forgotten
    forgotten-is = rw found

    forgotten-turn : is_touched t i ≡ true → Turn d t (forgotten d i t) i (name t names_at i) no_row (forget (files_for d t (name t names_at i)))
    unfolding forget
    forgotten-turn is =
        let wanted = name t names_at i in
        let v = wiped b b-ready i low in
        let fits : ChangeFits UntrackAll = record { epoch = omega arith } in
        let same : (m : List ℕ) → files_for d a m ≡ files_for d t m = files-tracking d t a unstage-step.tracking in
        let last : (m : List ℕ) → files_for d v m ≡ files_for d b m = files-tracking d b v (wiped-tracking b b-ready i low) in
        rw forgotten-is
        (record {
          own = wiped-own b b-ready i low ∙ ap (λ (st : Staged). record { handle = no_handle; name = []; ring = no_ring; staged = st }) b-staged;
          files = last wanted
              ∙ files-found d b wanted place found
              ∙ own-retracked (areas d a) place UntrackAll unstage-whole fits
              ∙ ap forget (sym (files-found d a wanted place found) ∙ same wanted);
          others = λ q l apart. wiped-others b b-ready i low q l apart ∙ b-rows q l ∙ others-become t a i _ _ _ unstage-step q l apart;
          apart = λ m touched.
              last m
              ∙ files-apart d a b wanted place found (other-retracked (areas d a) place UntrackAll unstage-whole fits) m (touched (sym (is-touched-row t i) ∙ is))
              ∙ same m;
        })

    forgotten-view : (p : ℕ) → p < 8 → view_of (forgotten d i t) 16 p ≡ view_of t 16 p
    forgotten-view p l =
        ap (λ (v : List ℕ). view_of v 16 p) forgotten-is
        ∙ wiped-view b b-ready i low p l
        ∙ view-only 4936 5960 a b (only-retracked d a place UntrackAll sound.head.few) 16 p (λ q. omega arith)
        ∙ sym (view-at a 16 p (omega arith) l)
        ∙ ap (λ (m : Session). m.view 16 p) unstage-step.whole
        ∙ view-at t 16 p (omega arith) l

-- ---- the step

-- of a tape that is listed, or is not
abbrev pub row_after_drop : Bool → Row → Row
row_after_drop listed r = cond (touched_row r) (cond listed (reverted_row r) no_row) r

abbrev pub files_after_drop : Bool → Row → Files → Files
files_after_drop listed r f = cond (touched_row r) (cond listed f (forget f)) f

module _ (d t : List ℕ) (sound : Sound d) (begun : Begun t) (bytes : Bytes t) (i : ℕ) (low : i < 8)
    (folder : is_touched t i ≡ true → is_found (directory_of d t i) ≡ true) where
  -- what holds of each way holds of the step
  back-cases : (P : List ℕ → Type 0) → (is_touched t i ≡ false → P t) → (is_touched t i ≡ true → (view_of t 16 i).listed ≡ true → P (reverted i t))
      → (is_touched t i ≡ true → (view_of t 16 i).listed ≡ false → (place : ℕ) → directory_of d t i ≡ Some place → P (forgotten d i t)) → P (take_back d i t)
  unfolding take_back
  back-cases P none reverts forgets =
      picked P (is_touched t i) _ _
      (λ is. picked P (view_of t 16 i).listed _ _ (reverts is) (λ no. by is no (directory_of d t i) refl))
      none
    where
      by : is_touched t i ≡ true → (view_of t 16 i).listed ≡ false → (f : Option ℕ) → directory_of d t i ≡ f → P (forgotten d i t)
      by is unlisted (Some place) found = forgets is unlisted place found
      by is unlisted None found = absurd (true≢false (sym (folder is) ∙ ap is_found found))

  back-turn : (wanted : List ℕ) → (touched_row (row_of t i) ≡ true → name t names_at i ≡ wanted) → (listed : Bool) → (view_of t 16 i).listed ≡ listed
      → Turn d t (take_back d i t) i wanted (row_after_drop listed (row_of t i)) (files_after_drop listed (row_of t i) (files_for d t wanted))
  back-turn wanted named listed its =
      back-cases (λ (v : List ℕ). Turn d t v i wanted (row_after_drop listed (row_of t i)) (files_after_drop listed (row_of t i) (files_for d t wanted)))
      (λ is. rw (sym (is-touched-row t i) ∙ is) (record { own = refl; files = refl; others = λ q l apart. refl; apart = λ m touched. refl }))
      (λ is yes. rw (sym (is-touched-row t i) ∙ is, sym its ∙ yes) (reverted-turn d t begun bytes i low wanted))
      (λ is no place found.
      let e = sym (is-touched-row t i) ∙ is in
      rw (e, sym its ∙ no, ← named e) (forgotten-turn d t sound begun bytes i low place found is))

  back-view : (p : ℕ) → p < 8 → view_of (take_back d i t) 16 p ≡ view_of t 16 p
  back-view p l =
      back-cases (λ (v : List ℕ). view_of v 16 p ≡ view_of t 16 p) (λ is. refl) (λ is yes. reverted-view d t begun bytes i low p l)
      (λ is no place found. forgotten-view d t sound begun bytes i low place found p l)

-- ---- all of them

drop-calm : (listed : Bool) (r : Row) → touched_row (row_after_drop listed r) ≡ false
drop-calm listed r =
    let Calm : Row → Type 0 = λ x. touched_row x ≡ false in
    picked Calm (touched_row r) (cond listed (reverted_row r) no_row) r
    (λ e. picked Calm listed (reverted_row r) no_row (λ yes. and-false (not (eqb r.handle.number 0))) (λ no. refl))
    (λ e. e)

-- the writer's view stays
record Kept (s t : List ℕ) : Type 0 where
  begun : Begun t
  bytes : Bytes t
  view : (p : ℕ) → p < 8 → view_of t 16 p ≡ view_of s 16 p

module _ (d s : List ℕ) (sound : Sound d) (begun : Begun s) (bytes : Bytes s) (apart : TouchedApart d s) where
  -- by place
  abbrev rows_after : ℕ → Row → Row
  rows_after i = row_after_drop (view_of s 16 i).listed

  abbrev all_after : ℕ → Row → Files → Files
  all_after i = files_after_drop (view_of s 16 i).listed

  start : Kept s s
  start = record { begun = begun; bytes = bytes; view = λ p l. refl }

  module _ (i : ℕ) (t : List ℕ) (l : i < 8) (k : Kept s t) (first : touched_row (row_of t i) ≡ true → row_of t i ≡ row_of s i) where
    named : touched_row (row_of t i) ≡ true → name t names_at i ≡ name s names_at i
    named e = ap (λ (r : Row). r.name) (first e)

    there : is_touched t i ≡ true → is_found (directory_of d t i) ≡ true
    there is =
        let e = sym (is-touched-row t i) ∙ is in
        rw (named e) (apart.folder i l (is-touched-row s i ∙ sym (ap touched_row (first e)) ∙ e))

    keeps : Kept s (take_back d i t)
    keeps =
        record {
          begun = begun-take_back d t sound k.begun i l;
          bytes = bytes-take_back d sound t k.begun.long k.bytes i l;
          view = λ p m. back-view d t sound k.begun k.bytes i l there p m ∙ k.view p m;
        }

    turn : Turn d t (take_back d i t) i (name s names_at i) (rows_after i (row_of t i)) (all_after i (row_of t i) (files_for d t (name s names_at i)))
    turn =
        back-turn d t sound k.begun k.bytes i l there (name s names_at i) named (view_of s 16 i).listed (ap (λ (v : View). v.listed) (k.view i l))

  pub drop-rows : (p : ℕ) → p < 8 → row_of (sweep (take_back d) 8 0 s) p ≡ rows_after p (row_of s p)
  drop-rows = swept-row d s (take_back d) rows_after all_after (Kept s) keeps turn (λ i r. drop-calm (view_of s 16 i).listed r) apart.distinct start

  pub drop-files : (p : ℕ) → p < 8 → files_for d (sweep (take_back d) 8 0 s) (name s names_at p) ≡ all_after p (row_of s p) (files_for d s (name s names_at p))
  drop-files = swept-files d s (take_back d) rows_after all_after (Kept s) keeps turn (λ i r. drop-calm (view_of s 16 i).listed r) apart.distinct start

  pub drop-apart : (n : List ℕ) → ((i : ℕ) → i < 8 → is_touched s i ≡ true → name s names_at i ≢ n) → files_for d (sweep (take_back d) 8 0 s) n ≡ files_for d s n
  drop-apart = swept-apart d s (take_back d) rows_after all_after (Kept s) keeps turn (λ i r. drop-calm (view_of s 16 i).listed r) apart.distinct start
