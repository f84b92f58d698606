-- What the files lack of each tape that an append touched goes to that tape's own directory, one tape after the other. Where there is room for all of it
-- before (rule 15), there is room for the rest after each, so every directory gets what its tape's `flush` says, and no other directory anything. Assumes
-- nothing.
use Rattle.std.specs.Prelude.{◌≡◌, ◌≢◌, true, false, List, ℕ, ◌+◌, ◌-◌, ◌≤◌, ◌<◌, Option, Some, None}
use Rattle.std.proofs.Math.Path.{refl}
use Rattle.std.proofs.Common.{sym, ap, ◌∙◌, arith}
use borrow.Author.Tests.{ne_eqb, ltb-false}
use Rattle.octets.specs.Cases.{decide}
use Rattle.components.specs.Pieces.{file_of}
use Rattle.components.specs.PiecesLaws.{file-mono}
use Rattle.components.specs.Files.{Files}
use Rattle.components.specs.Slots.{lacking_from, covered}
use Rattle.components.proofs.SlotsLaws.{lacking-same}
use Rattle.layout.specs.Disk.{slots}
use Rattle.layout.specs.Names.{name}
use Rattle.layout.specs.Session.{names_at, file_size_of}
use Rattle.disk.specs.Steps.{files}
use Rattle.disk.specs.StepLaws.{directory-low}
use Rattle.session.specs.Rows.{ring_of, ring_bytes, staged_of}
use Rattle.session.specs.declared.tape_rows.Staged.{Staged}
use Rattle.rolling_tape.specs.Removal.{Areas}
use Rattle.rolling_tape.specs.Room.{on_disk}
use Rattle.cached_tape.specs.Flushing.{unwritten_from, flushed}
use Rattle.cached_tape.specs.FlushLaws.{ring_bytes-kept, ring-kept, staged-kept, file_size_of-kept}
use Rattle.staging.specs.Seeing.{directory_of}
use Rattle.appending.specs.Room.{low_of, end_of, lacking_in, is_staged, lacking_of, lacking_all, no_room}
use Rattle.appending.specs.RoomWays.{all-turn}
use Rattle.ending.specs.Listing.{is_touched}
use Rattle.ending.specs.Steps.{flush_in, flush_tape, flush_all}
use Rattle.ending.specs.StepLaws as Step
use Rattle.ending.specs.StepLaws.{Kept, touched-held, staged-pending, staged-fits, kept-none, kept_then, kept-flush_tape}
use Rattle.held.specs.Held.{flush}
use Rattle.joins.specs.FilesAt.{files_at, held_at, Once}
use Rattle.joins.specs.Ranges.{last-part}
use Rattle.joins.proofs.Ranges.{lacking-last}
use Rattle.joins.specs.Writes.{Grown}
use Rattle.joins.specs.Sends.{Lacks}
use Rattle.joins.proofs.Sends.{flushed-files}
use Rattle.seen.specs.Lacking.{open-lacking, all_from}
use Rattle.ended.specs.Turns.{Turns, turns-end, turns-other, turns-own, touched_place, place-touched, place-directory, touched-place, touched-its-row, folder-kept, directory-kept, touched-kept, PlacesApart, turn-nowhere}

-- ---- what a touched tape lacks

module _ (x s : List ℕ) (p : ℕ) (low : p < 8) where
  staged-touched : is_staged s 8 p ≡ is_touched s p
  unfolding is_touched
  staged-touched = rw (ne_eqb p 8 (λ q. omega arith))

  -- of the staged bytes
  lacking-touched : is_touched s p ≡ true → lacking_of x s 8 0 p ≡ lacking_in x (file_size_of s p) (low_of (staged_of s p)) (end_of (staged_of s p) 0) (directory_of x s p)
  lacking-touched t = open-lacking x s p low (touched-held s p t) ∙ rw (touched-its-row s p t).1

  lacking-untouched : is_touched s p ≡ false → lacking_of x s 8 0 p ≡ 0
  unfolding lacking_of
  lacking-untouched t = rw (staged-touched ∙ t)

-- ---- one tape's flush

-- as far as the tapes below p are done: there is room for what the others lack
record Flushing (a : Areas) (p : ℕ) (b : Areas) : Type 0 where
  kept : Kept a b
  once : Once b.disk
  room : files b.disk + lacking_all b.disk a.session 8 0 (8 - p) p ≤ slots b.disk

-- unwritten bytes are part of the tape
abbrev pub Inside : List ℕ → Type 0
Inside s = (p : ℕ) → p < 8 → is_touched s p ≡ true → (staged_of s p).unwritten ≤ (staged_of s p).len

module _ (a : Areas) (start : Step.Whole a) (apart : PlacesApart a.disk a.session) (inside : Inside a.session) where
  abbrev owner : ℕ → Option ℕ
  owner p = touched_place a.disk a.session p

  module _ (p : ℕ) (low : p < 8) (b : Areas) (at : Flushing a p b) where
    whole-b : Step.Whole b
    whole-b = Step.whole-kept a start b at.kept

    same_size : file_size_of b.session p ≡ file_size_of a.session p
    same_size = file_size_of-kept a.session b.session at.kept.only p low

    turn-none : owner p ≡ None → flush_tape p b ≡ b
    unfolding flush_tape
    turn-none = turn-nowhere a b start at.kept p low (flush_in b p) refl

    module _ (place : ℕ) (e : owner p ≡ Some place) where
      abbrev row : Staged
      row = staged_of a.session p

      abbrev fs : ℕ
      fs = file_size_of a.session p

      touched : is_touched a.session p ≡ true
      touched = place-touched a.disk a.session p place e

      also-touched : is_touched b.session p ≡ true
      also-touched = touched-kept a b start at.kept p low ∙ touched

      found : directory_of a.disk a.session p ≡ Some place
      found = place-directory a.disk a.session p place e

      same_row : staged_of b.session p ≡ row
      same_row = staged-kept a.session b.session at.kept.only p low

      turn_at : flush_tape p b ≡ flushed b place p row
      unfolding flush_tape
      turn_at = rw (also-touched, directory-kept a b start at.kept p low ∙ found, same_row)

      some : 0 < fs
      some = Step.touched-size a.session p start.begun low touched

      -- what it lacks of its staged bytes
      own-lacking : lacking_of b.disk a.session 8 0 p ≡ lacking_from (on_disk b.disk place) (file_of fs (low_of row)) (covered fs (low_of row) row.len)
      own-lacking =
          let short = inside p low touched in
          let end : end_of row 0 ≡ row.len = omega arith in
          lacking-touched b.disk a.session p low touched
          ∙ ap (lacking_in b.disk fs (low_of row) (end_of row 0)) (folder-kept a b start at.kept (name a.session names_at p) ∙ found)
          ∙ ap (λ (x : ℕ). lacking_from (on_disk b.disk place) (file_of fs (low_of row)) (covered fs (low_of row) x)) end

      -- unwritten bytes are among them
      first_above : file_of fs (low_of row) ≤ file_of fs (unwritten_from row)
      first_above = file-mono fs some (low_of row) (unwritten_from row) (omega arith)

      last-below : file_of fs (unwritten_from row) + covered fs (unwritten_from row) row.len ≤ file_of fs (low_of row) + covered fs (low_of row) row.len
      last-below = last-part fs some (low_of row) (unwritten_from row) row.len (omega arith) (omega arith)

      turn-room : files b.disk + (lacking_of b.disk a.session 8 0 p + lacking_all b.disk a.session 8 0 (8 - (p + 1)) (p + 1)) ≤ slots b.disk
      turn-room = omega (arith, at.room, all-turn b.disk a.session 8 0 p low)

      lacks : Lacks b place p row row.len
      lacks =
          record {
            clean = record { sound = whole-b.sound; begun = whole-b.begun; bytes = whole-b.bytes; once = at.once };
            directory = directory-low a.disk (name a.session names_at p) place found;
            tape = low;
            held = touched-held b.session p also-touched;
            pending = rw same_row at (staged-pending b.session p whole-b.begun low also-touched);
            inside = inside p low touched;
            fits = staged-fits a.session p start.bytes;
            room =
                rw same_size
                (omega (
                  arith,
                  turn-room,
                  own-lacking,
                  lacking-last fs some (on_disk b.disk place) (low_of row) (unwritten_from row) row.len (omega arith) (omega arith),
                ));
          }

      changed : Grown b (flushed b place p row) place (file_of fs (unwritten_from row)) (covered fs (unwritten_from row) row.len)
          (flush fs row.len (held_at b place p row.unwritten))
      changed = rw same_size at (flushed-files b place p row lacks)

      -- in the words of the first areas
      held_same : held_at b place p row.unwritten ≡ record { ring = ring_of a.session p; cache = ring_bytes a.session p; files = files_at b place; unwritten = row.unwritten }
      held_same = rw (ring-kept a.session b.session at.kept.only p low, ring_bytes-kept a.session b.session at.kept.only p)

      kept-flush : Kept b (flushed b place p row)
      kept-flush = rw turn_at at (kept-flush_tape p b low whole-b)

      kept-all : Kept a (flushed b place p row)
      kept-all = kept_then a b (flushed b place p row) at.kept kept-flush

      -- the other tapes lack as much as before
      others-lack : (q : ℕ) → p < q → q < 8 → lacking_of (flushed b place p row).disk a.session 8 0 q ≡ lacking_of b.disk a.session 8 0 q
      others-lack q l m =
          decide (is_touched a.session q)
          (λ (t : is_touched a.session q ≡ true).
          let own = name a.session names_at q in
          lacking-touched (flushed b place p row).disk a.session q m t
          ∙ ap (lacking_in (flushed b place p row).disk (file_size_of a.session q) (low_of (staged_of a.session q)) (end_of (staged_of a.session q) 0))
          (folder-kept a (flushed b place p row) start kept-all own)
          ∙ by t (directory_of a.disk a.session q) refl
          ∙ ap (lacking_in b.disk (file_size_of a.session q) (low_of (staged_of a.session q)) (end_of (staged_of a.session q) 0)) (sym (folder-kept a b start at.kept own))
          ∙ sym (lacking-touched b.disk a.session q m t))
          (λ t. lacking-untouched (flushed b place p row).disk a.session q m t ∙ sym (lacking-untouched b.disk a.session q m t))
        where
          by : is_touched a.session q ≡ true → (f : Option ℕ) → directory_of a.disk a.session q ≡ f
              → lacking_in (flushed b place p row).disk (file_size_of a.session q) (low_of (staged_of a.session q)) (end_of (staged_of a.session q) 0) f
              ≡ lacking_in b.disk (file_size_of a.session q) (low_of (staged_of a.session q)) (end_of (staged_of a.session q) 0) f
          by t (Some other) there =
              let its : owner q ≡ Some other = touched-place a.disk a.session q t ∙ there in
              let away : other ≢ place = λ same. let z : p ≡ q = apart p q place low m e (its ∙ ap Some same) in omega arith in
              lacking-same (on_disk b.disk other) (on_disk (flushed b place p row).disk other) _ _ (λ j _ _. changed.there other away j)
          by t None there = refl

      flushing-at : Flushing a (p + 1) (flushed b place p row)
      flushing-at =
          record {
            kept = kept-all;
            once = changed.once;
            room = omega (
              arith,
              turn-room,
              own-lacking,
              kept-flush.slots_same,
              changed.count (file_of fs (low_of row)) (covered fs (low_of row) row.len) first_above last-below,
              all_from b.disk a.session (flushed b place p row).disk a.session 8 0 (8 - (p + 1)) (p + 1) (λ q l m. others-lack q (omega arith) (omega arith)),
            );
          }

  -- ---- all tapes

  flushing-none : (p : ℕ) → p < 8 → (b : Areas) → Flushing a p b → Flushing a (p + 1) b
  flushing-none p low b at =
      record { kept = at.kept; once = at.once; room = omega (arith, at.room, all-turn b.disk a.session 8 0 p low) }

  abbrev change : ℕ → Files → Files
  change p f =
      flush (file_size_of a.session p) (staged_of a.session p).len
      (record { ring = ring_of a.session p; cache = ring_bytes a.session p; files = f; unwritten = (staged_of a.session p).unwritten })

  turns : Turns owner change flush_tape (Flushing a)
  turns =
      record {
        apart = apart;
        keeps = λ p b low at. by-keeps p b low at (owner p) refl;
        own = λ p b low at place e.
            ap (λ (x : Areas). files_at x place) (turn_at p low b at place e)
            ∙ (changed p low b at place e).own
            ∙ ap (flush (file_size_of a.session p) (staged_of a.session p).len) (held_same p low b at place e);
        other = λ p b low at q away. by-other p b low at q away (owner p) refl;
      }
    where
      by-keeps : (p : ℕ) (b : Areas) → p < 8 → Flushing a p b → (f : Option ℕ) → owner p ≡ f → Flushing a (p + 1) (flush_tape p b)
      by-keeps p b low at (Some place) e = rw (turn_at p low b at place e) (flushing-at p low b at place e)
      by-keeps p b low at None e = rw (turn-none p low b at e) (flushing-none p low b at)

      by-other : (p : ℕ) (b : Areas) → p < 8 → Flushing a p b → (q : ℕ) → (owner p ≡ Some q → ⊥) → (f : Option ℕ) → owner p ≡ f → files_at (flush_tape p b) q ≡ files_at b q
      by-other p b low at q away (Some place) e =
          ap (λ (x : Areas). files_at x q) (turn_at p low b at place e) ∙ (changed p low b at place e).other q (λ same. away (e ∙ ap Some (sym same)))
      by-other p b low at q away None e = ap (λ (x : Areas). files_at x q) (turn-none p low b at e)

  module _ (once : Once a.disk) (room : no_room a.disk a.session 8 0 ≡ false) where
    first : Flushing a 0 a
    unfolding no_room
    first = record { kept = kept-none a start; once = once; room = ltb-false (slots a.disk) (files a.disk + lacking_all a.disk a.session 8 0 8 0) room }

    -- a touched tape's directory has what its files lacked
    pub flushed-own : (p place : ℕ) → p < 8 → touched_place a.disk a.session p ≡ Some place
        → files_at (flush_all a) place ≡ flush (file_size_of a.session p) (staged_of a.session p).len (held_at a place p (staged_of a.session p).unwritten)
    flushed-own p place low e = turns-own owner change flush_tape (Flushing a) turns 8 0 a (omega arith) first p place (omega arith) (omega arith) e

    -- and no other directory has anything else than before
    pub flushed-other : (q : ℕ) → ((p : ℕ) → p < 8 → touched_place a.disk a.session p ≡ Some q → ⊥) → files_at (flush_all a) q ≡ files_at a q
    flushed-other q none = turns-other owner change flush_tape (Flushing a) turns 8 0 a (omega arith) first q (λ p l m. none p (omega arith))

    pub flushed-once : Once (flush_all a).disk
    flushed-once = (turns-end owner change flush_tape (Flushing a) turns 8 0 a (omega arith) first).once
