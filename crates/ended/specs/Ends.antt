-- The end of a writer goes over the tapes, one after the other: each step changes its own tape's row and the files of that tape's name. So the whole does
-- this to each tape, and to no other files. Assumes nothing.
use Rattle.std.specs.Prelude.{◌≡◌, refl, ◌≢◌, Bool, true, false, not, ◌&&◌, List, ℕ, ◌≤◌, ◌<◌, eqb, Option, Some, None}
use Rattle.std.proofs.Common.{sym, ap, ◌∙◌, true≢false, arith}
use Rattle.octets.specs.Cases.{equal}
use Rattle.octets.specs.Only.{OnlyIn}
use Rattle.octets.specs.Sweep.{sweep, sweep-keeps, Rowwise, sweep-row}
use Rattle.layout.specs.Disk.{directories}
use Rattle.layout.specs.Names.{name, find_name}
use Rattle.layout.specs.NamesLaws.{name-only}
use Rattle.layout.specs.Session.{names_at, Begun}
use Rattle.ring_buffer.specs.declared.bookkeeping.RingBuffer.{RingBuffer}
use Rattle.components.specs.Files.{Files}
use Rattle.disk.specs.Meaning.{disk_of}
use Rattle.session.specs.declared.tape_rows.Handle.{Handle}
use Rattle.session.specs.declared.tape_rows.Staged.{Staged}
use Rattle.session.specs.declared.tracking.Tracking.{Tracking}
use Rattle.session.specs.KeepLaws.{begun-ready}
use Rattle.session.specs.Meaning.{Session, untouched, session_of}
use Rattle.session.specs.MeaningLaws.{name-at, handle-at, ring-at, staged-at}
use Rattle.session.specs.RowLaws.{handle-only, ring-only, staged-only}
use Rattle.session.specs.Rows.{handle_of, ring_of, staged_of}
use Rattle.rolling_tape.specs.Files.{files_of}
use Rattle.rolling_tape.specs.Removal.{areas}
use Rattle.rolling_tape.specs.Room.{is_found}
use Rattle.staging.specs.Seeing.{directory_of}
use Rattle.ending.specs.Listing.{is_touched}
use Rattle.ending.specs.DropMeaning.{writer_closed, session-close_writer}
use Rattle.ending.specs.StepLaws.{touched-held}
use Rattle.ending.specs.Steps.{close_writer}
use Rattle.joins.specs.Caches.{Becomes}
use Rattle.joins.specs.FilesAt.{files_at}
use Rattle.seen.specs.Seen.{files_in, files_for}
use Rattle.seen.specs.Orderly.{Orderly}
use Rattle.seen.specs.Places.{found_name}
use Rattle.seen.specs.Rows.{open-named}

-- ---- a tape's row

pub record Row : Type 0 where
  pub handle : Handle
  pub name : List ℕ
  pub ring : RingBuffer
  pub staged : Staged

abbrev pub row_of : List ℕ → ℕ → Row
row_of t p = record { handle = handle_of t p; name = name t names_at p; ring = ring_of t p; staged = staged_of t p }

-- the same of the session's meaning
abbrev pub row_in : Session → ℕ → Row
row_in m p = record { handle = m.handle p; name = m.name p; ring = m.ring p; staged = m.staged p }

pub row_at_lem : (t : List ℕ) (p : ℕ) → p < 8 → row_in (session_of t) p ≡ row_of t p
row_at_lem t p low k = record { handle = handle-at t p low k; name = name-at t p low k; ring = ring-at t p low k; staged = staged-at t p low k }

-- an open tape that the writer touched
abbrev pub touched_row : Row → Bool
touched_row r = not (eqb r.handle.number 0) && r.staged.touched

pub is-touched-row : (t : List ℕ) (p : ℕ) → is_touched t p ≡ touched_row (row_of t p)
unfolding is_touched handle_of
is-touched-row t p = refl

-- a step elsewhere leaves the rows
pub rows-only : (low high : ℕ) (t v : List ℕ) → OnlyIn low high t v → (low < 304 → high ≤ 48) → (low < 4936 → high ≤ 4168) → Begun t → (q : ℕ) → q < 8
    → row_of v q ≡ row_of t q
rows-only low high t v only names tapes begun q l k =
    record {
      handle = handle-only low high t v only q (λ m. omega (arith, tapes (omega arith))) k;
      name = name-only low high t v names_at only q (λ m. omega (arith, names (omega arith))) (begun.names.short q l) k;
      ring = ring-only low high t v only q (λ m. omega (arith, tapes (omega arith))) k;
      staged = staged-only low high t v only q (λ m. omega (arith, tapes (omega arith))) k;
    }

-- a step of the cache and the staged record
module _ (t v : List ℕ) (i : ℕ) (r : RingBuffer) (bytes : List ℕ) (st : Staged) (step : Becomes t v i r bytes st) where
  name-becomes : (q : ℕ) → q < 8 → name v names_at q ≡ name t names_at q
  name-becomes q low = sym (name-at v q low) ∙ ap (λ (m : Session). m.name q) step.whole ∙ name-at t q low

  pub row-becomes : i < 8 → row_of v i ≡ record { handle = handle_of t i; name = name t names_at i; ring = r; staged = st }
  row-becomes low k = record { handle = step.handles i low k; name = name-becomes i low k; ring = step.ring k; staged = step.staged k }

  pub others-become : (q : ℕ) → q < 8 → q ≢ i → row_of v q ≡ row_of t q
  others-become q low apart k =
      let o = step.others q low apart in
      record { handle = step.handles q low k; name = name-becomes q low k; ring = o.ring k; staged = o.staged k }

-- ---- files by a tape's name

-- they are those of its directory
pub files-found : (d t wanted : List ℕ) (place : ℕ) → find_name d directories wanted ≡ Some place → files_for d t wanted ≡ files_at (areas d t) place
files-found d t wanted place found = ap (files_in d t) found

-- where the tracking is the same
pub files-tracking : (d t v : List ℕ) → (session_of v).tracking ≡ (session_of t).tracking → (n : List ℕ) → files_for d v n ≡ files_for d t n
files-tracking d t v same n = by (find_name d directories n)
  where
    by : (found : Option ℕ) → files_in d v found ≡ files_in d t found
    by (Some q) = ap (λ (f : ℕ → Tracking). files_of (disk_of d) f q) same
    by None = refl

-- where those of one directory changed
pub files-apart : (d t v wanted : List ℕ) (place : ℕ) → find_name d directories wanted ≡ Some place → ((q : ℕ) → q ≢ place → files_at (areas d v) q ≡ files_at (areas d t) q)
    → (n : List ℕ) → wanted ≢ n → files_for d v n ≡ files_for d t n
files-apart d t v wanted place found other n apart = by (find_name d directories n) refl
  where
    by : (f : Option ℕ) → find_name d directories n ≡ f → files_in d v f ≡ files_in d t f
    by (Some q) e =
        other q
        (λ (same : q ≡ place).
        apart (sym (found_name d directories wanted place found) ∙ ap (name d directories) (sym same) ∙ found_name d directories n q e))
    by None e = refl

-- ---- touched tapes

-- no other tape has the name of a touched one, and its directory is there
pub record TouchedApart (d s : List ℕ) : Type 0 where
  pub distinct : (i j : ℕ) → i < 8 → j < 8 → is_touched s i ≡ true → j ≢ i → name s names_at i ≢ name s names_at j
  pub folder : (i : ℕ) → i < 8 → is_touched s i ≡ true → is_found (directory_of d s i) ≡ true

pub touched-apart : (d s : List ℕ) → Orderly d s → TouchedApart d s
touched-apart d s o =
    record {
      distinct = λ i j l m is apart same. apart (sym (o.names i j l m (open-named d s o i l (touched-held s i is)) same));
      folder = λ i l is. o.folder i l (touched-held s i is);
    }

-- ---- one tape's step

-- from session t to v, at tape i, whose name is wanted: its row and its files become these
pub record Turn (d t v : List ℕ) (i : ℕ) (wanted : List ℕ) (r : Row) (f : Files) : Type 0 where
  pub own : row_of v i ≡ r
  pub files : files_for d v wanted ≡ f
  pub others : (q : ℕ) → q < 8 → q ≢ i → row_of v q ≡ row_of t q
  pub apart : (n : List ℕ) → (touched_row (row_of t i) ≡ true → wanted ≢ n) → files_for d v n ≡ files_for d t n

-- ---- all of them

record Full : Type 0 where
  row : Row
  files : Files

-- Q is kept by every step; a step leaves no tape touched, and finds a touched one as it was at first
module _ (d s : List ℕ) (f : ℕ → List ℕ → List ℕ) (g : ℕ → Row → Row) (h : ℕ → Row → Files → Files) (Q : List ℕ → Type 0)
    (keeps : (i : ℕ) (t : List ℕ) → i < 8 → Q t → (touched_row (row_of t i) ≡ true → row_of t i ≡ row_of s i) → Q (f i t))
    (turn : (i : ℕ) (t : List ℕ) → i < 8 → Q t → (touched_row (row_of t i) ≡ true → row_of t i ≡ row_of s i)
    → Turn d t (f i t) i (name s names_at i) (g i (row_of t i)) (h i (row_of t i) (files_for d t (name s names_at i))))
    (calm : (i : ℕ) (r : Row) → touched_row (g i r) ≡ false)
    (distinct : (i j : ℕ) → i < 8 → j < 8 → is_touched s i ≡ true → j ≢ i → name s names_at i ≢ name s names_at j)
    (start : Q s) where
  record Through (t : List ℕ) : Type 0 where
    kept : Q t
    first : (p : ℕ) → p < 8 → touched_row (row_of t p) ≡ true → row_of t p ≡ row_of s p

  at_turn : (i : ℕ) (t : List ℕ) → i < 8 → Through t
      → Turn d t (f i t) i (name s names_at i) (g i (row_of t i)) (h i (row_of t i) (files_for d t (name s names_at i)))
  at_turn i t l p = turn i t l p.kept (p.first i l)

  through : (i : ℕ) (t : List ℕ) → i < 8 → Through t → Through (f i t)
  through i t l p =
      let o = at_turn i t l p in
      record {
        kept = keeps i t l p.kept (p.first i l);
        first = λ q m touched.
            equal q i
            (λ (e : q ≡ i).
            let own : row_of (f i t) q ≡ g i (row_of t i) = ap (row_of (f i t)) e ∙ o.own in
            absurd (true≢false (sym touched ∙ ap touched_row own ∙ calm i (row_of t i))))
            (λ (apart : q ≢ i).
            let same = o.others q m apart in
            same ∙ p.first q m (sym (ap touched_row same) ∙ touched));
      }

  at_first : Through s
  at_first = record { kept = start; first = λ p l touched. refl }

  still : (i : ℕ) (t : List ℕ) → i < 8 → Through t → touched_row (row_of t i) ≡ true → is_touched s i ≡ true
  still i t l p touched = is-touched-row s i ∙ sym (ap touched_row (p.first i l touched)) ∙ touched

  abbrev full_of : List ℕ → ℕ → Full
  full_of t p = record { row = row_of t p; files = files_for d t (name s names_at p) }

  abbrev after : ℕ → Full → Full
  after i x = record { row = g i x.row; files = h i x.row x.files }

  each : Rowwise Through full_of f after 8
  each =
      record {
        keeps = through;
        own = λ i t l p. let o = at_turn i t l p in λ k. record { row = o.own k; files = o.files k };
        other = λ i j t l m e p.
            let o = at_turn i t l p in
            let files = o.apart (name s names_at j) (λ touched. distinct i j l m (still i t l p touched) e) in
            λ k. record { row = o.others j m e k; files = files k };
      }

  full : (p : ℕ) → p < 8 → full_of (sweep f 8 0 s) p ≡ after p (full_of s p)
  full p low = sweep-row Through full_of f after 8 each 8 0 s p (omega arith) at_first (omega arith) (omega arith)

  pub swept-row : (p : ℕ) → p < 8 → row_of (sweep f 8 0 s) p ≡ g p (row_of s p)
  swept-row p low = ap (λ (x : Full). x.row) (full p low)

  pub swept-files : (p : ℕ) → p < 8 → files_for d (sweep f 8 0 s) (name s names_at p) ≡ h p (row_of s p) (files_for d s (name s names_at p))
  swept-files p low = ap (λ (x : Full). x.files) (full p low)

  pub swept-apart : (n : List ℕ) → ((i : ℕ) → i < 8 → is_touched s i ≡ true → name s names_at i ≢ n) → files_for d (sweep f 8 0 s) n ≡ files_for d s n
  swept-apart n none =
      (sweep-keeps (λ (t : List ℕ). Through t × (files_for d t n ≡ files_for d s n)) f 8 0 s
      (λ i t l m k.
      let low : i < 8 = omega arith in
      (through i t low k.0, (at_turn i t low k.0).apart n (λ touched. none i low (still i t low k.0 touched)) ∙ k.1))
      (at_first, refl)).1

-- ---- the writer's place closed: handles, names and rings stay, and so does the tracking

module _ (s : List ℕ) (begun : Begun s) where
  closed-session : session_of (close_writer s) ≡ writer_closed (session_of s)
  closed-session = session-close_writer s (begun-ready s begun)

  pub closed-row : (p : ℕ) → p < 8 → row_of (close_writer s) p ≡ record { handle = handle_of s p; name = name s names_at p; ring = ring_of s p; staged = untouched }
  closed-row p low =
      sym (row_at_lem (close_writer s) p low)
      ∙ ap (λ (m : Session). row_in m p) closed-session
      ∙ ap (λ (r : Row). record { handle = r.handle; name = r.name; ring = r.ring; staged = untouched }) (row_at_lem s p low)

  pub closed-files : (d n : List ℕ) → files_for d (close_writer s) n ≡ files_for d s n
  closed-files d n = files-tracking d s (close_writer s) (ap (λ (m : Session). m.tracking) closed-session) n
