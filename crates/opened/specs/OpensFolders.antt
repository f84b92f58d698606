-- What an open leaves of the disk's directories: its tape has one, with the files that it should have, and every other directory stands as before under its
-- name. Assumes nothing.
use Rattle.std.specs.Prelude.{◌≡◌, refl, ◌≢◌, Bool, true, false, cond, ◌&&◌, ℕ, ◌≤◌, ◌<◌, ◌^◌, length, Option, Some, None}
use Rattle.std.proofs.Math.Path.{sym, ap}
use Rattle.std.proofs.Common.{subst, ◌∙◌, arith}
use Rattle.std.proofs.Math.Bool.{true≢false}
use mathlib.Core.List.{List, []}
use Rattle.std.proofs.Math.Dec.{leb}
use Rattle.octets.specs.Cases.{decide, equal, picked}
use Rattle.octets.specs.Words.{table-in}
use Rattle.components.specs.Files.{Files, no_files}
use Rattle.held.specs.Held.{taken}
use Rattle.layout.specs.Names.{name, find_name, put_name}
use Rattle.layout.specs.NamesLaws.{name-low, only-put_name, name-only, name-put_name}
use Rattle.layout.specs.Disk.{directories, Sound}
use Rattle.disk.specs.Meaning.{Disk, disk_of}
use Rattle.disk.specs.MeaningLaws.{disk-empty_directory}
use Rattle.disk.specs.Steps.{add_at, add_directory, empty_directory}
use Rattle.rolling_tape.specs.Removal.{Areas}
use Rattle.rolling_tape.specs.RemovalLaws.{only-entries}
use Rattle.opening.specs.declared.shape.Opening.{Opening}
use Rattle.opening.specs.NamesLeft.{is_nothing, names_used, is_ninth}
use Rattle.opening.specs.Directory.{taken_files, emptied, added, readied}
use Rattle.ending.specs.StepLaws.{Whole}
use Rattle.joins.specs.FilesAt.{Once}
use Rattle.joins.specs.Tracks.{Changed}
use Rattle.joins.proofs.Directories.{changed-emptied, names-emptied, whole-emptied, changed-added, found-added, others-added, changed-taken, names-taken}
use Rattle.seen.specs.Seen.{files_in, files_for}
use Rattle.seen.specs.Places.{found_name, not_found}

-- the files that the opened tape then has
abbrev pub opened_files : Opening → ℕ → Files → Files
opened_files o began f = cond o.listed (taken o.file_size began o.len o.start f) no_files

-- no two directories have the same name
abbrev pub EachOnce : List ℕ → Type 0
EachOnce d = (i j : ℕ) → i < 8 → j < 8 → 0 < length (name d directories i) → name d directories i ≡ name d directories j → i ≡ j

pub record Readied (a b : Areas) (wanted : List ℕ) (o : Opening) (began : ℕ) : Type 0 where
  pub place : ℕ
  pub found : find_name b.disk directories wanted ≡ Some place
  pub changed : Changed a b place (opened_files o began (files_for a.disk a.session wanted))
  pub names : (n : List ℕ) → n ≢ wanted → 0 < length n → find_name b.disk directories n ≡ find_name a.disk directories n
  pub apart : (n : List ℕ) → n ≢ wanted → 0 < length n → (q : ℕ) → find_name a.disk directories n ≡ Some q → q ≢ place
  pub unique : EachOnce a.disk → EachOnce b.disk

-- the files of every other name
pub readied-other : (a b : Areas) (wanted : List ℕ) (o : Opening) (began : ℕ) → Readied a b wanted o began → (n : List ℕ) → n ≢ wanted → 0 < length n
    → files_for b.disk b.session n ≡ files_for a.disk a.session n
readied-other a b wanted o began r n differs some =
    ap (files_in b.disk b.session) (r.names n differs some) ∙ by (find_name a.disk directories n) refl
  where
    by : (f : Option ℕ) → find_name a.disk directories n ≡ f → files_in b.disk b.session f ≡ files_in a.disk a.session f
    by (Some q) e = r.changed.other q (r.apart n differs some q e)
    by None e = refl

-- ---- the directories' names, one by one

once-same : (d e : List ℕ) → ((i : ℕ) → i < 8 → name e directories i ≡ name d directories i) → EachOnce d → EachOnce e
once-same d e same each i j low high some equals =
    each i j low high (rw (same i low) at some) (sym (same i low) ∙ equals ∙ same j high)

-- one name more, which stood nowhere
once_more : (d e wanted : List ℕ) (place : ℕ) → find_name d directories wanted ≡ None → name e directories place ≡ wanted
    → ((i : ℕ) → i < 8 → i ≢ place → name e directories i ≡ name d directories i) → EachOnce d → EachOnce e
once_more d e wanted place none here same each i j low high some equals =
    equal i place
    (λ (at : i ≡ place).
    equal j place
    (λ (too : j ≡ place). at ∙ sym too)
    (λ (not_there : j ≢ place).
    absurd (not_found d directories wanted none j high (sym (same j high not_there) ∙ sym equals ∙ ap (name e directories) at ∙ here))))
    (λ (not_there : i ≢ place).
    equal j place
    (λ (at : j ≡ place). absurd (not_found d directories wanted none i low (sym (same i low not_there) ∙ equals ∙ ap (name e directories) at ∙ here)))
    (λ (nor-there : j ≢ place). each i j low high (rw (same i low not_there) at some) (sym (same i low not_there) ∙ equals ∙ same j high nor-there)))

module _ (a : Areas) (place : ℕ) (sound : Sound a.disk) where
  name-taken : (o : Opening) (began i : ℕ) → i < 8 → name (taken_files a place o began).disk directories i ≡ name a.disk directories i
  unfolding taken_files
  name-taken o began i low = name-only _ _ a.disk _ directories (only-entries _ place _) i (λ l. omega arith) (sound.names.short i low)

  name-emptied : (i : ℕ) → i < 8 → name (emptied a place).disk directories i ≡ name a.disk directories i
  unfolding emptied disk_of
  name-emptied i low =
      let e = empty_directory a.disk place in
      sym (table-in 8 [] (name e directories) i low)
      ∙ ap (λ (m : Disk). m.directory i) (disk-empty_directory a.disk sound place)
      ∙ table-in 8 [] (name a.disk directories) i low

module _ (a : Areas) (wanted : List ℕ) (place : ℕ) (whole : Whole a) (free : find_name a.disk directories [] ≡ Some place) (small : length wanted ≤ 24) where
  abbrev bare : List ℕ
  bare = (emptied a place).disk

  added_is : (added a wanted (Some place)).disk ≡ put_name bare directories place wanted
  unfolding add_directory
  added_is = ap (λ (f : Option ℕ). (add_at bare wanted f).area) (names-emptied a place whole.sound [] ∙ free)

  name-made : name (added a wanted (Some place)).disk directories place ≡ wanted
  name-made =
      ap (λ (e : List ℕ). name e directories place) added_is
      ∙ name-put_name bare directories place wanted (whole-emptied a place whole).sound.names.room (name-low a.disk directories [] place free) small

  name-beside : (i : ℕ) → i < 8 → i ≢ place → name (added a wanted (Some place)).disk directories i ≡ name a.disk directories i
  name-beside i low apart =
      ap (λ (e : List ℕ). name e directories i) added_is
      ∙ name-only _ _ bare _ directories (only-put_name bare directories place wanted small) i (λ l. omega arith) ((whole-emptied a place whole).sound.names.short i low)
      ∙ name-emptied a place whole.sound i low

-- ---- each way that a directory is made ready

module _ (a : Areas) (wanted : List ℕ) (o : Opening) (began : ℕ) (whole : Whole a) (once : Once a.disk) (fits : began < 2 ^ 64) where
  abbrev d : List ℕ
  d = a.disk

  abbrev now : Files
  now = files_for a.disk a.session wanted

  abbrev kept : Files → Files
  kept f = taken o.file_size began o.len o.start f

  known-files : o.listed ≡ true → opened_files o began now ≡ kept now
  known-files known = ap (λ (b : Bool). cond b (kept now) no_files) known

  new-files : o.listed ≡ false → opened_files o began now ≡ no_files
  new-files new = ap (λ (b : Bool). cond b (kept now) no_files) new

  -- its directory is there
  module _ (place : ℕ) (there : find_name d directories wanted ≡ Some place) where
    other-there : (n : List ℕ) → n ≢ wanted → 0 < length n → (q : ℕ) → find_name d directories n ≡ Some q → q ≢ place
    other-there n differs some q e same =
        differs (sym (found_name d directories n q e) ∙ ap (name d directories) same ∙ found_name d directories wanted place there)

    readied-known : o.listed ≡ true → Readied a (taken_files a place o began) wanted o began
    readied-known known =
        record {
          place = place;
          found = names-taken a place o began whole fits wanted ∙ there;
          changed =
              subst (Changed a (taken_files a place o began) place) (sym (known-files known ∙ ap (λ (f : Option ℕ). kept (files_in d a.session f)) there))
              (changed-taken a place o began whole fits once);
          names = λ n differs some. names-taken a place o began whole fits n;
          apart = other-there;
          unique = once-same d _ (name-taken a place whole.sound o began);
        }

    readied-empty : o.listed ≡ false → Readied a (emptied a place) wanted o began
    readied-empty new =
        record {
          place = place;
          found = names-emptied a place whole.sound wanted ∙ there;
          changed = subst (Changed a (emptied a place) place) (sym (new-files new)) (changed-emptied a place whole once);
          names = λ n differs some. names-emptied a place whole.sound n;
          apart = other-there;
          unique = once-same d _ (name-emptied a place whole.sound);
        }

  -- it is made, in a free place
  readied-made : (place : ℕ) → find_name d directories wanted ≡ None → find_name d directories [] ≡ Some place → length wanted ≤ 24 → o.listed ≡ false
      → Readied a (added a wanted (Some place)) wanted o began
  readied-made place none free small new =
      record {
        place = place;
        found = found-added a wanted place whole free small none;
        changed = subst (Changed a (added a wanted (Some place)) place) (sym (new-files new)) (changed-added a wanted place whole free small once);
        names = λ n differs some. others-added a wanted place whole free small n differs some;
        apart = λ n differs some q e same.
            omega (arith, ap length (sym (found_name d directories n q e) ∙ ap (name d directories) same ∙ found_name d directories [] place free));
        unique = once_more d _ wanted place none (name-made a wanted place whole free small) (name-beside a wanted place whole free small);
      }

  -- ---- as a served call has found them

  -- a new name is no ninth one, so a place is free for its directory
  room-left : (s : List ℕ) → o.listed ≡ false → is_ninth d s o.listed None ≡ false → find_name d directories [] ≢ None
  unfolding is_ninth
  room-left s new few none =
      decide (leb 8 (names_used d s))
      (λ (many : leb 8 (names_used d s) ≡ true). true≢false (rw (new, many) at few))
      (λ (many : leb 8 (names_used d s) ≡ false). true≢false (rw (new, many, none) at few))

  pub readied-all : (s : List ℕ) → length wanted ≤ 24 → is_ninth d s o.listed (find_name d directories wanted) ≡ false
      → (o.listed && is_nothing (find_name d directories wanted)) ≡ false → Readied a (readied a wanted o began (find_name d directories wanted)) wanted o began
  readied-all s small = by (find_name d directories wanted) refl
    where
      free : (f : Option ℕ) → find_name d directories [] ≡ f → find_name d directories wanted ≡ None → o.listed ≡ false → f ≢ None → Readied a (added a wanted f) wanted o began
      free (Some place) e none new some = readied-made place none e small new
      free None e none new some = absurd (some refl)

      by : (f : Option ℕ) → find_name d directories wanted ≡ f → is_ninth d s o.listed f ≡ false → (o.listed && is_nothing f) ≡ false → Readied a (readied a wanted o began f) wanted o began
      by (Some place) e few there =
          picked (λ (b : Areas). Readied a b wanted o began) o.listed (taken_files a place o began) (emptied a place) (readied-known place e) (readied-empty place e)
      by None e few there =
          let new : o.listed ≡ false = decide o.listed (λ (t : o.listed ≡ true). absurd (true≢false (rw t at there))) (λ f. f) in
          free (find_name d directories []) refl e new (λ none. room-left s new few none)
