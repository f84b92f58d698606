-- What an append's commit leaves in the directories: of each tape that it touched what `settled` says, of every other directory what was there. List and
-- record, and the writer's place that is closed at the end, are no file's business. Assumes nothing.
use Rattle.std.specs.Prelude.{◌≡◌, true, List, [], Option, Some, None}
use Rattle.std.proofs.Math.Path.{refl, sym, ap, fun_ext}
use Rattle.std.proofs.Common.{◌∙◌, arith}
use Rattle.std.proofs.Math.Bool.{false}
use Prim.Native.Nat.{ℕ, ◌+◌, ◌*◌, ◌≤◌, ◌<◌, ◌^◌}
use Rattle.octets.specs.Only.{OnlyIn, num_at-only}
use Rattle.octets.specs.Words.{table, table_same}
use Rattle.components.specs.Pieces.{file_of}
use Rattle.components.specs.Files.{Files, mark_below, remove}
use Rattle.metadata.specs.declared.list.TapeList.{TapeList}
use Rattle.metadata.specs.Struct.{storable}
use Rattle.layout.specs.Disk.{directories, slots, entry_at, Sound}
use Rattle.layout.specs.Names.{name, find_name}
use Rattle.layout.specs.NamesLaws.{name-only}
use Rattle.layout.specs.Session.{names_at, file_size_of, tape_at}
use Rattle.disk.specs.Meaning.{Disk, free, slot_of, disk_of, slot_with}
use Rattle.disk.specs.MeaningLaws.{slot-only, disk-is}
use Rattle.session.specs.declared.tracking.Tracking.{Tracking}
use Rattle.session.specs.declared.tracking.Tracking.TheVariants.{Untracked}
use Rattle.session.specs.declared.views.View.{View}
use Rattle.session.specs.Meaning.{session_of}
use Rattle.session.specs.Rows.{head_of, view_of, transaction_of, staged_of, tracking_of}
use Rattle.session.specs.RowLaws.{view-only, tracking-only}
use Rattle.rolling_tape.specs.Files.{file_at, files_of}
use Rattle.rolling_tape.specs.Removal.{Areas, areas}
use Rattle.joins.specs.FilesAt.{files_at, held_at, Once}
use Rattle.joins.specs.Setting.{once-table}
use Rattle.cached_tape.specs.FlushLaws.{file_size_of-kept}
use Rattle.appending.specs.Room.{no_room}
use Rattle.ending.specs.Listing.{is_touched, published}
use Rattle.ending.specs.Oldest.{oldest_of}
use Rattle.ending.specs.Steps.{flush_all, publish_all, ripen_all, close_writer}
use Rattle.ending.specs.StepLaws.{Whole, Kept, whole-kept, kept-flush_all, kept-ripen_all, only-publish_all, begun-publish_all, only-advanced}
use Rattle.ending.specs.Committing.{stored, stored_append, ripened_append, appended}
use Rattle.ending.specs.CommitLaws.{the_list, only-stored-disk, only-stored, whole-stored}
use Rattle.ending.specs.CommitMeaning.{Published, published-append, touched-only}
use Rattle.ending.specs.CutLaws.{only-close_writer}
use Rattle.held.specs.Held.{settled}
use Rattle.seen.specs.Orderly.{Orderly}
use Rattle.seen.specs.Kinds.{began-fits}
use Rattle.seen.specs.Lists.{place-names}
use Rattle.ended.specs.Turns.{touched_place, place-touched, PlacesApart, places-apart, folder-kept, touched-kept}
use Rattle.ended.specs.Flushes.{Inside, flushed-own, flushed-other, flushed-once}
use Rattle.ended.specs.Ripens.{ripened-own, ripened-other, ripened-once}

-- ---- steps that are no file's business

-- of the session
module _ (low high : ℕ) (s u : List ℕ) (only : OnlyIn low high s u) (clear : low < 5960 → high ≤ 4936) where
  tracking-left : (session_of u).tracking ≡ (session_of s).tracking
  unfolding session_of
  tracking-left = table_same 64 Untracked (tracking_of s) (tracking_of u) (λ i l. tracking-only low high s u only i (λ q. omega (arith, clear (omega arith))))

  pub files-session : (d : List ℕ) (q : ℕ) → files_at (areas d u) q ≡ files_at (areas d s) q
  files-session d q = ap (λ (t : ℕ → Tracking). files_of (disk_of d) t q) tracking-left

-- of the disk: files stand in slots
abbrev slots_only : Disk → Disk
slots_only m = record { slots = m.slots; left = []; right = []; directory = λ i. []; slot = m.slot }

files-slots : (m : Disk) (t : ℕ → Tracking) (q : ℕ) → files_of m t q ≡ files_of (slots_only m) t q
unfolding files_of
files-slots m t q = fun_ext (λ (k : ℕ). by (slot_with m q k))
  where
    by : (f : Option ℕ) → file_at m t f ≡ file_at (slots_only m) t f
    by (Some i) = refl
    by None = refl

-- what is below the file table is none of theirs
module _ (low : ℕ) (d e : List ℕ) (only : OnlyIn low 1312 d e) (above : 16 ≤ low) where
  slots-left : slots e ≡ slots d
  slots-left = num_at-only low 1312 d e only 8 8 (λ q. absurd (omega arith))

  slots-as : Sound d → slots_only (disk_of e) ≡ slots_only (disk_of d)
  unfolding disk_of
  slots-as sound =
      disk-is (slots_only (disk_of e)) (slots_only (disk_of d)) slots-left refl refl refl
      (ap (λ (n : ℕ). table n free (slot_of e)) slots-left
      ∙ table_same (slots d) free (slot_of d) (slot_of e) (λ i l. slot-only low 1312 d e only i (λ q. omega arith) (λ q. omega arith) (sound.lengths i l)))

  files-disk : Sound d → (s : List ℕ) (q : ℕ) → files_at (areas e s) q ≡ files_at (areas d s) q
  files-disk sound s q =
      let t = (session_of s).tracking in
      files-slots (disk_of e) t q ∙ ap (λ (m : Disk). files_of m t q) (slots-as sound) ∙ sym (files-slots (disk_of d) t q)

  once-left : Once d → Once e
  once-left =
      once-table d e
      (record {
        many = slots-left;
        owners = λ j l. num_at-only low 1312 d e only 8 (entry_at j) (λ q. omega arith);
        numbers = λ j l. num_at-only low 1312 d e only 8 (entry_at j + 8) (λ q. omega arith);
      })

-- ---- an append's commit

published-start : (s : List ℕ) (p : ℕ) → is_touched s p ≡ true → (published s false p).start ≡ (staged_of s p).start
unfolding published
published-start s p t = rw t

module _ (d s : List ℕ) (o : Orderly d s) (more : (head_of s).epoch + 1 < 2 ^ 64) (ok : storable (the_list s false) ≡ true) (inside : Inside s)
    (room : no_room d s 8 0 ≡ false) where
  abbrev list : TapeList
  list = the_list s false

  -- the areas on the way: flushed, stored, ripened
  abbrev a₀ : Areas
  a₀ = areas d s

  abbrev a₁ : Areas
  a₁ = flush_all (areas d s)

  abbrev a₂ : Areas
  a₂ = stored (flush_all (areas d s)).disk (flush_all (areas d s)).session false (the_list s false)

  abbrev a₃ : Areas
  a₃ = ripen_all (transaction_of s 16).epoch (oldest_of s) (stored (flush_all (areas d s)).disk (flush_all (areas d s)).session false (the_list s false))

  start : Whole (areas d s)
  start = record { sound = o.disk; begun = o.session; bytes = o.session-bytes }

  kept₁ : Kept a₀ a₁
  kept₁ = kept-flush_all (areas d s) start

  whole₁ : Whole a₁
  whole₁ = whole-kept a₀ start a₁ kept₁

  whole₂ : Whole a₂
  whole₂ = whole-stored a₁ false list ok whole₁

  kept₃ : Kept a₂ a₃
  kept₃ = kept-ripen_all a₂ whole₂ (transaction_of s 16).epoch (oldest_of s)

  files₂ : (q : ℕ) → files_at a₂ q ≡ files_at a₁ q
  files₂ q =
      files-session 8 3760 a₁.session a₂.session (only-stored a₁ false list ok) (λ l. omega arith) a₂.disk q
      ∙ files-disk 16 a₁.disk a₂.disk (only-stored-disk a₁ false list ok) (omega arith) whole₁.sound a₁.session q

  once₂ : Once a₂.disk
  once₂ = once-left 16 a₁.disk a₂.disk (only-stored-disk a₁ false list ok) (omega arith) (flushed-once a₀ start (places-apart d s o) inside o.once room)

  -- what is published, and what is left of the rest
  left : Published d s false (appended d s list)
  left = published-append d s start more ok

  abbrev u : List ℕ
  u = close_writer (ripen_all (transaction_of s 16).epoch (oldest_of s) (stored (flush_all (areas d s)).disk (flush_all (areas d s)).session false (the_list s false))).session

  folder₂ : (n : List ℕ) → find_name a₂.disk directories n ≡ find_name d directories n
  unfolding appended ripened_append stored_append
  folder₂ n = sym (folder-kept a₂ a₃ whole₂ kept₃ n) ∙ place-names d a₃.disk directories n left.known

  module _ (p : ℕ) (low : p < 8) where
    name₂ : name a₂.session names_at p ≡ name s names_at p
    unfolding stored
    name₂ =
        let listed = publish_all false a₁.session in
        name-only 8 48 listed a₂.session names_at (only-advanced false listed) p (λ q. omega arith) ((begun-publish_all false a₁.session whole₁.begun).names.short p low)
        ∙ name-only 3568 3760 a₁.session listed names_at (only-publish_all false a₁.session) p (λ q. omega arith) (whole₁.begun.names.short p low)
        ∙ name-only 4936 5960 s a₁.session names_at kept₁.only p (λ q. omega arith) (o.session.names.short p low)

    touched₂ : is_touched a₂.session p ≡ is_touched s p
    touched₂ = touched-only 8 3760 a₁.session a₂.session (only-stored a₁ false list ok) p (λ q. omega arith) ∙ touched-kept a₀ a₁ start kept₁ p low

    place₂ : touched_place a₂.disk a₂.session p ≡ touched_place d s p
    place₂ = rw (touched₂, ap (find_name a₂.disk directories) name₂ ∙ folder₂ (name s names_at p))

    size₂ : file_size_of a₂.session p ≡ file_size_of s p
    size₂ =
        num_at-only 8 3760 a₁.session a₂.session (only-stored a₁ false list ok) 8 (tape_at p + 2 * 8) (λ q. omega arith)
        ∙ file_size_of-kept s a₁.session kept₁.only p low

    start₂ : is_touched s p ≡ true → (view_of a₂.session 17 p).start ≡ (staged_of s p).start
    unfolding appended ripened_append stored_append
    start₂ t =
        ap (λ (v : View). v.start)
        (sym (view-only 4936 5960 a₂.session a₃.session kept₃.only 17 p (λ q. omega arith))
        ∙ sym (view-only 4144 4936 a₃.session u (only-close_writer a₃.session) 17 p (λ q. omega arith))
        ∙ left.list p low)
        ∙ published-start s p t

  apart₂ : PlacesApart a₂.disk a₂.session
  apart₂ p q place l m e f = places-apart d s o p q place l m (sym (place₂ p l) ∙ e) (sym (place₂ q m) ∙ f)

  -- ---- the files after it

  pub settled-own : (p place : ℕ) → p < 8 → touched_place d s p ≡ Some place
      → files_at (areas (appended d s (the_list s false)).disk (appended d s (the_list s false)).session) place
      ≡ (settled (file_size_of s p) (transaction_of s 16).epoch (oldest_of s) (staged_of s p).len (staged_of s p).start (held_at (areas d s) place p (staged_of s p).unwritten)).files
  unfolding appended ripened_append stored_append settled
  settled-own p place low e =
      let began = (transaction_of s 16).epoch in
      let first : ℕ → ℕ → Files → Files = λ fs st f. remove (oldest_of s) (mark_below (file_of fs st) began f) in
      files-session 4144 4936 a₃.session u (only-close_writer a₃.session) (λ q. omega arith) a₃.disk place
      ∙ ripened-own a₂ whole₂ apart₂ began (oldest_of s) (began-fits s o.session-bytes) once₂ p place low (place₂ p low ∙ e)
      ∙ ap (λ (n : ℕ). first n (view_of a₂.session 17 p).start (files_at a₂ place)) (size₂ p low)
      ∙ ap (λ (n : ℕ). first (file_size_of s p) n (files_at a₂ place)) (start₂ p low (place-touched d s p place e))
      ∙ ap (first (file_size_of s p) (staged_of s p).start) (files₂ place ∙ flushed-own a₀ start (places-apart d s o) inside o.once room p place low e)

  pub settled-other : (q : ℕ) → ((p : ℕ) → p < 8 → touched_place d s p ≡ Some q → ⊥)
      → files_at (areas (appended d s (the_list s false)).disk (appended d s (the_list s false)).session) q ≡ files_at (areas d s) q
  unfolding appended ripened_append stored_append
  settled-other q none =
      files-session 4144 4936 a₃.session u (only-close_writer a₃.session) (λ q. omega arith) a₃.disk q
      ∙ ripened-other a₂ whole₂ apart₂ (transaction_of s 16).epoch (oldest_of s) (began-fits s o.session-bytes) once₂ q (λ p l e. none p l (sym (place₂ p l) ∙ e))
      ∙ files₂ q
      ∙ flushed-other a₀ start (places-apart d s o) inside o.once room q none

  pub settled-once : Once (appended d s (the_list s false)).disk
  unfolding appended ripened_append stored_append
  settled-once = ripened-once a₂ whole₂ apart₂ (transaction_of s 16).epoch (oldest_of s) (began-fits s o.session-bytes) once₂
