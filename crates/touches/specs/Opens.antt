-- What `open` touches: of the session its own fields, the tape's name, row and cache, and tracking; of the disk the directories, where the tape has none
-- yet, and the file table. No file's bytes are written. Assumes nothing.
use Prim.{tt}
use Rattle.std.specs.Prelude.{◌≡◌, refl, ◌≢◌, true, List, [], ◌∷◌, ℕ, ◌+◌, ◌≤◌, ◌<◌, length, Option, Some, None}
use Rattle.std.proofs.Common.{ap, ◌∙◌, arith}
use Rattle.octets.specs.Cases.{picked, decide}
use Rattle.octets.specs.Only.{OnlyIn, only_none, only_then, only_wider}
use Rattle.octets.specs.Sweep.{sweep-keeps}
use Rattle.answers.specs.Outcome.{Outcome}
use Rattle.layout.specs.Disk as D
use Rattle.layout.specs.Names.{find_name, put_name}
use Rattle.layout.specs.NamesLaws.{only-put_name, name-low}
use Rattle.layout.specs.Session.{names_at, tape_at}
use Rattle.disk.specs.Steps.{add_at, add_directory, empty_slot, empty_directory}
use Rattle.disk.specs.StepLaws.{only-empty_slot, directory-low}
use Rattle.session.specs.Rows.{transaction_of, put_handle, fill_ring, put_staged}
use Rattle.session.specs.RowLaws.{only-put_head, only-put_handle, only-put_ring, only-put_staged, only-fill_ring}
use Rattle.rolling_tape.specs.Removal.{Areas, areas}
use Rattle.rolling_tape.specs.RemovalLaws.{only-entries}
use Rattle.cached_tape.specs.Filling.{filled_with}
use Rattle.beginning.specs.Transactions.{usable}
use Rattle.beginning.specs.Ways.{usable-disk}
use Rattle.opening.specs.declared.shape.Opening.{Opening}
use Rattle.opening.specs.ShapeLaws.{Shaped}
use Rattle.opening.specs.Directory.{taken_files, emptied, added, readied}
use Rattle.opening.specs.DirectoryLaws.{only-readied-session}
use Rattle.opening.specs.Calls.{cached_from, cached_bytes, row_staged, row_handle, rowed, open_with, open_now, place_for, open_call, place_of}
use Rattle.opening.specs.PlacingLaws.{cached-most, length-cached}
use Rattle.opening.specs.CallWays.{place-low, open-unusable}
use Rattle.opening.specs.Laws.{open-cases, opens-shaped}
use Rattle.touches.specs.Parts.{Part, Inside, Outside, Touches, Stays, mark, head, name_of, views, transactions, tape_of, tracking, ring_of, fields, directories, sides, file_table, slots_of, found, stays, stays-found, touches_none, touches-then, touches-only, one-touches}

-- ---- of the session

-- of the tape in place p
abbrev pub open_parts : ℕ → List Part
open_parts p = head ∷ name_of p ∷ tape_of p ∷ tracking ∷ ring_of p ∷ []

module _ (s : List ℕ) (p : ℕ) where
  touches-row : (low high : ℕ) (t : List ℕ) → tape_at p ≤ low → high ≤ tape_at p + 96 → OnlyIn low high s t → Touches (open_parts p) s t
  touches-row low high t l h only = touches-only (open_parts p) low high s t only (λ i k m. omega (arith, k.1.1.0 (omega arith)))

touches-filled : (s : List ℕ) (p capacity first : ℕ) (bs : List ℕ) → length bs ≤ 4096 → Touches (open_parts p) s (filled_with s p capacity first bs)
unfolding filled_with
touches-filled s p capacity first bs fit =
    let t = fill_ring s p 0 bs in
    touches-then (open_parts p) s t _
    (touches-only (open_parts p) _ _ s t (only-fill_ring s p 0 bs (omega arith)) (λ i k l. k.1.1.1.1.0 l))
    (touches-row t p _ _ _ (omega arith) (omega arith) (only-put_ring t p _))

touches-rowed : (s : List ℕ) (p : ℕ) (o : Opening) (bs : List ℕ) → length bs ≤ 4096 → Touches (open_parts p) s (rowed s p o bs)
unfolding rowed
touches-rowed s p o bs fit =
    let a = filled_with s p o.cache (cached_from o) bs in
    let b = put_staged a p (row_staged o) in
    let c = put_handle b p (row_handle s o) in
    touches-then (open_parts p) s a _ (touches-filled s p o.cache (cached_from o) bs fit)
    (touches-then (open_parts p) a b _ (touches-row a p _ _ b (omega arith) (omega arith) (only-put_staged a p _))
    (touches-then (open_parts p) b c _ (touches-row b p _ _ c (omega arith) (omega arith) (only-put_handle b p _))
    (touches-only (open_parts p) _ _ c _ (only-put_head c _) (λ i k l. k.0 l))))

touches-open_now : (d s wanted : List ℕ) (o : Opening) (directory : Option ℕ) (p : ℕ) → usable d s ≡ true → Shaped wanted o → Touches (open_parts p) s (open_now d s wanted o directory p).session
unfolding open_now open_with
touches-open_now d s wanted o directory p ok shaped =
    let short = shaped.name-short in
    let ready = (readied (areas d s) wanted o (transaction_of s 16).epoch directory).session in
    let named = put_name ready names_at p wanted in
    let few : length (cached_bytes d wanted o) ≤ 4096 = omega (arith, length-cached o d wanted, cached-most o, shaped.cache-small) in
    touches-then (open_parts p) s ready _
    (touches-only (open_parts p) _ _ s ready (only-readied-session (areas d s) wanted o _ directory (usable-disk d s ok) short) (λ i k l. k.1.1.1.0 l))
    (touches-then (open_parts p) ready named _
    (touches-only (open_parts p) _ _ ready named (only-put_name ready names_at p wanted short) (λ i k l. k.1.0 l))
    (touches-rowed named p o (cached_bytes d wanted o) few))

-- ---- of the disk

-- the file table; and, of a tape without a directory, the directories
abbrev pub readied_parts : List ℕ → Option ℕ → List Part
readied_parts d (Some place) = file_table d ∷ []
readied_parts d None = file_table d ∷ directories ∷ []

only-empty_directory : (d : List ℕ) (place : ℕ) → OnlyIn 1312 (D.entry_at (D.slots d)) d (empty_directory d place)
unfolding empty_directory
only-empty_directory d place =
    let end = D.entry_at (D.slots d) in
    sweep-keeps (λ (t : List ℕ). OnlyIn 1312 end d t) (empty_slot place) (D.slots d) 0 d
    (λ j t l h only. only_then 1312 end d t _ only (only_wider _ _ 1312 end t _ (omega arith) (omega arith) (only-empty_slot place j t)))
    (only_none 1312 end d)

only-add_directory : (d wanted : List ℕ) → length wanted ≤ 24 → OnlyIn 32 288 d (add_directory d wanted).area
unfolding add_directory
only-add_directory d wanted small = by (find_name d D.directories []) refl
  where
    by : (f : Option ℕ) → find_name d D.directories [] ≡ f → OnlyIn 32 288 d (add_at d wanted f).area
    by (Some i) e =
        let low = directory-low d [] i e in
        only_wider _ _ 32 288 d _ (omega arith) (omega arith) (only-put_name d D.directories i wanted small)
    by None e = only_none 32 288 d

module _ (d s wanted : List ℕ) (o : Opening) (began : ℕ) (small : length wanted ≤ 24) where
  only-taken : (place : ℕ) → OnlyIn 1312 (D.entry_at (D.slots d)) d (taken_files (areas d s) place o began).disk
  unfolding taken_files
  only-taken place = only-entries _ place _

  only-emptied : (place : ℕ) → OnlyIn 1312 (D.entry_at (D.slots d)) d (emptied (areas d s) place).disk
  unfolding emptied
  only-emptied place = only-empty_directory d place

  touches-added : (free : Option ℕ) → Touches (readied_parts d None) d (added (areas d s) wanted free).disk
  touches-added (Some place) =
      let u = (emptied (areas d s) place).disk in
      touches-then (readied_parts d None) d u _
      (touches-only (readied_parts d None) _ _ d u (only-emptied place) (λ i k l. k.0 l))
      (touches-only (readied_parts d None) _ _ u _ (only-add_directory u wanted small) (λ i k l. k.1.0 l))
  touches-added None = touches_none (readied_parts d None) d

  touches-readied : (directory : Option ℕ) → Touches (readied_parts d directory) d (readied (areas d s) wanted o began directory).disk
  touches-readied (Some place) =
      picked (λ (b : Areas). Touches (file_table d ∷ []) d b.disk) o.listed _ _
      (λ e. one-touches _ _ d _ (only-taken place))
      (λ e. one-touches _ _ d _ (only-emptied place))
  touches-readied None = touches-added (find_name d D.directories [])

-- ---- the call

module _ (d s : List ℕ) (t : ℕ) (wanted : List ℕ) (entry fs cache start : ℕ) where
  -- the place that the name has, else the first free one
  pub open-touches-session : Touches (found open_parts (place_for s (place_of s wanted))) s (open_call d s t wanted entry fs cache start).session
  open-touches-session =
      open-cases d s t wanted entry fs cache start (λ (x : Outcome). Touches (found open_parts (place_for s (place_of s wanted))) s x.session)
      (λ why. touches_none (found open_parts (place_for s (place_of s wanted))) s)
      (λ ok w p g. rw g.place (touches-open_now d s wanted _ (find_name d D.directories wanted) p ok (opens-shaped d s t wanted entry fs cache start p g)))

  pub open-touches-disk : Touches (readied_parts d (find_name d D.directories wanted)) d (open_call d s t wanted entry fs cache start).disk
  unfolding open_now open_with
  open-touches-disk =
      open-cases d s t wanted entry fs cache start (λ (x : Outcome). Touches (readied_parts d (find_name d D.directories wanted)) d x.disk)
      (λ why. touches_none (readied_parts d (find_name d D.directories wanted)) d)
      (λ ok w p g. touches-readied d s wanted _ _ (opens-shaped d s t wanted entry fs cache start p g).name-short (find_name d D.directories wanted))

-- ---- what it leaves

-- mark, views, transactions; and of every other tape its name, its row and its cache
pub record OpenLeaves (place : Option ℕ) (s u : List ℕ) : Type 0 where
  pub mark-stays : Stays mark s u
  pub views-stay : Stays views s u
  pub transactions-stay : Stays transactions s u
  pub names-stay : (q : ℕ) → q < 8 → place ≢ Some q → Stays (name_of q) s u
  pub tapes-stay : (q : ℕ) → q < 8 → place ≢ Some q → Stays (tape_of q) s u
  pub rings-stay : (q : ℕ) → q < 8 → place ≢ Some q → Stays (ring_of q) s u

open-leaves : (place : Option ℕ) (s u : List ℕ) → ((p : ℕ) → place ≡ Some p → p < 8) → Touches (found open_parts place) s u → OpenLeaves place s u
open-leaves place s u low a =
    let rest : (q : Part) → ((p : ℕ) → p < 8 → place ≡ Some p → (i : ℕ) → Inside i q → Outside i (open_parts p)) → Stays q s u
    = λ q h. stays-found open_parts place q s u a (λ p e. h p (low p e) e) in
    record {
      mark-stays = rest mark (λ p small e i h. search arith);
      views-stay = rest views (λ p small e i h. search arith);
      transactions-stay = rest transactions (λ p small e i h. search arith);
      names-stay = λ q l d. rest (name_of q) (λ p small e i h. let n : p ≢ q = λ z. d (e ∙ ap Some z) in search arith);
      tapes-stay = λ q l d. rest (tape_of q) (λ p small e i h. let n : p ≢ q = λ z. d (e ∙ ap Some z) in search arith);
      rings-stay = λ q l d. rest (ring_of q) (λ p small e i h. let n : p ≢ q = λ z. d (e ∙ ap Some z) in search arith);
    }

-- mark and slot count, left and right with their lengths, and every file's bytes
pub record OpenLeavesDisk (d e : List ℕ) : Type 0 where
  pub fields-stay : Stays fields d e
  pub sides-stay : Stays sides d e
  pub slots-stay : Stays (slots_of d) d e

pub clear_of : (d : List ℕ) (f : Option ℕ) (i : ℕ) → (1312 ≤ i → D.entry_at (D.slots d) ≤ i) → (32 ≤ i → 288 ≤ i) → Outside i (readied_parts d f)
clear_of d (Some p) i a b = (a, tt)
clear_of d None i a b = (a, (b, tt))

module _ (d s : List ℕ) (t : ℕ) (wanted : List ℕ) (entry fs cache start : ℕ) where
  pub open-leaves-session : OpenLeaves (place_for s (place_of s wanted)) s (open_call d s t wanted entry fs cache start).session
  open-leaves-session =
      open-leaves (place_for s (place_of s wanted)) s _
      (λ p e. place-low s (place_of s wanted) p (λ q f. name-low s names_at wanted q f) e)
      (open-touches-session d s t wanted entry fs cache start)

  pub open-leaves-disk : OpenLeavesDisk d (open_call d s t wanted entry fs cache start).disk
  open-leaves-disk =
      let f = find_name d D.directories wanted in
      let rest : (q : Part) → ((i : ℕ) → Inside i q → Outside i (readied_parts d f)) → Stays q d (open_call d s t wanted entry fs cache start).disk
      = λ q h. stays (readied_parts d f) q d _ (open-touches-disk d s t wanted entry fs cache start) h in
      record {
        fields-stay = rest fields (λ i h. clear_of d f i (λ l. omega (arith, h.1)) (λ l. omega (arith, h.1)));
        sides-stay = rest sides (λ i h. clear_of d f i (λ l. omega (arith, h.1)) (λ l. omega (arith, h.0)));
        slots-stay =
            decide (usable d s)
            (λ ok.
            let few = (usable-disk d s ok).head.few in
            rest (slots_of d) (λ i h. clear_of d f i (λ l. omega (arith, h.0)) (λ l. omega (arith, h.0))))
            (λ bad. rw (open-unusable d s t wanted entry fs cache start bad) (λ i h. refl));
      }
