-- The pieces of a run written into files that are there: in the files of its directory its bytes are set (`Covers.antt`), those of other directories stay,
-- and of the file table only lengths change. Assumes nothing.
use Rattle.std.specs.Prelude.{◌≡◌, refl, ◌≢◌, true, List, [], ◌∷◌, ℕ, ◌+◌, ◌≤◌, ◌<◌, length, Option, Some, None}
use Rattle.std.proofs.Common.{sym, ◌∙◌, add-zero, add_assoc, arith, eq-eqb, ne_eqb}
use Rattle.std.proofs.Math.Path.{ap, fun_ext}
use Rattle.std.proofs.Math.Bool.{not}
use Rattle.std.proofs.lemmas.Bool.{false≢true}
use Rattle.octets.specs.First.{first, first-same, count, count_same}
use Rattle.octets.specs.Cases.{equal}
use Rattle.components.specs.Pieces.{file_of, place_in}
use Rattle.components.specs.PiecesLaws.{place-lt}
use Rattle.components.specs.FileBytes.{written}
use Rattle.components.specs.Files.{File, Files}
use Rattle.layout.specs.Disk.{entry_at, slots, owner, number, Sound}
use Rattle.disk.specs.Steps.{is_file, is_free, find_in, files, write_at}
use Rattle.disk.specs.StepLaws.{word-write_at, find-low}
use Rattle.disk.specs.Meaning.{Disk, slot_with, disk_of, with_slot}
use Rattle.disk.specs.MeaningLaws.{find-slot, disk-written}
use Rattle.disk.specs.FileLaws.{with-is, with_bytes as slot_with_bytes}
use Rattle.session.specs.declared.tracking.Tracking.{Tracking}
use Rattle.rolling_tape.specs.Files.{file_with, files_of, file-in, file-out}
use Rattle.rolling_tape.specs.Room.{is_found, on_disk}
use Rattle.rolling_tape.specs.Writing.{write_piece, write_run}
use Rattle.rolling_tape.specs.WritingWays.{write-found, sound-write_piece, run_none}
use Rattle.rolling_tape.specs.AppendLaws.{write_run-cons}
use Rattle.joins.specs.FilesAt.{Once}
use Rattle.joins.specs.Covers.{with_bytes, set_byte, set_bytes, set_own, set_other}

-- ---- the same files in the same slots

pub record SameTable (d t : List ℕ) : Type 0 where
  pub many : slots t ≡ slots d
  pub owners : (j : ℕ) → j < slots d → owner t j ≡ owner d j
  pub numbers : (j : ℕ) → j < slots d → number t j ≡ number d j

table_none : (d : List ℕ) → SameTable d d
table_none d = record { many = refl; owners = λ j l. refl; numbers = λ j l. refl }

table-then : (d t u : List ℕ) → SameTable d t → SameTable t u → SameTable d u
table-then d t u p q =
    record {
      many = q.many ∙ p.many;
      owners = λ j l. q.owners j (rw p.many l) ∙ p.owners j l;
      numbers = λ j l. q.numbers j (rw p.many l) ∙ p.numbers j l;
    }

module _ (d t : List ℕ) (same : SameTable d t) where
  pub find-table : (q k : ℕ) → find_in t q k ≡ find_in d q k
  unfolding find_in
  find-table q k =
      ap (λ (n : ℕ). first (is_file t q k) n 0) same.many
      ∙ first-same (is_file t q k) (is_file d q k) (slots d) 0 (λ j l h. rw (same.owners j (omega arith), same.numbers j (omega arith)))

  pub on-table : (q k : ℕ) → on_disk t q k ≡ on_disk d q k
  unfolding on_disk
  on-table q k = ap is_found (find-table q k)

  pub files-table : files t ≡ files d
  unfolding files
  files-table =
      ap (λ (n : ℕ). count (λ i. not (is_free t i)) n 0) same.many
      ∙ count_same (λ i. not (is_free t i)) (λ i. not (is_free d i)) (slots d) 0 (λ j l h. rw (same.owners j (omega arith)))

  pub once-table : Once d → Once t
  once-table once =
      record {
        once = λ x y l m some o k.
            let l' : x < slots d = rw (← same.many) l in
            let m' : y < slots d = rw (← same.many) m in
            once.once x y l' m' (λ h. some (same.owners x l' ∙ h)) (sym (same.owners x l') ∙ o ∙ same.owners y m')
            (sym (same.numbers x l') ∙ k ∙ same.numbers y m');
      }

table-write_at : (d : List ℕ) → Sound d → (i at : ℕ) (bs : List ℕ) → i < slots d → at + length bs ≤ 4096 → SameTable d (write_at d i at bs)
table-write_at d sound i at bs low fit =
    let few = sound.head.few in
    let same = word-write_at d i at bs (sound.lengths i low) fit in
    record {
      many = same 8 (omega arith) (λ q. absurd (omega arith));
      owners = λ j l. same (entry_at j) (omega arith) (λ q. omega arith);
      numbers = λ j l. same (entry_at j + 8) (omega arith) (λ q. omega arith);
    }

-- ---- bytes set

pub record Set (d u : List ℕ) (place fs o : ℕ) (bs : List ℕ) : Type 0 where
  pub own : (t : ℕ → Tracking) → files_of (disk_of u) t place ≡ set_bytes fs (files_of (disk_of d) t place) o bs
  pub other : (t : ℕ → Tracking) (q : ℕ) → q ≢ place → files_of (disk_of u) t q ≡ files_of (disk_of d) t q
  pub table : SameTable d u

-- one byte
module _ (d : List ℕ) (place fs o b i : ℕ) (sound : Sound d) (z : 0 < fs) (small : fs ≤ 4096) (e : find_in d place (file_of fs o) ≡ Some i) where
  abbrev n : ℕ
  n = file_of fs o

  abbrev new : List ℕ
  new = write_piece d place (file_of fs o) (place_in fs o) (b ∷ [])

  abbrev bytes : List ℕ
  bytes = written ((disk_of d).slot i).bytes (place_in fs o) (b ∷ [])

  low : i < slots d
  low = find-low d place n i e

  fit : place_in fs o + 1 ≤ 4096
  fit = omega (arith, place-lt fs z o)

  new_is : new ≡ write_at d i (place_in fs o) (b ∷ [])
  new_is = write-found d place n (place_in fs o) (b ∷ []) i e

  byte-table : SameTable d new
  byte-table = rw new_is (table-write_at d sound i (place_in fs o) (b ∷ []) low fit)

  now : disk_of new ≡ with_slot (disk_of d) i (slot_with_bytes ((disk_of d).slot i) bytes)
  now = ap disk_of new_is ∙ disk-written d sound i (place_in fs o) (b ∷ []) low (omega arith) fit

  found : (q k : ℕ) → slot_with (disk_of new) q k ≡ slot_with (disk_of d) q k
  found q k = sym (find-slot new q k) ∙ find-table d new byte-table q k ∙ find-slot d q k

  met : slot_with (disk_of d) place n ≡ Some i
  met = sym (find-slot d place n) ∙ e

  bytes-own : ((disk_of new).slot i).bytes ≡ bytes
  bytes-own = ap (λ (m : Disk). (m.slot i).bytes) now ∙ rw (eq-eqb i i refl)

  bytes-other : (j : ℕ) → j ≢ i → ((disk_of new).slot j).bytes ≡ ((disk_of d).slot j).bytes
  bytes-other j h = ap (λ (m : Disk). (m.slot j).bytes) now ∙ rw (ne_eqb j i h)

  module _ (t : ℕ → Tracking) where
    byte-own : files_of (disk_of new) t place n ≡ set_byte fs (files_of (disk_of d) t place) o b n
    byte-own =
        file-in (disk_of new) t place n i (found place n ∙ met)
        ∙ ap (λ (l : List ℕ). file_with l (t i)) bytes-own
        ∙ sym
        (set_own fs (files_of (disk_of d) t place) o b
        ∙ ap (λ (f : File). with_bytes f (written f.bytes (place_in fs o) (b ∷ []))) (file-in (disk_of d) t place n i met))

    byte-other : (q k : ℕ) → (q ≡ place → k ≢ n) → files_of (disk_of new) t q k ≡ files_of (disk_of d) t q k
    byte-other q k apart = by (slot_with (disk_of d) q k) refl
      where
        by : (f : Option ℕ) → slot_with (disk_of d) q k ≡ f → files_of (disk_of new) t q k ≡ files_of (disk_of d) t q k
        by (Some j) h =
            let here = with-is (disk_of d) place n i met in
            let there = with-is (disk_of d) q k j h in
            let differ : j ≢ i = λ (p : j ≡ i).
            let same-owner = ap (λ (x : ℕ). ((disk_of d).slot x).owner) p in
            let same_number = ap (λ (x : ℕ). ((disk_of d).slot x).number) p in
            apart (omega arith) (omega arith) in
            file-in (disk_of new) t q k j (found q k ∙ h)
            ∙ ap (λ (l : List ℕ). file_with l (t j)) (bytes-other j differ)
            ∙ sym (file-in (disk_of d) t q k j h)
        by None h = file-out (disk_of new) t q k (found q k ∙ h) ∙ sym (file-out (disk_of d) t q k h)

    byte-set : files_of (disk_of new) t place ≡ set_byte fs (files_of (disk_of d) t place) o b
    byte-set =
        fun_ext
        (λ (k : ℕ).
        equal k n
        (λ (h : k ≡ n). rw h byte-own)
        (λ (h : k ≢ n). byte-other place k (λ _. h) ∙ sym (set_other fs (files_of (disk_of d) t place) o b k h)))

found-on : (d : List ℕ) (place n : ℕ) → on_disk d place n ≡ true → (i : ℕ) × (find_in d place n ≡ Some i)
unfolding on_disk
found-on d place n = by (find_in d place n) refl
  where
    by : (f : Option ℕ) → find_in d place n ≡ f → is_found (find_in d place n) ≡ true → (i : ℕ) × (find_in d place n ≡ Some i)
    by (Some i) e h = (i, e)
    by None e h = absurd (false≢true (sym (ap is_found e) ∙ h))

-- a run, whose numbers are all there
pub set-run : (place fs : ℕ) → 0 < fs → fs ≤ 4096 → (bs d : List ℕ) (o : ℕ) → Sound d → ((j : ℕ) → j < length bs → on_disk d place (file_of fs (o + j)) ≡ true)
    → Set d (write_run d place fs o bs) place fs o bs
unfolding set_bytes
set-run place fs z small [] d o sound there =
    rw (run_none d place fs o) (record { own = λ t. refl; other = λ t q h. refl; table = table_none d })
set-run place fs z small (b ∷ bs) d o sound there =
    let here : on_disk d place (file_of fs o) ≡ true = rw add-zero at (there 0 (omega arith)) in
    let (i, e) = found-on d place (file_of fs o) here in
    let new = write_piece d place (file_of fs o) (place_in fs o) (b ∷ []) in
    let same = byte-table d place fs o b i sound z small e in
    let sound' : Sound new = sound-write_piece d place (file_of fs o) (place_in fs o) (b ∷ []) sound (omega (arith, place-lt fs z o)) in
    let rest = set-run place fs z small bs new (o + 1) sound' (λ j l. on-table d new same place _ ∙ rw add_assoc (there (1 + j) (omega arith))) in
    rw (write_run-cons d place fs o b bs sound z small)
    (record {
      own = λ t. rest.own t ∙ ap (λ (f : Files). set_bytes fs f (o + 1) bs) (byte-set d place fs o b i sound z small e t);
      other = λ t q h. rest.other t q h ∙ fun_ext (λ (k : ℕ). byte-other d place fs o b i sound z small e t q k (λ p. absurd (h p)));
      table = table-then d new _ same rest.table;
    })
