-- What each step does to the meaning of a sound disk, and that the searches say the same of the bytes and of the meaning. Assumes nothing.
use Rattle.std.specs.Prelude.{◌≡◌, ◌≢◌, true, false, cond, ◌&&◌, ℕ, ◌+◌, ◌*◌, ◌≤◌, ◌<◌, ◌^◌, max, drop, Option, Some, None}
use Rattle.std.proofs.Math.Path.{refl, ap, fun_ext}
use Rattle.std.proofs.Common.{sym, ◌∙◌, arith}
use Rattle.std.proofs.Math.Bool.{not}
use mathlib.Core.List.{List, []}
use Rattle.std.proofs.Math.Dec.{eqb}
use Rattle.std.proofs.Math.ListN.{length, take}
use Rattle.octets.specs.Bytes.{put, length_part}
use Rattle.octets.specs.Only.{OnlyIn, num_at-only, part-only}
use Rattle.octets.specs.Words.{table, table-in, table-out, table-blank, table_same, table-row}
use Rattle.octets.specs.First.{first, first-same, count, count_same}
use Rattle.octets.specs.Sweep.{sweep-keeps, sweep-row, Rowwise}
use Rattle.octets.specs.Cases.{picked, decide, order}
use Rattle.components.specs.FileBytes.{written}
use Rattle.layout.specs.Names.{name, names, find_name, put_name}
use Rattle.layout.specs.NamesLaws.{find-names, fit-only, names-only, names-put_name, only-put_name}
use Rattle.layout.specs.Disk.{directories, entry_at, data_at, slots, owner, number, len, Sound}
use Rattle.metadata.specs.declared.choice.Side.{Side}
use Rattle.metadata.specs.declared.choice.Side.TheVariants.{Left, Right}
use Rattle.disk.specs.declared.files.Entry.{Entry}
use Rattle.disk.specs.Steps.{formatted, put_entry, removed, is_file, find_in, within, find_file, files, empty_slot, empty_directory, file_bytes, write_at, side_at, side_len_at, side_len, side_bytes, write_side}
use Rattle.disk.specs.Ways.{side-place, side-short, side-from}
use Rattle.disk.specs.StepLaws.{only-put_entry, owner-put_entry, number-put_entry, len-put_entry, filled, only-length, only-filled, word-write_at, len-write_at, only-side_len, only-side_data, only-write_side, side_len-write_side, slots-formatted, word-formatted, only-empty_slot, find-low}
use Rattle.disk.specs.SoundLaws.{slots-only, sound-data, entry-room, data-room, sound-empty_slot}
use Rattle.disk.specs.Grown.{part-written, part-front}
use Rattle.disk.specs.Meaning.{Slot, Disk, free, slot_of, disk_of, directory_named, slot_with, bytes_in, file_in, in_directory, slot_named, file_count, with_slot, with_directory, with_side, emptied, blank}

-- ---- a disk is its parts

pub disk-is : (a b : Disk) → a.slots ≡ b.slots → a.left ≡ b.left → a.right ≡ b.right → a.directory ≡ b.directory → a.slot ≡ b.slot → a ≡ b
disk-is a b p q r t u = λ i. record { slots = p i; left = q i; right = r i; directory = t i; slot = u i }

-- ---- what a step elsewhere leaves

pub length-file : (s : List ℕ) → Sound s → (i : ℕ) → i < slots s → length (file_bytes s i) ≡ len s i
unfolding file_bytes
length-file s sound i low =
    let short = sound.lengths i low in
    let room = data-room s sound i low in
    length_part (len s i) s (data_at i) (omega arith)

module _ (low high : ℕ) (s t : List ℕ) (only : OnlyIn low high s t) where
  pub slot-only : (i : ℕ) → (low < entry_at i + 24 → high ≤ entry_at i) → (low < data_at i + 4096 → high ≤ data_at i) → len s i ≤ 4096 → slot_of t i ≡ slot_of s i
  unfolding slot_of file_bytes
  slot-only i h k short =
      let same : len t i ≡ len s i = num_at-only low high s t only 8 (entry_at i + 16) (λ q. omega (arith, h (omega arith))) in
      rw (
        num_at-only low high s t only 8 (entry_at i) (λ q. omega (arith, h (omega arith))),
        num_at-only low high s t only 8 (entry_at i + 8) (λ q. omega (arith, h (omega arith))),
        same,
        part-only low high s t only (len s i) (data_at i) (λ q. omega (arith, k (omega arith))),
      )

  pub side-only : (side : Side) → (low < side_len_at side + 8 → high ≤ side_len_at side) → (low < side_at side + 512 → high ≤ side_at side) → side_len s side ≤ 512
      → side_bytes t side ≡ side_bytes s side
  unfolding side_bytes
  side-only side h k short =
      rw (
        num_at-only low high s t only 8 (side_len_at side) h,
        part-only low high s t only (side_len s side) (side_at side) (λ q. omega (arith, k (omega arith))),
      )

-- everything but the file table and the files' bytes is the same
record Rest (s t : List ℕ) : Type 0 where
  count : slots t ≡ slots s
  left : side_bytes t Left ≡ side_bytes s Left
  right : side_bytes t Right ≡ side_bytes s Right
  names : names t directories ≡ names s directories

rest-only : (low high : ℕ) (s t : List ℕ) → OnlyIn low high s t → 1312 ≤ low → Sound s → Rest s t
rest-only low high s t only h sound =
    record {
      count = slots-only low high s t only (omega arith);
      left = side-only low high s t only Left (λ q. absurd (omega arith)) (λ q. absurd (omega arith)) sound.head.left;
      right = side-only low high s t only Right (λ q. absurd (omega arith)) (λ q. absurd (omega arith)) sound.head.right;
      names = names-only low high s t directories only (λ q. absurd (omega arith)) sound.names;
    }

rest_then : (s t u : List ℕ) → Rest s t → Rest t u → Rest s u
rest_then s t u p q =
    record { count = q.count ∙ p.count; left = q.left ∙ p.left; right = q.right ∙ p.right; names = q.names ∙ p.names }

-- one slot changed
disk-row : (s t : List ℕ) → Rest s t → (i : ℕ) (r : Slot) → i < slots s → slot_of t i ≡ r → ((j : ℕ) → j < slots s → j ≢ i → slot_of t j ≡ slot_of s j)
    → disk_of t ≡ with_slot (disk_of s) i r
unfolding disk_of
disk-row s t rest i r low new other =
    disk-is _ _ rest.count rest.left rest.right rest.names
    (ap (λ (n : ℕ). table n free (slot_of t)) rest.count ∙ table-row (slots s) free (slot_of s) (slot_of t) i r low new other)

-- ---- the steps

module _ (s : List ℕ) (sound : Sound s) where
  pub disk-put_name : (d : ℕ) (wanted : List ℕ) → d < 8 → length wanted ≤ 24 → disk_of (put_name s directories d wanted) ≡ with_directory (disk_of s) d wanted
  unfolding disk_of
  disk-put_name d wanted low small =
      let t = put_name s directories d wanted in
      let only = only-put_name s directories d wanted small in
      let count : slots t ≡ slots s = slots-only _ _ s t only (omega arith) in
      disk-is _ _ count
      (side-only _ _ s t only Left (λ q. absurd (omega arith)) (λ q. omega arith) sound.head.left)
      (side-only _ _ s t only Right (λ q. absurd (omega arith)) (λ q. omega arith) sound.head.right)
      (names-put_name s directories d wanted sound.names low small)
      (ap (λ (n : ℕ). table n free (slot_of t)) count
      ∙ table_same (slots s) free (slot_of s) (slot_of t)
      (λ i l. slot-only _ _ s t only i (λ q. omega arith) (λ q. omega arith) (sound.lengths i l)))

  -- the rest of the table is clear of an entry
  other-rows : (i : ℕ) (t : List ℕ) → i < slots s → OnlyIn (entry_at i) (entry_at i + 24) s t → (j : ℕ) → j < slots s → j ≢ i → slot_of t j ≡ slot_of s j
  other-rows i t low only j l d =
      let few = sound.head.few in
      slot-only _ _ s t only j (λ q. omega arith) (λ q. omega arith) (sound.lengths j l)

  slot-put_entry : (i o n : ℕ) → i < slots s → o < 256 ^ 8 → n < 256 ^ 8
      → slot_of (put_entry s i (record { owner = o; number = n; len = 0 })) i ≡ record { owner = o; number = n; bytes = [] }
  unfolding slot_of file_bytes
  slot-put_entry i o n low f g =
      let e : Entry = record { owner = o; number = n; len = 0 } in
      let room = entry-room s sound i low in
      rw (owner-put_entry s i e room f, number-put_entry s i e room g, len-put_entry s i e room (omega arith))

  pub disk-put_entry : (i o n : ℕ) → i < slots s → o < 256 ^ 8 → n < 256 ^ 8
      → disk_of (put_entry s i (record { owner = o; number = n; len = 0 })) ≡ with_slot (disk_of s) i (record { owner = o; number = n; bytes = [] })
  disk-put_entry i o n low f g =
      let t = put_entry s i (record { owner = o; number = n; len = 0 }) in
      let only = only-put_entry s i (record { owner = o; number = n; len = 0 }) in
      disk-row s t (rest-only _ _ s t only (omega arith) sound) i _ low (slot-put_entry i o n low f g) (other-rows i t low only)

  slot-removed : (i : ℕ) → i < slots s → slot_of (removed s i) i ≡ free
  unfolding removed
  slot-removed i low = slot-put_entry i 0 0 low (omega arith) (omega arith)

  pub disk-removed : (i : ℕ) → i < slots s → disk_of (removed s i) ≡ with_slot (disk_of s) i free
  unfolding removed
  disk-removed i low = disk-put_entry i 0 0 low (omega arith) (omega arith)

  -- a file after a write
  pub file-write_at : (i at : ℕ) (bs : List ℕ) → i < slots s → 0 < length bs → at + length bs ≤ 4096 → file_bytes (write_at s i at bs) i ≡ written (file_bytes s i) at bs
  unfolding file_bytes filled
  file-write_at i at bs low more fit =
      let short = sound.lengths i low in
      let room = data-room s sound i low in
      ap (λ (n : ℕ). take n (drop (data_at i) (write_at s i at bs))) (len-write_at s i at bs (entry-room s sound i low) (omega arith) (omega arith))
      ∙ part-only _ _ _ _ (only-length s i at bs) (max (len s i) (at + length bs)) (data_at i) (λ q. omega arith)
      ∙ part-written s (data_at i) (len s i) at bs (omega arith) (omega arith) more

  slot-write_at : (i at : ℕ) (bs : List ℕ) → i < slots s → 0 < length bs → at + length bs ≤ 4096
      → slot_of (write_at s i at bs) i ≡ record { owner = owner s i; number = number s i; bytes = written (file_bytes s i) at bs }
  unfolding slot_of
  slot-write_at i at bs low more fit =
      let short = sound.lengths i low in
      let few = sound.head.few in
      rw (
        word-write_at s i at bs short fit (entry_at i) (omega arith) (λ q. absurd (omega arith)),
        word-write_at s i at bs short fit (entry_at i + 8) (omega arith) (λ q. absurd (omega arith)),
        file-write_at i at bs low more fit,
      )

  pub disk-write_at : (i at : ℕ) (bs : List ℕ) → i < slots s → 0 < length bs → at + length bs ≤ 4096
      → disk_of (write_at s i at bs) ≡ with_slot (disk_of s) i (record { owner = owner s i; number = number s i; bytes = written (file_bytes s i) at bs })
  disk-write_at i at bs low more fit =
      let short = sound.lengths i low in
      let few = sound.head.few in
      let u = filled s i at bs in
      let t = write_at s i at bs in
      let body = only-filled s i at bs short fit in
      let size = only-length s i at bs in
      let sound' : Sound u = sound-data _ _ s u body (omega arith) sound in
      disk-row s t (rest_then s u t (rest-only _ _ s u body (omega arith) sound) (rest-only _ _ u t size (omega arith) sound')) i _ low
      (slot-write_at i at bs low more fit)
      (λ j l d.
      let same : len u j ≡ len s j = num_at-only _ _ s u body 8 (entry_at j + 16) (λ q. absurd (omega arith)) in
      slot-only _ _ u t size j (λ q. omega arith) (λ q. omega arith) (rw same (sound.lengths j l))
      ∙ slot-only _ _ s u body j (λ q. omega arith) (λ q. omega arith) (sound.lengths j l))

  -- left or right after a write
  pub side-written : (side : Side) (bs : List ℕ) → length bs ≤ 512 → side_bytes (write_side s side bs) side ≡ written (side_bytes s side) 0 bs
  unfolding side_bytes
  side-written side bs fit =
      let room = sound.head.room in
      let place = side-place side in
      let from = side-from side in
      let short = side-short s sound side in
      ap (λ (n : ℕ). take n (drop (side_at side) (write_side s side bs))) (side_len-write_side s bs fit side (omega arith) (omega arith))
      ∙ part-only _ _ _ _ (only-side_len s side bs) (max (side_len s side) (length bs)) (side_at side) (λ q. omega arith)
      ∙ part-front s (side_at side) (side_len s side) bs (omega arith) (omega arith)

  -- the names, and the other side
  pub names-write_side : (side : Side) (bs : List ℕ) → length bs ≤ 512 → names (write_side s side bs) directories ≡ names s directories
  names-write_side side bs fit =
      let place = side-place side in
      let from = side-from side in
      let body = only-side_data s bs fit side in
      names-only _ _ _ _ directories (only-side_len s side bs) (λ q. omega arith) (fit-only _ _ s _ directories body (λ q. absurd (omega arith)) sound.names)
      ∙ names-only _ _ s _ directories body (λ q. absurd (omega arith)) sound.names

  pub left-kept : (bs : List ℕ) → length bs ≤ 512 → side_bytes (write_side s Right bs) Left ≡ side_bytes s Left
  left-kept bs fit =
      let u = put s 800 bs in
      let body : OnlyIn 800 1312 s u = only-side_data s bs fit Right in
      let same : side_len u Left ≡ side_len s Left = num_at-only _ _ s u body 8 16 (λ q. absurd (omega arith)) in
      side-only _ _ u _ (only-side_len s Right bs) Left (λ q. absurd (omega arith)) (λ q. omega arith) (rw same sound.head.left)
      ∙ side-only _ _ s u body Left (λ q. absurd (omega arith)) (λ q. absurd (omega arith)) sound.head.left

  pub right_kept : (bs : List ℕ) → length bs ≤ 512 → side_bytes (write_side s Left bs) Right ≡ side_bytes s Right
  right_kept bs fit =
      let u = put s 288 bs in
      let body : OnlyIn 288 800 s u = only-side_data s bs fit Left in
      let same : side_len u Right ≡ side_len s Right = num_at-only _ _ s u body 8 24 (λ q. absurd (omega arith)) in
      side-only _ _ u _ (only-side_len s Left bs) Right (λ q. omega arith) (λ q. omega arith) (rw same sound.head.right)
      ∙ side-only _ _ s u body Right (λ q. absurd (omega arith)) (λ q. omega arith) sound.head.right

  slots-write_side : (side : Side) (bs : List ℕ) → length bs ≤ 512
      → table (slots (write_side s side bs)) free (slot_of (write_side s side bs)) ≡ table (slots s) free (slot_of s)
  slots-write_side side bs fit =
      let t = write_side s side bs in
      let only = only-write_side s bs fit side in
      ap (λ (n : ℕ). table n free (slot_of t)) (slots-only _ _ s t only (omega arith))
      ∙ table_same (slots s) free (slot_of s) (slot_of t) (λ i l. slot-only _ _ s t only i (λ q. omega arith) (λ q. omega arith) (sound.lengths i l))

  pub disk-write_side : (side : Side) (bs : List ℕ) → length bs ≤ 512 → disk_of (write_side s side bs) ≡ with_side (disk_of s) side (written (side_bytes s side) 0 bs)
  unfolding disk_of
  disk-write_side Left bs fit =
      disk-is _ _ (slots-only _ _ s _ (only-write_side s bs fit Left) (omega arith))
      (side-written Left bs fit)
      (right_kept bs fit)
      (names-write_side Left bs fit)
      (slots-write_side Left bs fit)
  disk-write_side Right bs fit =
      disk-is _ _ (slots-only _ _ s _ (only-write_side s bs fit Right) (omega arith))
      (left-kept bs fit)
      (side-written Right bs fit)
      (names-write_side Right bs fit)
      (slots-write_side Right bs fit)

-- ---- a directory emptied: its files' slots one after the other

-- what the sweep keeps
record Swept (s t : List ℕ) : Type 0 where
  sound : Sound t
  rest : Rest s t

-- what it does to a slot
abbrev freed : ℕ → Slot → Slot
freed d r = cond (eqb r.owner (d + 1)) free r

freed-free : (d : ℕ) → freed d free ≡ free
freed-free d = picked (λ (r : Slot). r ≡ free) (eqb 0 (d + 1)) free free (λ e. refl) (λ e. refl)

own_row : (d : ℕ) (s : List ℕ) → Sound s → (i : ℕ) → i < slots s → slot_of (empty_slot d i s) i ≡ freed d (slot_of s i)
unfolding empty_slot slot_of
own_row d s sound i low =
    decide (eqb (owner s i) (d + 1)) (λ (e : eqb (owner s i) (d + 1) ≡ true). rw e (slot-removed s sound i low)) (λ (e : eqb (owner s i) (d + 1) ≡ false). rw e)

swept : (d : ℕ) (s : List ℕ) → Rowwise (Swept s) slot_of (empty_slot d) (λ i. freed d) (slots s)
swept d s =
    record {
      keeps = λ i t l p.
          let m : i < slots t = rw p.rest.count l in
          record {
            sound = sound-empty_slot t p.sound d i m;
            rest = rest_then s t _ p.rest (rest-only _ _ t _ (only-empty_slot d i t) (omega arith) p.sound);
          };
      own = λ i t l p. own_row d t p.sound i (rw p.rest.count l);
      other = λ i j t l m ne p. other-rows t p.sound i _ (rw p.rest.count l) (only-empty_slot d i t) j (rw p.rest.count m) ne;
    }

rest-empty_directory : (s : List ℕ) → Sound s → (d : ℕ) → Swept s (empty_directory s d)
unfolding empty_directory
rest-empty_directory s sound d =
    sweep-keeps (Swept s) (empty_slot d) (slots s) 0 s (λ j t l h p. (swept d s).keeps j t (omega arith) p)
    (record { sound = sound; rest = record { count = refl; left = refl; right = refl; names = refl } })

slot-empty_directory : (s : List ℕ) → Sound s → (d i : ℕ) → i < slots s → slot_of (empty_directory s d) i ≡ freed d (slot_of s i)
unfolding empty_directory
slot-empty_directory s sound d i l =
    sweep-row (Swept s) slot_of (empty_slot d) (λ i. freed d) (slots s) (swept d s) (slots s) 0 s i (omega arith)
    (record { sound = sound; rest = record { count = refl; left = refl; right = refl; names = refl } })
    (omega arith)
    (omega arith)

pub disk-empty_directory : (s : List ℕ) → Sound s → (d : ℕ) → disk_of (empty_directory s d) ≡ emptied (disk_of s) d
unfolding disk_of
disk-empty_directory s sound d =
    let t = empty_directory s d in
    let rest = (rest-empty_directory s sound d).rest in
    disk-is _ _ rest.count rest.left rest.right rest.names
    (ap (λ (n : ℕ). table n free (slot_of t)) rest.count
    ∙ fun_ext
    (λ (i : ℕ).
    order i (slots s)
    (λ (l : i < slots s).
    table-in (slots s) free (slot_of t) i l
    ∙ slot-empty_directory s sound d i l
    ∙ ap (freed d) (sym (table-in (slots s) free (slot_of s) i l)))
    (λ (l : slots s ≤ i).
    table-out (slots s) free (slot_of t) i l
    ∙ sym (freed-free d)
    ∙ ap (freed d) (sym (table-out (slots s) free (slot_of s) i l)))))

-- ---- format

pub disk-formatted : (s : List ℕ) (n : ℕ) → n ≤ 64 → data_at n ≤ length s → disk_of (formatted s n) ≡ blank n
unfolding disk_of side_bytes slot_of file_bytes name
disk-formatted s n few room =
    let t = formatted s n in
    let whole : 2848 ≤ length s = omega arith in
    let count : slots t ≡ n = slots-formatted s n whole (omega arith) in
    let zero = word-formatted s n whole in
    disk-is _ _ count
    (ap (λ (k : ℕ). take k (drop 288 t)) (zero 16 (omega arith) (omega arith)))
    (ap (λ (k : ℕ). take k (drop 800 t)) (zero 24 (omega arith) (omega arith)))
    (table-blank 8 [] (name t directories) (λ i l. ap (λ (k : ℕ). take k (drop (32 + i * 32 + 8) t)) (zero (32 + i * 32) (omega arith) (omega arith))))
    (ap (λ (k : ℕ). table k free (slot_of t)) count
    ∙ table-blank n free (slot_of t)
    (λ i l. rw (zero (entry_at i) (omega arith) (omega arith), zero (entry_at i + 8) (omega arith) (omega arith), zero (entry_at i + 16) (omega arith) (omega arith))))

-- ---- the searches say the same of the meaning

module _ (s : List ℕ) where
  pub slot-in : (i : ℕ) → i < slots s → (disk_of s).slot i ≡ slot_of s i
  unfolding disk_of
  slot-in i l = table-in (slots s) free (slot_of s) i l

  pub owner-in : (i : ℕ) → i < slots s → ((disk_of s).slot i).owner ≡ owner s i
  unfolding slot_of
  owner-in i l = ap (λ (r : Slot). r.owner) (slot-in i l)

  pub number_in_lem : (i : ℕ) → i < slots s → ((disk_of s).slot i).number ≡ number s i
  unfolding slot_of
  number_in_lem i l = ap (λ (r : Slot). r.number) (slot-in i l)

  pub bytes-in : (i : ℕ) → i < slots s → ((disk_of s).slot i).bytes ≡ file_bytes s i
  unfolding slot_of
  bytes-in i l = ap (λ (r : Slot). r.bytes) (slot-in i l)

  pub slots-in : (disk_of s).slots ≡ slots s
  unfolding disk_of
  slots-in = refl

  pub find-directory : (w : List ℕ) → find_name s directories w ≡ directory_named (disk_of s) w
  unfolding disk_of
  find-directory w = find-names s directories w

  pub find-slot : (d n : ℕ) → find_in s d n ≡ slot_with (disk_of s) d n
  unfolding find_in
  find-slot d n =
      first-same (is_file s d n) _ (slots s) 0 (λ i l h. rw (owner-in i (omega arith), number_in_lem i (omega arith)))
      ∙ ap (λ (k : ℕ). first (λ i. eqb ((disk_of s).slot i).owner (d + 1) && eqb ((disk_of s).slot i).number n) k 0) (sym slots-in)

  pub find-named : (tape : List ℕ) (n : ℕ) → find_file s tape n ≡ slot_named (disk_of s) tape n
  unfolding find_file
  find-named tape n = ap (within s n) (find-directory tape) ∙ by (directory_named (disk_of s) tape)
    where
      by : (f : Option ℕ) → within s n f ≡ in_directory (disk_of s) n f
      by (Some place) = find-slot place n
      by None = refl

  pub files-count : files s ≡ file_count (disk_of s)
  unfolding files
  files-count =
      count_same _ _ (slots s) 0 (λ i l h. rw (owner-in i (omega arith)))
      ∙ ap (λ (k : ℕ). count (λ i. not (eqb ((disk_of s).slot i).owner 0)) k 0) (sym slots-in)

  pub file-found : (d n i : ℕ) → find_in s d n ≡ Some i → file_in (disk_of s) d n ≡ Some (file_bytes s i)
  unfolding file_in
  file-found d n i e =
      ap (bytes_in (disk_of s)) (sym (find-slot d n) ∙ e)
      ∙ ap (λ (l : List ℕ). Some l) (bytes-in i (find-low s d n i e))

  pub file-missing : (d n : ℕ) → find_in s d n ≡ None → file_in (disk_of s) d n ≡ None
  unfolding file_in
  file-missing d n e = ap (bytes_in (disk_of s)) (sym (find-slot d n) ∙ e)

-- a write, said of the meaning alone
pub disk-written : (s : List ℕ) → Sound s → (i at : ℕ) (bs : List ℕ) → i < slots s → 0 < length bs → at + length bs ≤ 4096
    → disk_of (write_at s i at bs)
    ≡ with_slot (disk_of s) i (record { owner = ((disk_of s).slot i).owner; number = ((disk_of s).slot i).number; bytes = written ((disk_of s).slot i).bytes at bs })
unfolding slot_of
disk-written s sound i at bs low more fit =
    disk-write_at s sound i at bs low more fit
    ∙ ap (λ (r : Slot). with_slot (disk_of s) i (record { owner = r.owner; number = r.number; bytes = written r.bytes at bs })) (sym (slot-in s i low))
