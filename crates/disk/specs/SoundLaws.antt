-- The steps keep a disk sound, and its bytes bytes. What each step leaves alone is StepLaws'. Assumes nothing.
use Rattle.std.specs.Prelude.{◌≡◌, ◌≢◌, ℕ, ◌+◌, ◌*◌, ◌≤◌, ◌<◌, ◌^◌, eqb, Option, Some, None}
use Rattle.std.proofs.Math.Path.{refl}
use Rattle.std.proofs.Common.{◌∙◌, arith}
use mathlib.Core.List.{List, []}
use Rattle.std.proofs.Math.ListN.{length}
use Rattle.octets.specs.Bytes.{put}
use Rattle.octets.specs.Number.{num_at, Bytes}
use Rattle.octets.specs.Only.{OnlyIn, num_at-only}
use Rattle.octets.specs.Sweep.{sweep-keeps}
use Rattle.octets.specs.Cases.{picked, equal}
use Rattle.layout.specs.Names.{NamesFit, find_name, put_name}
use Rattle.layout.specs.NamesLaws.{fit-only, fit-put_name, only-put_name, bytes-put_name}
use Rattle.layout.specs.Disk.{directories, entry_at, data_at, slots, left_len, right_len, owner, len, HeadSound, Sound}
use Rattle.metadata.specs.declared.choice.Side.{Side}
use Rattle.metadata.specs.declared.choice.Side.TheVariants.{Left, Right}
use Rattle.disk.specs.declared.files.Entry.{Entry}
use Rattle.disk.specs.Steps.{formatted, put_entry, removed, find_in, free_slot, add_at, add_directory, empty_slot, empty_directory, make_new, make_unless, make_file, write_at, write_side}
use Rattle.disk.specs.StepLaws.{only-put_entry, owner-put_entry, len-put_entry, bytes-put_entry, filled, only-length, only-filled, word-write_at, len-write_at, only-side_len, only-side_data, side_len-write_side, word-write_side, length-formatted, mark-formatted, slots-formatted, word-formatted, only-empty_slot, bytes-empty_slot, directory-low, free-low}

-- ---- soundness after a step that stays within some of the area

module _ (low high : ℕ) (s t : List ℕ) (only : OnlyIn low high s t) where
  pub slots-only : 16 ≤ low → slots t ≡ slots s
  slots-only h = num_at-only low high s t only 8 8 (λ q. absurd (omega arith))

  head-only : 32 ≤ low → HeadSound s → HeadSound t
  head-only h sound =
      let long = only.long in
      let same : (b : ℕ) → b + 8 ≤ 32 → num_at 8 t b ≡ num_at 8 s b = λ b l. num_at-only low high s t only 8 b (λ q. absurd (omega arith)) in
      let count : slots t ≡ slots s = same 8 (omega arith) in
      let room = sound.room in
      record {
        marked = same 0 (omega arith) ∙ sound.marked;
        some = rw count sound.some;
        few = rw count sound.few;
        room = rw (count, long) room;
        left = rw (same 16 (omega arith)) sound.left;
        right = rw (same 24 (omega arith)) sound.right;
      }

  -- behind the names: the file table is to be said
  sound-rows : 288 ≤ low → Sound s → ((i : ℕ) → i < slots s → owner t i ≤ 8) → ((i : ℕ) → i < slots s → len t i ≤ 4096) → Sound t
  sound-rows h sound owners lengths =
      let count = slots-only (omega arith) in
      record {
        head = head-only (omega arith) sound.head;
        names = fit-only low high s t directories only (λ q. absurd (omega arith)) sound.names;
        owners = λ i l. owners i (rw count at l);
        lengths = λ i l. lengths i (rw count at l);
      }

  -- in the names: they are to be said
  sound-names : 32 ≤ low → high ≤ 1312 → Sound s → NamesFit t directories → Sound t
  sound-names h k sound names =
      let count = slots-only (omega arith) in
      record {
        head = head-only h sound.head;
        names = names;
        owners = λ i l. rw (num_at-only low high s t only 8 (entry_at i) (λ q. omega arith)) (sound.owners i (rw count at l));
        lengths = λ i l. rw (num_at-only low high s t only 8 (entry_at i + 16) (λ q. omega arith)) (sound.lengths i (rw count at l));
      }

  -- in the bytes of left and right
  sound-sides : 288 ≤ low → high ≤ 1312 → Sound s → Sound t
  sound-sides h k sound =
      sound-names (omega arith) k sound (fit-only low high s t directories only (λ q. absurd (omega arith)) sound.names)

  -- in the files' bytes
  pub sound-data : 2848 ≤ low → Sound s → Sound t
  sound-data h sound =
      let few = sound.head.few in
      sound-rows (omega arith) sound
      (λ i l. rw (num_at-only low high s t only 8 (entry_at i) (λ q. absurd (omega arith))) (sound.owners i l))
      (λ i l. rw (num_at-only low high s t only 8 (entry_at i + 16) (λ q. absurd (omega arith))) (sound.lengths i l))

  -- in the lengths of left and right: they are to be said
  sound-lengths : 16 ≤ low → high ≤ 32 → Sound s → left_len t ≤ 512 → right_len t ≤ 512 → Sound t
  sound-lengths h k sound left right =
      let long = only.long in
      let count = slots-only h in
      let room = sound.head.room in
      record {
        head = record {
          marked = num_at-only low high s t only 8 0 (λ q. absurd (omega arith)) ∙ sound.head.marked;
          some = rw count sound.head.some;
          few = rw count sound.head.few;
          room = rw (count, long) room;
          left = left;
          right = right;
        };
        names = fit-only low high s t directories only (λ q. omega arith) sound.names;
        owners = λ i l. rw (num_at-only low high s t only 8 (entry_at i) (λ q. omega arith)) (sound.owners i (rw count at l));
        lengths = λ i l. rw (num_at-only low high s t only 8 (entry_at i + 16) (λ q. omega arith)) (sound.lengths i (rw count at l));
      }

-- ---- the slot count, where a directory is made or emptied

pub slots-empty_directory : (s : List ℕ) (d : ℕ) → slots (empty_directory s d) ≡ slots s
unfolding empty_directory
slots-empty_directory s d =
    sweep-keeps (λ (t : List ℕ). slots t ≡ slots s) (empty_slot d) (slots s) 0 s
    (λ j t l h p. slots-only _ _ t _ (only-empty_slot d j t) (omega arith) ∙ p) refl

pub slots-add_directory : (s wanted : List ℕ) → length wanted ≤ 24 → slots (add_directory s wanted).area ≡ slots s
unfolding add_directory
slots-add_directory s wanted small = by (find_name s directories [])
  where
    by : (f : Option ℕ) → slots (add_at s wanted f).area ≡ slots s
    by (Some d) = slots-only _ _ s _ (only-put_name s directories d wanted small) (omega arith)
    by None = refl

-- ---- the steps keep a disk sound

module _ (s : List ℕ) (sound : Sound s) where
  pub entry-room : (i : ℕ) → i < slots s → entry_at i + 24 ≤ length s
  entry-room i l = let room = sound.head.room in let few = sound.head.few in omega arith

  pub data-room : (i : ℕ) → i < slots s → data_at i + 4096 ≤ length s
  data-room i l = let room = sound.head.room in omega arith

  pub sound-put_entry : (i : ℕ) (e : Entry) → i < slots s → e.owner ≤ 8 → e.len ≤ 4096 → e.number < 256 ^ 8 → Sound (put_entry s i e)
  sound-put_entry i e low small short fits =
      let room = entry-room i low in
      let only = only-put_entry s i e in
      sound-rows _ _ s _ only (omega arith) sound
      (λ j l.
      equal j i
      (λ (q : j ≡ i). rw (q, owner-put_entry s i e room (omega arith)) small)
      (λ (d : j ≢ i). rw (num_at-only _ _ s _ only 8 (entry_at j) (λ q. omega arith)) (sound.owners j l)))
      (λ j l.
      equal j i
      (λ (q : j ≡ i). rw (q, len-put_entry s i e room (omega arith)) short)
      (λ (d : j ≢ i). rw (num_at-only _ _ s _ only 8 (entry_at j + 16) (λ q. omega arith)) (sound.lengths j l)))

  pub sound-removed : (i : ℕ) → i < slots s → Sound (removed s i)
  unfolding removed
  sound-removed i low = sound-put_entry i _ low (omega arith) (omega arith) (omega arith)

  pub sound-put_name : (d : ℕ) (wanted : List ℕ) → d < 8 → length wanted ≤ 24 → Sound (put_name s directories d wanted)
  sound-put_name d wanted low small =
      sound-names _ _ s _ (only-put_name s directories d wanted small) (omega arith) (omega arith) sound
      (fit-put_name s directories d wanted sound.names low small)

  pub sound-write_at : (i at : ℕ) (bs : List ℕ) → i < slots s → at + length bs ≤ 4096 → Sound (write_at s i at bs)
  sound-write_at i at bs low fit =
      let short = sound.lengths i low in
      let room = entry-room i low in
      let few = sound.head.few in
      let u = filled s i at bs in
      let only = only-filled s i at bs short fit in
      let same : slots u ≡ slots s = slots-only _ _ s u only (omega arith) in
      sound-rows _ _ u _ (only-length s i at bs) (omega arith) (sound-data _ _ s u only (omega arith) sound)
      (λ j l. rw (word-write_at s i at bs short fit (entry_at j) (omega arith) (λ q. omega arith)) (sound.owners j (rw same at l)))
      (λ j l.
      equal j i
      (λ (q : j ≡ i). rw (q, len-write_at s i at bs room (omega arith) (omega arith)) (omega arith))
      (λ (d : j ≢ i). rw (word-write_at s i at bs short fit (entry_at j + 16) (omega arith) (λ q. omega arith)) (sound.lengths j (rw same at l))))

  pub sound-write_side : (side : Side) (bs : List ℕ) → length bs ≤ 512 → Sound (write_side s side bs)
  sound-write_side Left bs fit =
      let room : 32 ≤ length s = omega (arith, sound.head.room) in
      let left = sound.head.left in
      let new = side_len-write_side s bs fit Left room (omega arith) in
      sound-lengths _ _ (put s 288 bs) _ (only-side_len s Left bs) (omega arith) (omega arith)
      (sound-sides _ _ s _ (only-side_data s bs fit Left) (omega arith) (omega arith) sound)
      (rw new (omega arith))
      (rw (word-write_side s bs fit Left 24 (λ q. omega arith) (λ q. absurd (omega arith))) sound.head.right)
  sound-write_side Right bs fit =
      let room : 32 ≤ length s = omega (arith, sound.head.room) in
      let right = sound.head.right in
      let new = side_len-write_side s bs fit Right room (omega arith) in
      sound-lengths _ _ (put s 800 bs) _ (only-side_len s Right bs) (omega arith) (omega arith)
      (sound-sides _ _ s _ (only-side_data s bs fit Right) (omega arith) (omega arith) sound)
      (rw (word-write_side s bs fit Right 16 (λ q. absurd (omega arith)) (λ q. absurd (omega arith))) sound.head.left)
      (rw new (omega arith))

  pub sound-add_directory : (wanted : List ℕ) → length wanted ≤ 24 → Sound (add_directory s wanted).area
  unfolding add_directory
  sound-add_directory wanted small = by (find_name s directories []) refl
    where
      by : (f : Option ℕ) → find_name s directories [] ≡ f → Sound (add_at s wanted f).area
      by (Some d) e = sound-put_name d wanted (directory-low s [] d e) small
      by None e = sound

  pub sound-make_file : (d n : ℕ) → d < 8 → n < 256 ^ 8 → Sound (make_file s d n).area
  unfolding make_file
  sound-make_file d n low fits = by (find_in s d n)
    where
      new : (f : Option ℕ) → free_slot s ≡ f → Sound (make_new s d n f).area
      new (Some i) e = sound-put_entry i _ (free-low s i e) (omega arith) (omega arith) fits
      new None e = sound

      by : (f : Option ℕ) → Sound (make_unless s d n f).area
      by (Some i) = sound
      by None = new (free_slot s) refl

  pub sound-empty_slot : (d i : ℕ) → i < slots s → Sound (empty_slot d i s)
  unfolding empty_slot
  sound-empty_slot d i low = picked Sound (eqb (owner s i) (d + 1)) (removed s i) s (λ e. sound-removed i low) (λ e. sound)

module _ (s : List ℕ) (sound : Sound s) where
  pub sound-empty_directory : (d : ℕ) → Sound (empty_directory s d)
  unfolding empty_directory
  sound-empty_directory d =
      (sweep-keeps (λ (t : List ℕ). Sound t × (slots t ≡ slots s)) (empty_slot d) (slots s) 0 s
      (λ j t l h p.
      (sound-empty_slot t p.0 d j (rw p.1 (omega arith)), slots-only _ _ t _ (only-empty_slot d j t) (omega arith) ∙ p.1))
      (sound, refl)).0

  pub bytes-empty_directory : (d : ℕ) → Bytes s → Bytes (empty_directory s d)
  unfolding empty_directory
  bytes-empty_directory d b =
      (sweep-keeps (λ (t : List ℕ). (length t ≡ length s) × Bytes t) (empty_slot d) (slots s) 0 s
      (λ j t l h p.
      let room : entry_at j + 24 ≤ length t = rw p.0 (entry-room s sound j (omega arith)) in
      ((only-empty_slot d j t).long ∙ p.0, bytes-empty_slot d j t room p.1))
      (refl, b)).1

  pub bytes-add_directory : (wanted : List ℕ) → length wanted ≤ 24 → Bytes s → Bytes wanted → Bytes (add_directory s wanted).area
  unfolding add_directory
  bytes-add_directory wanted small p q = by (find_name s directories []) refl
    where
      by : (f : Option ℕ) → find_name s directories [] ≡ f → Bytes (add_at s wanted f).area
      by (Some d) e = bytes-put_name s directories d wanted p q sound.names.room (directory-low s [] d e) small
      by None e = p

  pub bytes-make_file : (d n : ℕ) → Bytes s → Bytes (make_file s d n).area
  unfolding make_file
  bytes-make_file d n p = by (find_in s d n)
    where
      new : (f : Option ℕ) → free_slot s ≡ f → Bytes (make_new s d n f).area
      new (Some i) e = bytes-put_entry s i _ (entry-room s sound i (free-low s i e)) p
      new None e = p

      by : (f : Option ℕ) → Bytes (make_unless s d n f).area
      by (Some i) = p
      by None = new (free_slot s) refl

pub sound-formatted : (s : List ℕ) (n : ℕ) → 1 ≤ n → n ≤ 64 → data_at n ≤ length s → Sound (formatted s n)
sound-formatted s n some few room =
    let t = formatted s n in
    let long : length t ≡ length s = length-formatted s n in
    let whole : 2848 ≤ length s = omega arith in
    let count : slots t ≡ n = slots-formatted s n whole (omega arith) in
    let zero = word-formatted s n whole in
    record {
      head = record {
        marked = mark-formatted s n whole;
        some = omega arith;
        few = omega arith;
        room = rw (count, long) room;
        left = omega (arith, zero 16 (omega arith) (omega arith));
        right = omega (arith, zero 24 (omega arith) (omega arith));
      };
      names = record { room = omega arith; short = λ i l. omega (arith, zero (32 + i * 32) (omega arith) (omega arith)) };
      owners = λ i l. omega (arith, zero (entry_at i) (omega arith) (omega arith));
      lengths = λ i l. omega (arith, zero (entry_at i + 16) (omega arith) (omega arith));
    }
