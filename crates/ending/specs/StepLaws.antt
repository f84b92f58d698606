-- Laws of the steps of a commit: where each writes, that the disk stays sound and the session begun, and that bytes stay bytes. Assumes nothing.
use Rattle.std.specs.Prelude.{◌≡◌, refl, ◌≢◌, Bool, false, ℕ, ◌+◌, ◌≤◌, ◌<◌, ◌^◌, length, Option, Some, None}
use Rattle.std.proofs.Common.{sym, ◌∙◌, true≢false, arith, eq-eqb}
use Rattle.std.proofs.Math.Bool.{true}
use mathlib.Core.List.{List, [], ◌++◌}
use Rattle.octets.specs.Cases.{picked}
use Rattle.octets.specs.Number.{Bytes, bytes_le, bytes-append, num_at-lt}
use Rattle.octets.specs.Only.{OnlyIn, only_none, only_then, only_wider}
use Rattle.octets.specs.Sweep.{sweep, sweep-keeps}
use Rattle.blake2b.specs.Laws.{bytes-blake2b}
use Rattle.borsh.specs.Encoding.{u32, u64, array, vec}
use Rattle.borsh.specs.Laws.{bytes-vec}
use Rattle.components.specs.Pieces.{file_of}
use Rattle.layout.specs.Disk.{data_at, slots, Sound}
use Rattle.layout.specs.Session.{session_bytes, handle_number, file_size_of, ring_len, Begun}
use Rattle.metadata.specs.declared.list.TapeList.{TapeList}
use Rattle.metadata.specs.Tapes.{encode_list}
use Rattle.metadata.specs.Struct.{tapes_of, storable}
use Rattle.metadata.specs.Record.{hash_of, encode_record}
use Rattle.metadata.specs.RecordLaws.{record-most}
use Rattle.metadata.specs.Rules.{bytes-encode_list}
use Rattle.metadata.specs.StructLaws.{storable-good}
use Rattle.disk.specs.StepLaws.{only-write_side, bytes-write_side, directory-low}
use Rattle.disk.specs.SoundLaws.{slots-only, sound-write_side}
use Rattle.session.specs.Rows.{head_of, view_of, staged_of}
use Rattle.session.specs.RowLaws.{only-put_head, head-same, head-only, only-put_view}
use Rattle.session.specs.KeepLaws.{begun-only, begun-put_head, bytes-put_head, bytes-put_view}
use Rattle.session.specs.declared.head.Head.{Head}
use Rattle.rolling_tape.specs.Removal.{Areas, areas}
use Rattle.rolling_tape.specs.RemovalLaws.{only-entries, length-remove_ripe-disk, slots-remove_ripe, sound-remove_ripe, bytes-remove_ripe-disk, only-remove_ripe-session, bytes-remove_ripe-session}
use Rattle.rolling_tape.specs.Tracking.{retracked}
use Rattle.rolling_tape.specs.TrackingLaws.{length-retracked, only-retracked, bytes-retracked}
use Rattle.rolling_tape.specs.declared.tracking.Change.TheVariants.{MarkBelow}
use Rattle.cached_tape.specs.FlushLaws.{length-flushed-disk, only-flushed, bytes-flushed-session, sound-flushed, slots-flushed, only-flushed-disk, bytes-flushed-disk}
use Rattle.staging.specs.Seeing.{directory_of}
use Rattle.ending.specs.Listing.{is_touched, published}
use Rattle.ending.specs.Steps.{flush_in, flush_tape, flush_all, publish_tape, publish_all, recorded, other_side, advanced, ripened_at, ripen_in, ripen_tape, ripen_all}

-- ---- a tape that was touched is open, and what its files lack is in its ring

module _ (s : List ℕ) (p : ℕ) where
  shut : handle_number s p ≡ 0 → is_touched s p ≡ false
  unfolding is_touched
  shut e = rw (eq-eqb (handle_number s p) 0 e)

  pub touched-held : is_touched s p ≡ true → handle_number s p ≢ 0
  touched-held t e = true≢false (sym t ∙ shut e)

  pub staged-pending : Begun s → p < 8 → is_touched s p ≡ true → (staged_of s p).unwritten ≤ ring_len s p
  unfolding staged_of
  staged-pending begun low t = (begun.tapes p low (touched-held t)).ring.pending

  pub touched-size : Begun s → p < 8 → is_touched s p ≡ true → 0 < file_size_of s p
  touched-size begun low t = let some = (begun.tapes p low (touched-held t)).file-some in omega arith

  pub staged-fits : Bytes s → (staged_of s p).len < 2 ^ 64
  unfolding staged_of
  staged-fits bytes = num_at-lt 8 s _ bytes

-- ---- steps over both areas, which change of the session the rows of tracking alone

-- areas that the steps start from
pub record Whole (a : Areas) : Type 0 where
  pub sound : Sound a.disk
  pub begun : Begun a.session
  pub bytes : Bytes a.session

-- what they keep: more than `KeptSound` of rolling_tape says, since of the disk too it says which bytes change, and that bytes stay bytes
pub record Kept (a b : Areas) : Type 0 where
  pub sound : Sound b.disk
  pub slots_same : slots b.disk ≡ slots a.disk
  pub long : length b.disk ≡ length a.disk
  pub only : OnlyIn 4936 5960 a.session b.session
  -- the file table and the files' bytes
  pub only-disk : OnlyIn 1312 (data_at (slots a.disk)) a.disk b.disk
  pub bytes-session : Bytes b.session
  pub bytes-disk : Bytes a.disk → Bytes b.disk

module _ (a : Areas) (w : Whole a) where
  pub kept-none : Kept a a
  kept-none =
      record {
        sound = w.sound;
        slots_same = refl;
        long = refl;
        only = only_none 4936 5960 a.session;
        only-disk = only_none 1312 (data_at (slots a.disk)) a.disk;
        bytes-session = w.bytes;
        bytes-disk = λ b. b;
      }

  module _ (b : Areas) (k : Kept a b) where
    pub whole-kept : Whole b
    whole-kept =
        record {
          sound = k.sound;
          begun = begun-only 4936 5960 a.session b.session k.only (λ q. omega arith) (λ q. omega arith) (λ q. omega arith) w.begun;
          bytes = k.bytes-session;
        }

pub kept_then : (a b c : Areas) → Kept a b → Kept b c → Kept a c
kept_then a b c k l =
    record {
      sound = l.sound;
      slots_same = l.slots_same ∙ k.slots_same;
      long = l.long ∙ k.long;
      only = only_then 4936 5960 a.session b.session c.session k.only l.only;
      only-disk = only_then 1312 (data_at (slots a.disk)) a.disk b.disk c.disk k.only-disk (rw k.slots_same at l.only-disk);
      bytes-session = l.bytes-session;
      bytes-disk = λ d. l.bytes-disk (k.bytes-disk d);
    }

-- what each tape's step keeps, the whole keeps
kept-sweep : (f : ℕ → Areas → Areas) → ((p : ℕ) (a : Areas) → p < 8 → Whole a → Kept a (f p a)) → (a : Areas) → Whole a → Kept a (sweep f 8 0 a)
kept-sweep f each a w =
    sweep-keeps (Kept a) f 8 0 a
    (λ p b l h k. kept_then a b (f p b) k (each p b (omega arith) (whole-kept a w b k)))
    (kept-none a w)

-- ---- what the files lack

module _ (p : ℕ) (a : Areas) (low : p < 8) (w : Whole a) where
  kept-flushed : is_touched a.session p ≡ true → (place : ℕ) → place < 8 → Kept a (flush_in a p (Some place))
  kept-flushed t place there =
      let s = a.session in
      let row = staged_of s p in
      let few = w.sound.head.few in
      let held = touched-held s p t in
      let pending = staged-pending s p w.begun low t in
      let fits = staged-fits s p w.bytes in
      record {
        sound = sound-flushed a place p row w.sound w.begun there low held pending fits;
        slots_same = slots-flushed a place p row w.sound w.begun there low held pending fits;
        long = length-flushed-disk a place p row;
        only = only-flushed a place p row few;
        only-disk = only-flushed-disk a place p row w.sound w.begun there low held pending fits;
        bytes-session = bytes-flushed-session a place p row few w.begun.long w.bytes;
        bytes-disk = λ b. bytes-flushed-disk a place p row w.sound w.begun there low held pending fits b w.bytes;
      }

  pub kept-flush_tape : Kept a (flush_tape p a)
  unfolding flush_tape
  kept-flush_tape =
      picked (Kept a) (is_touched a.session p) (flush_in a p (directory_of a.disk a.session p)) a
      (λ t. by t (directory_of a.disk a.session p) refl)
      (λ e. kept-none a w)
    where
      by : is_touched a.session p ≡ true → (f : Option ℕ) → directory_of a.disk a.session p ≡ f → Kept a (flush_in a p f)
      by t (Some place) e = kept-flushed t place (directory-low a.disk _ place e)
      by t None e = kept-none a w

-- ---- marks and removal

module _ (began oldest p : ℕ) (a : Areas) (w : Whole a) where
  kept-ripened : (place : ℕ) → Kept a (ripened_at a began oldest p place)
  unfolding ripened_at
  kept-ripened place =
      let s = a.session in
      let few = w.sound.head.few in
      let long = w.begun.long in
      let c = MarkBelow (file_of (file_size_of s p) (view_of s 17 p).start) began in
      let t = retracked a.disk s place c in
      let m = areas a.disk t in
      let same = length-retracked a.disk s place c in
      record {
        sound = sound-remove_ripe m place oldest w.sound;
        slots_same = slots-remove_ripe m place oldest;
        long = length-remove_ripe-disk m place oldest;
        only = only_then 4936 5960 s t _ (only-retracked a.disk s place c few) (only-remove_ripe-session m place oldest few);
        only-disk = only_wider _ _ 1312 (data_at (slots a.disk)) a.disk _ (omega arith) (omega arith) (only-entries m place oldest);
        bytes-session = bytes-remove_ripe-session m place oldest few (omega arith) (bytes-retracked a.disk s place c few long w.bytes);
        bytes-disk = λ b. bytes-remove_ripe-disk m place oldest w.sound b;
      }

  pub kept-ripen_tape : Kept a (ripen_tape began oldest p a)
  unfolding ripen_tape
  kept-ripen_tape =
      picked (Kept a) (is_touched a.session p) (ripen_in a began oldest p (directory_of a.disk a.session p)) a
      (λ t. by (directory_of a.disk a.session p))
      (λ e. kept-none a w)
    where
      by : (f : Option ℕ) → Kept a (ripen_in a began oldest p f)
      by (Some place) = kept-ripened place
      by None = kept-none a w

-- ---- both over all tapes

module _ (a : Areas) (w : Whole a) where
  pub kept-flush_all : Kept a (flush_all a)
  kept-flush_all = kept-sweep flush_tape (λ p b l v. kept-flush_tape p b l v) a w

  pub sound-flush_all : Sound (flush_all a).disk
  sound-flush_all = kept-flush_all.sound

  pub begun-flush_all : Begun (flush_all a).session
  begun-flush_all = (whole-kept a w (flush_all a) kept-flush_all).begun

  pub head-flush_all : head_of (flush_all a).session ≡ head_of a.session
  head-flush_all = head-only 4936 5960 a.session _ kept-flush_all.only (λ q. omega arith)

  module _ (began oldest : ℕ) where
    pub kept-ripen_all : Kept a (ripen_all began oldest a)
    kept-ripen_all = kept-sweep (ripen_tape began oldest) (λ p b l v. kept-ripen_tape began oldest p b v) a w

    pub sound-ripen_all : Sound (ripen_all began oldest a).disk
    sound-ripen_all = kept-ripen_all.sound

    pub begun-ripen_all : Begun (ripen_all began oldest a).session
    begun-ripen_all = (whole-kept a w (ripen_all began oldest a) kept-ripen_all).begun

-- ---- the list

module _ (cut : Bool) (p : ℕ) (s : List ℕ) (low : p < 8) where
  pub only-publish_tape : OnlyIn 3568 3760 s (publish_tape cut p s)
  unfolding publish_tape
  only-publish_tape = only_wider _ _ 3568 3760 s _ (omega arith) (omega arith) (only-put_view s 17 p (published s cut p))

  pub bytes-publish_tape : session_bytes ≤ length s → Bytes s → Bytes (publish_tape cut p s)
  unfolding publish_tape
  bytes-publish_tape long bytes = bytes-put_view s bytes 17 p (published s cut p) (omega arith)

  pub begun-publish_tape : Begun s → Begun (publish_tape cut p s)
  begun-publish_tape = begun-only 3568 3760 s _ only-publish_tape (λ q. omega arith) (λ q. omega arith) (λ q. omega arith)

module _ (cut : Bool) (s : List ℕ) where
  pub only-publish_all : OnlyIn 3568 3760 s (publish_all cut s)
  only-publish_all =
      sweep-keeps (λ (t : List ℕ). OnlyIn 3568 3760 s t) (publish_tape cut) 8 0 s
      (λ p t l h k. only_then 3568 3760 s t _ k (only-publish_tape cut p t (omega arith)))
      (only_none 3568 3760 s)

  pub begun-publish_all : Begun s → Begun (publish_all cut s)
  begun-publish_all = begun-only 3568 3760 s _ only-publish_all (λ q. omega arith) (λ q. omega arith) (λ q. omega arith)

  pub bytes-publish_all : session_bytes ≤ length s → Bytes s → Bytes (publish_all cut s)
  bytes-publish_all long bytes =
      (sweep-keeps (λ (t : List ℕ). (length t ≡ length s) × Bytes t) (publish_tape cut) 8 0 s
      (λ p t l h k.
      let same = k.0 in
      ((only-publish_tape cut p t (omega arith)).long ∙ k.0, bytes-publish_tape cut p t (omega arith) (omega arith) k.1))
      (refl, bytes)).1

  pub head-publish_all : head_of (publish_all cut s) ≡ head_of s
  head-publish_all = head-only 3568 3760 s _ only-publish_all (λ q. omega arith)

-- ---- the record

module _ (d s : List ℕ) (list : TapeList) (ok : storable list ≡ true) where
  abbrev the_record : List ℕ
  the_record = encode_record ((head_of s).epoch + 1) (encode_list (tapes_of list))

  pub record-short : length the_record ≤ 512
  record-short = omega (arith, record-most ((head_of s).epoch + 1) list ok)

  -- only left and right, and their lengths
  pub only-recorded : OnlyIn 16 1312 d (recorded d s list)
  unfolding recorded
  only-recorded = only-write_side d the_record record-short (head_of s).side

  pub slots-recorded : slots (recorded d s list) ≡ slots d
  slots-recorded = slots-only 16 1312 d _ only-recorded (omega arith)

  pub sound-recorded : Sound d → Sound (recorded d s list)
  unfolding recorded
  sound-recorded sound = sound-write_side d sound (head_of s).side the_record record-short

  -- 48 bytes of its head, among them the hash, and the list's
  bytes-the_record : Bytes the_record
  unfolding encode_record hash_of
  bytes-the_record =
      let list-bytes = encode_list (tapes_of list) in
      let epoch = (head_of s).epoch + 1 in
      bytes-append (u32 1) (array (hash_of epoch list-bytes) ++ (u64 epoch ++ vec list-bytes)) (bytes_le 4 1)
      (bytes-append (array (hash_of epoch list-bytes)) (u64 epoch ++ vec list-bytes) (bytes-blake2b 32 [] _)
      (bytes-append (u64 epoch) (vec list-bytes) (bytes_le 8 epoch)
      (bytes-vec list-bytes (bytes-encode_list (tapes_of list) (storable-good list ok)))))

  pub bytes-recorded : Sound d → Bytes d → Bytes (recorded d s list)
  unfolding recorded
  bytes-recorded sound bytes = bytes-write_side d the_record record-short (head_of s).side (omega (arith, sound.head.room)) bytes bytes-the_record

-- ---- the session's own fields

-- what they are after a commit
abbrev pub next_head : Bool → Head → Head
next_head cut h =
    record {
      epoch = h.epoch + 1;
      cut = cut;
      side = other_side h.side;
      last_transaction = h.last_transaction;
      last_handle = h.last_handle;
    }

module _ (cut : Bool) (s : List ℕ) where
  pub only-advanced : OnlyIn 8 48 s (advanced cut s)
  unfolding advanced
  only-advanced = only-put_head s (next_head cut (head_of s))

  pub begun-advanced : Begun s → Begun (advanced cut s)
  unfolding advanced
  begun-advanced begun = begun-put_head s begun (next_head cut (head_of s))

  module _ (long : session_bytes ≤ length s) (bytes : Bytes s) where
    pub bytes-advanced : Bytes (advanced cut s)
    unfolding advanced
    bytes-advanced = bytes-put_head s bytes (next_head cut (head_of s)) (omega arith)

    transaction-fits : (head_of s).last_transaction < 256 ^ 8
    unfolding head_of
    transaction-fits = num_at-lt 8 s _ bytes

    handle-fits : (head_of s).last_handle < 256 ^ 8
    unfolding head_of
    handle-fits = num_at-lt 8 s _ bytes

    pub head-advanced : (head_of s).epoch + 1 < 2 ^ 64 → head_of (advanced cut s) ≡ next_head cut (head_of s)
    unfolding advanced
    head-advanced more = head-same s (next_head cut (head_of s)) (omega arith) (record { epoch = omega arith; transaction = transaction-fits; handle = handle-fits })
