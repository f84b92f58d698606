-- A `format` that is served leaves an empty disk and no session; a `store` that is served on an empty disk, whatever session area is lent, is orderly, and
-- of every tape is seen the store that `lives` begins with. Assumes nothing.
use Rattle.std.specs.Prelude.{◌≡◌, refl, false, ℕ, zero, suc, ◌+◌, ◌<◌, take, Option, Some, None}
use Rattle.std.proofs.Math.Path.{sym, ap}
use Rattle.std.proofs.Common.{◌∙◌, arith}
use Rattle.std.proofs.lemmas.Bool.{false≢true}
use mathlib.Core.List.{List, []}
use Rattle.std.proofs.Math.ListN.{length}
use Rattle.octets.specs.Cases.{picked}
use Rattle.octets.specs.Compare.{same_bytes, same-lengths}
use Rattle.octets.specs.First.{first-never}
use Rattle.octets.specs.Number.{Bytes}
use Rattle.octets.specs.Only.{bytes-put_num}
use Rattle.octets.specs.Words.{table-in}
use Rattle.answers.specs.Answers.{code_of}
use Rattle.metadata.specs.Choice.{part_of, left_counts, chosen, chosen_epoch, chosen_list}
use Rattle.metadata.specs.Decoding.{tapes}
use Rattle.metadata.specs.Record.{read_record}
use Rattle.metadata.specs.RecordLaws.{none-epoch, none_list}
use Rattle.metadata.specs.declared.record.Record.{Record}
use Rattle.metadata.specs.declared.choice.Side.TheVariants.{Left, Right}
use Rattle.layout.specs.Disk.{directories, slots, owner}
use Rattle.layout.specs.Disk as D
use Rattle.layout.specs.Names.{name, find_name}
use Rattle.layout.specs.Session.{begun}
use Rattle.disk.specs.Meaning.{Slot, Disk, blank, free, slot_of, disk_of}
use Rattle.disk.specs.StepLaws.{bytes-formatted}
use Rattle.disk.specs.Steps.{side_bytes}
use Rattle.session.specs.Begin.{ended}
use Rattle.session.specs.declared.head.Head.{Head}
use Rattle.areas.specs.FormatLaws.{format-cases}
use Rattle.beginning.specs.Disks.{format_call}
use Rattle.beginning.specs.Laws.{format-served}
use Rattle.beginning.specs.Sessions.{the_record, store_call}
use Rattle.restarts.specs.Level.{store-head}
use Rattle.lives.specs.Life as Life
use Rattle.seen.specs.Seen.{files_in, count_in, Seen}
use Rattle.seen.specs.Orderly.{listed_as}
use Rattle.seen.specs.Restarts.{OrderlyDisk, store-recorded, same-list, readers-after, writer-after, touched-after, live-after}

-- ---- an empty disk

take_none : (n : ℕ) → take {A = ℕ} n [] ≡ []
take_none zero = refl
take_none (suc n) = refl

-- an empty file has no record
part_none : (r : Option Record) → part_of [] r ≡ []
part_none (Some r) = take_none (48 + r.list_len)
part_none None = refl

chosen_none : chosen [] [] ≡ []
unfolding chosen
chosen_none =
    picked (λ (r : List ℕ). r ≡ []) (left_counts [] []) (part_of [] (read_record [])) (part_of [] (read_record []))
    (λ e. part_none (read_record [])) (λ e. part_none (read_record []))

module _ (d : List ℕ) (k : ℕ) (empty : disk_of d ≡ blank k) where
  folder-none : (i : ℕ) → i < 8 → name d directories i ≡ []
  unfolding disk_of
  folder-none i low = sym (table-in 8 [] (name d directories) i low) ∙ ap (λ (m : Disk). m.directory i) empty

  owner-none : (i : ℕ) → i < slots d → owner d i ≡ 0
  unfolding disk_of slot_of
  owner-none i low = sym (ap (λ (x : Slot). x.owner) (table-in (slots d) free (slot_of d) i low)) ∙ ap (λ (m : Disk). (m.slot i).owner) empty

  record-none : the_record d ≡ []
  unfolding disk_of
  record-none =
      let left : side_bytes d Left ≡ [] = ap (λ (m : Disk). m.left) empty in
      let right : side_bytes d Right ≡ [] = ap (λ (m : Disk). m.right) empty in
      rw (left, right) chosen_none

  epoch-none : chosen_epoch (the_record d) ≡ 0
  epoch-none = rw record-none (none-epoch [] (omega arith))

  list-none : chosen_list (the_record d) ≡ tapes []
  list-none = rw record-none (none_list [] (omega arith))

  -- no name has a directory
  no-folder : (n : List ℕ) → 0 < length n → find_name d directories n ≡ None
  unfolding find_name
  no-folder n long =
      first-never (λ i. same_bytes (name d directories i) n) 8 0
      (λ i l h. same-lengths (name d directories i) n (λ same. omega (arith, ap length (folder-none i (omega arith)))))

  pub blank-orderly : D.Sound d → Bytes d → OrderlyDisk d
  blank-orderly rule bytes =
      record {
        sound = rule;
        bytes = bytes;
        once = record { once = λ i j low high some same also. absurd (some (owner-none i low)) };
        folders = λ i j low high long same. absurd (omega (arith, ap length (folder-none i low)));
      }

  -- ---- a store on it

  module _ (s : List ℕ) (bytes : Bytes d) (served : code_of (store_call d s).answer ≡ 0) where
    pub blank-seen : (n : List ℕ) → 0 < length n → Seen d (store_call d s).session n Life.blank
    unfolding Life.blank count_in listed_as
    blank-seen n long =
        let head = store-head d s bytes served in
        let new = store-recorded d s bytes served in
        record {
          epoch = ap (λ (h : Head). h.epoch) head ∙ epoch-none;
          cut = ap (λ (h : Head). h.cut) head;
          last = ap (λ (h : Head). h.last_transaction) head;
          list = sym (new.says n long) ∙ ap (listed_as n) (same-list (chosen_list (the_record d)) new.list [] new.read list-none);
          readers = readers-after d s bytes served n;
          writer = writer-after d s bytes served n;
          touched = touched-after d s bytes served n;
          live = live-after d s bytes served n;
          files = ap (files_in d (store_call d s).session) (no-folder n long);
          opened = λ p found live. absurd (false≢true live);
        }

-- ---- a format

-- bytes stay bytes, served or refused
pub format-disk-bytes : (d s : List ℕ) (k : ℕ) → Bytes d → Bytes (format_call d s k).disk
unfolding format_call
format-disk-bytes d s k bytes =
    format-cases (λ o. Bytes o.disk) d s k bytes bytes (λ some few room long. bytes-formatted d k (omega arith) bytes)

pub format-session-bytes : (d s : List ℕ) (k : ℕ) → Bytes s → Bytes (format_call d s k).session
unfolding format_call ended
format-session-bytes d s k bytes =
    format-cases (λ o. Bytes o.session) d s k bytes bytes (λ some few room long. bytes-put_num 8 s 0 0 (omega arith) bytes)

module _ (d s : List ℕ) (k : ℕ) (served : code_of (format_call d s k).answer ≡ 0) where
  abbrev e : List ℕ
  e = (format_call d s k).disk

  pub format-blank : disk_of e ≡ blank k
  format-blank = (format-served d s k served).disk-empty

  pub format-sound : D.Sound e
  format-sound = (format-served d s k served).disk-sound

  -- there is no session: every call but `format` and `store` is refused then (`Unbegun.antt`)
  pub format-unbegun : begun (format_call d s k).session ≡ false
  format-unbegun = (format-served d s k served).no-session

  pub format-orderly : Bytes d → OrderlyDisk e
  format-orderly bytes = blank-orderly e k format-blank format-sound (format-disk-bytes d s k bytes)
