-- The ways out of each call, in the code's order: a law for each. Assumes nothing.
use Rattle.std.specs.Prelude.{◌≡◌, refl, ◌≢◌, true, false, not, List, ℕ, ◌+◌, ◌≤◌, ◌<◌, ltb, Option, Some, None, Ok}
use Rattle.std.proofs.Common.{sym, ap, ◌∙◌, arith}
use borrow.Author.Tests.{lt-ltb, le-ltb, eq-eqb, ne_eqb}
use Rattle.octets.specs.Cases.{and_l, and_r, and_both}
use Rattle.octets.specs.First.{first-hits}
use Rattle.answers.specs.declared.Refusal.TheVariants.{Unusable, WriterOpen, Wait, Full, BadList, TooLarge}
use Rattle.answers.specs.Outcome.{outcome}
use Rattle.areas.specs.Format.{format_step}
use Rattle.areas.specs.Format as Step
use Rattle.areas.specs.Format.{Formatted}
use Rattle.metadata.specs.Decoding.{Listing, tapes, unreadable}
use Rattle.metadata.specs.Choice.{chosen, next_side, chosen_epoch, chosen_list}
use Rattle.metadata.specs.declared.choice.Side.{Side}
use Rattle.metadata.specs.declared.list.TapeList.{TapeList}
use Rattle.metadata.specs.Struct.{decoded_of, list_of, tapes_of}
use Rattle.metadata.specs.StructLaws.{tapes-of-list}
use Rattle.metadata.specs.declared.choice.Side.TheVariants.{Left, Right}
use Rattle.layout.specs.Disk as D
use Rattle.layout.specs.DiskLaws as DL
use Rattle.layout.specs.Session as S
use Rattle.layout.specs.SessionLaws as SL
use Rattle.disk.specs.Steps.{side_bytes}
use Rattle.session.specs.Begin.{begin_session}
use Rattle.session.specs.MeaningLaws.{open-kind}
use Rattle.session.specs.Rows.{head_of, put_head, copy_view, is_closed, free_reader, transaction_of, put_transaction}
use Rattle.session.specs.declared.head.Head.{Head}
use Rattle.session.specs.declared.transactions.Kind.{Kind}
use Rattle.session.specs.declared.transactions.Kind.TheVariants.{Reader, Append, Truncate}
use Rattle.beginning.specs.Disks.{answered, format_call}
use Rattle.beginning.specs.Transactions.{after, refused, usable, is_open_at, is_older, begun_at, begin_at}
use Rattle.beginning.specs.Calls.{waits, append_call, truncate_call, reader_call}
use Rattle.beginning.specs.Sessions.{both_sound, the_record, start_with, store_call}

-- ---- a new disk

pub format-answered : (d s : List ℕ) (n : ℕ) (a : Formatted) (d' s' : List ℕ) → format_step d s n ≡ Step.outcome a d' s' → format_call d s n ≡ outcome (answered a) d' s'
unfolding format_call
format-answered d s n a d' s' e = rw e

-- ---- the areas

module _ (d s : List ℕ) where
  pub disk-unusable : D.sound d ≡ false → usable d s ≡ false
  unfolding usable
  disk-unusable h = rw h

  pub by-session : D.sound d ≡ true → usable d s ≡ S.begun s
  unfolding usable
  by-session h = rw h

  pub usable-begun : usable d s ≡ true → S.Begun s
  unfolding usable
  usable-begun h = SL.begun→ s (and_r (D.sound d) (S.begun s) h)

  pub usable-disk : usable d s ≡ true → D.Sound d
  unfolding usable
  usable-disk h = DL.sound→ d (and_l (D.sound d) (S.begun s) h)

  pub →usable : D.Sound d → S.Begun s → usable d s ≡ true
  unfolding usable
  →usable disk session = and_both (D.sound d) (S.begun s) (DL.→sound d disk) (SL.→begun s session)

  pub disk-unsound : D.sound d ≡ false → both_sound d s ≡ false
  unfolding both_sound
  disk-unsound h = rw h

  pub both-by-session : D.sound d ≡ true → both_sound d s ≡ S.sound s
  unfolding both_sound
  both-by-session h = rw h

  pub both-disk : both_sound d s ≡ true → D.Sound d
  unfolding both_sound
  both-disk h = DL.sound→ d (and_l (D.sound d) (S.sound s) h)

  pub both-session : both_sound d s ≡ true → S.sound s ≡ true
  unfolding both_sound
  both-session h = and_r (D.sound d) (S.sound s) h

-- ---- an older transaction

module _ (s : List ℕ) (epoch t : ℕ) where
  pub older-closed : is_open_at s t ≡ false → is_older s epoch t ≡ false
  unfolding is_older
  older-closed h = rw h

  pub older-open : is_open_at s t ≡ true → is_older s epoch t ≡ ltb (transaction_of s t).epoch epoch
  unfolding is_older
  older-open h = rw h

-- ---- a transaction in a place

module _ (s : List ℕ) (t : ℕ) (k : Kind) where
  pub numbers-out : (head_of s).last_transaction ≡ 0xffff_ffff_ffff_ffff → begin_at s t k ≡ refused TooLarge s
  unfolding begin_at
  numbers-out h = rw (eq-eqb (head_of s).last_transaction 0xffff_ffff_ffff_ffff h)

  pub begins-at : (head_of s).last_transaction ≢ 0xffff_ffff_ffff_ffff → begin_at s t k ≡ after (Ok ((head_of s).last_transaction + 1)) (begun_at s t k)
  unfolding begin_at
  begins-at h = rw (ne_eqb (head_of s).last_transaction 0xffff_ffff_ffff_ffff h)

  -- the code's three writes, one after the other, come to it
  pub begun-writes : (h : Head) (a b c : List ℕ) → h ≡ head_of s → a ≡ put_transaction s t (record { kind = k; number = h.last_transaction + 1; epoch = h.epoch })
      → b ≡ copy_view a 17 t
      → c ≡ put_head b (record { epoch = h.epoch; cut = h.cut; side = h.side; last_transaction = h.last_transaction + 1; last_handle = h.last_handle })
      → after (Ok ((head_of s).last_transaction + 1)) (begun_at s t k) ≡ after (Ok (h.last_transaction + 1)) c
  unfolding begun_at
  begun-writes h a b c same first second third = rw (third, second, first, same)

-- a free reader's place is none of the writer's
pub free-low : (s : List ℕ) (t : ℕ) → free_reader s ≡ Some t → t < 16
unfolding free_reader
free-low s t e = omega (arith, (first-hits (is_closed s) 16 0 t e).high)

pub free-closed : (s : List ℕ) (t : ℕ) → free_reader s ≡ Some t → is_open_at s t ≡ false
unfolding free_reader is_open_at transaction_of
free-closed s t e = open-kind (S.kind_word s t) ∙ ap not (first-hits (is_closed s) 16 0 t e).holds

-- ---- the calls

module _ (d s : List ℕ) where
  pub append-unusable : usable d s ≡ false → append_call d s ≡ refused Unusable s
  unfolding append_call
  append-unusable h = rw h

  pub truncate-unusable : usable d s ≡ false → truncate_call d s ≡ refused Unusable s
  unfolding truncate_call
  truncate-unusable h = rw h

  pub reader-unusable : usable d s ≡ false → reader_call d s ≡ refused Unusable s
  unfolding reader_call
  reader-unusable h = rw h

  module _ (ok : usable d s ≡ true) where
    pub append-open : is_open_at s 16 ≡ true → append_call d s ≡ refused WriterOpen s
    unfolding append_call
    append-open h = rw (ok, h)

    pub truncate-open : is_open_at s 16 ≡ true → truncate_call d s ≡ refused WriterOpen s
    unfolding truncate_call
    truncate-open h = rw (ok, h)

    pub reader-full : free_reader s ≡ None → reader_call d s ≡ refused Full s
    unfolding reader_call
    reader-full h = rw (ok, h)

    pub reader-begins : (t : ℕ) → free_reader s ≡ Some t → reader_call d s ≡ begin_at s t Reader
    unfolding reader_call
    reader-begins t h = rw (ok, h)

    module _ (free : is_open_at s 16 ≡ false) where
      pub truncate-begins : truncate_call d s ≡ begin_at s 16 Truncate
      unfolding truncate_call
      truncate-begins = rw (ok, free)

      pub append-uncut : (head_of s).cut ≡ false → append_call d s ≡ begin_at s 16 Append
      unfolding append_call
      append-uncut h = rw (ok, free, h)

      module _ (cut : (head_of s).cut ≡ true) where
        pub append-waits : 0 < waits s → append_call d s ≡ refused (Wait (waits s)) s
        unfolding append_call
        append-waits h = rw (ok, free, cut, lt-ltb 0 (waits s) h)

        pub append-alone : waits s ≤ 0 → append_call d s ≡ begin_at s 16 Append
        unfolding append_call
        append-alone h = rw (ok, free, cut, le-ltb 0 (waits s) h)

-- ---- a new session

-- what the code has of a list that was read is that list
pub start-read : (d s : List ℕ) (l : Listing) (list : TapeList) → decoded_of l ≡ Some list
    → start_with d s l
    ≡ after (Ok (chosen_epoch (the_record d))) (begin_session s (chosen_epoch (the_record d)) (next_side (side_bytes d Left) (side_bytes d Right)) (tapes_of list))
start-read d s (tapes ts) list h = let same : list_of ts ≡ list = cc in rw (← same, tapes-of-list ts)
start-read d s unreadable list h = absurd (cc)

pub start-unread : (d s : List ℕ) (l : Listing) → decoded_of l ≡ None → start_with d s l ≡ refused BadList s
start-unread d s (tapes ts) h = absurd (cc)
start-unread d s unreadable h = refl

module _ (d s : List ℕ) where
  pub store-unusable : both_sound d s ≡ false → store_call d s ≡ refused Unusable s
  unfolding store_call
  store-unusable h = rw h

  pub store-starts : both_sound d s ≡ true → store_call d s ≡ start_with d s (chosen_list (the_record d))
  unfolding store_call
  store-starts h = rw h

-- by what the code reads of the disk
module _ (d s left right found : List ℕ) (decoded : Option TapeList) (ok : both_sound d s ≡ true) (a : left ≡ side_bytes d Left) (b : right ≡ side_bytes d Right)
    (picked : found ≡ chosen left right) (listed : decoded ≡ decoded_of (chosen_list found)) where
  the-found : found ≡ the_record d
  the-found = picked ∙ rw (a, b)

  the-list : decoded ≡ decoded_of (chosen_list (the_record d))
  the-list = listed ∙ ap (λ (r : List ℕ). decoded_of (chosen_list r)) the-found

  pub store-unread : decoded ≡ None → store_call d s ≡ refused BadList s
  store-unread h = store-starts d s ok ∙ start-unread d s (chosen_list (the_record d)) (sym the-list ∙ h)

  pub store-read : (list : TapeList) (epoch : ℕ) (side : Side) (t : List ℕ) → decoded ≡ Some list → epoch ≡ chosen_epoch found → side ≡ next_side left right
      → t ≡ begin_session s epoch side (tapes_of list) → store_call d s ≡ after (Ok epoch) t
  store-read list epoch side t h e n w =
      store-starts d s ok
      ∙ start-read d s (chosen_list (the_record d)) list (sym the-list ∙ h)
      ∙ rw (w, e, n, the-found, a, b)
