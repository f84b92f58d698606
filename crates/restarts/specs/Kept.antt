-- Every call but `format` keeps a session level with its disk: those that stage, begin or drop leave the epoch, the next side, and left and right; an append of
-- entries and an open too; a commit and a store make them so again. Assumes nothing.
use Rattle.std.specs.Prelude.{◌≡◌, ◌≢◌, List, ℕ, ◌+◌, ◌≤◌, ◌<◌, ◌^◌, Option, Some, None}
use Rattle.std.proofs.Math.Path.{refl, sym, ap, subst}
use Rattle.std.proofs.Common.{◌∙◌, arith}
use Rattle.std.proofs.Math.ListN.{length}
use Rattle.octets.specs.Cases.{decide, equal}
use Rattle.octets.specs.Number.{Bytes, num_at-lt}
use Rattle.answers.specs.Answers.{code_of}
use Rattle.answers.specs.declared.Refusal.TheVariants.{Unusable, Full}
use Rattle.metadata.specs.declared.choice.Side.{Side}
use Rattle.metadata.specs.declared.choice.Side.TheVariants.{Left, Right}
use Rattle.layout.specs.Disk.{Sound}
use Rattle.layout.specs.Disk as D
use Rattle.layout.specs.Names.{find_name}
use Rattle.layout.specs.Session.{head_at}
use Rattle.disk.specs.Steps.{side_bytes}
use Rattle.session.specs.Meaning.{Session, session_of}
use Rattle.session.specs.RowLaws.{HeadFits, head-same, length-put_head}
use Rattle.session.specs.Rows.{head_of, transaction_of, put_handle, put_staged, free_reader}
use Rattle.session.specs.declared.head.Head.{Head}
use Rattle.beginning.specs.Calls.{append_call, reader_call, truncate_call}
use Rattle.beginning.specs.Laws.{refusal-some, truncate-refused, reader-refused, truncate-means, reader-means}
use Rattle.beginning.proofs.Laws.{append-refused, append-means}
use Rattle.beginning.specs.Sessions.{store_call}
use Rattle.beginning.specs.StoreLaws.{store-refused}
use Rattle.beginning.specs.Transactions.{After, usable}
use Rattle.beginning.specs.Ways.{usable-begun, usable-disk}
use Rattle.staging.specs.Cutting.{cut_call, drop_call}
use Rattle.staging.specs.Shifting.{shift_call}
use Rattle.appending.specs.Calls.{put_call}
use Rattle.entries.specs.Popping.{pop_call}
use Rattle.answers.specs.Outcome.{Outcome}
use Rattle.opening.specs.Calls.{cached_from, cached_bytes, row_staged, row_handle, handed, rowed, open_with, open_now, open_call, opened}
use Rattle.opening.specs.Laws.{open-cases, opens-shaped}
use Rattle.opening.specs.PlacingLaws.{named, head-named, length-named}
use Rattle.opening.specs.RowedLaws.{length-rowed}
use Rattle.opening.specs.declared.shape.Opening.{Opening}
use Rattle.rolling_tape.specs.Removal.{areas}
use Rattle.cached_tape.specs.Filling.{filled_with}
use Rattle.ending.specs.CommitDurable.{Level, commit-level}
use Rattle.ending.specs.CommitLaws.{commit-refused}
use Rattle.ending.specs.Committing.{commit_call}
use Rattle.ending.specs.Dropping.{drop_transaction_call}
use Rattle.touches.specs.Drops.{drop-transaction-leaves}
use Rattle.touches.specs.Opens.{open-touches-disk, open-leaves-disk}
use Rattle.touches.specs.Parts.{bytes, Stays}
use Rattle.touches.specs.Puts.{put-touches-disk, put-leaves-session, put-leaves-disk}
use Rattle.touches.specs.Rows.{num_at-stays, head-stays, side-stays}
use Rattle.touches.specs.Stages.{shift-leaves, cut-leaves, drop-leaves, pop-leaves}
use Rattle.restarts.specs.Level.{store-level, level-same}

-- ---- calls that leave the head and the disk

module _ (d s : List ℕ) (level : Level d s) where
  same_head : (u : List ℕ) → head_of u ≡ head_of s → Level d u
  same_head u e = level-same d s d u (ap (λ (h : Head). h.epoch) e) (ap (λ (h : Head). h.side) e) (λ side. refl) level

  below-tapes : (u : List ℕ) → Stays (bytes 0 4168) s u → Level d u
  below-tapes u stay = same_head u (head-stays 0 4168 s u stay (omega arith) (omega arith))

  module _ (t h : ℕ) where
    pub shift-level : (i : ℕ) → Level d (shift_call d s t h i).session
    shift-level i = below-tapes _ (shift-leaves d s t h i).tables-stay

    pub cut_level : (i : ℕ) → Level d (cut_call d s t h i).session
    cut_level i = below-tapes _ (cut-leaves d s t h i).tables-stay

    pub drop-level : (i : ℕ) → Level d (drop_call d s t h i).session
    drop-level i = below-tapes _ (drop-leaves d s t h i).tables-stay

    pub pop-level : (out : List ℕ) → Level d (pop_call d s t h out).session
    pop-level out = below-tapes _ (pop-leaves d s t h out).tables-stay

  pub drop-transaction-level : (n : ℕ) → Level d (drop_transaction_call d s n).session
  drop-transaction-level n = same_head _ (head-stays 8 48 s _ (drop-transaction-leaves d s n).head-stays (omega arith) (omega arith))

-- ---- calls that begin a transaction: of the head only the last number changes

module _ (d s : List ℕ) (bytes : Bytes s) (level : Level d s) where
  same_store : (u : List ℕ) (m : Session) → session_of u ≡ m → m.head.epoch ≡ (head_of s).epoch → m.head.side ≡ (head_of s).side → Level d u
  unfolding session_of
  same_store u m e epoch side =
      level-same d s d u (ap (λ (x : Session). x.head.epoch) e ∙ epoch) (ap (λ (x : Session). x.head.side) e ∙ side) (λ which. refl) level

  begin-level : (o : After) → (code_of o.answer ≢ 0 → o.session ≡ s) → (code_of o.answer ≡ 0 → Level d o.session) → Level d o.session
  begin-level o refused served = equal (code_of o.answer) 0 served (λ bad. rw (refused bad) level)

  pub append-level : Level d (append_call d s).session
  unfolding session_of
  append-level = begin-level (append_call d s) (append-refused d s) (λ e. same_store _ _ (append-means d s bytes e) refl refl)

  pub truncate-level : Level d (truncate_call d s).session
  unfolding session_of
  truncate-level = begin-level (truncate_call d s) (truncate-refused d s) (λ e. same_store _ _ (truncate-means d s bytes e) refl refl)

-- a 17th reader is refused
no_place : (d s : List ℕ) → free_reader s ≡ None → code_of (reader_call d s).answer ≢ 0
unfolding reader_call
no_place d s e = decide (usable d s) (λ ok. rw (ok, e) (refusal-some Full)) (λ bad. rw bad (refusal-some Unusable))

pub reader-level : (d s : List ℕ) → Bytes s → Level d s → Level d (reader_call d s).session
unfolding session_of
reader-level d s whole level = begin-level d s whole level (reader_call d s) (reader-refused d s) (by (free_reader s) refl)
  where
    by : (f : Option ℕ) → free_reader s ≡ f → code_of (reader_call d s).answer ≡ 0 → Level d (reader_call d s).session
    by (Some t) e served = same_store d s whole level _ _ (reader-means d s whole t e served) refl refl
    by None e served = absurd (no_place d s e served)

-- ---- an append of entries

-- left and right, with all before the file table
sides-stay : (d e : List ℕ) → Sound d → length e ≡ length d → Stays (bytes 0 1312) d e → (side : Side) → side_bytes e side ≡ side_bytes d side
sides-stay d e sound long stay Left =
    side-stays 0 1312 d e stay long Left (num_at-stays 0 1312 d e stay 8 16 (omega arith) (omega arith)) sound.head.left (omega arith) (omega arith)
sides-stay d e sound long stay Right =
    side-stays 0 1312 d e stay long Right (num_at-stays 0 1312 d e stay 8 24 (omega arith) (omega arith)) sound.head.right (omega arith) (omega arith)

pub put-level : (d s : List ℕ) → Sound d → Level d s → (t h : ℕ) (bs : List ℕ) → Level (put_call d s t h bs).disk (put_call d s t h bs).session
put-level d s sound level t h bs =
    let e = put_call d s t h bs in
    let head : head_of e.session ≡ head_of s = head-stays 0 4168 s e.session (put-leaves-session d s t h bs).tables-stay (omega arith) (omega arith) in
    level-same d s e.disk e.session (ap (λ (x : Head). x.epoch) head) (ap (λ (x : Head). x.side) head)
    (sides-stay d e.disk sound (put-touches-disk d s t h bs).long (put-leaves-disk d s t h bs)) level

-- the numbers of a head that is read are 64-bit ones, and so is the next handle's where there is one
handed-fits : (s : List ℕ) → Bytes s → (head_of s).last_handle ≢ 0xffff_ffff_ffff_ffff → HeadFits (handed (head_of s))
unfolding head_of
handed-fits s whole more =
    let last : (head_of s).last_handle < 256 ^ 8 = num_at-lt 8 s (head_at + 32) whole in
    record { epoch = num_at-lt 8 s head_at whole; transaction = num_at-lt 8 s (head_at + 24) whole; handle = omega arith }

-- left and right, where their lengths and their bytes stay
sides-left : (d e : List ℕ) → Sound d → length e ≡ length d → Stays (bytes 0 32) d e → Stays (bytes 288 1312) d e → (side : Side) → side_bytes e side ≡ side_bytes d side
sides-left d e sound long fields sides Left =
    side-stays 288 1312 d e sides long Left (num_at-stays 0 32 d e fields 8 16 (omega arith) (omega arith)) sound.head.left (omega arith) (omega arith)
sides-left d e sound long fields sides Right =
    side-stays 288 1312 d e sides long Right (num_at-stays 0 32 d e fields 8 24 (omega arith) (omega arith)) sound.head.right (omega arith) (omega arith)

-- ---- an open: of the head only the last handle changes

module _ (x : List ℕ) (p : ℕ) (o : Opening) (bs : List ℕ) (fits : HeadFits (handed (head_of x))) (long : 48 ≤ length x) where
  abbrev before : List ℕ
  before =
      put_handle (put_staged (filled_with x p o.cache (cached_from o) bs) p (row_staged o)) p (row_handle x o)

  rowed-head : head_of (rowed x p o bs) ≡ handed (head_of x)
  unfolding rowed
  rowed-head =
      let l : length before ≡ length x = sym (length-put_head before (handed (head_of x))) ∙ length-rowed x p o bs in
      head-same before (handed (head_of x)) (omega arith) fits

module _ (d s : List ℕ) (whole : Bytes s) (t : ℕ) (wanted : List ℕ) (entry fs cache start : ℕ) where
  -- epoch and next side are as before
  abbrev Same : Outcome → Type 0
  Same o = ((head_of o.session).epoch ≡ (head_of s).epoch) × ((head_of o.session).side ≡ (head_of s).side)

  open-head : Same (open_call d s t wanted entry fs cache start)
  unfolding open_now open_with
  open-head =
      open-cases d s t wanted entry fs cache start Same (λ why. (refl, refl))
      (λ ok w p g.
      let o = opened s wanted entry fs cache start in
      let sound = usable-disk d s ok in
      let small = (opens-shaped d s t wanted entry fs cache start p g).name-short in
      let f = find_name d D.directories wanted in
      let a = areas d s in
      let began = (transaction_of s 16).epoch in
      let x = named a wanted o began f p sound small in
      let same : head_of x ≡ head_of s = head-named a wanted o began f p sound small in
      let size : length x ≡ length s = length-named a wanted o began f p sound small in
      let fits : HeadFits (handed (head_of x)) = subst (λ (h : Head). HeadFits (handed h)) (sym same) (handed-fits s whole g.more) in
      let e = rowed-head x p o (cached_bytes d wanted o) fits (omega (arith, (usable-begun d s ok).long)) ∙ ap handed same in
      (ap (λ (h : Head). h.epoch) e, ap (λ (h : Head). h.side) e))

  pub open-level : Sound d → Level d s → Level (open_call d s t wanted entry fs cache start).disk (open_call d s t wanted entry fs cache start).session
  open-level sound level =
      let e = open_call d s t wanted entry fs cache start in
      let long = (open-touches-disk d s t wanted entry fs cache start).long in
      let left_alone = open-leaves-disk d s t wanted entry fs cache start in
      level-same d s e.disk e.session open-head.0 open-head.1 (λ side. sides-left d e.disk sound long left_alone.fields-stay left_alone.sides-stay side) level

-- ---- a commit and a store, refused or served

pub commit-kept : (d s : List ℕ) → Bytes s → Level d s → (t : ℕ) → Level (commit_call d s t).disk (commit_call d s t).session
commit-kept d s whole level t =
    equal (code_of (commit_call d s t).answer) 0 (λ served. commit-level d s whole t served)
    (λ bad. let same = commit-refused d s t bad in rw (same.0, same.1) level)

pub store_kept : (d s : List ℕ) → Bytes d → Level d s → Level d (store_call d s).session
store_kept d s whole level =
    equal (code_of (store_call d s).answer) 0 (λ served. store-level d s whole served) (λ bad. rw (store-refused d s bad) level)
