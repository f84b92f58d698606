-- A put that is served leaves room for every file that the open append lacks: what it makes was counted (rule of 15). And no put is refused for want of a
-- directory. Assumes nothing.
use Rattle.std.specs.Prelude.{◌≡◌, refl, ◌≢◌, true, List, ℕ, ◌+◌, ◌%◌, ◌≤◌, ◌<◌, eqb, ltb, length, Option, Some, None, Err}
use Rattle.std.proofs.Common.{sym, ap, ◌∙◌, true≢false, arith}
use Rattle.octets.specs.Cases.{picked}
use Rattle.octets.specs.Number.{Bytes}
use Rattle.answers.specs.Answers.{code_of}
use Rattle.answers.specs.Outcome.{Outcome}
use Rattle.answers.specs.declared.Refusal.TheVariants.{Missing}
use Rattle.components.specs.Pieces.{file_of}
use Rattle.components.specs.PiecesLaws.{file-mono}
use Rattle.components.specs.Slots.{lacking_from, covered}
use Rattle.layout.specs.Names.{name}
use Rattle.layout.specs.Disk.{slots, directories}
use Rattle.layout.specs.Session.{names_at, handle_number, entry_size_of, file_size_of}
use Rattle.disk.specs.Steps.{files}
use Rattle.ring_buffer.specs.Put.{fills, pushes_out, unwritten_after}
use Rattle.ring_buffer.specs.declared.bookkeeping.RingBuffer.{RingBuffer}
use Rattle.session.specs.declared.tape_rows.Staged.{Staged}
use Rattle.session.specs.Rows.{ring_of, find_handle}
use Rattle.rolling_tape.specs.Room.{is_found, on_disk}
use Rattle.rolling_tape.specs.Removal.{Areas, areas}
use Rattle.cached_tape.specs.Flushing.{unwritten_from}
use Rattle.cached_tape.specs.Putting.{grown, put_in}
use Rattle.beginning.specs.Transactions.{usable}
use Rattle.staging.specs.Seeing.{directory_of, seen_by, touched_as, writes}
use Rattle.staging.specs.Ways.{handle-found}
use Rattle.appending.specs.Room.{low_of, end_of, lacking_of, lacking_all, no_room}
use Rattle.appending.specs.Calls.{put_on, put_where, append_on, append_in, put_call}
use Rattle.appending.specs.Laws.{Goes, put-slots}
use Rattle.lives.specs.Told.{Told}
use Rattle.lives.specs.Invariant.{Phys, Good, build}
use Rattle.seen.specs.Seen.{Seen, Handled}
use Rattle.seen.specs.Orderly.{Orderly}
use Rattle.seen.specs.Places.{found_name}
use Rattle.seen.specs.Frames.{Frame, frame-folder, frame-number}
use Rattle.seen.specs.Touching.{touched-row}
use Rattle.seen.specs.Puts.{put-found, put-inside, put_is, put-frame, put-rows, sent, counted}
use Rattle.seen.specs.Lacking.{room-left, same-lacking, open-lacking, other-lacking, but-one}
use Rattle.seen.specs.Rooms.{Roomy}
use Rattle.seen.specs.Rows.{size-row, touched-as, open-named}
use Rattle.joins.specs.Ranges.{last-part}
use Rattle.joins.proofs.Ranges.{lacking-last}

-- no more is unwritten than was, and what was put
unwritten-most : (r : RingBuffer) (unwritten n : ℕ) → unwritten_after r unwritten n ≤ unwritten + n
unfolding unwritten_after
unwritten-most r unwritten n =
    picked (λ (x : ℕ). x ≤ unwritten + n) (fills r n) _ _ (λ e. omega arith)
    (λ e. picked (λ (x : ℕ). x ≤ unwritten + n) (pushes_out r unwritten n) _ _ (λ f. omega arith) (λ f. omega arith))

module _ (d s : List ℕ) (o : Orderly d s) (k h : ℕ) (bs : List ℕ) (bytes : Bytes bs) (p place : ℕ) (g : Goes d s k h bs p place)
    (inside : (touched_as s p).unwritten ≤ (touched_as s p).len) where
  abbrev row : Staged
  row = touched_as s p

  abbrev behind : Areas
  behind = put_in (areas d s) place p (touched_as s p) bs

  abbrev new : Staged
  new = grown (touched_as s p) (ring_of s p) (length bs)

  frame : Frame d s behind.disk behind.session
  frame = put-frame d s o k h bs bytes p place g inside

  open handle-found s h p g.found use {low, held}

  -- an open tape in another place has another directory
  folder-apart : (q : ℕ) → q < 8 → q ≢ p → handle_number s q ≢ 0 → (there : ℕ) → directory_of d s q ≡ Some there → there ≢ place
  folder-apart q small apart opened there at same =
      let named : 0 < length (name s names_at q) = open-named d s o q small opened in
      let theirs : name d directories there ≡ name s names_at q = found_name d directories (name s names_at q) there at in
      let mine : name d directories place ≡ name s names_at p = found_name d directories (name s names_at p) place g.on.there in
      apart (o.names q p small low named (sym theirs ∙ ap (name d directories) same ∙ mine))

  others-lack : (q : ℕ) → q < 8 → q ≢ p → lacking_of behind.disk behind.session 8 0 q ≡ lacking_of d s p (length bs) q
  others-lack q small apart =
      let b = put-rows d s o k h bs bytes p place g inside in
      let f = frame in
      let row_same = touched-as s behind.session q (b.others q small apart).staged (f.views 16 q (omega arith) small) in
      same-lacking d s behind.disk behind.session q small
      (λ opened.
      record {
        handle = f.handles q small;
        base = ap (λ (r : Staged). r.base) row_same;
        len = ap (λ (r : Staged). r.len) row_same;
        unwritten = ap (λ (r : Staged). r.unwritten) row_same;
        folder = frame-folder d s behind.disk behind.session f q small;
        there = λ there at j.
            ap (λ (e : List ℕ). on_disk e there j) b.disk ∙ (sent d s o k h bs bytes p place g inside).there there (folder-apart q small apart opened there at) j;
      })
      (frame-number d s behind.disk behind.session f q small)
      ∙ sym (other-lacking d s q small p (length bs) apart)

  abbrev end : ℕ
  end = (touched_as s p).len + length bs

  own-now : lacking_of behind.disk behind.session 8 0 p
      ≡ lacking_from (on_disk behind.disk place) (file_of (file_size_of s p) (low_of new)) (covered (file_size_of s p) (low_of new) end)
  own-now =
      let u = behind.session in
      let b = put-rows d s o k h bs bytes p place g inside in
      let f = frame in
      let is-new : touched_as u p ≡ new = touched-row u p (rw b.staged) ∙ b.staged in
      let ends : end_of new 0 ≡ end = omega (arith, unwritten-most (ring_of s p) row.unwritten (length bs)) in
      let opened : handle_number u p ≢ 0 = λ z. held (sym (frame-number d s behind.disk u f p low) ∙ z) in
      open-lacking behind.disk u p low opened
      ∙ rw (is-new, size-row s u p (f.handles p low), frame-folder d s behind.disk u f p low, g.on.there, ends)

  own-lack : files behind.disk + lacking_of behind.disk behind.session 8 0 p ≤ files d + lacking_of d s p (length bs) p
  own-lack =
      let some = (o.session.tapes p low held).file-some in
      let fs = file_size_of s p in
      let from = unwritten_from row in
      let c = sent d s o k h bs bytes p place g inside in
      let same = c.count (file_of fs (low_of row)) (covered fs (low_of row) end) (file-mono fs some (low_of row) from (omega arith)) (last-part fs some (low_of row) from end (omega arith) (omega arith)) in
      let kept = rw (← (put-rows d s o k h bs bytes p place g inside).disk) at same in
      let fewer = unwritten-most (ring_of s p) row.unwritten (length bs) in
      omega (
        arith,
        own-now,
        counted d s o k h bs bytes p place g inside,
        lacking-last fs some (on_disk behind.disk place) (low_of row) (low_of new) end (omega arith) (omega arith),
      )

  put_in-roomy : files behind.disk + lacking_all behind.disk behind.session 8 0 8 0 ≤ slots d
  put_in-roomy =
      let own = own-lack in
      let all = but-one d s behind.disk behind.session p (length bs) p 8 0 (omega arith) (omega (arith, low)) (λ q l m apart. others-lack q (omega arith) apart) in
      omega (arith, room-left d s p (length bs) g.on.room)

module _ (d s : List ℕ) (o : Orderly d s) (k h : ℕ) (bs : List ℕ) (bytes : Bytes bs) (served : code_of (put_call d s k h bs).answer ≡ 0)
    (n : List ℕ) (entry : ℕ) (its : Handled s n h entry) (t : Told) (x : Phys) (good : Good t x) (seen : Seen d s n (build t x)) where
  -- whatever was known of room before it
  pub put-roomy : Roomy (put_call d s k h bs).disk (put_call d s k h bs).session
  put-roomy is =
      let found = put-found d s k h bs served in
      rw (put-slots d s k h bs, put_is d s o k h bs bytes served n entry its t x good seen)
      (put_in-roomy d s o k h bs bytes found.tape found.place found.goes (put-inside d s o k h bs bytes served n entry its t x good seen))

-- an open tape has its directory: no put is refused with 16
pub put-there : (d s : List ℕ) → Orderly d s → (k h : ℕ) (bs : List ℕ) → (put_call d s k h bs).answer ≢ Err Missing
unfolding put_call append_on put_on
put-there d s o k h bs e = code (ap code_of e)
  where
    P : Outcome → Type 0
    P a = code_of a.answer ≢ 16

    into : (p : ℕ) → is_found (directory_of d s p) ≡ true → (found : Option ℕ) → directory_of d s p ≡ found → P (put_where d s p bs found)
    into p there (Some place) at = picked P (no_room d s p (length bs)) _ _ (λ full z. omega arith) (λ room z. omega arith)
    into p there None at = absurd (true≢false (sym there ∙ ap is_found at))

    on : (found : Option ℕ) → find_handle s h ≡ found → P (append_in d s bs found)
    on (Some p) at =
        picked P (seen_by s 16 p).listed _ _
        (λ l.
        picked P (eqb (length bs % entry_size_of s p) 0) _ _
        (λ w.
        picked P (ltb 0xffff_ffff_ffff_ffff ((seen_by s 16 p).len + length bs)) _ _ (λ f z. omega arith)
        (λ f. let held = handle-found s h p at in into p (o.folder p held.low held.held) (directory_of d s p) refl))
        (λ w z. omega arith))
        (λ l z. omega arith)
    on None at = λ z. omega arith

    code : code_of (put_call d s k h bs).answer ≢ 16
    code = picked P (usable d s) _ _ (λ ok. picked P (writes s k) _ _ (λ w. on (find_handle s h) refl) (λ w z. omega arith)) (λ ok z. omega arith)
