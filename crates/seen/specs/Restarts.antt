-- A `store` that is served: the areas are orderly again, and of every tape is seen what the step `restart` of `lives` leaves. Assumes nothing.
use Rattle.std.specs.Prelude.{◌≡◌, ◌≢◌, Bool, true, false, ◌&&◌, List, [], ◌∷◌, length, Option, Some, None, Ok, slice_get}
use Rattle.std.proofs.Math.Path.{refl, sym, ap, fun_ext}
use Rattle.std.proofs.Common.{◌∙◌, true≢false, zero-add, arith}
use Rattle.std.proofs.lemmas.Bool.{false≢true}
use Prim.Native.Nat.{ℕ, zero, suc, ◌+◌, ◌≤◌, ◌<◌}
use Rattle.octets.specs.Compare.{comes_before, before-irrefl, before-trans}
use Rattle.octets.specs.First.{count}
use Rattle.octets.specs.Number.{Bytes}
use Rattle.answers.specs.Answers.{code_of}
use Rattle.components.specs.Files.{untracked}
use Rattle.metadata.specs.Choice.{next_side, chosen_epoch, chosen_list}
use Rattle.metadata.specs.Decoding.{Listing, tapes}
use Rattle.metadata.specs.Rules.{fits-true, good-first, good_others, good-few, good-tapes}
use Rattle.metadata.specs.Tapes.{Tape, good_after}
use Rattle.metadata.specs.declared.choice.Side.TheVariants.{Left, Right}
use Rattle.layout.specs.Disk.{directories}
use Rattle.layout.specs.Disk as D
use Rattle.layout.specs.Names.{name, find_name}
use Rattle.layout.specs.NamesLaws.{name-low}
use Rattle.layout.specs.Session.{names_at, handle_number}
use Rattle.disk.specs.Meaning.{Disk, disk_of, slot_with}
use Rattle.disk.specs.Steps.{side_bytes}
use Rattle.session.specs.BeginLaws.{name_of, view_for, started}
use Rattle.session.specs.Meaning.{Session, no_view, closed, no_handle, untouched, session_of}
use Rattle.session.specs.MeaningLaws.{name-at, view-at, transaction-at, handle-at, staged-at}
use Rattle.session.specs.Rows.{view_of, transaction_of, handle_of, staged_of}
use Rattle.session.specs.declared.head.Head.{Head}
use Rattle.session.specs.declared.tape_rows.Staged.{Staged}
use Rattle.session.specs.declared.tracking.Tracking.{Tracking}
use Rattle.session.specs.declared.tracking.Tracking.TheVariants.{Untracked}
use Rattle.session.specs.declared.views.View.{View}
use Rattle.session.specs.RowLaws.{handle-numbered}
use Rattle.rolling_tape.specs.Files.{file_at, files_of}
use Rattle.beginning.specs.Laws.{refusal-some}
use Rattle.beginning.specs.Sessions.{the_record, store_call}
use Rattle.beginning.specs.StoreLaws.{list-good, store-cases, store-begun, store_bytes, store-means}
use Rattle.beginning.specs.Transactions.{is_open_at}
use Rattle.restarts.specs.Level.{store-reads, store-head, store-level}
use Rattle.held.specs.Held.{forget}
use Rattle.joins.specs.FilesAt.{Once}
use Rattle.lives.specs.Life.{Reader, Store, restart, step, idle}
use Rattle.lives.specs.Life as Life
use Rattle.seen.specs.Seen.{place_of, shown, view_in, reader_in, writer_in, touched_in, is_open_tape, handle_in, files_in, files_for, count_in, count_open, Seen, Handled}
use Rattle.seen.specs.Orderly.{listed_as, Recorded, Orderly}
use Rattle.seen.specs.Places.{found_name, not_found}
use Rattle.seen.specs.Rows.{shut_row}
use Rattle.seen.specs.Lists.{word_of, listed-hit, listed-miss}

-- ---- a list that may be stored: names are not empty, and none occurs twice

-- nothing comes before the empty name
some-behind : (before n : List ℕ) → comes_before before n ≡ true → 0 < length n
unfolding comes_before
some-behind [] [] e = absurd (false≢true e)
some-behind (x ∷ before) [] e = absurd (false≢true e)
some-behind before (y ∷ n) e = omega arith

not_behind : (a b : List ℕ) → comes_before a b ≡ true → a ≡ b → ⊥
not_behind a b e same = true≢false (sym e ∙ ap (comes_before a) (sym same) ∙ before-irrefl a)

-- every tape of it comes behind the name before it
all-behind : (before : List ℕ) (ts : List Tape) → good_after before ts ≡ true → (i : ℕ) (t : Tape) → slice_get ts i ≡ Some t → comes_before before t.name ≡ true
all-behind before [] good i t e = let z : ◌≡◌ {A = ℕ} 0 1 = cc in absurd (omega arith)
all-behind before (u ∷ us) good zero t e =
    let same : u ≡ t = cc in
    rw (← same) (fits-true before u (good-first before u us good)).order
all-behind before (u ∷ us) good (suc i) t e =
    before-trans before u.name t.name (fits-true before u (good-first before u us good)).order
    (all-behind u.name us (good_others before u us good) i t e)

tapes-apart : (before : List ℕ) (ts : List Tape) → good_after before ts ≡ true → (i j : ℕ) (t u : Tape) → slice_get ts i ≡ Some t → slice_get ts j ≡ Some u
    → t.name ≡ u.name → i ≡ j
tapes-apart before [] good i j t u e f same = let z : ◌≡◌ {A = ℕ} 0 1 = cc in absurd (omega arith)
tapes-apart before (x ∷ xs) good zero zero t u e f same = refl
tapes-apart before (x ∷ xs) good zero (suc j) t u e f same =
    let own : x.name ≡ t.name = cc in
    absurd (not_behind x.name u.name (all-behind x.name xs (good_others before x xs good) j u f) (own ∙ same))
tapes-apart before (x ∷ xs) good (suc i) zero t u e f same =
    let own : x.name ≡ u.name = cc in
    absurd (not_behind x.name t.name (all-behind x.name xs (good_others before x xs good) i t e) (own ∙ sym same))
tapes-apart before (x ∷ xs) good (suc i) (suc j) t u e f same = ap suc (tapes-apart x.name xs (good_others before x xs good) i j t u e f same)

-- the list's word on the name of one of its tapes
listed_at_lem : (n before : List ℕ) (ts : List Tape) → good_after before ts ≡ true → (i : ℕ) (t : Tape) → slice_get ts i ≡ Some t → t.name ≡ n → listed_as n ts ≡ word_of t
listed_at_lem n before [] good i t e has = let z : ◌≡◌ {A = ℕ} 0 1 = cc in absurd (omega arith)
listed_at_lem n before (u ∷ us) good zero t e has =
    let same : u ≡ t = cc in
    listed-hit n u us (ap (λ (x : Tape). x.name) same ∙ has) ∙ ap word_of same
listed_at_lem n before (u ∷ us) good (suc i) t e has =
    let rest = good_others before u us good in
    listed-miss n u us (λ q. not_behind u.name t.name (all-behind u.name us rest i t e) (q ∙ sym has))
    ∙ listed_at_lem n u.name us rest i t e has

-- and on any other
listed-out : (n : List ℕ) (ts : List Tape) → ((i : ℕ) (t : Tape) → i < length ts → slice_get ts i ≡ Some t → t.name ≡ n → ⊥) → listed_as n ts ≡ no_view
unfolding listed_as
listed-out n [] h = refl
listed-out n (u ∷ us) h = listed-miss n u us (h 0 u (omega arith) refl) ∙ listed-out n us (λ i t l e. h (suc i) t (omega arith) e)

-- ---- the areas after a store

-- what is asked of a disk where no session runs
pub record OrderlyDisk (d : List ℕ) : Type 0 where
  pub sound : D.Sound d
  pub bytes : Bytes d
  pub once : Once d
  pub folders : (i j : ℕ) → i < 8 → j < 8 → 0 < length (name d directories i) → name d directories i ≡ name d directories j → i ≡ j

pub orderly-disk : (d s : List ℕ) → Orderly d s → OrderlyDisk d
orderly-disk d s o = record { sound = o.disk; bytes = o.disk-bytes; once = o.once; folders = o.folders }

module _ (d s : List ℕ) (bytes : Bytes d) (served : code_of (store_call d s).answer ≡ 0) where
  abbrev u : List ℕ
  u = (store_call d s).session

  abbrev ts : List Tape
  ts = (store-reads d s served).list

  means : session_of u ≡ started (session_of s).cache (chosen_epoch (the_record d)) (next_side (side_bytes d Left) (side_bytes d Right)) ts
  means = store-means d s bytes ts (store-reads d s served).is served

  good : good_after [] ts ≡ true
  good = good-tapes ts (list-good (the_record d) ts (store-reads d s served).is)

  few : length ts ≤ 8
  few = good-few ts (list-good (the_record d) ts (store-reads d s served).is)

  -- its rows
  pub name-stored : (p : ℕ) → p < 8 → name u names_at p ≡ name_of (slice_get ts p)
  unfolding started
  name-stored p low = sym (name-at u p low) ∙ ap (λ (m : Session). m.name p) means

  pub list-stored : (p : ℕ) → p < 8 → view_of u 17 p ≡ view_for (slice_get ts p)
  unfolding started
  list-stored p low = sym (view-at u 17 p (omega arith) low) ∙ ap (λ (m : Session). m.view 17 p) means

  pub transaction-stored : (t : ℕ) → t < 17 → transaction_of u t ≡ closed
  unfolding started
  transaction-stored t low = sym (transaction-at u t low) ∙ ap (λ (m : Session). m.transaction t) means

  pub handle-stored : (p : ℕ) → p < 8 → handle_of u p ≡ no_handle
  unfolding started
  handle-stored p low = sym (handle-at u p low) ∙ ap (λ (m : Session). m.handle p) means

  pub staged-stored : (p : ℕ) → p < 8 → staged_of u p ≡ untouched
  unfolding started
  staged-stored p low = sym (staged-at u p low) ∙ ap (λ (m : Session). m.staged p) means

  pub tracking-stored : (session_of u).tracking ≡ λ (i : ℕ). Untracked
  unfolding started
  tracking-stored = ap (λ (m : Session). m.tracking) means

  pub shut-stored : (t : ℕ) → t < 17 → is_open_at u t ≡ false
  shut-stored t low = shut_row u t (transaction-stored t low)

  pub number-stored : (p : ℕ) → p < 8 → handle_number u p ≡ 0
  number-stored p low = sym (handle-numbered u p no_handle (sym (handle-stored p low)))

  pub untouched-stored : (p : ℕ) → p < 8 → (staged_of u p).touched ≡ false
  untouched-stored p low = ap (λ (r : Staged). r.touched) (staged-stored p low)

  -- the tape in a place that has a name
  pub record NamedTape (p : ℕ) : Type 0 where
    pub tape : Tape
    pub at : slice_get ts p ≡ Some tape
    pub has : name u names_at p ≡ tape.name

  pub named-tape : (p : ℕ) → p < 8 → 0 < length (name u names_at p) → NamedTape p
  named-tape p low long = by (slice_get ts p) refl
    where
      by : (o : Option Tape) → slice_get ts p ≡ o → NamedTape p
      by None e = let same : name u names_at p ≡ [] = name-stored p low ∙ ap name_of e in absurd (omega (arith, ap length same))
      by (Some t) e = record { tape = t; at = e; has = name-stored p low ∙ ap name_of e }

  names-stored : (p q : ℕ) → p < 8 → q < 8 → 0 < length (name u names_at p) → name u names_at p ≡ name u names_at q → p ≡ q
  names-stored p q low high long same =
      let one = named-tape p low long in
      let other = named-tape q high (rw (← same) long) in
      tapes-apart [] ts good p q one.tape other.tape one.at other.at (sym one.has ∙ same ∙ other.has)

  free-stored : (p : ℕ) → p < 8 → length (name u names_at p) ≡ 0 → (view_of u 17 p).listed ≡ false
  free-stored p low free = by (slice_get ts p) refl
    where
      by : (o : Option Tape) → slice_get ts p ≡ o → (view_of u 17 p).listed ≡ false
      by None e = ap (λ (v : View). v.listed) (list-stored p low ∙ ap view_for e)
      by (Some t) e =
          let same : name u names_at p ≡ t.name = name-stored p low ∙ ap name_of e in
          let long = some-behind [] t.name (all-behind [] ts good p t e) in
          absurd (omega (arith, ap length same))

  -- the list says of every name what the session says
  pub list-says : (n : List ℕ) → 0 < length n → listed_as n ts ≡ view_in u 17 (place_of u n)
  list-says n long = by (place_of u n) refl
    where
      by : (found : Option ℕ) → place_of u n ≡ found → listed_as n ts ≡ view_in u 17 found
      by (Some p) e =
          let low = name-low u names_at n p e in
          let has = found_name u names_at n p e in
          let one = named-tape p low (rw has long) in
          listed_at_lem n [] ts good p one.tape one.at (sym one.has ∙ has)
          ∙ sym (ap shown (list-stored p low ∙ ap view_for one.at))
      by None e =
          listed-out n ts
          (λ i t l at same.
          let low : i < 8 = omega (arith, few) in
          not_found u names_at n e i low (name-stored i low ∙ ap name_of at ∙ same))

  pub store-recorded : Recorded d u
  store-recorded =
      record {
        epoch = sym (ap (λ (h : Head). h.epoch) (store-head d s bytes served));
        list = ts;
        read = (store-reads d s served).is;
        says = list-says;
      }

-- ---- they are orderly

-- nothing is open, nothing has a handle
module _ (d s : List ℕ) (o : OrderlyDisk d) (bytes : Bytes s) (served : code_of (store_call d s).answer ≡ 0) where
  abbrev v : List ℕ
  v = (store_call d s).session

  never-open : {A : Type 0} → (t : ℕ) → t < 17 → is_open_at v t ≡ true → A
  never-open t low e = absurd (true≢false (sym e ∙ shut-stored d s o.bytes served t low))

  never-handle : {A : Type 0} → (p : ℕ) → p < 8 → handle_number v p ≢ 0 → A
  never-handle p low h = absurd (h (number-stored d s o.bytes served p low))

  pub store-orderly : Orderly d v
  store-orderly =
      record {
        disk = o.sound;
        session = store-begun d s served;
        disk-bytes = o.bytes;
        session-bytes = store_bytes d s bytes;
        once = o.once;
        names = names-stored d s o.bytes served;
        folders = o.folders;
        handles = λ p q low high h same. never-handle p low h;
        handle-given = λ p low. omega (arith, number-stored d s o.bytes served p low);
        numbers = λ t r low high runs same. never-open t low runs;
        number-given = λ t low runs. never-open t low runs;
        free-shut = λ p low free. number-stored d s o.bytes served p low;
        free-unlisted = free-stored d s o.bytes served;
        shut-untouched = λ p low shut. untouched-stored d s o.bytes served p low;
        idle-untouched = λ shut p low. untouched-stored d s o.bytes served p low;
        views = λ t low runs p under listed. never-open t (omega arith) runs;
        writer-view = λ runs p low. never-open 16 (omega arith) runs;
        writer-epoch = λ runs. never-open 16 (omega arith) runs;
        made-append = λ p low h unlisted. never-handle p low h;
        made-touched = λ p low h unlisted. never-handle p low h;
        folder = λ p low h. never-handle p low h;
        recorded = store-recorded d s o.bytes served;
        level = store-level d s o.bytes served;
      }

-- ---- what is seen of a tape

count-never : (test : ℕ → Bool) (k i : ℕ) → ((j : ℕ) → i ≤ j → j < i + k → test j ≡ false) → count test k i ≡ 0
unfolding count
count-never test zero i h = refl
count-never test (suc k) i h =
    rw (h i (omega arith) (omega arith)) (zero-add _ ∙ count-never test k (i + 1) (λ j l m. h j (omega arith) (omega arith)))

-- where nothing is tracked the files are the same ones, forgotten
forgotten : (m : Disk) (t : ℕ → Tracking) (place : ℕ) → files_of m (λ (i : ℕ). Untracked) place ≡ forget (files_of m t place)
unfolding files_of forget
forgotten m t place = fun_ext (λ (k : ℕ). by (slot_with m place k))
  where
    by : (found : Option ℕ) → file_at m (λ (i : ℕ). Untracked) found ≡ untracked (file_at m t found)
    by (Some i) = refl
    by None = refl

module _ (d s : List ℕ) (bytes : Bytes d) (served : code_of (store_call d s).answer ≡ 0) (n : List ℕ) where
  abbrev w : List ℕ
  w = (store_call d s).session

  abbrev place : Option ℕ
  place = place_of w n

  -- a tape is not open and nothing of it is staged
  pub touched-after : touched_in w place ≡ false
  touched-after = by place refl
    where
      by : (found : Option ℕ) → place ≡ found → touched_in w found ≡ false
      by (Some p) e = untouched-stored d s bytes served p (name-low w names_at n p e)
      by None e = refl

  pub handle-after : handle_in w place ≡ 0
  handle-after = by place refl
    where
      by : (found : Option ℕ) → place ≡ found → handle_in w found ≡ 0
      by (Some p) e = number-stored d s bytes served p (name-low w names_at n p e)
      by None e = refl

  pub live-after : is_open_tape w place ≡ false
  live-after = by place refl
    where
      by : (found : Option ℕ) → place ≡ found → is_open_tape w found ≡ false
      by (Some p) e = rw (number-stored d s bytes served p (name-low w names_at n p e))
      by None e = refl

  pub readers-after : (has : Reader → Bool) → count_open has w place ≡ 0
  unfolding count_open
  readers-after has =
      count-never (λ t. is_open_at w t && has (reader_in w place t)) 16 0 (λ t l h. rw (shut-stored d s bytes served t (omega arith)))

  pub writer-after : writer_in w place ≡ idle
  writer-after = rw (transaction-stored d s bytes served 16 (omega arith))

  -- the files are those that any session has seen there, forgotten
  pub files-after : (before : List ℕ) → files_for d w n ≡ forget (files_for d before n)
  unfolding forget
  files-after before = by (find_name d directories n)
    where
      by : (found : Option ℕ) → files_in d w found ≡ forget (files_in d before found)
      by (Some i) =
          ap (λ (t : ℕ → Tracking). files_of (disk_of d) t i) (tracking-stored d s bytes served)
          ∙ forgotten (disk_of d) (session_of before).tracking i
      by None = refl

  pub store-handled : (entry : ℕ) → Handled w n 0 entry
  store-handled entry = record { number = handle-after; size = λ Some. absurd (Some refl) }

-- the real answer is the epoch that the disk has
pub store-answer : (d s : List ℕ) → code_of (store_call d s).answer ≡ 0 → (store_call d s).answer ≡ Ok (chosen_epoch (the_record d))
store-answer d s =
    store-cases (λ o. code_of o.answer ≡ 0 → o.answer ≡ Ok (chosen_epoch (the_record d))) d s (λ why e. absurd (refusal-some why e)) (λ ts ok read e. refl)

-- two lists that were read of one record are the same
pub same-list : (l : Listing) (a b : List Tape) → l ≡ tapes a → l ≡ tapes b → a ≡ b
same-list l a b e f = let q : tapes a ≡ tapes b = sym e ∙ f in cc

-- a session ran, in s; area is whatever is then lent as the session: the same, or another
module _ (d s : List ℕ) (o : Orderly d s) (n : List ℕ) (long : 0 < length n) (st : Store) (seen : Seen d s n st) where
  epoch-seen : chosen_epoch (the_record d) ≡ st.epoch
  epoch-seen = o.recorded.epoch ∙ seen.epoch

  module _ (area : List ℕ) (served : code_of (store_call d area).answer ≡ 0) where
    pub restart-seen : Seen d (store_call d area).session n (step restart st).store
    unfolding step count_in
    restart-seen =
        let bytes = o.disk-bytes in
        let head = store-head d area bytes served in
        let new = store-recorded d area bytes served in
        record {
          epoch = ap (λ (h : Head). h.epoch) head ∙ epoch-seen;
          cut = ap (λ (h : Head). h.cut) head;
          last = ap (λ (h : Head). h.last_transaction) head;
          list =
              sym (new.says n long)
              ∙ ap (listed_as n) (same-list (chosen_list (the_record d)) new.list o.recorded.list new.read o.recorded.read)
              ∙ o.recorded.says n long
              ∙ seen.list;
          readers = readers-after d area bytes served n;
          writer = writer-after d area bytes served n;
          touched = touched-after d area bytes served n;
          live = live-after d area bytes served n;
          files = files-after d area bytes served n s ∙ ap forget seen.files;
          opened = λ p found live. absurd (false≢true live);
        }

    -- both answer the epoch
    pub restart-answers : ((store_call d area).answer ≡ Ok st.epoch) × ((step restart st).answer ≡ Life.Done st.epoch)
    unfolding step
    restart-answers = (store-answer d area served ∙ ap Ok epoch-seen, refl)

  -- the session's own area
  pub store-seen : code_of (store_call d s).answer ≡ 0 → Seen d (store_call d s).session n (step restart st).store
  store-seen = restart-seen s

  pub store-answers : code_of (store_call d s).answer ≡ 0 → ((store_call d s).answer ≡ Ok st.epoch) × ((step restart st).answer ≡ Life.Done st.epoch)
  store-answers = restart-answers s
