-- Room for the files of an open append (rule of 15): there is, when it begins; readers and shifts leave it, and a put keeps it (`PutRooms.antt`); and so its
-- commit is never refused for want of a slot, nor for want of a directory. Assumes nothing.
use Rattle.std.specs.Prelude.{◌≡◌, refl, ◌≢◌, Bool, not, ◌&&◌, List, [], ◌∷◌, ℕ, ◌+◌, ◌*◌, ◌≤◌, ◌<◌, eqb, length, Some, Ok, Err}
use Rattle.std.proofs.Common.{sym, ap, ◌∙◌, true≢false, arith, eq-eqb, le-ltb}
use Rattle.std.proofs.Math.Bool.{true, false, or-true}
use Rattle.octets.specs.Cases.{picked, equal}
use Rattle.octets.specs.First.{all_true}
use Rattle.answers.specs.Answers.{code_of}
use Rattle.answers.specs.Outcome.{Outcome}
use Rattle.answers.specs.Answers.{Answer}
use Rattle.layout.specs.Names.{name}
use Rattle.layout.specs.Disk.{slots}
use Rattle.layout.specs.Session.{names_at, handle_number, entry_size_of}
use Rattle.metadata.specs.declared.list.TapeList.{TapeList}
use Rattle.metadata.specs.Struct.{list_of, storable}
use Rattle.disk.specs.Steps.{files}
use Rattle.session.specs.declared.tape_rows.Staged.{Staged}
use Rattle.session.specs.declared.transactions.Kind.TheVariants.{Truncate}
use Rattle.session.specs.Rows.{head_of, view_of, transaction_of, handle_of, staged_of, find_transaction, free_reader}
use Rattle.beginning.specs.Calls.{append_call, reader_call}
use Rattle.beginning.specs.Ways.{free-low}
use Rattle.beginning.specs.Laws.{refusal-some}
use Rattle.beginning.proofs.Laws.{append_cases}
use Rattle.beginning.specs.Transactions.{is_open_at, usable}
use Rattle.beginning.specs.Transactions as Real
use Rattle.staging.specs.Seeing.{is_append, touched_as, writes, cuts}
use Rattle.staging.specs.Shifting.{shift_call}
use Rattle.appending.specs.Room.{lacking_of, lacking_all, no_room}
use Rattle.appending.specs.RoomWays.{files-few}
use Rattle.ending.specs.Checking.{has_directory, all_there, is_whole, may_commit}
use Rattle.ending.specs.Committing.{appended, appended_if, commit_append, truncated_by, truncated_if, commit_truncate, commit_call}
use Rattle.ending.specs.Dropping.{drop_transaction_call}
use Rattle.ending.specs.Listing.{is_touched, next_list}
use Rattle.touches.specs.Parts.{Part, Inside, Outside, Stays, names, tapes, stays}
use Rattle.touches.specs.Parts as P
use Rattle.touches.specs.Begins.{append-leaves, reader-touches, reader-leaves}
use Rattle.touches.specs.Drops.{drop-reader-touches}
use Rattle.touches.specs.Rows.{view-stays, transaction-stays, handle-stays, staged-stays, name-stays}
use Rattle.seen.specs.Orderly.{Orderly}
use Rattle.seen.specs.Rows.{number-row, touched-as}
use Rattle.seen.specs.Kinds.{append-open, writes-kind, cuts-kind}
use Rattle.seen.specs.Frames.{frame-folder, frame-number}
use Rattle.seen.specs.Touching.{touched-row}
use Rattle.seen.specs.Stages.{shift-found, shift-on, shift-becomes, shifted_row}
use Rattle.seen.specs.Cuts.{CutsTo, cuts-on}
use Rattle.seen.specs.Lacking.{SameLack, same-lacking, all-lacking, idle-lacking}

-- an open append has room for every file that its staged bytes lack
abbrev pub Roomy : List ℕ → List ℕ → Type 0
Roomy d s = is_append (transaction_of s 16).kind ≡ true → files d + lacking_all d s 8 0 8 0 ≤ slots d

-- ---- an append begins

append-idle : (d s : List ℕ) → code_of (append_call d s).answer ≡ 0 → is_open_at s 16 ≡ false
append-idle d s =
    append_cases (λ (a : Real.After). code_of a.answer ≡ 0 → is_open_at s 16 ≡ false) d s (λ why e. absurd (refusal-some why e)) (λ may alone e. may.free)

pub append-roomy : (d s : List ℕ) → Orderly d s → code_of (append_call d s).answer ≡ 0 → Roomy d (append_call d s).session
append-roomy d s o served is =
    let u = (append_call d s).session in
    let none : lacking_all d u 8 0 8 0 ≡ 0
    = idle-lacking d u
    (λ q low. rw (staged-stays 4168 4936 s u (append-leaves d s).tapes-stay q (omega arith) (omega arith)) (o.idle-untouched (append-idle d s served) q low)) in
    omega (arith, files-few d)

-- ---- a call that leaves what lacks

pub roomy-same : (d s e u : List ℕ) → transaction_of u 16 ≡ transaction_of s 16 → slots e ≡ slots d → files e ≡ files d
    → ((q : ℕ) → q < 8 → lacking_of e u 8 0 q ≡ lacking_of d s 8 0 q) → Roomy d s → Roomy e u
roomy-same d s e u kind many used same roomy is =
    rw (many, used, all-lacking d s e u same) (roomy (rw kind at is))

-- where no append is open nothing is asked
pub idle-roomy : (d s : List ℕ) → is_open_at s 16 ≡ false → Roomy d s
unfolding is_open_at
idle-roomy d s shut is = absurd (true≢false (sym (append-open (transaction_of s 16).kind is) ∙ shut))

pub cutting-roomy : (d s : List ℕ) → (transaction_of s 16).kind ≡ Truncate → Roomy d s
cutting-roomy d s kind is = absurd (true≢false (sym is ∙ ap is_append kind))

-- by the rows that count
pub record SameRows (s u : List ℕ) (q : ℕ) : Type 0 where
  pub handle : handle_of u q ≡ handle_of s q
  pub staged : staged_of u q ≡ staged_of s q
  pub view : view_of u 16 q ≡ view_of s 16 q
  pub named : name u names_at q ≡ name s names_at q

pub rows-roomy : (d s u : List ℕ) → transaction_of u 16 ≡ transaction_of s 16
    → ((q : ℕ) → q < 8 → SameRows s u q) → Roomy d s → Roomy d u
rows-roomy d s u kind rows =
    roomy-same d s d u kind refl refl
    (λ q low.
    let r = rows q low in
    let row = touched-as s u q r.staged r.view in
    same-lacking d s d u q low
    (λ held.
    record {
      handle = r.handle;
      base = ap (λ (x : Staged). x.base) row;
      len = ap (λ (x : Staged). x.len) row;
      unwritten = ap (λ (x : Staged). x.unwritten) row;
      folder = rw r.named;
      there = λ place at j. refl;
    })
    (number-row s u q r.handle))

-- ---- a reader begun or dropped

module _ (d s : List ℕ) (o : Orderly d s) (u : List ℕ) (long : length u ≡ length s) (names-stay : Stays names s u) (view-stay : Stays (P.view_of 16) s u)
    (place-stays : Stays (P.transaction_of 16) s u) (tapes-stay : Stays tapes s u) where
  stays-roomy : Roomy d s → Roomy d u
  stays-roomy =
      rows-roomy d s u (transaction-stays _ _ s u place-stays 16 (omega arith) (omega arith))
      (λ q low.
      record {
        handle = handle-stays 4168 4936 s u tapes-stay q (omega arith) (omega arith);
        staged = staged-stays 4168 4936 s u tapes-stay q (omega arith) (omega arith);
        view = view-stays _ _ s u view-stay 16 q (omega arith) (omega arith);
        named = name-stays 48 304 s u names-stay long names_at q (o.session.names.short q low) (omega arith) (omega arith);
      })

pub reader-roomy : (d s : List ℕ) → Orderly d s → (t : ℕ) → free_reader s ≡ Some t → Roomy d s → Roomy d (reader_call d s).session
reader-roomy d s o t free =
    let a = reader-leaves d s t free in
    let low = free-low s t free in
    let apart : 16 ≢ t = λ z. omega arith in
    stays-roomy d s o (reader_call d s).session (reader-touches d s).long a.names-stay (a.views-stay 16 (omega arith) apart) (a.transactions-stay 16 (omega arith) apart)
    a.tapes-stay

pub drop-reader-roomy : (d s : List ℕ) → Orderly d s → (k t : ℕ) → find_transaction s k ≡ Some t → t < 16 → Roomy d s → Roomy d (drop_transaction_call d s k).session
drop-reader-roomy d s o k t found low =
    let u = (drop_transaction_call d s k).session in
    let apart : t ≢ 16 = λ z. omega arith in
    let a = drop-reader-touches d s k t found apart in
    let rest : (q : Part) → ((i : ℕ) → Inside i q → Outside i (P.transaction_of t ∷ [])) → Stays q s u = λ q h. stays (P.transaction_of t ∷ []) q s u a h in
    stays-roomy d s o u a.long (rest names (λ i h. search arith)) (rest (P.view_of 16) (λ i h. search arith)) (rest (P.transaction_of 16) (λ i h. search arith))
    (rest tapes (λ i h. search arith))

-- ---- a shift

module _ (d s : List ℕ) (k h i : ℕ) (o : Orderly d s) (served : code_of (shift_call d s k h i).answer ≡ 0) where
  abbrev u : List ℕ
  u = (shift_call d s k h i).session

  shift-lack : (q : ℕ) → q < 8 → SameLack d s d u q
  shift-lack q low =
      let f = (shift-on d s k h i o served).frame in
      let b = shift-becomes d s k h i o served in
      let p = (shift-found d s k h i o served).place in
      let to = i * entry_size_of s p in
      let part : (get : Staged → ℕ) → (get (shifted_row s p to) ≡ get (touched_as s p)) → get (touched_as u q) ≡ get (touched_as s q)
      = λ get own.
      equal q p
      (λ (e : q ≡ p). rw e (ap get (touched-row u p (rw b.staged) ∙ b.staged) ∙ own))
      (λ (e : q ≢ p). ap get (touched-as s u q (b.others q low e).staged (f.views 16 q (omega arith) low))) in
      record {
        handle = f.handles q low;
        base = part (λ (r : Staged). r.base) refl;
        len = part (λ (r : Staged). r.len) refl;
        unwritten = part (λ (r : Staged). r.unwritten) refl;
        folder = frame-folder d s d u f q low;
        there = λ place at j. refl;
      }

  pub shift-roomy : Roomy d s → Roomy d (shift_call d s k h i).session
  shift-roomy =
      let f = (shift-on d s k h i o served).frame in
      roomy-same d s d u (f.transactions 16 (omega arith)) refl refl
      (λ q low. same-lacking d s d u q low (λ held. shift-lack q low) (frame-number d s d u f q low))

-- ---- a cut, of whatever kind

pub cuts-roomy : (d s : List ℕ) (o : Orderly d s) (k h : ℕ) (u : List ℕ) → CutsTo s k h u → Roomy d u
cuts-roomy d s o k h u c = cutting-roomy d u (rw ((cuts-on d s o k h u c).frame.transactions 16 (omega arith)) (cuts-kind s k c.writer))

-- ---- a commit

-- neither 15 nor 16
abbrev pub Fine : Answer → Type 0
Fine a = (code_of a ≢ 15) × (code_of a ≢ 16)

module _ (d s : List ℕ) (o : Orderly d s) where
  -- each tape that was touched has its directory
  pub all_there_lem : all_there d s ≡ true
  unfolding all_there is_touched
  all_there_lem =
      all_true (has_directory d s) 8 0
      (λ q l m.
      equal (handle_number s q) 0
      (λ z. rw (eq-eqb (handle_number s q) 0 z))
      (λ held. rw (o.folder q (omega arith) held) (or-true (not (is_touched s q)))))

  may-fine : (cut : Bool) (list : TapeList) → Fine (may_commit d s cut list)
  unfolding may_commit
  may-fine cut list =
      picked Fine (is_whole s cut list && storable list) _ _
      (λ ok.
      picked Fine (eqb (head_of s).epoch 0xffff_ffff_ffff_ffff) _ _ (λ last. ((λ e. omega arith), (λ e. omega arith)))
      (λ more. picked Fine (all_there d s) _ _ (λ there. ((λ e. omega arith), (λ e. omega arith))) (λ there. absurd (true≢false (sym all_there_lem ∙ there)))))
      (λ ok. ((λ e. omega arith), (λ e. omega arith)))

  append-fine : no_room d s 8 0 ≡ false → Fine (commit_append d s).answer
  unfolding commit_append appended
  append-fine room = by (may_commit d s false (list_of (next_list s false))) (may-fine false (list_of (next_list s false)))
    where
      by : (a : Answer) → Fine a → Fine (appended_if d s (list_of (next_list s false)) a).answer
      by (Ok v) fine = rw room ((λ e. omega arith), (λ e. omega arith))
      by (Err why) fine = fine

  truncate-fine : Fine (commit_truncate d s).answer
  unfolding commit_truncate truncated_by
  truncate-fine = by (may_commit d s true (list_of (next_list s true))) (may-fine true (list_of (next_list s true)))
    where
      by : (a : Answer) → Fine a → Fine (truncated_if d s (list_of (next_list s true)) a).answer
      by (Ok v) fine = ((λ e. omega arith), (λ e. omega arith))
      by (Err why) fine = fine

  pub commit-fine : Roomy d s → (k : ℕ) → Fine (commit_call d s k).answer
  unfolding commit_call no_room
  commit-fine roomy k =
      let P : Outcome → Type 0 = λ a. Fine a.answer in
      picked P (usable d s) _ _
      (λ ok.
      picked P (writes s k) _ _
      (λ w. append-fine (le-ltb (slots d) (files d + lacking_all d s 8 0 8 0) (roomy (ap is_append (writes-kind s k w)))))
      (λ w. picked P (cuts s k) _ _ (λ c. truncate-fine) (λ c. ((λ e. omega arith), (λ e. omega arith)))))
      (λ ok. ((λ e. omega arith), (λ e. omega arith)))
