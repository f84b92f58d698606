-- Laws of the calls that read: the contracts leave nothing open, a refused call and one that has no entry change nothing, what is served is all that is
-- written, and a pop keeps the layout rule. Assumes nothing.
use Rattle.std.proofs.Math.Path.{◌≡◌}
use Rattle.std.specs.Prelude.{refl, ◌≢◌, false, List, ℕ, ◌*◌, ◌-◌, ◌/◌, ◌≤◌, ◌<◌, eqb, leb, length, take, drop, Option, Some, None, Ok, Err}
use Rattle.std.proofs.Common.{sym, ap, ◌∙◌, arith}
use Rattle.std.proofs.Math.Bool.{true}
use borrow.Author.Tests.{leb-true, eqb-false}
use Rattle.octets.specs.Bytes.{put, length-put, part-put, drop-put-above}
use Rattle.octets.specs.Cases.{picked}
use Rattle.answers.specs.Answers.{code_of, entry_code_of}
use Rattle.answers.specs.Outcome.{Reading, reading, refused_read, Entering, entering, Popping, popping}
use Rattle.answers.specs.Answers.{Answer}
use Rattle.answers.specs.Answers.{OneEntry}
use Rattle.answers.specs.declared.Refusal.{Refusal}
use Rattle.answers.specs.declared.Refusal.TheVariants.{Unusable, Unknown, WriterOpen, Wait, Full, BadName, ReservedName, BadSize, AlreadyOpen, NotWhole, Absent, OutOfBounds, StartPastLength, LongerCut, NoSlot, Missing, BadList, TooLarge}
use Rattle.components.specs.Bounds.{in_bounds}
use Rattle.components.specs.BoundsLaws.{out_below}
use Rattle.layout.specs.Session.{begun, entry_size_of}
use Rattle.layout.specs.SessionLaws.{begun→, →begun}
use Rattle.session.specs.Rows.{find_transaction, find_handle}
use Rattle.cached_tape.specs.Serving.{can_serve, served}
use Rattle.cached_tape.specs.ServeLaws.{length-served}
use Rattle.beginning.specs.Laws.{refusal-some}
use Rattle.beginning.specs.Transactions.{usable}
use Rattle.staging.specs.Seeing.{cuts, seen_by}
use Rattle.staging.specs.Cutting.{cut_to}
use Rattle.staging.specs.Laws.{begun-cut_to}
use Rattle.staging.specs.Ways.{handle-found}
use Rattle.entries.specs.Reads.{serve_on, read_on, read_in, read_as, read_call, none_for, one_of, entry_call}
use Rattle.entries.specs.Popping.{cut_at, pop_at, pop_on, pop_in, pop_call}
use Rattle.entries.specs.Existing.{exists_call}
use Rattle.entries.specs.Ways.{serve-can, read-outside, read-room, read_goes, entry_read, pop-absent, pop-empty, pop-last, pop-unread, pop-read, pop_goes}

-- ---- the contracts leave nothing open: the same answer, and the same bytes

module _ (d s : List ℕ) (t h : ℕ) (out : List ℕ) (u v : List ℕ) where
  pub read-unique : (i n : ℕ) (r r' : Answer) → read_call d s t h i n out ≡ reading r u → read_call d s t h i n out ≡ reading r' v → (r ≡ r') × (u ≡ v)
  read-unique i n r r' e f =
      let same : reading r u ≡ reading r' v = sym e ∙ f in
      (ap (λ (x : Reading). x.answer) same, ap (λ (x : Reading). x.buffer) same)

  pub entry-unique : (i : ℕ) (r r' : OneEntry) → entry_call d s t h i out ≡ entering r u → entry_call d s t h i out ≡ entering r' v → (r ≡ r') × (u ≡ v)
  entry-unique i r r' e f =
      let same : entering r u ≡ entering r' v = sym e ∙ f in
      (ap (λ (x : Entering). x.answer) same, ap (λ (x : Entering). x.buffer) same)

  pub pop-unique : (r r' : OneEntry) (a b : List ℕ) → pop_call d s t h out ≡ popping r a u → pop_call d s t h out ≡ popping r' b v → (r ≡ r') × ((a ≡ b) × (u ≡ v))
  pop-unique r r' a b e f =
      let same : popping r a u ≡ popping r' b v = sym e ∙ f in
      (ap (λ (x : Popping). x.answer) same, (ap (λ (x : Popping). x.session) same, ap (λ (x : Popping). x.buffer) same))

pub exists-unique : (d s : List ℕ) (t : ℕ) (wanted : List ℕ) (r r' : Answer) → r ≡ exists_call d s t wanted → r' ≡ exists_call d s t wanted → r ≡ r'
exists-unique d s t wanted r r' e f = e ∙ sym f

entry-some : (i : ℕ) → ◌≢◌ {A = OneEntry} (Ok (Some i)) (Ok None)
entry-some i e = let z : ◌≡◌ {A = ℕ} 0 1 = cc in omega arith

-- ---- a read of one that is refused has no entry

-- the refusal that an answer stands for
abbrev refusal_of : OneEntry → Refusal
refusal_of (Ok (Some i)) = Unusable
refusal_of (Ok None) = OutOfBounds
refusal_of (Err why) = why

refusal-back : (why : Refusal) → refusal_of (none_for why) ≡ why
refusal-back Unusable = refl
refusal-back Unknown = refl
refusal-back WriterOpen = refl
refusal-back (Wait n) = refl
refusal-back Full = refl
refusal-back BadName = refl
refusal-back ReservedName = refl
refusal-back BadSize = refl
refusal-back AlreadyOpen = refl
refusal-back NotWhole = refl
refusal-back Absent = refl
refusal-back OutOfBounds = refl
refusal-back StartPastLength = refl
refusal-back LongerCut = refl
refusal-back NoSlot = refl
refusal-back Missing = refl
refusal-back BadList = refl
refusal-back TooLarge = refl

none-entry : (why : Refusal) (i : ℕ) → none_for why ≢ Ok (Some i)
none-entry why i e =
    let first : why ≡ Unusable = sym (refusal-back why) ∙ ap refusal_of e in
    let same : ◌≡◌ {A = OneEntry} (Err Unusable) (Ok (Some i)) = sym (ap none_for first) ∙ e in
    let z : ◌≡◌ {A = ℕ} 0 1 = cc in
    omega arith

-- ---- what holds of each way out holds of the call

-- what a read that is served has found on tape p, as transaction place x sees it
pub record Inside (d s : List ℕ) (x p i n : ℕ) (out : List ℕ) : Type 0 where
  pub listed : (seen_by s x p).listed ≡ true
  pub within : in_bounds (entry_size_of s p) (seen_by s x p).start (seen_by s x p).len i n ≡ true
  pub room : n * entry_size_of s p ≤ length out
  pub there : can_serve d s p (i * entry_size_of s p) (n * entry_size_of s p) ≡ true

-- and what the call has found before
pub record Readable (d s : List ℕ) (t h i n : ℕ) (out : List ℕ) (x p : ℕ) : Type 0 where
  pub sound : usable d s ≡ true
  pub transaction : find_transaction s t ≡ Some x
  pub found : find_handle s h ≡ Some p
  pub inside : Inside d s x p i n out

-- the buffer with n entries from index i on
abbrev pub filled : List ℕ → List ℕ → ℕ → ℕ → ℕ → List ℕ → List ℕ
filled d s p i n out = put out 0 (served d s p (i * entry_size_of s p) (n * entry_size_of s p))

module _ (P : Reading → Type 0) (d s : List ℕ) (i n : ℕ) (out : List ℕ) (no : (why : Refusal) → P (refused_read why out)) where
  pub read-on-cases : (x p : ℕ) → (Inside d s x p i n out → P (reading (Ok n) (filled d s p i n out))) → P (read_on d s x p i n out)
  unfolding read_on serve_on
  read-on-cases x p goes =
      picked P (seen_by s x p).listed _ _
      (λ l.
      picked P (in_bounds (entry_size_of s p) (seen_by s x p).start (seen_by s x p).len i n) _ _
      (λ w.
      picked P (leb (n * entry_size_of s p) (length out)) _ _
      (λ r.
      picked P (can_serve d s p (i * entry_size_of s p) (n * entry_size_of s p)) _ _
      (λ c. goes (record { listed = l; within = w; room = leb-true (n * entry_size_of s p) (length out) r; there = c }))
      (λ c. no Missing))
      (λ r. no NotWhole))
      (λ w. no OutOfBounds))
      (λ l. no Absent)

  pub read-cases : (t h : ℕ) → ((x p : ℕ) → Readable d s t h i n out x p → P (reading (Ok n) (filled d s p i n out))) → P (read_call d s t h i n out)
  unfolding read_call
  read-cases t h goes = picked P (usable d s) _ _ (λ ok. seen ok (find_transaction s t) refl) (λ ok. no Unusable)
    where
      on : usable d s ≡ true → (x : ℕ) → find_transaction s t ≡ Some x → (q : Option ℕ) → find_handle s h ≡ q → P (read_in d s x i n out q)
      on ok x e (Some p) f = read-on-cases x p (λ g. goes x p (record { sound = ok; transaction = e; found = f; inside = g }))
      on ok x e None f = no Unknown

      seen : usable d s ≡ true → (q : Option ℕ) → find_transaction s t ≡ q → P (read_as d s h i n out q)
      seen ok (Some x) e = on ok x e (find_handle s h) refl
      seen ok None e = no Unknown

-- an entry is a read of one
pub entry-cases : (P : Entering → Type 0) (d s : List ℕ) (t h i : ℕ) (out : List ℕ) → ((why : Refusal) → P (entering (none_for why) out))
    → ((x p : ℕ) → Readable d s t h i 1 out x p → P (entering (Ok (Some i)) (filled d s p i 1 out))) → P (entry_call d s t h i out)
unfolding entry_call
entry-cases P d s t h i out left goes = read-cases (λ (o : Reading). P (entering (one_of i o.answer) o.buffer)) d s i 1 out left t h goes

-- the index of a tape's last entry, as the writer sees it
abbrev pub last : List ℕ → ℕ → ℕ
last s p = (seen_by s 16 p).len / entry_size_of s p - 1

-- what a pop that is served has found
pub record Poppable (d s : List ℕ) (t h : ℕ) (out : List ℕ) (p : ℕ) : Type 0 where
  pub sound : usable d s ≡ true
  pub writer : cuts s t ≡ true
  pub found : find_handle s h ≡ Some p
  pub some : (seen_by s 16 p).len / entry_size_of s p ≢ 0
  pub inside : Inside d s 16 p (last s p) 1 out

-- the last entry cut off
abbrev pub popped : List ℕ → ℕ → List ℕ
popped s p = cut_to s p (last s p * entry_size_of s p)

-- a pop that changes nothing has no entry
module _ (P : Popping → Type 0) (d s : List ℕ) (t h : ℕ) (out : List ℕ) (no : (a : OneEntry) → ((i : ℕ) → a ≢ Ok (Some i)) → P (popping a s out)) where
  pub pop-cases : ((p : ℕ) → Poppable d s t h out p → P (popping (Ok (Some (last s p))) (popped s p) (filled d s p (last s p) 1 out))) → P (pop_call d s t h out)
  unfolding pop_call pop_on pop_at
  pop-cases goes =
      picked P (usable d s) _ _
      (λ ok. picked P (cuts s t) _ _ (λ w. on ok w (find_handle s h) refl) (λ w. refused Unknown))
      (λ ok. refused Unusable)
    where
      refused : (why : Refusal) → P (popping (Err why) s out)
      refused why = no (Err why) (λ i e. let z : ◌≡◌ {A = ℕ} 0 1 = cc in omega arith)

      nothing : P (popping (Ok None) s out)
      nothing = no (Ok None) (λ i e. entry-some i (sym e))

      on : usable d s ≡ true → cuts s t ≡ true → (q : Option ℕ) → find_handle s h ≡ q → P (pop_in d s out q)
      on ok w (Some p) e =
          picked P (seen_by s 16 p).listed _ _
          (λ l.
          picked P (eqb ((seen_by s 16 p).len / entry_size_of s p) 0) _ _
          (λ z. nothing)
          (λ z.
          let none = eqb-false ((seen_by s 16 p).len / entry_size_of s p) 0 z in
          read-on-cases (λ (o : Reading). P (cut_at s p (last s p) o.buffer o.answer)) d s (last s p) 1 out (λ why. no (none_for why) (none-entry why)) 16 p
          (λ g. goes p (record { sound = ok; writer = w; found = e; some = none; inside = g }))))
          (λ l. nothing)
      on ok w None e = refused Unknown

-- ---- a call that has found all is served

pub read_done : (d s : List ℕ) (t h i n : ℕ) (out : List ℕ) (x p : ℕ) → Readable d s t h i n out x p → read_call d s t h i n out ≡ reading (Ok n) (filled d s p i n out)
read_done d s t h i n out x p g =
    let k = g.inside in
    read_goes d s t h i n out g.sound x g.transaction p g.found
    ∙ read-room d s x p i n out (seen_by s x p) refl (entry_size_of s p) refl k.listed k.within k.room
    ∙ serve-can d s p i n out (entry_size_of s p) refl k.there

pub entry_done : (d s : List ℕ) (t h i : ℕ) (out : List ℕ) (x p : ℕ) → Readable d s t h i 1 out x p → entry_call d s t h i out ≡ entering (Ok (Some i)) (filled d s p i 1 out)
entry_done d s t h i out x p g = entry_read d s t h i out (Ok 1) (filled d s p i 1 out) (Ok (Some i)) (read_done d s t h i 1 out x p g) refl

pub pop-done : (d s : List ℕ) (t h : ℕ) (out : List ℕ) (p : ℕ) → Poppable d s t h out p → pop_call d s t h out ≡ popping (Ok (Some (last s p))) (popped s p) (filled d s p (last s p) 1 out)
pop-done d s t h out p g =
    let k = g.inside in
    let i = last s p in
    let b = filled d s p i 1 out in
    let e = entry_size_of s p in
    let read : read_on d s 16 p i 1 out ≡ reading (Ok 1) b
    = read-room d s 16 p i 1 out (seen_by s 16 p) refl e refl k.listed k.within k.room
    ∙ serve-can d s p i 1 out e refl k.there in
    pop_goes d s t h out g.sound g.writer p g.found
    ∙ pop-last d s p out (seen_by s 16 p) refl e refl k.listed g.some
    ∙ pop-read d s p i out b 1 e refl read

-- ---- and no other is

pub record Served (d s : List ℕ) (t h i n : ℕ) (out : List ℕ) : Type 0 where
  pub place : ℕ
  pub tape : ℕ
  pub reads : Readable d s t h i n out place tape

pub read-served : (d s : List ℕ) (t h i n : ℕ) (out : List ℕ) → code_of (read_call d s t h i n out).answer ≡ 0 → Served d s t h i n out
read-served d s t h i n out =
    read-cases (λ (o : Reading). code_of o.answer ≡ 0 → Served d s t h i n out) d s i n out (λ why z. absurd (refusal-some why z)) t h
    (λ x p g z. record { place = x; tape = p; reads = g })

-- ---- a refused call changes no byte, and one that has no entry changes none

module _ (d s : List ℕ) (t h i : ℕ) (out : List ℕ) where
  pub read-refused : (n : ℕ) → code_of (read_call d s t h i n out).answer ≢ 0 → (read_call d s t h i n out).buffer ≡ out
  read-refused n = read-cases (λ (o : Reading). code_of o.answer ≢ 0 → o.buffer ≡ out) d s i n out (λ why r. refl) t h (λ x p g r. absurd (r refl))

  pub entry-refused : entry_code_of (entry_call d s t h i out).answer ≢ 0 → (entry_call d s t h i out).buffer ≡ out
  entry-refused = entry-cases (λ (o : Entering). entry_code_of o.answer ≢ 0 → o.buffer ≡ out) d s t h i out (λ why r. refl) (λ x p g r. absurd (r refl))

  pub entry-none : (entry_call d s t h i out).answer ≡ (Ok None) → (entry_call d s t h i out).buffer ≡ out
  entry-none = entry-cases (λ (o : Entering). o.answer ≡ (Ok None) → o.buffer ≡ out) d s t h i out (λ why r. refl) (λ x p g r. absurd (entry-some i r))

module _ (d s : List ℕ) (t h : ℕ) (out : List ℕ) where
  -- both areas that are lent to be written
  abbrev Kept : Popping → Type 0
  Kept o = (o.session ≡ s) × (o.buffer ≡ out)

  pub pop-refused : entry_code_of (pop_call d s t h out).answer ≢ 0 → ((pop_call d s t h out).session ≡ s) × ((pop_call d s t h out).buffer ≡ out)
  pop-refused = pop-cases (λ (o : Popping). entry_code_of o.answer ≢ 0 → Kept o) d s t h out (λ a none r. (refl, refl)) (λ p g r. absurd (r refl))

  pub pop-none : (pop_call d s t h out).answer ≡ (Ok None) → ((pop_call d s t h out).session ≡ s) × ((pop_call d s t h out).buffer ≡ out)
  pop-none = pop-cases (λ (o : Popping). o.answer ≡ (Ok None) → Kept o) d s t h out (λ a none r. (refl, refl)) (λ p g r. absurd (entry-some (last s p) r))

-- ---- "Reading one entry answers none for 12 only"

pub none_only : (d s : List ℕ) (t h i : ℕ) (out : List ℕ) → (entry_call d s t h i out).answer ≡ (Ok None) → (read_call d s t h i 1 out).answer ≡ Err OutOfBounds
unfolding entry_call
none_only d s t h i out =
    read-cases (λ (o : Reading). one_of i o.answer ≡ (Ok None) → o.answer ≡ Err OutOfBounds) d s i 1 out
    (λ why e. ap Err (sym (refusal-back why) ∙ ap refusal_of e))
    t h
    (λ x p g e. absurd (entry-some i e))

pub none-outside : (d s : List ℕ) (t h i : ℕ) (out : List ℕ) → read_call d s t h i 1 out ≡ refused_read OutOfBounds out → entry_call d s t h i out ≡ entering (Ok None) out
none-outside d s t h i out e = entry_read d s t h i out (Err OutOfBounds) out (Ok None) e refl

-- ---- "Pop answers none for an absent or empty tape or an entry below start"

module _ (d s : List ℕ) (t h : ℕ) (out : List ℕ) (ok : usable d s ≡ true) (writer : cuts s t ≡ true) (p : ℕ) (found : find_handle s h ≡ Some p) where
  pub pop-of-absent : (seen_by s 16 p).listed ≡ false → pop_call d s t h out ≡ popping (Ok None) s out
  pop-of-absent l = pop_goes d s t h out ok writer p found ∙ pop-absent d s p out (seen_by s 16 p) refl l

  module _ (listed : (seen_by s 16 p).listed ≡ true) where
    pub pop-of-empty : (seen_by s 16 p).len / entry_size_of s p ≡ 0 → pop_call d s t h out ≡ popping (Ok None) s out
    pop-of-empty z = pop_goes d s t h out ok writer p found ∙ pop-empty d s p out (seen_by s 16 p) refl (entry_size_of s p) refl listed z

    pub pop-of-below : (seen_by s 16 p).len / entry_size_of s p ≢ 0 → last s p * entry_size_of s p < (seen_by s 16 p).start → pop_call d s t h out ≡ popping (Ok None) s out
    pop-of-below some low =
        let e = entry_size_of s p in
        let i = last s p in
        let v = seen_by s 16 p in
        pop_goes d s t h out ok writer p found
        ∙ pop-last d s p out v refl e refl listed some
        ∙ pop-unread d s p i out out OutOfBounds (read-outside d s 16 p i 1 out v refl e refl listed (out_below e v.start v.len i 1 low))

-- ---- what is read is all that is written: the buffer is as long as before, has the entries at its front, and behind them what it had

module _ (d s : List ℕ) (p i n : ℕ) (out : List ℕ) (room : n * entry_size_of s p ≤ length out) where
  filled-front : take (n * entry_size_of s p) (filled d s p i n out) ≡ served d s p (i * entry_size_of s p) (n * entry_size_of s p)
  filled-front =
      let bs = served d s p (i * entry_size_of s p) (n * entry_size_of s p) in
      let long : length bs ≡ n * entry_size_of s p = length-served d s p (i * entry_size_of s p) (n * entry_size_of s p) in
      ap (λ (k : ℕ). take k (put out 0 bs)) (sym long) ∙ part-put out 0 bs (omega arith)

  filled-past : drop (n * entry_size_of s p) (filled d s p i n out) ≡ drop (n * entry_size_of s p) out
  filled-past =
      let bs = served d s p (i * entry_size_of s p) (n * entry_size_of s p) in
      let long : length bs ≡ n * entry_size_of s p = length-served d s p (i * entry_size_of s p) (n * entry_size_of s p) in
      drop-put-above (n * entry_size_of s p) out 0 bs (omega arith)

module _ (d s : List ℕ) (t h i n : ℕ) (out : List ℕ) (x p : ℕ) (g : Readable d s t h i n out x p) where
  pub read-front : take (n * entry_size_of s p) (read_call d s t h i n out).buffer ≡ served d s p (i * entry_size_of s p) (n * entry_size_of s p)
  read-front = ap (λ (o : Reading). take (n * entry_size_of s p) o.buffer) (read_done d s t h i n out x p g) ∙ filled-front d s p i n out g.inside.room

  pub read_past : drop (n * entry_size_of s p) (read_call d s t h i n out).buffer ≡ drop (n * entry_size_of s p) out
  read_past = ap (λ (o : Reading). drop (n * entry_size_of s p) o.buffer) (read_done d s t h i n out x p g) ∙ filled-past d s p i n out g.inside.room

pub entry_past : (d s : List ℕ) (t h i : ℕ) (out : List ℕ) (x p : ℕ) → Readable d s t h i 1 out x p → drop (1 * entry_size_of s p) (entry_call d s t h i out).buffer ≡ drop (1 * entry_size_of s p) out
entry_past d s t h i out x p g = ap (λ (o : Entering). drop (1 * entry_size_of s p) o.buffer) (entry_done d s t h i out x p g) ∙ filled-past d s p i 1 out g.inside.room

module _ (d s : List ℕ) (t h : ℕ) (out : List ℕ) (p : ℕ) (g : Poppable d s t h out p) where
  pub pop-past : drop (1 * entry_size_of s p) (pop_call d s t h out).buffer ≡ drop (1 * entry_size_of s p) out
  pop-past = ap (λ (o : Popping). drop (1 * entry_size_of s p) o.buffer) (pop-done d s t h out p g) ∙ filled-past d s p (last s p) 1 out g.inside.room

pub length-read : (d s : List ℕ) (t h i n : ℕ) (out : List ℕ) → length (read_call d s t h i n out).buffer ≡ length out
length-read d s t h i n out =
    read-cases (λ (o : Reading). length o.buffer ≡ length out) d s i n out (λ why. refl) t h
    (λ x p g. length-put out 0 (served d s p (i * entry_size_of s p) (n * entry_size_of s p)))

pub length-entry : (d s : List ℕ) (t h i : ℕ) (out : List ℕ) → length (entry_call d s t h i out).buffer ≡ length out
unfolding entry_call
length-entry d s t h i out = length-read d s t h i 1 out

pub length-pop : (d s : List ℕ) (t h : ℕ) (out : List ℕ) → length (pop_call d s t h out).buffer ≡ length out
length-pop d s t h out =
    pop-cases (λ (o : Popping). length o.buffer ≡ length out) d s t h out (λ a none. refl)
    (λ p g. length-put out 0 (served d s p (last s p * entry_size_of s p) (1 * entry_size_of s p)))

-- ---- the layout rule is kept

pub begun-pop : (d s : List ℕ) (t h : ℕ) (out : List ℕ) → begun s ≡ true → begun (pop_call d s t h out).session ≡ true
begun-pop d s t h out b =
    pop-cases (λ (o : Popping). begun o.session ≡ true) d s t h out (λ a none. b)
    (λ p g. →begun _ (begun-cut_to s (begun→ s b) p (handle-found s h p g.found).low (last s p * entry_size_of s p)))
