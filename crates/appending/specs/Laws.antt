-- Laws of the call: the contract leaves nothing open, a refused call changes nothing, and both areas keep their rules, their lengths and their bytes.
-- Assumes nothing.
use Rattle.std.specs.Prelude.{◌≡◌, refl, ◌≢◌, false, List, ℕ, ◌+◌, ◌/◌, ◌%◌, ◌≤◌, ◌<◌, ◌^◌, eqb, ltb, Option, Some, None}
use Rattle.std.proofs.Common.{sym, ◌∙◌, arith}
use Rattle.std.proofs.Math.Bool.{true}
use borrow.Author.Tests.{eqb-true, ltb-false}
use Rattle.std.proofs.Math.ListN.{length}
use Rattle.octets.specs.Cases.{picked}
use Rattle.octets.specs.Number.{Bytes}
use Rattle.answers.specs.Answers.{code_of}
use Rattle.answers.specs.Outcome.{Outcome, outcome, refused_at, Unchanged}
use Rattle.answers.specs.Answers.{Answer}
use Rattle.answers.specs.declared.Refusal.{Refusal}
use Rattle.answers.specs.declared.Refusal.TheVariants.{Unusable, Unknown, Absent, NotWhole, TooLarge, NoSlot, Missing}
use Rattle.layout.specs.Disk as D
use Rattle.layout.specs.Session.{entry_size_of, ring_len, handle_number, Begun}
use Rattle.disk.specs.StepLaws.{directory-low}
use Rattle.session.specs.Rows.{handle_of, find_handle}
use Rattle.session.specs.declared.tape_rows.Staged.{Staged}
use Rattle.session.specs.RowLaws.{handle-entry}
use Rattle.rolling_tape.specs.Removal.{areas, Areas}
use Rattle.cached_tape.specs.Putting.{put_in}
use Rattle.cached_tape.specs.PutLaws.{sound-put_in, slots-put_in, begun-put_in, length-put_in-disk, length-put_in-session, bytes-put_in-disk, bytes-put_in-session}
use Rattle.beginning.specs.Laws.{both-unique}
use Rattle.beginning.specs.Transactions.{usable}
use Rattle.beginning.specs.Ways.{usable-begun, usable-disk, →usable}
use Rattle.staging.specs.Seeing.{directory_of, writes, seen_by, touched_as}
use Rattle.staging.specs.Ways.{handle-found}
use Rattle.staging.specs.Laws.{unwritten-held}
use Rattle.appending.specs.Room.{no_room}
use Rattle.appending.specs.Calls.{done_in, put_on, put_where, append_on, append_in, put_call}
use Rattle.appending.specs.CallWays.{seen-touched, put-room, append-goes, call-goes}

-- ---- the contract leaves nothing open

pub put-unique : (d s : List ℕ) (t h : ℕ) (bs : List ℕ) (r r' : Answer) (d₁ d₂ s₁ s₂ : List ℕ) → put_call d s t h bs ≡ outcome r d₁ s₁ → put_call d s t h bs ≡ outcome r' d₂ s₂
    → (r ≡ r') × ((d₁ ≡ d₂) × (s₁ ≡ s₂))
put-unique d s t h bs r r' d₁ d₂ s₁ s₂ e f = both-unique (sym e ∙ f)

-- ---- what holds of each way out holds of the call

-- bytes that can be put behind tape p
pub record Fitting (d s bs : List ℕ) (p place : ℕ) : Type 0 where
  pub listed : (seen_by s 16 p).listed ≡ true
  pub whole : length bs % entry_size_of s p ≡ 0
  pub fits : (seen_by s 16 p).len + length bs ≤ 0xffff_ffff_ffff_ffff
  pub there : directory_of d s p ≡ Some place
  pub room : no_room d s p (length bs) ≡ false

-- what a call that is served has found
pub record Goes (d s : List ℕ) (t h : ℕ) (bs : List ℕ) (p place : ℕ) : Type 0 where
  pub sound : usable d s ≡ true
  pub writer : writes s t ≡ true
  pub found : find_handle s h ≡ Some p
  pub on : Fitting d s bs p place

-- "Append returns the staged length before it", in entries
abbrev pub served : List ℕ → List ℕ → List ℕ → ℕ → ℕ → Outcome
served d s bs p place = done_in ((touched_as s p).len / entry_size_of s p) (put_in (areas d s) place p (touched_as s p) bs)

module _ (P : Outcome → Type 0) (d s bs : List ℕ) (no : (why : Refusal) → P (refused_at why d s)) where
  -- on a tape
  module _ (p : ℕ) (goes : (place : ℕ) → Fitting d s bs p place → P (served d s bs p place)) where
    into : (seen_by s 16 p).listed ≡ true → eqb (length bs % entry_size_of s p) 0 ≡ true → ltb 0xffff_ffff_ffff_ffff ((seen_by s 16 p).len + length bs) ≡ false
        → (q : Option ℕ) → directory_of d s p ≡ q → P (put_where d s p bs q)
    unfolding put_on
    into l w f (Some place) there =
        picked P (no_room d s p (length bs)) _ _ (λ full. no NoSlot)
        (λ room.
        goes place
        (record {
          listed = l;
          whole = eqb-true (length bs % entry_size_of s p) 0 w;
          fits = ltb-false 0xffff_ffff_ffff_ffff ((seen_by s 16 p).len + length bs) f;
          there = there;
          room = room;
        }))
    into l w f None there = no Missing

    on-cases : P (append_on d s p bs)
    unfolding append_on
    on-cases =
        picked P (seen_by s 16 p).listed _ _
        (λ l.
        picked P (eqb (length bs % entry_size_of s p) 0) _ _
        (λ w.
        picked P (ltb 0xffff_ffff_ffff_ffff ((seen_by s 16 p).len + length bs)) _ _ (λ f. no TooLarge)
        (λ f. into l w f (directory_of d s p) refl))
        (λ w. no NotWhole))
        (λ l. no Absent)

  pub put-cases : (t h : ℕ) → ((p place : ℕ) → Goes d s t h bs p place → P (served d s bs p place)) → P (put_call d s t h bs)
  unfolding put_call
  put-cases t h goes =
      picked P (usable d s) _ _
      (λ ok. picked P (writes s t) _ _ (λ w. on ok w (find_handle s h) refl) (λ w. no Unknown))
      (λ ok. no Unusable)
    where
      on : usable d s ≡ true → writes s t ≡ true → (q : Option ℕ) → find_handle s h ≡ q → P (append_in d s bs q)
      on ok w (Some p) e = on-cases p (λ place f. goes p place (record { sound = ok; writer = w; found = e; on = f }))
      on ok w None e = no Unknown

-- a call that has found all that is served
pub put-done : (d s : List ℕ) (t h : ℕ) (bs : List ℕ) (p place : ℕ) → Goes d s t h bs p place → put_call d s t h bs ≡ served d s bs p place
put-done d s t h bs p place g =
    let f = g.on in
    call-goes d s t h bs g.sound g.writer p g.found
    ∙ append-goes d s p bs (seen_by s 16 p) refl (handle_of s p) refl f.listed (rw (handle-entry s p (handle_of s p) refl) f.whole) f.fits place f.there
    ∙ put-room d s p place bs f.room

-- ---- a refused call changes no byte

pub put_refused : (d s : List ℕ) (t h : ℕ) (bs : List ℕ) → code_of (put_call d s t h bs).answer ≢ 0
    → ((put_call d s t h bs).disk ≡ d) × ((put_call d s t h bs).session ≡ s)
put_refused d s t h bs = put-cases (Unchanged d s) d s bs (λ why r. (refl, refl)) t h (λ p place g r. absurd (r refl))

-- ---- the rules, the lengths and the bytes are kept

-- what a put asks for
pub record Ready (a : Areas) (place p : ℕ) (row : Staged) (bs : List ℕ) : Type 0 where
  pub sound : D.Sound a.disk
  pub begun : Begun a.session
  pub there : place < 8
  pub low : p < 8
  pub held : handle_number a.session p ≢ 0
  pub pending : row.unwritten ≤ ring_len a.session p
  pub fits : row.len + length bs < 2 ^ 64

pub ready : (d s : List ℕ) (t h : ℕ) (bs : List ℕ) (p place : ℕ) → Goes d s t h bs p place → Ready (areas d s) place p (touched_as s p) bs
ready d s t h bs p place g =
    let b = usable-begun d s g.sound in
    let f = handle-found s h p g.found in
    record {
      sound = usable-disk d s g.sound;
      begun = b;
      there = directory-low d _ place g.on.there;
      low = f.low;
      held = f.held;
      pending = unwritten-held s p b f.low f.held;
      fits = omega (arith, seen-touched s p, g.on.fits);
    }

module _ (d s : List ℕ) (t h : ℕ) (bs : List ℕ) where
  pub put-sound : usable d s ≡ true → usable (put_call d s t h bs).disk (put_call d s t h bs).session ≡ true
  put-sound ok =
      put-cases (λ (o : Outcome). usable o.disk o.session ≡ true) d s bs (λ why. ok) t h
      (λ p place g.
      let r = ready d s t h bs p place g in
      →usable _ _
      (sound-put_in (areas d s) place p (touched_as s p) r.sound r.begun r.there r.low r.held r.pending bs r.fits)
      (begun-put_in (areas d s) place p (touched_as s p) r.sound r.begun r.there r.low r.held r.pending bs r.fits))

  pub put-slots : D.slots (put_call d s t h bs).disk ≡ D.slots d
  put-slots =
      put-cases (λ (o : Outcome). D.slots o.disk ≡ D.slots d) d s bs (λ why. refl) t h
      (λ p place g.
      let r = ready d s t h bs p place g in
      slots-put_in (areas d s) place p (touched_as s p) r.sound r.begun r.there r.low r.held r.pending bs r.fits)

  pub put-lengths : (length (put_call d s t h bs).disk ≡ length d) × (length (put_call d s t h bs).session ≡ length s)
  put-lengths =
      put-cases (λ (o : Outcome). (length o.disk ≡ length d) × (length o.session ≡ length s)) d s bs (λ why. (refl, refl)) t h
      (λ p place g.
      let r = ready d s t h bs p place g in (
        length-put_in-disk (areas d s) place p (touched_as s p) r.sound r.begun r.there r.low r.held r.pending bs r.fits,
        length-put_in-session (areas d s) place p (touched_as s p) r.sound r.begun r.there r.low r.held r.pending bs r.fits,
      ))

  pub put-bytes : Bytes d → Bytes s → Bytes bs → Bytes (put_call d s t h bs).disk × Bytes (put_call d s t h bs).session
  put-bytes disk session new =
      put-cases (λ (o : Outcome). Bytes o.disk × Bytes o.session) d s bs (λ why. (disk, session)) t h
      (λ p place g.
      let r = ready d s t h bs p place g in (
        bytes-put_in-disk (areas d s) place p (touched_as s p) r.sound r.begun r.there r.low r.held r.pending bs r.fits disk session new,
        bytes-put_in-session (areas d s) place p (touched_as s p) r.sound r.begun r.there r.low r.held r.pending bs r.fits session new,
      ))
