-- Laws of the calls: the contracts leave nothing open, a refused call changes nothing, the layout rule is kept, and what is staged means what it says.
-- Assumes nothing.
use Rattle.std.specs.Prelude.{◌≡◌, refl, ◌≢◌, Bool, ◌&&◌, List, ℕ, ◌+◌, ◌*◌, ◌-◌, ◌/◌, ◌≤◌, ◌<◌, ◌^◌, eqb, Option, Some, None, Ok}
use Rattle.std.proofs.Common.{sym, ap, ◌∙◌, div-mul-le_self, mul-le-mul_right}
use Rattle.std.proofs.Math.Bool.{true}
use native.Mathlib.Omega.{arith}
use Rattle.octets.specs.Cases.{picked, decide}
use Rattle.octets.specs.Number.{Bytes, num_at-lt}
use Rattle.answers.specs.Answers.{code_of}
use Rattle.answers.specs.Answers.{Answer}
use Rattle.answers.specs.declared.Refusal.{Refusal}
use Rattle.answers.specs.declared.Refusal.TheVariants.{Unusable, Unknown, Absent, StartPastLength, LongerCut}
use Rattle.components.specs.Bounds.{up_to, shifted_start}
use Rattle.components.specs.BoundsLaws.{→upTo}
use Rattle.layout.specs.Session.{view_at, handle_number, ring_len, Begun, begun}
use Rattle.layout.specs.SessionLaws.{begun→, →begun}
use Rattle.session.specs.Rows.{view_of, handle_of, staged_of, find_handle}
use Rattle.session.specs.RowLaws.{StagedFits}
use Rattle.session.specs.Meaning.{session_of, with_staged}
use Rattle.session.specs.MeaningLaws.{session-put_staged}
use Rattle.session.specs.KeepLaws.{begun-ready, begun-put_staged}
use Rattle.session.specs.declared.views.View.{View}
use Rattle.beginning.specs.Transactions.{After, after, refused, usable}
use Rattle.staging.specs.Seeing.{writes, cuts, seen_by, touched_as, len_call, start_call}
use Rattle.staging.specs.Shifting.{shifted, shift_on, shift_in, shift_call}
use Rattle.staging.specs.Cutting.{cut_to, cut_on, drop_on, cut_in, drop_in, cut_call, drop_call}
use Rattle.staging.specs.Ways.{handle-found, touched-before, touched-now, drop-some, shift-served, cut-served, shift-goes, cut-goes, drop-goes}

-- ---- the contracts leave nothing open

after_same : (o : After) (r r' : Answer) (u v : List ℕ) → o ≡ after r u → o ≡ after r' v → (r ≡ r') × (u ≡ v)
after_same o r r' u v e f =
    let same : after r u ≡ after r' v = sym e ∙ f in
    (ap (λ (x : After). x.answer) same, ap (λ (x : After). x.session) same)

module _ (d s : List ℕ) (t h : ℕ) (r r' : Answer) where
  pub len-unique : r ≡ len_call d s t h → r' ≡ len_call d s t h → r ≡ r'
  len-unique e f = e ∙ sym f

  pub start-unique : r ≡ start_call d s t h → r' ≡ start_call d s t h → r ≡ r'
  start-unique e f = e ∙ sym f

  -- the same answer, and the same bytes
  module _ (i : ℕ) (u v : List ℕ) where
    pub shift-unique : shift_call d s t h i ≡ after r u → shift_call d s t h i ≡ after r' v → (r ≡ r') × (u ≡ v)
    shift-unique = after_same (shift_call d s t h i) r r' u v

    pub cut-unique : cut_call d s t h i ≡ after r u → cut_call d s t h i ≡ after r' v → (r ≡ r') × (u ≡ v)
    cut-unique = after_same (cut_call d s t h i) r r' u v

    pub drop-unique : drop_call d s t h i ≡ after r u → drop_call d s t h i ≡ after r' v → (r ≡ r') × (u ≡ v)
    drop-unique = after_same (drop_call d s t h i) r r' u v

-- ---- what holds of each way out holds of the call

-- what a call that is served has found: w tells whether the open writer is the one that it asks for, i is an index in entries
pub record Goes (d s : List ℕ) (w : Bool) (h p i : ℕ) : Type 0 where
  pub sound : usable d s ≡ true
  pub writer : w ≡ true
  pub found : find_handle s h ≡ Some p
  pub listed : (seen_by s 16 p).listed ≡ true
  pub within : up_to (handle_of s p).entry i (seen_by s 16 p).len ≡ true

-- the entries that are left of a tape without its last ones
abbrev pub left : List ℕ → ℕ → ℕ → ℕ
left s p n = (seen_by s 16 p).len / (handle_of s p).entry - n

module _ (P : After → Type 0) (d s : List ℕ) (t h i : ℕ) (no : (why : Refusal) → P (refused why s)) where
  pub shift-cases : ((p : ℕ) → Goes d s (writes s t) h p i → P (after (Ok 0) (shifted s p (i * (handle_of s p).entry)))) → P (shift_call d s t h i)
  unfolding shift_call shift_on
  shift-cases goes =
      picked P (usable d s) _ _
      (λ ok. picked P (writes s t) _ _ (λ w. on ok w (find_handle s h) refl) (λ w. no Unknown))
      (λ ok. no Unusable)
    where
      on : usable d s ≡ true → writes s t ≡ true → (q : Option ℕ) → find_handle s h ≡ q → P (shift_in s i q)
      on ok w (Some p) e =
          picked P (seen_by s 16 p).listed _ _
          (λ l.
          picked P (up_to (handle_of s p).entry i (seen_by s 16 p).len) _ _
          (λ u. goes p (record { sound = ok; writer = w; found = e; listed = l; within = u }))
          (λ u. no StartPastLength))
          (λ l. no Absent)
      on ok w None e = no Unknown

  cut-on-cases : (p j : ℕ) → ((seen_by s 16 p).listed ≡ true → up_to (handle_of s p).entry j (seen_by s 16 p).len ≡ true → P (after (Ok 0) (cut_to s p (j * (handle_of s p).entry)))) → P (cut_on s p j)
  unfolding cut_on
  cut-on-cases p j goes =
      picked P (seen_by s 16 p).listed _ _
      (λ l. picked P (up_to (handle_of s p).entry j (seen_by s 16 p).len) _ _ (λ u. goes l u) (λ u. no LongerCut))
      (λ l. no Absent)

  pub cut-cases : ((p : ℕ) → Goes d s (cuts s t) h p i → P (after (Ok 0) (cut_to s p (i * (handle_of s p).entry)))) → P (cut_call d s t h i)
  unfolding cut_call
  cut-cases goes =
      picked P (usable d s) _ _
      (λ ok. picked P (cuts s t) _ _ (λ w. on ok w (find_handle s h) refl) (λ w. no Unknown))
      (λ ok. no Unusable)
    where
      on : usable d s ≡ true → cuts s t ≡ true → (q : Option ℕ) → find_handle s h ≡ q → P (cut_in s i q)
      on ok w (Some p) e = cut-on-cases p i (λ l u. goes p (record { sound = ok; writer = w; found = e; listed = l; within = u }))
      on ok w None e = no Unknown

  pub drop-cases : ((p : ℕ) → Goes d s (cuts s t) h p (left s p i) → P (after (Ok 0) (cut_to s p (left s p i * (handle_of s p).entry)))) → P (drop_call d s t h i)
  unfolding drop_call drop_on
  drop-cases goes =
      picked P (usable d s) _ _
      (λ ok. picked P (cuts s t) _ _ (λ w. on ok w (find_handle s h) refl) (λ w. no Unknown))
      (λ ok. no Unusable)
    where
      on : usable d s ≡ true → cuts s t ≡ true → (q : Option ℕ) → find_handle s h ≡ q → P (drop_in s i q)
      on ok w (Some p) e = cut-on-cases p (left s p i) (λ l u. goes p (record { sound = ok; writer = w; found = e; listed = l; within = u }))
      on ok w None e = no Unknown

-- a call that has found all that is served; of a drop nothing is left to be refused behind 11
pub shift-done : (d s : List ℕ) (t h p i : ℕ) → Goes d s (writes s t) h p i → shift_call d s t h i ≡ after (Ok 0) (shifted s p (i * (handle_of s p).entry))
shift-done d s t h p i g =
    shift-goes d s t h i g.sound g.writer p g.found
    ∙ shift-served s p i (seen_by s 16 p) refl (handle_of s p) refl g.listed g.within

pub cut-done : (d s : List ℕ) (t h p i : ℕ) → Goes d s (cuts s t) h p i → cut_call d s t h i ≡ after (Ok 0) (cut_to s p (i * (handle_of s p).entry))
cut-done d s t h p i g =
    cut-goes d s t h i g.sound g.writer p g.found
    ∙ cut-served s p i (seen_by s 16 p) refl (handle_of s p) refl g.listed g.within

pub left-within : (s : List ℕ) (p n : ℕ) → up_to (handle_of s p).entry (left s p n) (seen_by s 16 p).len ≡ true
left-within s p n =
    let e = (handle_of s p).entry in
    let len = (seen_by s 16 p).len in
    let fewer : left s p n * e ≤ len / e * e = mul-le-mul_right e (omega arith) in
    →upTo e (left s p n) len (omega (arith, div-mul-le_self len e))

pub drop-done : (d s : List ℕ) (t h p n : ℕ) → usable d s ≡ true → cuts s t ≡ true → find_handle s h ≡ Some p → (seen_by s 16 p).listed ≡ true
    → drop_call d s t h n ≡ after (Ok 0) (cut_to s p (left s p n * (handle_of s p).entry))
drop-done d s t h p n ok w found listed =
    drop-goes d s t h n ok w p found
    ∙ drop-some s p n (seen_by s 16 p) refl (handle_of s p) refl
    ∙ cut-served s p (left s p n) (seen_by s 16 p) refl (handle_of s p) refl listed (left-within s p n)

-- ---- a refused call changes no byte

module _ (d s : List ℕ) (t h i : ℕ) where
  abbrev Kept : After → Type 0
  Kept o = code_of o.answer ≢ 0 → o.session ≡ s

  pub shift-refused : code_of (shift_call d s t h i).answer ≢ 0 → (shift_call d s t h i).session ≡ s
  shift-refused = shift-cases Kept d s t h i (λ why r. refl) (λ p g r. absurd (r refl))

  pub cut-refused : code_of (cut_call d s t h i).answer ≢ 0 → (cut_call d s t h i).session ≡ s
  cut-refused = cut-cases Kept d s t h i (λ why r. refl) (λ p g r. absurd (r refl))

  pub drop-refused : code_of (drop_call d s t h i).answer ≢ 0 → (drop_call d s t h i).session ≡ s
  drop-refused = drop-cases Kept d s t h i (λ why r. refl) (λ p g r. absurd (r refl))

-- ---- the layout rule is kept, whatever the numbers are

-- the bytes that the files lack are held: a tape that is touched now has none
pub unwritten-held : (s : List ℕ) (p : ℕ) → Begun s → p < 8 → handle_number s p ≢ 0 → (touched_as s p).unwritten ≤ ring_len s p
unfolding touched_as staged_of
unwritten-held s p b low held =
    decide (staged_of s p).touched
    (λ e. rw e (b.tapes p low held).ring.pending)
    (λ e. rw e (omega arith))

module _ (s : List ℕ) (begun : Begun s) (p : ℕ) (low : p < 8) where
  pub begun-shifted : (start : ℕ) → Begun (shifted s p start)
  unfolding shifted
  begun-shifted start = begun-put_staged s begun p low _ (unwritten-held s p begun low)

  pub begun-cut_to : (len : ℕ) → Begun (cut_to s p len)
  unfolding cut_to
  begun-cut_to len = begun-put_staged s begun p low _ (λ held. omega arith)

module _ (d s : List ℕ) (t h i : ℕ) where
  abbrev Begins : After → Type 0
  Begins o = begun o.session ≡ true

  pub begun-shift : begun s ≡ true → begun (shift_call d s t h i).session ≡ true
  begun-shift b =
      shift-cases Begins d s t h i (λ why. b) (λ p g. →begun _ (begun-shifted s (begun→ s b) p (handle-found s h p g.found).low (i * (handle_of s p).entry)))

  pub begun-cut : begun s ≡ true → begun (cut_call d s t h i).session ≡ true
  begun-cut b =
      cut-cases Begins d s t h i (λ why. b) (λ p g. →begun _ (begun-cut_to s (begun→ s b) p (handle-found s h p g.found).low (i * (handle_of s p).entry)))

  pub begun-drop : begun s ≡ true → begun (drop_call d s t h i).session ≡ true
  begun-drop b =
      drop-cases Begins d s t h i (λ why. b) (λ p g. →begun _ (begun-cut_to s (begun→ s b) p (handle-found s h p g.found).low (left s p i * (handle_of s p).entry)))

-- ---- what is staged

module _ (s : List ℕ) (bytes : Bytes s) (p : ℕ) where
  staged-fits : StagedFits (staged_of s p)
  unfolding staged_of
  staged-fits = record { base = num_at-lt 8 s _ bytes; len = num_at-lt 8 s _ bytes; start = num_at-lt 8 s _ bytes; unwritten = num_at-lt 8 s _ bytes }

  view-len : (t : ℕ) → (view_of s t p).len < 256 ^ 8
  unfolding view_of
  view-len t = num_at-lt 8 s (view_at t p + 8) bytes

  view-start : (t : ℕ) → (view_of s t p).start < 256 ^ 8
  unfolding view_of
  view-start t = num_at-lt 8 s (view_at t p + 16) bytes

  -- numbers that are read out of bytes fit
  pub touched-fits : StagedFits (touched_as s p)
  touched-fits =
      decide (staged_of s p).touched
      (λ e. rw (← touched-before s p (staged_of s p) refl e) staged-fits)
      (λ e.
      rw (← touched-now s p (staged_of s p) refl (view_of s 16 p) refl e)
      (record { base = view-len 16; len = view-len 16; start = view-start 16; unwritten = omega arith }))

  pub seen-fits : (t : ℕ) → (seen_by s t p).len < 256 ^ 8
  unfolding seen_by
  seen-fits t = picked (λ (v : View). v.len < 256 ^ 8) (eqb t 16 && (staged_of s p).touched) _ _ (λ e. staged-fits.len) (λ e. view-len t)

  module _ (begun : Begun s) (low : p < 8) where
    pub session-shifted : (start : ℕ) → start < 256 ^ 8 → session_of (shifted s p start) ≡ with_staged (session_of s) p (record { touched = true; base = (touched_as s p).base; len = (touched_as s p).len; start = shifted_start (touched_as s p).start start; unwritten = (touched_as s p).unwritten })
    unfolding shifted
    session-shifted start f =
        let g = touched-fits in
        session-put_staged s p _ (begun-ready s begun) low
        (record { base = g.base; len = g.len; start = omega (arith, g.start); unwritten = g.unwritten })

    pub session-cut : (len : ℕ) → len < 256 ^ 8 → session_of (cut_to s p len) ≡ with_staged (session_of s) p (record { touched = true; base = (touched_as s p).base; len = len; start = (touched_as s p).start; unwritten = 0 })
    unfolding cut_to
    session-cut len f =
        let g = touched-fits in
        session-put_staged s p _ (begun-ready s begun) low
        (record { base = g.base; len = f; start = g.start; unwritten = omega arith })
