-- What later work builds on. The contracts leave nothing open; a refused call changes nothing; what a call makes of areas that keep their rules keeps them;
-- and what a served call means. Assumes nothing.
use Rattle.std.specs.Prelude.{◌≡◌, refl, ◌≢◌, true, false, ◌&&◌, List, ℕ, ◌+◌, ◌≤◌, ◌<◌, ◌^◌, ltb, Option, Some, None, Ok, Err}
use Rattle.std.proofs.Common.{sym, subst, ◌∙◌, arith}
use Rattle.std.proofs.Math.Path.{ap}
use Rattle.std.proofs.Math.ListN.{length}
use Rattle.octets.specs.Cases.{decide, equal}
use Rattle.octets.specs.Number.{Bytes, num_at-lt}
use Rattle.octets.specs.First.{count, count_same}
use Rattle.answers.specs.Answers.{refusal_number, code_of}
use Rattle.answers.specs.Answers.{Answer}
use Rattle.answers.specs.declared.Refusal.{Refusal}
use Rattle.answers.specs.declared.Refusal.TheVariants.{Unusable, Unknown, WriterOpen, Wait, Full, BadName, ReservedName, BadSize, AlreadyOpen, NotWhole, Absent, OutOfBounds, StartPastLength, LongerCut, NoSlot, Missing, BadList, TooLarge}
use Rattle.areas.specs.Format as A
use Rattle.answers.specs.Outcome.{Outcome, outcome}
use Rattle.areas.specs.Format.{format_step}
use Rattle.areas.specs.FormatLaws.{Served, served, refused-same}
use Rattle.areas.specs.Format.{Formatted}
use Rattle.areas.specs.declared.FormatError.TheVariants.{BadSlotCount, TooSmall}
use Rattle.layout.specs.Session.{session_bytes, head_at, Begun, begun}
use Rattle.layout.specs.SessionLaws.{begun→, →begun}
use Rattle.session.specs.declared.head.Head.{Head}
use Rattle.session.specs.declared.transactions.Kind.{Kind}
use Rattle.session.specs.declared.transactions.Kind.TheVariants.{Reader, Truncate}
use Rattle.session.specs.declared.transactions.Transaction.{Transaction}
use Rattle.session.specs.Rows.{head_of, copy_view, kind_code, free_reader, put_transaction}
use Rattle.session.specs.RowLaws.{HeadFits, only-copy_view, only-put_transaction}
use Rattle.session.specs.Meaning.{Session, session_of, with_head, with_views, with_transaction}
use Rattle.session.specs.MeaningLaws.{Ready, head_at_lem, transaction-at, ready-put_transaction, ready-copy_view, session-put_transaction, session-copy_view, session-put_head, is_open}
use Rattle.session.specs.KeepLaws.{begun-ready, begun-put_head, begun-copy_view, begun-put_transaction, bytes-put_head, bytes-copy_view, bytes-put_transaction}
use Rattle.beginning.specs.Disks.{answered, format_call}
use Rattle.beginning.specs.Transactions.{After, after, refused, usable, is_open_at, is_older, waiting_for, begun_at, begin_at}
use Rattle.beginning.specs.Calls.{append_call, truncate_call, reader_call}
use Rattle.beginning.specs.Sessions.{store_call}
use Rattle.beginning.specs.Ways.{usable-begun, free-low, free-closed, numbers-out, begins-at, truncate-unusable, truncate-open, truncate-begins, reader-unusable, reader-full, reader-begins}

-- ---- the contracts leave nothing open

pub after-unique : {r r' : Answer} {s s' : List ℕ} → after r s ≡ after r' s' → (r ≡ r') × (s ≡ s')
after-unique e = (ap (λ (o : After). o.answer) e, ap (λ (o : After). o.session) e)

pub both-unique : {r r' : Answer} {d d' s s' : List ℕ} → outcome r d s ≡ outcome r' d' s' → (r ≡ r') × ((d ≡ d') × (s ≡ s'))
both-unique e = (ap (λ (o : Outcome). o.answer) e, (ap (λ (o : Outcome). o.disk) e, ap (λ (o : Outcome). o.session) e))

-- two results that satisfy a function's contract are the same answer and the same areas
module _ (d s : List ℕ) (r r' : Answer) (t t' : List ℕ) where
  pub append-unique : append_call d s ≡ after r t → append_call d s ≡ after r' t' → (r ≡ r') × (t ≡ t')
  append-unique e f = after-unique (sym e ∙ f)

  pub truncate-unique : truncate_call d s ≡ after r t → truncate_call d s ≡ after r' t' → (r ≡ r') × (t ≡ t')
  truncate-unique e f = after-unique (sym e ∙ f)

  pub reader-unique : reader_call d s ≡ after r t → reader_call d s ≡ after r' t' → (r ≡ r') × (t ≡ t')
  reader-unique e f = after-unique (sym e ∙ f)

  pub store-unique : store_call d s ≡ after r t → store_call d s ≡ after r' t' → (r ≡ r') × (t ≡ t')
  store-unique e f = after-unique (sym e ∙ f)

pub format-unique : (d s : List ℕ) (n : ℕ) (r r' : Answer) (d₁ d₂ s₁ s₂ : List ℕ) → format_call d s n ≡ outcome r d₁ s₁ → format_call d s n ≡ outcome r' d₂ s₂
    → (r ≡ r') × ((d₁ ≡ d₂) × (s₁ ≡ s₂))
format-unique d s n r r' d₁ d₂ s₁ s₂ e f = both-unique (sym e ∙ f)

-- ---- a refusal's number is none of a served call's

pub refusal-some : (why : Refusal) → refusal_number why ≢ 0
refusal-some Unusable e = omega arith
refusal-some Unknown e = omega arith
refusal-some WriterOpen e = omega arith
refusal-some (Wait n) e = omega arith
refusal-some Full e = omega arith
refusal-some BadName e = omega arith
refusal-some ReservedName e = omega arith
refusal-some BadSize e = omega arith
refusal-some AlreadyOpen e = omega arith
refusal-some NotWhole e = omega arith
refusal-some Absent e = omega arith
refusal-some OutOfBounds e = omega arith
refusal-some StartPastLength e = omega arith
refusal-some LongerCut e = omega arith
refusal-some NoSlot e = omega arith
refusal-some Missing e = omega arith
refusal-some BadList e = omega arith
refusal-some TooLarge e = omega arith

-- ---- a new disk

-- the numbers are those of `areas`
format-code : (a : Formatted) → code_of (answered a) ≡ A.code_of a
format-code (Ok _) = refl
format-code (Err BadSlotCount) = refl
format-code (Err TooSmall) = refl

module _ (d s : List ℕ) (n : ℕ) where
  pub format-refused : code_of (format_call d s n).answer ≢ 0 → ((format_call d s n).disk ≡ d) × ((format_call d s n).session ≡ s)
  unfolding format_call
  format-refused r = refused-same d s n (λ e. r (format-code (format_step d s n).answer ∙ e))

  -- an empty disk, and a session area that holds no session; both keep their rules
  pub format-served : code_of (format_call d s n).answer ≡ 0 → Served n (A.outcome (Ok tt) (format_call d s n).disk (format_call d s n).session)
  unfolding format_call
  format-served e =
      let m = served d s n (sym (format-code (format_step d s n).answer) ∙ e) in
      record {
        disk-sound = m.disk-sound;
        disk-empty = m.disk-empty;
        session-sound = m.session-sound;
        no-session = m.no-session;
        none-running = m.none-running;
      }

-- ---- a transaction in a place: the rule, the bytes, the meaning

-- a session with a transaction more
abbrev pub next_head : Head → Head
next_head h = record { epoch = h.epoch; cut = h.cut; side = h.side; last_transaction = h.last_transaction + 1; last_handle = h.last_handle }

abbrev pub begun_in : Session → ℕ → Kind → Session
begun_in m t k =
    with_head
    (with_views (with_transaction m t (record { kind = k; number = m.head.last_transaction + 1; epoch = m.head.epoch })) t (m.view 17))
    (next_head m.head)

-- the numbers of a head that is read are 64-bit ones, and so is the next one's where there is one
pub next_fits : (s : List ℕ) → Bytes s → (head_of s).last_transaction ≢ 0xffff_ffff_ffff_ffff → HeadFits (next_head (head_of s))
unfolding head_of
next_fits s bytes more =
    let last : (head_of s).last_transaction < 256 ^ 8 = num_at-lt 8 s (head_at + 24) bytes in
    record { epoch = num_at-lt 8 s head_at bytes; transaction = omega arith; handle = num_at-lt 8 s (head_at + 32) bytes }

module _ (s : List ℕ) (t : ℕ) (k : Kind) (low : t < 17) where
  pub begun-begun_at : Begun s → (t < 16 → kind_code k ≤ 1) → (t ≡ 16 → kind_code k ≢ 1) → Begun (begun_at s t k)
  unfolding begun_at
  begun-begun_at b reader writer =
      begun-put_head _ (begun-copy_view _ (begun-put_transaction s b t (record { kind = k; number = (head_of s).last_transaction + 1; epoch = (head_of s).epoch }) low reader writer) 17 t (omega arith) (omega arith))
      (next_head (head_of s))

  pub bytes-begun_at : session_bytes ≤ length s → Bytes s → Bytes (begun_at s t k)
  unfolding begun_at
  bytes-begun_at long bytes =
      let r : Transaction = record { kind = k; number = (head_of s).last_transaction + 1; epoch = (head_of s).epoch } in
      let a = put_transaction s t r in
      let la : length a ≡ length s = (only-put_transaction s t r).long in
      let b = copy_view a 17 t in
      let lb : length b ≡ length a = (only-copy_view a 17 t (omega arith)).long in
      bytes-put_head b (bytes-copy_view a (bytes-put_transaction s bytes t r (omega arith)) 17 t (omega arith) (omega arith)) (next_head (head_of s)) (omega arith)

  pub session-begun_at : Ready s → HeadFits (next_head (head_of s)) → session_of (begun_at s t k) ≡ begun_in (session_of s) t k
  unfolding begun_at
  session-begun_at ready fits =
      let r : Transaction = record { kind = k; number = (head_of s).last_transaction + 1; epoch = (head_of s).epoch } in
      let a = put_transaction s t r in
      let ra = ready-put_transaction s t r ready low in
      let b = copy_view a 17 t in
      let rb = ready-copy_view a 17 t ra (omega arith) (omega arith) in
      session-put_head b (next_head (head_of s)) rb fits
      ∙ ap (λ (m : Session). with_head m (next_head (head_of s))) (session-copy_view a 17 t ra (omega arith) (omega arith))
      ∙ ap (λ (m : Session). with_head (with_views m t (m.view 17)) (next_head (head_of s)))
      (session-put_transaction s t r ready low (record { number = fits.transaction; epoch = fits.epoch }))
      ∙ ap (λ (h : Head). with_head (with_views (with_transaction (session_of s) t (record { kind = k; number = h.last_transaction + 1; epoch = h.epoch })) t ((session_of s).view 17)) (next_head h)) (sym (head_at_lem s))

pub waits-is : (s : List ℕ) (epoch : ℕ) → waiting_for s epoch ≡ count (λ t. is_open ((session_of s).transaction t).kind && ltb ((session_of s).transaction t).epoch epoch) 16 0
unfolding waiting_for is_older is_open_at
waits-is s epoch =
    count_same (is_older s epoch) (λ t. is_open ((session_of s).transaction t).kind && ltb ((session_of s).transaction t).epoch epoch) 16 0
    (λ t l h. rw (transaction-at s t (omega arith)))

-- ---- what holds of each way out holds of the call

-- a transaction may begin in a place
pub record MayBegin (d s : List ℕ) (t : ℕ) : Type 0 where
  pub areas : usable d s ≡ true
  pub place : t < 17
  pub free : is_open_at s t ≡ false
  pub number : (head_of s).last_transaction ≢ 0xffff_ffff_ffff_ffff

abbrev pub begun_after : List ℕ → ℕ → Kind → After
begun_after s t k = after (Ok ((head_of s).last_transaction + 1)) (begun_at s t k)

pub begin-cases : (P : After → Type 0) (s : List ℕ) (t : ℕ) (k : Kind) → ((why : Refusal) → P (refused why s))
    → ((head_of s).last_transaction ≢ 0xffff_ffff_ffff_ffff → P (begun_after s t k)) → P (begin_at s t k)
begin-cases P s t k stays goes =
    equal (head_of s).last_transaction 0xffff_ffff_ffff_ffff
    (λ e. subst P (sym (numbers-out s t k e)) (stays TooLarge))
    (λ h. subst P (sym (begins-at s t k h)) (goes h))

module _ (P : After → Type 0) (d s : List ℕ) (stays : (why : Refusal) → P (refused why s)) where
  pub truncate-cases : (MayBegin d s 16 → P (begun_after s 16 Truncate)) → P (truncate_call d s)
  truncate-cases goes =
      decide (usable d s)
      (λ ok.
      decide (is_open_at s 16)
      (λ o. subst P (sym (truncate-open d s ok o)) (stays WriterOpen))
      (λ f.
      subst P (sym (truncate-begins d s ok f))
      (begin-cases P s 16 Truncate stays (λ h. goes (record { areas = ok; place = omega arith; free = f; number = h })))))
      (λ bad. subst P (sym (truncate-unusable d s bad)) (stays Unusable))

  -- a reader begins in the first free place
  pub reader-cases : ((t : ℕ) → MayBegin d s t → t < 16 → free_reader s ≡ Some t → P (begun_after s t Reader)) → P (reader_call d s)
  reader-cases goes =
      decide (usable d s)
      (λ ok. by ok (free_reader s) refl)
      (λ bad. subst P (sym (reader-unusable d s bad)) (stays Unusable))
    where
      by : usable d s ≡ true → (f : Option ℕ) → free_reader s ≡ f → P (reader_call d s)
      by ok (Some t) e =
          let low = free-low s t e in
          subst P (sym (reader-begins d s ok t e))
          (begin-cases P s t Reader stays (λ h. goes t (record { areas = ok; place = omega arith; free = free-closed s t e; number = h }) low e))
      by ok None e = subst P (sym (reader-full d s ok e)) (stays Full)

-- ---- a refused call changes nothing

module _ (d s : List ℕ) where
  pub truncate-refused : code_of (truncate_call d s).answer ≢ 0 → (truncate_call d s).session ≡ s
  truncate-refused = truncate-cases (λ o. code_of o.answer ≢ 0 → o.session ≡ s) d s (λ why r. refl) (λ may r. absurd (r refl))

  pub reader-refused : code_of (reader_call d s).answer ≢ 0 → (reader_call d s).session ≡ s
  reader-refused = reader-cases (λ o. code_of o.answer ≢ 0 → o.session ≡ s) d s (λ why r. refl) (λ t may low e r. absurd (r refl))

-- ---- a session that keeps the rule keeps it, served or refused; and its bytes stay bytes

module _ (d s : List ℕ) where
  pub truncate-begun : begun s ≡ true → begun (truncate_call d s).session ≡ true
  truncate-begun b =
      truncate-cases (λ o. begun o.session ≡ true) d s (λ why. b)
      (λ may. →begun _ (begun-begun_at s 16 Truncate (omega arith) (begun→ s b) (λ l. omega arith) (λ e q. omega arith)))

  pub reader-begun : begun s ≡ true → begun (reader_call d s).session ≡ true
  reader-begun b =
      reader-cases (λ o. begun o.session ≡ true) d s (λ why. b)
      (λ t may low e. →begun _ (begun-begun_at s t Reader may.place (begun→ s b) (λ l. omega arith) (λ e q. omega arith)))

  pub may-long : {t : ℕ} → MayBegin d s t → session_bytes ≤ length s
  may-long may = (usable-begun d s may.areas).long

  pub truncate-bytes : Bytes s → Bytes (truncate_call d s).session
  truncate-bytes b = truncate-cases (λ o. Bytes o.session) d s (λ why. b) (λ may. bytes-begun_at s 16 Truncate (omega arith) (may-long may) b)

  pub reader-bytes : Bytes s → Bytes (reader_call d s).session
  reader-bytes b = reader-cases (λ o. Bytes o.session) d s (λ why. b) (λ t may low e. bytes-begun_at s t Reader may.place (may-long may) b)

-- ---- what a served call means

module _ (d s : List ℕ) (bytes : Bytes s) where
  pub means : (t : ℕ) (k : Kind) → MayBegin d s t → session_of (begun_at s t k) ≡ begun_in (session_of s) t k
  means t k may = session-begun_at s t k may.place (begun-ready s (usable-begun d s may.areas)) (next_fits s bytes may.number)

  pub truncate-means : code_of (truncate_call d s).answer ≡ 0 → session_of (truncate_call d s).session ≡ begun_in (session_of s) 16 Truncate
  truncate-means =
      truncate-cases (λ o. code_of o.answer ≡ 0 → session_of o.session ≡ begun_in (session_of s) 16 Truncate) d s
      (λ why e. absurd (refusal-some why e)) (λ may e. means 16 Truncate may)

  -- the place is the first free one
  pub reader-means : (t : ℕ) → free_reader s ≡ Some t → code_of (reader_call d s).answer ≡ 0 → session_of (reader_call d s).session ≡ begun_in (session_of s) t Reader
  reader-means t found =
      reader-cases (λ o. code_of o.answer ≡ 0 → session_of o.session ≡ begun_in (session_of s) t Reader) d s
      (λ why e. absurd (refusal-some why e))
      (λ u may low e q. let same : u ≡ t = cc in means u Reader may ∙ ap (λ (x : ℕ). begun_in (session_of s) x Reader) same)
