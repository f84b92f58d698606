-- Laws of a drop: lengths and the layout rule are kept, bytes stay bytes, the contract leaves nothing open, and a refused call changes nothing. Assumes
-- nothing.
use Rattle.std.specs.Prelude.{◌≡◌, refl, ◌≢◌, true, false, ℕ, ◌+◌, ◌-◌, ◌≤◌, ◌<◌, eqb, Option, Some, None, Ok}
use Rattle.std.proofs.Common.{sym, ◌∙◌}
use mathlib.Core.List.{List, []}
use native.Mathlib.Omega.{arith}
use Rattle.std.proofs.Math.ListN.{length}
use Rattle.octets.specs.Cases.{picked}
use Rattle.octets.specs.Number.{Bytes}
use Rattle.octets.specs.Sweep.{sweep, sweep-keeps}
use Rattle.octets.specs.Words.{word_at}
use Rattle.answers.specs.Answers.{code_of}
use Rattle.answers.specs.Answers.{Answer}
use Rattle.answers.specs.declared.Refusal.{Refusal}
use Rattle.answers.specs.declared.Refusal.TheVariants.{Unusable, Unknown}
use Rattle.layout.specs.Disk as D
use Rattle.layout.specs.NamesLaws.{only-put_name, bytes-put_name}
use Rattle.layout.specs.Session.{session_bytes, names_at, tape_at, handle_number, Begun, begun}
use Rattle.layout.specs.SessionLaws.{begun→, →begun}
use Rattle.ring_buffer.specs.Ring.{popped}
use Rattle.session.specs.Rows.{view_of, transaction_of, handle_words, put_handle, ring_of, put_ring, staged_of, find_transaction}
use Rattle.session.specs.RowLaws.{HandleFits, length-put_transaction, length-put_handle, length-put_ring, ring-only, only-put_staged, length-put_staged, staged-same}
use Rattle.session.specs.KeepLaws.{open-with, open_row, begun-put_handle, begun-put_ring, begun-put_name, begun-put_transaction, bytes-put_transaction, bytes-put_handle, bytes-put_ring}
use Rattle.session.specs.Meaning.{closed, no_handle, no_ring, untouched}
use Rattle.rolling_tape.specs.TrackingLaws.{length-retracked, begun-retracked, bytes-retracked}
use Rattle.rolling_tape.specs.declared.tracking.Change.TheVariants.{UntrackAll}
use Rattle.beginning.specs.Transactions.{After, after, refused, usable}
use Rattle.beginning.specs.Ways.{usable-begun, usable-disk}
use Rattle.beginning.specs.Laws.{after-unique}
use Rattle.staging.specs.Seeing.{directory_of, is_append}
use Rattle.staging.specs.Ways.{transaction-low}
use Rattle.ending.specs.Listing.{is_touched}
use Rattle.ending.specs.Steps.{unstage, close_writer}
use Rattle.ending.specs.CutLaws.{begun-unstage, bytes-unstage, untouched-fits, begun-close_writer, bytes-close_writer}
use Rattle.ending.specs.Dropping.{reverted, untrack_in, forgotten, take_back, drop_append, drop_at, drop_found, drop_transaction_call}

-- ---- lengths are kept

pub length-unstage : (p : ℕ) (s : List ℕ) → length (unstage p s) ≡ length s
unfolding unstage
length-unstage p s = length-put_staged s p untouched

pub length-untrack_in : (d s : List ℕ) (f : Option ℕ) → length (untrack_in d s f) ≡ length s
length-untrack_in d s (Some place) = length-retracked d s place UntrackAll
length-untrack_in d s None = refl

pub length-reverted : (p : ℕ) (s : List ℕ) → length (reverted p s) ≡ length s
unfolding reverted
length-reverted p s = length-put_ring (unstage p s) p _ ∙ length-unstage p s

pub length-forgotten : (d : List ℕ) (p : ℕ) (s : List ℕ) → length (forgotten d p s) ≡ length s
unfolding forgotten
length-forgotten d p s =
    let a = untrack_in d (unstage p s) (directory_of d s p) in
    let b = put_handle a p no_handle in
    (only-put_name (put_ring b p no_ring) names_at p [] (omega arith)).long
    ∙ length-put_ring b p no_ring
    ∙ length-put_handle a p no_handle
    ∙ length-untrack_in d (unstage p s) (directory_of d s p)
    ∙ length-unstage p s

pub length-take_back : (d : List ℕ) (p : ℕ) (s : List ℕ) → length (take_back d p s) ≡ length s
unfolding take_back
length-take_back d p s =
    let Same : List ℕ → Type 0 = λ t. length t ≡ length s in
    picked Same (is_touched s p) _ s
    (λ e. picked Same (view_of s 16 p).listed _ _ (λ q. length-reverted p s) (λ q. length-forgotten d p s))
    (λ e. refl)

pub length-close_writer : (s : List ℕ) → length (close_writer s) ≡ length s
unfolding close_writer
length-close_writer s =
    length-put_transaction (sweep unstage 8 0 s) 16 closed
    ∙ sweep-keeps (λ (t : List ℕ). length t ≡ length s) unstage 8 0 s (λ j t l m e. length-unstage j t ∙ e) refl

pub length-drop_append : (d s : List ℕ) → length (drop_append d s) ≡ length s
unfolding drop_append
length-drop_append d s =
    length-close_writer (sweep (take_back d) 8 0 s)
    ∙ sweep-keeps (λ (t : List ℕ). length t ≡ length s) (take_back d) 8 0 s (λ j t l m e. length-take_back d j t ∙ e) refl

pub length-drop_at : (d s : List ℕ) (t : ℕ) → length (drop_at d s t) ≡ length s
unfolding drop_at
length-drop_at d s t =
    let Same : List ℕ → Type 0 = λ u. length u ≡ length s in
    picked Same (eqb t 16) _ _
    (λ e. picked Same (is_append (transaction_of s 16).kind) _ _ (λ q. length-drop_append d s) (λ q. length-close_writer s))
    (λ e. length-put_transaction s t closed)

-- ---- the layout rule is kept: the staged record goes first, so no ring holds less than is unwritten

module _ (s : List ℕ) (begun : Begun s) (p : ℕ) (low : p < 8) where
  -- the ring is another part of the row
  ring-unstage : ring_of (unstage p s) p ≡ ring_of s p
  unfolding unstage
  ring-unstage = ring-only _ _ s _ (only-put_staged s p untouched) p (λ q. omega arith)

  staged-unstage : staged_of (unstage p s) p ≡ untouched
  unfolding unstage
  staged-unstage = staged-same s p untouched (omega (arith, begun.long)) untouched-fits

  -- the ring that is left has no more bytes than it had, and nothing is unwritten
  pub begun-reverted : Begun (reverted p s)
  unfolding reverted popped
  begun-reverted =
      let u = unstage p s in
      let b = begun-unstage s begun p low in
      let n = (staged_of s p).len - (staged_of s p).base in
      begun-put_ring u b p low (popped (ring_of s p) n)
      (λ held.
      let o = rw ring-unstage at (open_row u b p low held) in
      let short = o.short in
      open-with o o.small o.inside (omega arith) (rw staged-unstage (omega arith)))

pub begun-untrack_in : (d s : List ℕ) → D.Sound d → Begun s → (f : Option ℕ) → Begun (untrack_in d s f)
begun-untrack_in d s sound begun (Some place) = begun-retracked d s place UntrackAll sound.head.few begun
begun-untrack_in d s sound begun None = begun

-- a row without a handle is not looked at
no_number : (s : List ℕ) (p : ℕ) → tape_at p + 24 ≤ length s → handle_number (put_handle s p no_handle) p ≡ 0
unfolding put_handle
no_number s p room = word_at s (tape_at p) (handle_words no_handle) 0 (tape_at p) room (omega arith) (omega arith) (omega arith)

fits-none : HandleFits no_handle
fits-none = record { number = omega arith; entry = omega arith; file = omega arith }

module _ (d s : List ℕ) (sound : D.Sound d) (begun : Begun s) (p : ℕ) (low : p < 8) where
  pub begun-forgotten : Begun (forgotten d p s)
  unfolding forgotten
  begun-forgotten =
      let a = untrack_in d (unstage p s) (directory_of d s p) in
      let ba = begun-untrack_in d (unstage p s) sound (begun-unstage s begun p low) (directory_of d s p) in
      let b = put_handle a p no_handle in
      let bb = begun-put_handle a ba p low no_handle fits-none (λ held. absurd (held refl)) in
      begun-put_name (put_ring b p no_ring)
      (begun-put_ring b bb p low no_ring (λ held. absurd (held (no_number a p (omega (arith, ba.long))))))
      p [] low (omega arith)

  pub begun-take_back : Begun (take_back d p s)
  unfolding take_back
  begun-take_back =
      picked Begun (is_touched s p) _ s
      (λ e. picked Begun (view_of s 16 p).listed _ _ (λ q. begun-reverted s begun p low) (λ q. begun-forgotten))
      (λ e. begun)

module _ (d s : List ℕ) (sound : D.Sound d) (begun : Begun s) where
  pub begun-drop_append : Begun (drop_append d s)
  unfolding drop_append
  begun-drop_append =
      begun-close_writer (sweep (take_back d) 8 0 s)
      (sweep-keeps Begun (take_back d) 8 0 s (λ j t l m e. begun-take_back d t sound e j (omega arith)) begun)

  pub begun-drop_at : (t : ℕ) → t < 17 → Begun (drop_at d s t)
  unfolding drop_at
  begun-drop_at t low =
      picked Begun (eqb t 16) _ _
      (λ e. picked Begun (is_append (transaction_of s 16).kind) _ _ (λ q. begun-drop_append) (λ q. begun-close_writer s begun))
      (λ e. begun-put_transaction s begun t closed low (λ l. omega arith) (λ q r. omega arith))

-- ---- bytes stay bytes

module _ (s : List ℕ) (long : session_bytes ≤ length s) (bytes : Bytes s) where
  pub bytes-reverted : (p : ℕ) → p < 8 → Bytes (reverted p s)
  unfolding reverted
  bytes-reverted p low =
      let same = length-unstage p s in
      bytes-put_ring (unstage p s) (bytes-unstage s long bytes p low) p _ (omega arith)

  module _ (d : List ℕ) (sound : D.Sound d) where
    pub bytes-untrack_in : (f : Option ℕ) → Bytes (untrack_in d s f)
    bytes-untrack_in (Some place) = bytes-retracked d s place UntrackAll sound.head.few long bytes
    bytes-untrack_in None = bytes

module _ (d : List ℕ) (sound : D.Sound d) where
  module _ (s : List ℕ) (long : session_bytes ≤ length s) (bytes : Bytes s) (p : ℕ) (low : p < 8) where
    pub bytes-forgotten : Bytes (forgotten d p s)
    unfolding forgotten
    bytes-forgotten =
        let u = unstage p s in
        let lu = length-unstage p s in
        let a = untrack_in d u (directory_of d s p) in
        let la = length-untrack_in d u (directory_of d s p) in
        let b = put_handle a p no_handle in
        let lb = length-put_handle a p no_handle in
        let lc = length-put_ring b p no_ring in
        let ba = bytes-untrack_in u (omega arith) (bytes-unstage s long bytes p low) d sound (directory_of d s p) in
        let bb = bytes-put_handle a ba p no_handle (omega arith) in
        bytes-put_name (put_ring b p no_ring) names_at p [] (bytes-put_ring b bb p no_ring (omega arith)) (λ i. omega arith) (omega arith) low (omega arith)

    pub bytes-take_back : Bytes (take_back d p s)
    unfolding take_back
    bytes-take_back =
        picked Bytes (is_touched s p) _ s
        (λ e. picked Bytes (view_of s 16 p).listed _ _ (λ q. bytes-reverted s long bytes p low) (λ q. bytes-forgotten))
        (λ e. bytes)

  module _ (s : List ℕ) (long : session_bytes ≤ length s) (bytes : Bytes s) where
    pub bytes-drop_append : Bytes (drop_append d s)
    unfolding drop_append
    bytes-drop_append =
        let r
        = sweep-keeps (λ (t : List ℕ). (session_bytes ≤ length t) × Bytes t) (take_back d) 8 0 s
        (λ j t l m r.
        let wide = r.0 in
        let same = length-take_back d j t in
        (omega arith, bytes-take_back t wide r.1 j (omega arith)))
        (long, bytes) in
        bytes-close_writer (sweep (take_back d) 8 0 s) r.0 r.1

    pub bytes-drop_at : (t : ℕ) → t < 17 → Bytes (drop_at d s t)
    unfolding drop_at
    bytes-drop_at t low =
        picked Bytes (eqb t 16) _ _
        (λ e. picked Bytes (is_append (transaction_of s 16).kind) _ _ (λ q. bytes-drop_append) (λ q. bytes-close_writer s long bytes))
        (λ e. bytes-put_transaction s bytes t closed (omega arith))

-- ---- the ways out of the call

module _ (d s : List ℕ) (n : ℕ) where
  pub drop-unusable : usable d s ≡ false → drop_transaction_call d s n ≡ refused Unusable s
  unfolding drop_transaction_call
  drop-unusable bad = rw bad

  module _ (ok : usable d s ≡ true) where
    pub drop-unknown : find_transaction s n ≡ None → drop_transaction_call d s n ≡ refused Unknown s
    unfolding drop_transaction_call
    drop-unknown e = rw (ok, e)

    pub drop-served : (t : ℕ) {u : List ℕ} → find_transaction s n ≡ Some t → u ≡ drop_at d s t → drop_transaction_call d s n ≡ after (Ok 0) u
    unfolding drop_transaction_call
    drop-served t e f = rw (ok, e, f)

-- what holds of each way out holds of the call
pub drop-cases : (P : After → Type 0) (d s : List ℕ) (n : ℕ) → ((why : Refusal) → P (refused why s))
    → ((t : ℕ) → usable d s ≡ true → find_transaction s n ≡ Some t → P (after (Ok 0) (drop_at d s t))) → P (drop_transaction_call d s n)
unfolding drop_transaction_call
drop-cases P d s n stays goes =
    picked P (usable d s) _ _ (λ ok. by ok (find_transaction s n) refl) (λ bad. stays Unusable)
  where
    by : usable d s ≡ true → (f : Option ℕ) → find_transaction s n ≡ f → P (drop_found d s f)
    by ok (Some t) e = goes t ok e
    by ok None e = stays Unknown

module _ (d s : List ℕ) (n : ℕ) where
  -- the contract leaves nothing open
  pub drop-unique : (r r' : Answer) (u v : List ℕ) → drop_transaction_call d s n ≡ after r u → drop_transaction_call d s n ≡ after r' v → (r ≡ r') × (u ≡ v)
  drop-unique r r' u v e f = after-unique (sym e ∙ f)

  -- a refused call changes no byte
  pub drop-refused : code_of (drop_transaction_call d s n).answer ≢ 0 → (drop_transaction_call d s n).session ≡ s
  drop-refused = drop-cases (λ o. code_of o.answer ≢ 0 → o.session ≡ s) d s n (λ why r. refl) (λ t ok e r. absurd (r refl))

  -- served or refused: the length, the layout rule, the bytes
  pub length-drop_transaction : length (drop_transaction_call d s n).session ≡ length s
  length-drop_transaction = drop-cases (λ o. length o.session ≡ length s) d s n (λ why. refl) (λ t ok e. length-drop_at d s t)

  pub begun-drop_transaction : begun s ≡ true → begun (drop_transaction_call d s n).session ≡ true
  begun-drop_transaction b =
      drop-cases (λ o. begun o.session ≡ true) d s n (λ why. b)
      (λ t ok e. →begun _ (begun-drop_at d s (usable-disk d s ok) (begun→ s b) t (transaction-low s n t e)))

  pub bytes-drop_transaction : Bytes s → Bytes (drop_transaction_call d s n).session
  bytes-drop_transaction b =
      drop-cases (λ o. Bytes o.session) d s n (λ why. b)
      (λ t ok e. bytes-drop_at d (usable-disk d s ok) s (usable-begun d s ok).long b t (transaction-low s n t e))
