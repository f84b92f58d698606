-- Reads that are refused, in a running session: of a number that no open transaction has, of a tape that the transaction does not see, and outside of the bounds
-- that it sees. Assumes nothing.
use Rattle.octets.specs.Cases.{some-injective}
use Rattle.std.proofs.lemmas.Option.{none-some}
use Rattle.std.specs.Prelude.{◌≡◌, refl, ◌≢◌, ◌⊎◌, Bool, true, false, not, ◌&&◌, List, [], ◌∷◌, map, eqb, length, Option, Some, None}
use Rattle.std.proofs.Common.{sym, ◌∙◌, subst, inl, inr, true≢false, add-mul, arith, eq-eqb, eqb-true}
use Rattle.std.proofs.Math.Path.{ap}
use Prim.Native.Nat.{ℕ, ◌+◌, ◌*◌, ◌<◌}
use Rattle.std.proofs.lemmas.Bool.{not-true}
use Rattle.octets.specs.Cases.{picked, order, and_l, and_r}
use Rattle.answers.specs.Answers.{code_of}
use Rattle.answers.specs.Outcome.{Reading, refused_read}
use Rattle.answers.specs.declared.Refusal.TheVariants.{Unknown, Absent, OutOfBounds}
use Rattle.components.specs.Bounds.{in_bounds}
use Rattle.components.specs.BoundsLaws.{out_below, out-past}
use Rattle.session.specs.Rows.{view_of, transaction_of, find_transaction}
use Rattle.session.specs.declared.transactions.Kind.{Kind}
use Rattle.session.specs.declared.transactions.Kind.TheVariants as K
use Rattle.session.specs.declared.views.View.{View}
use Rattle.rolling_tape.specs.Removal.{areas}
use Rattle.beginning.specs.Transactions.{is_open_at, usable}
use Rattle.staging.specs.Seeing.{seen_by}
use Rattle.staging.specs.Ways.{seen-view}
use Rattle.entries.specs.Reads.{read_call}
use Rattle.entries.specs.Ways.{read-no-transaction, read_goes, read-absent, read-outside}
use Rattle.lives.specs.Life.{Reader, Writer}
use Rattle.lives.specs.Told.{Window, Staging, idle, appending, cutting, Told, Page, page_w, page_in, page_of, page}
use Rattle.lives.specs.Invariant.{Phys, erase, erase_w, build, Staged, Live}
use Rattle.seen.specs.Seen.{place_of, shown, reader_in, writer_as, count_in, Seen}
use Rattle.seen.specs.Orderly.{Orderly, orderly-usable}
use Rattle.seen.specs.Shown.{shown-keeps}
use Rattle.seen.specs.Counts.{in-none, in-miss, is_number, page-counted, open-some, open-place}
use Rattle.seen.specs.Waits.{idle-seen}
use Rattle.seen.specs.Reads.{view_p, sight}
use Rattle.promises.specs.Calls.{read_entries, step}
use Rattle.promises.specs.Standing.{Lore, Running, its-place, its-life}
use Rattle.seen.specs.Transactions.{found-transaction, find-transaction}

-- ---- windows with no page, and with one that is not here

abbrev is_hidden : ℕ → Reader → Bool
is_hidden k r = eqb k r.number && not r.here

none-numbered : (k : ℕ) (ws : List Window) → page_in k ws ≡ None → count_in (is_number k) (map erase ws) ≡ 0
unfolding page_in
none-numbered k [] = λ e. in-none (is_number k)
none-numbered k (w ∷ ws) =
    picked (λ (x : Option Page). x ≡ None → count_in (is_number k) (map erase (w ∷ ws)) ≡ 0) (eqb k w.number) (Some (page_w w)) (page_in k ws)
    (λ m e. absurd (none-some _ (sym e)))
    (λ m e. in-miss (is_number k) (erase w) (map erase ws) m ∙ none-numbered k ws e)

is_hidden_lem : (k : ℕ) (q : Page) → q.here ≡ false → (w : Window) → eqb k w.number ≡ true → page_w w ≡ q → is_hidden k (erase w) ≡ true
is_hidden_lem k q hidden w m own =
    let unseen : w.here ≡ false = ap (λ (x : Page). x.here) own ∙ hidden in
    rw (m, unseen)

-- ---- the writer's number

abbrev number_of : ℕ → Writer → ℕ
number_of other Writer.idle = other
number_of other (Writer.appending m e h l st) = m
number_of other (Writer.cutting m l) = m

writer-number : (k : Kind) (number epoch : ℕ) (v : View) → number_of number (writer_as k number epoch v) ≡ number
writer-number K.Closed number epoch v = refl
writer-number K.Reader number epoch v = refl
writer-number K.Append number epoch v = refl
writer-number K.Truncate number epoch v = refl

-- ---- what is told is what is found

module _ (d s n : List ℕ) (o : Orderly d s) (t : Told) (p : Phys) (seen : Seen d s n (build t p)) where
  number-told : number_of (transaction_of s 16).number (erase_w t.epoch t.writer) ≡ (transaction_of s 16).number
  number-told = ap (number_of (transaction_of s 16).number) (sym seen.writer) ∙ writer-number (transaction_of s 16).kind (transaction_of s 16).number (transaction_of s 16).epoch _

  no-window : (k : ℕ) → page k t ≡ None → page_in k t.windows ≡ None
  no-window k = by t.writer
    where
      by : (w : Staging) → page_of k t w ≡ None → page_in k t.windows ≡ None
      by idle = λ e. e
      by (appending m h c b) =
          picked (λ (x : Option Page). x ≡ None → page_in k t.windows ≡ None) (eqb k m) (Some (record { here = h; start = b; content = c })) (page_in k t.windows)
          (λ r e. absurd (none-some _ (sym e))) (λ r e. e)
      by (cutting m c) =
          picked (λ (x : Option Page). x ≡ None → page_in k t.windows ≡ None) (eqb k m) (Some (record { here = t.listed; start = t.start; content = c })) (page_in k t.windows)
          (λ r e. absurd (none-some _ (sym e))) (λ r e. e)

  no-writer : (k : ℕ) → page k t ≡ None → is_open_at s 16 ≡ true → (transaction_of s 16).number ≢ k
  no-writer k is opened own = by t.writer refl is
    where
      number : (w : Staging) → t.writer ≡ w → number_of (transaction_of s 16).number (erase_w t.epoch w) ≡ k
      number w e = ap (λ (x : Staging). number_of (transaction_of s 16).number (erase_w t.epoch x)) (sym e) ∙ number-told ∙ own

      by : (w : Staging) → t.writer ≡ w → page_of k t w ≡ None → ⊥
      by idle e = λ f. true≢false (sym opened ∙ idle-seen d s n (build t p) seen o.session (ap (erase_w t.epoch) e))
      by (appending m h c b) e = rw (eq-eqb k m (sym (number (appending m h c b) e))) (λ f. none-some _ (sym f))
      by (cutting m c) e = rw (eq-eqb k m (sym (number (cutting m c) e))) (λ f. none-some _ (sym f))

  none_found : (k : ℕ) → page k t ≡ None → find_transaction s k ≡ None
  none_found k is = by (find_transaction s k) refl
    where
      by : (found : Option ℕ) → find_transaction s k ≡ found → found ≡ None
      by None e = refl
      by (Some x) e =
          let a = found-transaction s k x e in
          order x 16
          (λ (low : x < 16).
          let some-open = open-place (is_number k) s (place_of s n) x low a.opened (eq-eqb k (transaction_of s x).number (sym a.number)) in
          absurd (omega (arith, some-open, seen.readers (is_number k), none-numbered k t.windows (no-window k is))))
          (λ high.
          let at : x ≡ 16 = omega (arith, a.low) in
          absurd (no-writer k is (subst (λ (y : ℕ). is_open_at s y ≡ true) at a.opened) (subst (λ (y : ℕ). (transaction_of s y).number ≡ k) at a.number)))

-- transaction k is in a place and does not see tape p
record Blind (s : List ℕ) (k p : ℕ) : Type 0 where
  place : ℕ
  found : find_transaction s k ≡ Some place
  unlisted : (seen_by s place p).listed ≡ false

module _ (d s n : List ℕ) (o : Orderly d s) (t : Told) (p : Phys) (seen : Seen d s n (build t p)) (a : ℕ) (at : place_of s n ≡ Some a) where
  window-blind : (k : ℕ) (q : Page) → page_in k t.windows ≡ Some q → q.here ≡ false → Blind s k a
  window-blind k q is hidden =
      let found = open-some (is_hidden k) s (place_of s n) (omega (arith, seen.readers (is_hidden k), page-counted (is_hidden k) k q (is_hidden_lem k q hidden) t.windows is)) in
      let x = found.place in
      let both : is_hidden k (reader_in s (Some a) x) ≡ true = subst (λ (f : Option ℕ). is_hidden k (reader_in s f x) ≡ true) at found.holds in
      let number : k ≡ (transaction_of s x).number = eqb-true k (transaction_of s x).number (and_l (eqb k (transaction_of s x).number) _ both) in
      let unseen : (shown (view_of s x a)).listed ≡ false = not-true _ (and_r (eqb k (transaction_of s x).number) _ both) in
      record {
        place = x;
        found = find-transaction d s o k x (record { low = omega (arith, found.low); opened = found.opened; number = sym number });
        unlisted = ap (λ (v : View). v.listed) (sym (seen-view s x a (λ e. omega (arith, found.low)))) ∙ sym (shown-keeps (view_of s x a)) ∙ unseen;
      }

  -- a writer sees every open tape
  blind : Live t p → (k : ℕ) (q : Page) → page k t ≡ Some q → q.here ≡ false → Blind s k a
  blind live k q is hidden = by t.writer refl is
    where
      seen_here : (b : Bool) → b ≡ true → q.here ≡ b → {P : Type 0} → P
      seen_here b is-here e = absurd (true≢false (sym is-here ∙ sym e ∙ hidden))

      by : (w : Staging) → t.writer ≡ w → page_of k t w ≡ Some q → Blind s k a
      by idle e = λ f. window-blind k q f hidden
      by (appending m h c b) e =
          picked (λ (x : Option Page). x ≡ Some q → Blind s k a) (eqb k m) (Some (record { here = h; start = b; content = c })) (page_in k t.windows)
          (λ r f.
          let staged = subst (Staged t.size p.touched p.held t.content t.start) e live.staged in
          seen_here h staged.present (ap (λ (x : Page). x.here) (sym (some-injective _ _ f))))
          (λ r f. window-blind k q f hidden)
      by (cutting m c) e =
          picked (λ (x : Option Page). x ≡ Some q → Blind s k a) (eqb k m) (Some (record { here = t.listed; start = t.start; content = c })) (page_in k t.windows)
          (λ r f. seen_here t.listed (live.shown (rw e)) (ap (λ (x : Page). x.here) (sym (some-injective _ _ f))))
          (λ r f. window-blind k q f hidden)

-- ---- the three answers

-- outside of a page's bounds, in entries
abbrev pub Beyond : ℕ → ℕ → ℕ → Page → Type 0
Beyond entry i count q = (i * entry < q.start) ⊎ (length q.content < (i + count) * entry)

beyond : (entry i count : ℕ) (q : Page) → Beyond entry i count q → in_bounds entry q.start (length q.content) i count ≡ false
beyond entry i count q (inl low) = out_below entry q.start (length q.content) i count low
beyond entry i count q (inr high) = out-past entry q.start (length q.content) i count (omega (arith, add-mul i count entry))

module _ (d s : List ℕ) (K : Lore) (r : Running (areas d s) K) (n : List ℕ) (long : 0 < length n) (given : (K n).handle ≢ 0) (t i count : ℕ) (buffer : List ℕ) where
  open r.holds n long use {phys, seen}
  open its-place (areas d s) K r n long given use {place, at, found, entry-size}

  ok : usable d s ≡ true
  ok = orderly-usable d s r.orderly

  unknown-read : page t (K n).tape ≡ None → read_call d s t (K n).handle i count buffer ≡ refused_read Unknown buffer
  unknown-read is = read-no-transaction d s t (K n).handle i count buffer ok (none_found d s n r.orderly (K n).tape phys seen t is)

  module _ (q : Page) (is : page t (K n).tape ≡ Some q) where
    absent-read : q.here ≡ false → read_call d s t (K n).handle i count buffer ≡ refused_read Absent buffer
    absent-read hidden =
        let x = blind d s n r.orderly (K n).tape phys seen place at (its-life (areas d s) K r n long given) t q is hidden in
        read_goes d s t (K n).handle i count buffer ok x.place x.found place found
        ∙ read-absent d s x.place place i count buffer _ refl x.unlisted

    pub beyond-read : q.here ≡ true → Beyond (K n).entry i count q → read_call d s t (K n).handle i count buffer ≡ refused_read OutOfBounds buffer
    beyond-read here far =
        let x = sight d s n r.orderly r.starts (K n).tape phys seen place at t q is here in
        read_goes d s t (K n).handle i count buffer ok x.place x.found place found
        ∙ read-outside d s x.place place i count buffer (view_p q) (sym x.view) (K n).entry (sym entry-size) refl (beyond (K n).entry i count q far)

  abbrev code : ℕ
  code = (step (read_entries t (K n).handle i count buffer) (areas d s)).code

  pub else-running : (page t (K n).tape ≡ None → code ≡ 2)
      × ((q : Page) → page t (K n).tape ≡ Some q → (q.here ≡ false → code ≡ 11) × (q.here ≡ true → Beyond (K n).entry i count q → code ≡ 12))
  unfolding step
  else-running =
      let codes : Reading → ℕ = λ x. code_of x.answer in (
        λ is. ap codes (unknown-read is),
        λ q is. (λ hidden. ap codes (absent-read q is hidden), λ here far. ap codes (beyond-read q is here far)),
      )
