-- A transaction dropped: a reader, or a truncate (an append's drop takes back what it staged). Of a reader its place is closed; of a truncate also what was
-- staged is forgotten, and that was no unwritten byte. Assumes nothing.
use Rattle.std.specs.Prelude.{◌≡◌, refl, ◌≢◌, Bool, true, false, not, ◌&&◌, List, ℕ, ◌<◌, eqb, Some}
use Rattle.std.proofs.Common.{sym, ◌∙◌, subst, true≢false, arith, eq-eqb, ne_eqb}
use Rattle.std.proofs.Math.Path.{ap}
use Rattle.layout.specs.NamesLaws.{name-low}
use Rattle.layout.specs.Session.{names_at, handle_number}
use Rattle.layout.specs.SessionLaws.{begun→, →begun}
use Rattle.session.specs.declared.head.Head.{Head}
use Rattle.session.specs.declared.tape_rows.Staged.{Staged}
use Rattle.session.specs.declared.transactions.Kind.{Kind}
use Rattle.session.specs.declared.transactions.Kind.TheVariants as K
use Rattle.session.specs.declared.transactions.Transaction.{Transaction}
use Rattle.session.specs.declared.views.View.{View}
use Rattle.session.specs.Meaning.{session_of, closed, untouched, with_transaction}
use Rattle.session.specs.MeaningLaws.{head_at_lem, view-at, transaction-at, staged-at, is_open}
use Rattle.session.specs.Rows.{head_of, view_of, transaction_of, staged_of, find_transaction}
use Rattle.beginning.specs.Transactions.{is_open_at}
use Rattle.staging.specs.Seeing.{is_append}
use Rattle.ending.specs.Dropping.{drop_transaction_call}
use Rattle.ending.specs.DropLaws.{begun-drop_transaction, bytes-drop_transaction}
use Rattle.ending.specs.DropMeaning.{writer_closed, drop-truncate-means, drop-reader-means}
use Rattle.lives.specs.Life.{Reader, Store, step, step_drop, step_drop_reader, then, is_some, find, without}
use Rattle.lives.specs.Life as L
use Rattle.lives.specs.Told.{Told}
use Rattle.lives.specs.Invariant.{Phys, Good, build}
use Rattle.seen.specs.Seen.{place_of, staged_in, writer_as, count_open, Seen, Handled}
use Rattle.seen.specs.Orderly.{Orderly, orderly-usable}
use Rattle.seen.specs.Rows.{open_row, shut_row, count-rows, untouched-unwritten, untouched-rows, view_in_lem, touched-in, staged-in, touched-as, number-row}
use Rattle.seen.specs.GoodTapes.{all-written}
use Rattle.seen.specs.Counts.{is_number, Others, open-less, open-place, in_without, find-some}
use Rattle.seen.specs.Leaving.{Leaves, changed, leaves-is, head-is, view-is, transaction-is, staged-is, left-handled, seen-then, Ordered, orderly-left, Staying}
use Rattle.seen.specs.Begins.{open-kind}
use Rattle.seen.specs.Transactions.{found-transaction}

-- ---- the rows then

pub record ClosesOne (s u : List ℕ) (t : ℕ) : Type 0 where
  pub left : Leaves s u
  pub last : (head_of u).last_transaction ≡ (head_of s).last_transaction
  pub own : transaction_of u t ≡ closed
  pub others : (x : ℕ) → x < 17 → x ≢ t → transaction_of u x ≡ transaction_of s x
  pub views : (w p : ℕ) → w < 18 → p < 8 → view_of u w p ≡ view_of s w p

closes-rows : (s u : List ℕ) (t : ℕ) (rows : ℕ → Staged) → t < 17
    → session_of u ≡ changed (session_of s) (session_of s).head (session_of s).view (with_transaction (session_of s) t closed).transaction rows → ClosesOne s u t
closes-rows s u t rows low means =
    let m = session_of s in
    let places = (with_transaction m t closed).transaction in
    let head : m.head ≡ head_of s = head_at_lem s in
    let row = transaction-is s u m.head m.view places rows means in
    record {
      left = leaves-is s u m.head m.view places rows means
          (ap (λ (x : Head). x.epoch) head) (ap (λ (x : Head). x.cut) head) (ap (λ (x : Head). x.side) head) (ap (λ (x : Head). x.last_handle) head)
          (λ p l. view-at s 17 p (omega arith) l);
      last = ap (λ (x : Head). x.last_transaction) (head-is s u m.head m.view places rows means ∙ head);
      own = row t low ∙ rw (eq-eqb t t refl);
      others = λ x l d. row x l ∙ rw (ne_eqb x t d) (transaction-at s x l);
      views = λ w p l q. view-is s u m.head m.view places rows means w p l q ∙ view-at s w p l q;
    }

module _ (s u : List ℕ) (t : ℕ) (c : ClosesOne s u t) where
  shut : is_open_at u t ≡ false
  shut = shut_row u t c.own

  open-other : (x : ℕ) → x < 17 → x ≢ t → is_open_at u x ≡ is_open_at s x
  open-other x l e = open_row s u x (c.others x l e)

  -- what is open is another
  other : (x : ℕ) → is_open_at u x ≡ true → x ≢ t
  other x e q = true≢false (sym e ∙ ap (is_open_at u) q ∙ shut)

  was : (x : ℕ) → x < 17 → is_open_at u x ≡ true → is_open_at s x ≡ true
  was x l e = sym (open-other x l (other x e)) ∙ e

  number-was : (x : ℕ) → x < 17 → is_open_at u x ≡ true → (transaction_of u x).number ≡ (transaction_of s x).number
  number-was x l e = ap (λ (r : Transaction). r.number) (c.others x l (other x e))

module _ (d s u : List ℕ) (t : ℕ) (c : ClosesOne s u t) (o : Orderly d s) where
  closes-ordered : Staying u → Ordered u
  closes-ordered stay =
      record {
        numbers = λ x y l m p q e.
            o.numbers x y l m (was s u t c x l p) (was s u t c y m q) (sym (number-was s u t c x l p) ∙ e ∙ number-was s u t c y m q);
        number-given = λ x l p. rw (number-was s u t c x l p, c.last) (o.number-given x l (was s u t c x l p));
        views = λ x l e p m. rw (c.views x p (omega arith) m, c.views 17 p (omega arith) m) (o.views x l (was s u t c x (omega arith) e) p m);
        writer-view = λ e p l. rw (c.views 16 p (omega arith) l, c.views 17 p (omega arith) l) (o.writer-view (was s u t c 16 (omega arith) e) p l);
        writer-epoch = λ e.
            ap (λ (r : Transaction). r.epoch) (c.others 16 (omega arith) (other s u t c 16 e)) ∙ o.writer-epoch (was s u t c 16 (omega arith) e) ∙ sym c.left.epoch;
        staying = stay;
      }

-- ---- a reader

module _ (d s : List ℕ) (o : Orderly d s) (k t : ℕ) (found : find_transaction s k ≡ Some t) (low : t < 16) where
  abbrev dropped : List ℕ
  dropped = (drop_transaction_call d s k).session

  reader-means : session_of dropped ≡ with_transaction (session_of s) t closed
  reader-means = drop-reader-means d s k t (orderly-usable d s o) found (λ e. omega arith)

  pub reader-closes : ClosesOne s dropped t
  reader-closes = closes-rows s dropped t (session_of s).staged (omega arith) reader-means

  pub reader-staged : (p : ℕ) → p < 8 → staged_of dropped p ≡ staged_of s p
  reader-staged p l =
      staged-is s dropped (session_of s).head (session_of s).view (with_transaction (session_of s) t closed).transaction (session_of s).staged reader-means p l ∙ staged-at s p l

  reader-writer : transaction_of dropped 16 ≡ transaction_of s 16
  reader-writer = reader-closes.others 16 (omega arith) (λ e. omega arith)

  reader-stays : Staying dropped
  reader-stays =
      let left = reader-closes.left in
      let number : (p : ℕ) → p < 8 → handle_number dropped p ≡ handle_number s p = λ p l. number-row s dropped p (left.handles p l) in
      record {
        shut-untouched = λ p l. rw (number p l, reader-staged p l) (o.shut-untouched p l);
        idle-untouched = λ e p l. rw (reader-staged p l) (o.idle-untouched (sym (open-other s dropped t reader-closes 16 (omega arith) (λ q. omega arith)) ∙ e) p l);
        made-append = λ p l. rw (number p l, left.list p l, reader-writer) (o.made-append p l);
        made-touched = λ p l. rw (number p l, left.list p l, reader-staged p l) (o.made-touched p l);
      }

  pub drop-reader-orderly : Orderly d (drop_transaction_call d s k).session
  drop-reader-orderly =
      orderly-left d s dropped reader-closes.left o (begun→ dropped (begun-drop_transaction d s k (→begun s o.session))) (bytes-drop_transaction d s k o.session-bytes)
      (closes-ordered d s dropped t reader-closes o reader-stays)

  pub drop-reader-handled : (n : List ℕ) (handle entry : ℕ) → Handled s n handle entry → Handled (drop_transaction_call d s k).session n handle entry
  drop-reader-handled n handle entry h = left-handled s dropped reader-closes.left n handle entry h

  -- no other place has its number
  alone : (x : ℕ) → x < 17 → is_open_at s x ≡ true → (transaction_of s x).number ≡ k → x ≡ t
  alone x l p e =
      let a = found-transaction s k t found in
      o.numbers x t l a.low p a.opened (e ∙ sym a.number)

  module _ (n : List ℕ) (st : Store) (seen : Seen d s n st) where
    reader-listed : is_some (find k st.readers) ≡ true
    reader-listed =
        let a = found-transaction s k t found in
        find-some k st.readers
        (rw (← seen.readers (is_number k))
        (open-place (is_number k) s (place_of s n) t low a.opened (eq-eqb k (transaction_of s t).number (sym a.number))))

    past-writer : (kind : Kind) (number epoch : ℕ) (v : View) → (is_open kind ≡ true → number ≢ k) → step_drop st k (writer_as kind number epoch v) ≡ step_drop_reader st k
    past-writer K.Closed number epoch v apart = refl
    past-writer K.Reader number epoch v apart = refl
    past-writer K.Append number epoch v apart = rw (ne_eqb k number (λ e. apart refl (sym e)))
    past-writer K.Truncate number epoch v apart = rw (ne_eqb k number (λ e. apart refl (sym e)))

    reader-step : step (L.drop' k) st ≡ then (L.Done 0) st.last st (without k st.readers) st.writer st.touched st.live st.held
    unfolding step
    reader-step =
        ap (step_drop st k) (sym seen.writer)
        ∙ past-writer (transaction_of s 16).kind _ _ _ (λ p e. let same = alone 16 (omega arith) (open-kind s 16 ∙ p) e in omega arith)
        ∙ rw reader-listed

    other-readers : Others s dropped (place_of s n) t
    other-readers =
        record {
          opens = λ x l e. open-other s dropped t reader-closes x (omega arith) e;
          readers = λ x l e. rw (reader-closes.others x (omega arith) e, view_in_lem s dropped (place_of s n) x (λ p at. reader-closes.views x p (omega arith) (name-low s names_at n p at)));
        }

    pub drop-reader-told : (step (L.drop' k) st).answer ≡ L.Done 0
    drop-reader-told = ap (λ (x : L.After). x.answer) reader-step

    pub drop-reader-seen : Seen d (drop_transaction_call d s k).session n (step (L.drop' k) st).store
    drop-reader-seen =
        subst (λ (x : L.After). Seen d dropped n x.store) (sym reader-step)
        (seen-then s dropped reader-closes.left n d st (L.Done 0) st.last (without k st.readers) st.writer st.touched seen
        (reader-closes.last ∙ seen.last)
        (λ has.
        open-less has s dropped (place_of s n) t low other-readers k (found-transaction s k t found).number (shut s dropped t reader-closes) (λ x l. alone x (omega arith))
        ∙ seen.readers (λ r. has r && not (eqb k r.number))
        ∙ sym (in_without has k st.readers))
        (rw (reader-writer, staged-in s dropped (place_of s n) (λ p at. reader-staged p (name-low s names_at n p at)) (λ p at. reader-closes.views 16 p (omega arith) (name-low s names_at n p at))) seen.writer)
        (touched-in s dropped (place_of s n) (λ p at. reader-staged p (name-low s names_at n p at)) ∙ seen.touched)
        (λ p l there live.
        let before = seen.opened p there live in
        record {
          unwritten = ap (λ (r : Staged). r.unwritten) (touched-as s dropped p (reader-staged p l) (reader-closes.views 16 p (omega arith) l)) ∙ before.unwritten;
          base = rw (reader-staged p l) before.base;
        }))

-- ---- a truncate

module _ (d s : List ℕ) (o : Orderly d s) (k : ℕ) (found : find_transaction s k ≡ Some 16) (kind : (transaction_of s 16).kind ≡ K.Truncate) where
  abbrev left_by : List ℕ
  left_by = (drop_transaction_call d s k).session

  truncate-means : session_of left_by ≡ writer_closed (session_of s)
  truncate-means = drop-truncate-means d s k (orderly-usable d s o) found kind

  pub truncate-closes : ClosesOne s left_by 16
  truncate-closes = closes-rows s left_by 16 (λ p. untouched) (omega arith) truncate-means

  truncate-staged : (p : ℕ) → p < 8 → staged_of left_by p ≡ untouched
  truncate-staged p l = staged-is s left_by (session_of s).head (session_of s).view (with_transaction (session_of s) 16 closed).transaction (λ q. untouched) truncate-means p l

  none-touched : (p : ℕ) → p < 8 → (staged_of left_by p).touched ≡ false
  none-touched p l = ap (λ (r : Staged). r.touched) (truncate-staged p l)

  -- every open tape is listed
  none_made : {A : Type 0} (p : ℕ) → p < 8 → handle_number left_by p ≢ 0 → (view_of left_by 17 p).listed ≡ false → A
  none_made p l h v =
      let left = truncate-closes.left in
      let append : is_append (transaction_of s 16).kind ≡ true
      = o.made-append p l (rw (number-row s left_by p (left.handles p l)) at h) (rw (left.list p l) at v) in
      absurd (true≢false (sym append ∙ ap is_append kind))

  truncate-stays : Staying left_by
  truncate-stays =
      record {
        shut-untouched = λ p l e. none-touched p l;
        idle-untouched = λ e p l. none-touched p l;
        made-append = λ p l h v. none_made p l h v;
        made-touched = λ p l h v. none_made p l h v;
      }

  pub drop-truncate-orderly : Orderly d (drop_transaction_call d s k).session
  drop-truncate-orderly =
      orderly-left d s left_by truncate-closes.left o (begun→ left_by (begun-drop_transaction d s k (→begun s o.session))) (bytes-drop_transaction d s k o.session-bytes)
      (closes-ordered d s left_by 16 truncate-closes o truncate-stays)

  pub drop-truncate-handled : (n : List ℕ) (handle entry : ℕ) → Handled s n handle entry → Handled (drop_transaction_call d s k).session n handle entry
  drop-truncate-handled n handle entry h = left-handled s left_by truncate-closes.left n handle entry h

  module _ (n : List ℕ) (st : Store) (seen : Seen d s n st) where
    seen-cutting : st.writer ≡ L.cutting k (staged_in s (place_of s n)).len
    seen-cutting = sym seen.writer ∙ rw (kind, (found-transaction s k 16 found).number)

    truncate-step : step (L.drop' k) st ≡ then (L.Done 0) st.last st st.readers L.idle false st.live st.held
    unfolding step
    truncate-step = ap (step_drop st k) seen-cutting ∙ rw (eq-eqb k k refl)

    kept-readers : (has : Reader → Bool) → count_open has left_by (place_of s n) ≡ count_open has s (place_of s n)
    kept-readers =
        count-rows s left_by (place_of s n) (place_of s n) (λ x l. truncate-closes.others x (omega arith) (λ q. omega arith))
        (λ x l. view_in_lem s left_by (place_of s n) x (λ p at. truncate-closes.views x p (omega arith) (name-low s names_at n p at)))

    pub drop-truncate-told : (step (L.drop' k) st).answer ≡ L.Done 0
    drop-truncate-told = ap (λ (x : L.After). x.answer) truncate-step

    truncate-seen : (st.live ≡ true → st.held.unwritten ≡ 0) → Seen d left_by n (step (L.drop' k) st).store
    truncate-seen written =
        subst (λ (x : L.After). Seen d left_by n x.store) (sym truncate-step)
        (seen-then s left_by truncate-closes.left n d st (L.Done 0) st.last st.readers L.idle false seen
        (truncate-closes.last ∙ seen.last)
        (λ has. kept-readers has ∙ seen.readers has)
        (rw truncate-closes.own)
        (untouched-rows left_by (place_of s n) (λ p at. none-touched p (name-low s names_at n p at)))
        (λ p l there live.
        record {
          unwritten = untouched-unwritten left_by p (none-touched p l) ∙ sym (written live);
          base = λ t li. absurd (true≢false (sym t ∙ none-touched p l));
        }))

  pub drop-truncate-seen : (n : List ℕ) (t : Told) (p : Phys) → Good t p → Seen d s n (build t p) → Seen d (drop_transaction_call d s k).session n (step (L.drop' k) (build t p)).store
  drop-truncate-seen n t p good seen =
      truncate-seen n (build t p) seen (λ live. all-written t p good k _ (seen-cutting n (build t p) seen) live)
