-- A transaction begun: a reader, an append or a truncate. What it makes of the areas is what it makes of the store that is seen; and an append waits here where
-- it waits there. Assumes nothing.
use Rattle.std.specs.Prelude.{◌≡◌, ◌≢◌, Bool, true, false, ◌&&◌, List, ◌∷◌, ℕ, suc, ◌+◌, ◌≤◌, ◌<◌, eqb, ltb, Option, Some, None, Ok}
use Rattle.std.proofs.Math.Path.{refl, sym, ap}
use Rattle.std.proofs.Common.{◌∙◌, subst, true≢false, arith, eq-eqb, ne_eqb, le-ltb}
use Rattle.std.proofs.Math.Bool.{cond}
use Rattle.octets.specs.Cases.{decide, equal}
use Rattle.octets.specs.Number.{Bytes}
use Rattle.answers.specs.Answers.{code_of}
use Rattle.answers.specs.Answers.{Answer}
use Rattle.components.specs.Epochs.{older}
use Rattle.layout.specs.NamesLaws.{name-low}
use Rattle.layout.specs.Session.{names_at, Begun}
use Rattle.session.specs.declared.head.Head.{Head}
use Rattle.session.specs.declared.tape_rows.Staged.{Staged}
use Rattle.session.specs.declared.transactions.Kind.{Kind}
use Rattle.session.specs.declared.transactions.Kind.TheVariants as K
use Rattle.session.specs.declared.transactions.Transaction.{Transaction}
use Rattle.session.specs.declared.views.View.{View}
use Rattle.session.specs.Meaning.{session_of}
use Rattle.session.specs.MeaningLaws.{head_at_lem, view-at, transaction-at, staged-at, is_open}
use Rattle.session.specs.KeepLaws.{begun-ready}
use Rattle.session.specs.Rows.{head_of, view_of, kind_code, transaction_of, staged_of}
use Rattle.beginning.specs.Transactions.{is_open_at, begun_at}
use Rattle.beginning.specs.Calls.{waits, append_call, truncate_call, reader_call}
use Rattle.beginning.specs.Ways.{usable-begun}
use Rattle.beginning.specs.Laws.{MayBegin, next_head, begun_in, next_fits, session-begun_at, begun-begun_at, bytes-begun_at, refusal-some, reader-cases, truncate-cases}
use Rattle.beginning.proofs.Laws.{append_cases}
use Rattle.staging.specs.Seeing.{seen_by, is_append}
use Rattle.lives.specs.Life.{Reader, Writer, Store, step, step_append, step_truncate, then, epochs}
use Rattle.lives.specs.Life as L
use Rattle.seen.specs.Seen.{place_of, shown, view_in, staged_in, reader_in, writer_as, writer_in, count_open, Seen, Handled}
use Rattle.seen.specs.Orderly.{Orderly}
use Rattle.seen.specs.Rows.{open_row, untouched-unwritten, untouched-rows, count-rows, view_in_lem, touched-in, staged-in, touched-as, number-row}
use Rattle.seen.specs.Kinds.{append-open}
use Rattle.seen.specs.Counts.{Others, open_more, in-cons, seen-waits}
use Rattle.seen.specs.Leaving.{Leaves, leaves-is, head-is, view-is, transaction-is, staged-is, left-handled, seen-then, Ordered, orderly-left}

-- ---- the rows then

pub record Begins (s u : List ℕ) (t : ℕ) (k : Kind) : Type 0 where
  pub left : Leaves s u
  pub last : (head_of u).last_transaction ≡ (head_of s).last_transaction + 1
  pub own : transaction_of u t ≡ record { kind = k; number = (head_of s).last_transaction + 1; epoch = (head_of s).epoch }
  pub others : (x : ℕ) → x < 17 → x ≢ t → transaction_of u x ≡ transaction_of s x
  pub view : (p : ℕ) → p < 8 → view_of u t p ≡ view_of s 17 p
  pub views : (w p : ℕ) → w < 18 → w ≢ t → p < 8 → view_of u w p ≡ view_of s w p
  pub staged : (p : ℕ) → p < 8 → staged_of u p ≡ staged_of s p

module _ (s : List ℕ) (t : ℕ) (k : Kind) (low : t < 17) (begun : Begun s) (bytes : Bytes s) (more : (head_of s).last_transaction ≢ 0xffff_ffff_ffff_ffff) where
  pub begins-rows : Begins s (begun_at s t k) t k
  begins-rows =
      let m = session_of s in
      let h = head_of s in
      let fresh : Transaction = record { kind = k; number = m.head.last_transaction + 1; epoch = m.head.epoch } in
      let views : ℕ → ℕ → View = λ w. cond (eqb w t) (m.view 17) (m.view w) in
      let places : ℕ → Transaction = λ x. cond (eqb x t) fresh (m.transaction x) in
      let u = begun_at s t k in
      let means : session_of u ≡ begun_in m t k = session-begun_at s t k low (begun-ready s begun) (next_fits s bytes more) in
      let apart : 17 ≢ t = λ e. omega arith in
      let head : m.head ≡ h = head_at_lem s in
      let view = view-is s u (next_head m.head) views places m.staged means in
      let row = transaction-is s u (next_head m.head) views places m.staged means in
      record {
        left = leaves-is s u (next_head m.head) views places m.staged means
            (ap (λ (x : Head). x.epoch) head) (ap (λ (x : Head). x.cut) head) (ap (λ (x : Head). x.side) head) (ap (λ (x : Head). x.last_handle) head)
            (λ p l. rw (ne_eqb 17 t apart) (view-at s 17 p (omega arith) l));
        last = ap (λ (x : Head). x.last_transaction) (head-is s u (next_head m.head) views places m.staged means ∙ ap next_head head);
        own = row t low ∙ rw (eq-eqb t t refl, head);
        others = λ x l d. row x l ∙ rw (ne_eqb x t d) (transaction-at s x l);
        view = λ p l. view t p (omega arith) l ∙ rw (eq-eqb t t refl) (view-at s 17 p (omega arith) l);
        views = λ w p l d q. view w p l q ∙ rw (ne_eqb w t d) (view-at s w p l q);
        staged = λ p l. staged-is s u (next_head m.head) views places m.staged means p l ∙ staged-at s p l;
      }

may-begins : (d s : List ℕ) (t : ℕ) (k : Kind) → Bytes s → MayBegin d s t → Begins s (begun_at s t k) t k
may-begins d s t k bytes may = begins-rows s t k may.place (usable-begun d s may.areas) bytes may.number

pub open-kind : (s : List ℕ) (t : ℕ) → is_open_at s t ≡ is_open (transaction_of s t).kind
unfolding is_open_at
open-kind s t = refl

-- ---- it stays in order

module _ (d s u : List ℕ) (t : ℕ) (k : Kind) (low : t < 17) (some : is_open k ≡ true) (free : is_open_at s t ≡ false) (b : Begins s u t k) (o : Orderly d s) where
  opened : is_open_at u t ≡ true
  opened = open-kind u t ∙ ap (λ (r : Transaction). is_open r.kind) b.own ∙ some

  open-other : (x : ℕ) → x < 17 → x ≢ t → is_open_at u x ≡ is_open_at s x
  open-other x l e = open_row s u x (b.others x l e)

  -- of a place: the new number, or an old one
  own-number : (x : ℕ) → x ≡ t → (transaction_of u x).number ≡ (head_of s).last_transaction + 1
  own-number x e = ap (λ (y : ℕ). (transaction_of u y).number) e ∙ ap (λ (r : Transaction). r.number) b.own

  old-number : (x : ℕ) → x < 17 → x ≢ t → (transaction_of u x).number ≡ (transaction_of s x).number
  old-number x l e = ap (λ (r : Transaction). r.number) (b.others x l e)

  old-given : (x : ℕ) → x < 17 → x ≢ t → is_open_at u x ≡ true → (transaction_of u x).number ≤ (head_of s).last_transaction
  old-given x l e q = rw (old-number x l e) (o.number-given x l (sym (open-other x l e) ∙ q))

  pub begins-ordered : Ordered u
  begins-ordered =
      record {
        numbers = λ x y l m p q e.
            equal x t
            (λ (a : x ≡ t). equal y t (λ (c : y ≡ t). a ∙ sym c) (λ c. absurd (omega (arith, own-number x a, old-given y m c q))))
            (λ a.
            equal y t (λ (c : y ≡ t). absurd (omega (arith, own-number y c, old-given x l a p)))
            (λ c. o.numbers x y l m (sym (open-other x l a) ∙ p) (sym (open-other y m c) ∙ q) (sym (old-number x l a) ∙ e ∙ old-number y m c)));
        number-given = λ x l p.
            equal x t (λ (a : x ≡ t). omega (arith, own-number x a, b.last)) (λ a. omega (arith, old-given x l a p, b.last));
        views = λ x l e p m v.
            rw (b.left.list p m)
            (equal x t
            (λ (a : x ≡ t). ap (λ (r : View). r.listed) (sym (ap (λ (y : ℕ). view_of u y p) a ∙ b.view p m)) ∙ v)
            (λ a. o.views x l (sym (open-other x (omega arith) a) ∙ e) p m (ap (λ (r : View). r.listed) (sym (b.views x p (omega arith) a m)) ∙ v)));
        writer-view = λ e p l.
            equal 16 t
            (λ (a : 16 ≡ t). ap (λ (y : ℕ). view_of u y p) a ∙ b.view p l ∙ sym (b.left.list p l))
            (λ a. b.views 16 p (omega arith) a l ∙ o.writer-view (sym (open-other 16 (omega arith) a) ∙ e) p l ∙ sym (b.left.list p l));
        writer-epoch = λ e.
            equal 16 t
            (λ (a : 16 ≡ t). ap (λ (y : ℕ). (transaction_of u y).epoch) a ∙ ap (λ (r : Transaction). r.epoch) b.own ∙ sym b.left.epoch)
            (λ a. ap (λ (r : Transaction). r.epoch) (b.others 16 (omega arith) a) ∙ o.writer-epoch (sym (open-other 16 (omega arith) a) ∙ e) ∙ sym b.left.epoch);
        staying = record {
          shut-untouched = λ p l e. rw (b.staged p l) (o.shut-untouched p l (sym (number-row s u p (b.left.handles p l)) ∙ e));
          idle-untouched = λ e p l.
              rw (b.staged p l)
              (equal 16 t
              (λ (a : 16 ≡ t). absurd (true≢false (sym opened ∙ ap (is_open_at u) (sym a) ∙ e)))
              (λ a. o.idle-untouched (sym (open-other 16 (omega arith) a) ∙ e) p l));
          made-append = λ p l h v.
              let was : is_append (transaction_of s 16).kind ≡ true = o.made-append p l (rw (number-row s u p (b.left.handles p l)) at h) (rw (b.left.list p l) at v) in
              equal 16 t
              (λ (a : 16 ≡ t). absurd (true≢false (sym (append-open (transaction_of s 16).kind was) ∙ sym (open-kind s 16) ∙ ap (is_open_at s) a ∙ free)))
              (λ a. ap (λ (r : Transaction). is_append r.kind) (b.others 16 (omega arith) a) ∙ was);
          made-touched = λ p l h v.
              rw (b.staged p l) (o.made-touched p l (rw (number-row s u p (b.left.handles p l)) at h) (rw (b.left.list p l) at v));
        };
      }

-- ---- what is seen of it

module _ (s u : List ℕ) (t : ℕ) (k : Kind) (b : Begins s u t k) (n : List ℕ) where
  own_view : (found : Option ℕ) → place_of s n ≡ found → view_in u t found ≡ view_in s 17 found
  own_view (Some p) e = ap shown (b.view p (name-low s names_at n p e))
  own_view None e = refl

  old-reader : (x : ℕ) → x < 16 → x ≢ t → reader_in u (place_of s n) x ≡ reader_in s (place_of s n) x
  old-reader x l d = rw (b.others x (omega arith) d, view_in_lem s u (place_of s n) x (λ p at. b.views x p (omega arith) d (name-low s names_at n p at)))

-- a reader: the writer is as before
module _ (d s u : List ℕ) (t : ℕ) (low : t < 16) (free : is_open_at s t ≡ false) (b : Begins s u t K.Reader) (o : Orderly d s) (n : List ℕ) (st : Store) (seen : Seen d s n st) where
  new-reader : reader_in u (place_of s n) t ≡ record { number = st.last + 1; epoch = st.epoch; here = st.listed; len = st.len; start = st.start }
  new-reader = rw (b.own, own_view s u t K.Reader b n (place_of s n) refl, seen.list, seen.last, seen.epoch)

  others : Others s u (place_of s n) t
  others =
      record {
        opens = λ x l e. open-other d s u t K.Reader (omega arith) refl free b o x (omega arith) e;
        readers = old-reader s u t K.Reader b n;
      }

  reader-goes : Seen d u n (step L.reader st).store
  unfolding step
  reader-goes =
      let r : Reader = record { number = st.last + 1; epoch = st.epoch; here = st.listed; len = st.len; start = st.start } in
      seen-then s u b.left n d st (L.Done (st.last + 1)) (st.last + 1) (r ∷ st.readers) st.writer st.touched seen
      (b.last ∙ ap (λ (x : ℕ). x + 1) seen.last)
      (λ has.
      open_more has s u (place_of s n) t low others r free (opened d s u t K.Reader (omega arith) refl free b o) new-reader
      ∙ ap (λ (x : ℕ). cond (has r) (suc x) x) (seen.readers has)
      ∙ sym (in-cons has r st.readers))
      (rw (b.others 16 (omega arith) (λ q. omega arith), staged-in s u (place_of s n) (λ p at. b.staged p (name-low s names_at n p at)) (λ p at. b.views 16 p (omega arith) (λ q. omega arith) (name-low s names_at n p at))) seen.writer)
      (touched-in s u (place_of s n) (λ p at. b.staged p (name-low s names_at n p at)) ∙ seen.touched)
      (λ p l there live.
      let was = seen.opened p there live in
      record {
        unwritten = ap (λ (x : Staged). x.unwritten) (touched-as s u p (b.staged p l) (b.views 16 p (omega arith) (λ q. omega arith) l)) ∙ was.unwritten;
        base = rw (b.staged p l) was.base;
      })

-- a writer: nothing is staged yet, so it sees the list
module _ (d s u : List ℕ) (k : Kind) (free : is_open_at s 16 ≡ false) (some : is_open k ≡ true) (b : Begins s u 16 k) (o : Orderly d s) (n : List ℕ) (st : Store) (seen : Seen d s n st) where
  bare : (p : ℕ) → p < 8 → (staged_of u p).touched ≡ false
  bare p l = ap (λ (r : Staged). r.touched) (b.staged p l) ∙ o.idle-untouched free p l

  sees-list : (p : ℕ) → p < 8 → seen_by u 16 p ≡ view_of s 17 p
  unfolding seen_by
  sees-list p l = rw (bare p l) (b.view p l)

  as-listed : (found : Option ℕ) → place_of s n ≡ found → staged_in u found ≡ view_in s 17 found
  as-listed (Some p) e = ap shown (sees-list p (name-low s names_at n p e))
  as-listed None e = refl

  new-writer : writer_in u (place_of s n) ≡ writer_as k (st.last + 1) st.epoch (record { listed = st.listed; len = st.len; start = st.start })
  new-writer = rw (b.own, as-listed (place_of s n) refl, seen.list, seen.last, seen.epoch)

  same-readers : (has : Reader → Bool) → count_open has u (place_of s n) ≡ count_open has s (place_of s n)
  same-readers =
      count-rows s u (place_of s n) (place_of s n) (λ x l. b.others x (omega arith) (λ q. omega arith))
      (λ x l. view_in_lem s u (place_of s n) x (λ p at. b.views x p (omega arith) (λ q. omega arith) (name-low s names_at n p at)))

  writer-goes : (w : Writer) → writer_as k (st.last + 1) st.epoch (record { listed = st.listed; len = st.len; start = st.start }) ≡ w
      → Seen d u n (then (L.Done (st.last + 1)) (st.last + 1) st st.readers w false st.live st.held).store
  writer-goes w e =
      seen-then s u b.left n d st (L.Done (st.last + 1)) (st.last + 1) st.readers w false seen
      (b.last ∙ ap (λ (x : ℕ). x + 1) seen.last)
      (λ has. same-readers has ∙ seen.readers has)
      (new-writer ∙ e)
      (untouched-rows u (place_of s n) (λ p at. bare p (name-low s names_at n p at)))
      (λ p l there live.
      record {
        unwritten = untouched-unwritten u p (bare p l) ∙ sym (untouched-unwritten s p (o.idle-untouched free p l)) ∙ (seen.opened p there live).unwritten;
        base = λ t li. absurd (true≢false (sym t ∙ bare p l));
      })

-- ---- the model's steps

closed-idle : (k : Kind) (number epoch : ℕ) (v : View) → is_open k ≡ false → writer_as k number epoch v ≡ L.idle
closed-idle K.Closed number epoch v e = refl
closed-idle K.Reader number epoch v e = refl
closed-idle K.Append number epoch v e = absurd (true≢false e)
closed-idle K.Truncate number epoch v e = absurd (true≢false e)

module _ (d s n : List ℕ) (st : Store) (seen : Seen d s n st) where
  -- no writer there, no writer here
  pub seen-idle : is_open_at s 16 ≡ false → st.writer ≡ L.idle
  seen-idle free = sym seen.writer ∙ closed-idle (transaction_of s 16).kind _ _ _ (sym (open-kind s 16) ∙ free)

  -- an append waits here where it waits there
  pub seen-waiting : older st.epoch (epochs st.readers) ≡ waits s
  seen-waiting = ap (λ (e : ℕ). older e (epochs st.readers)) (sym seen.epoch) ∙ sym (seen-waits d s n st seen (head_of s).epoch)

  pub waiting-same : (st.cut && ltb 0 (older st.epoch (epochs st.readers))) ≡ ((head_of s).cut && ltb 0 (waits s))
  waiting-same = rw (seen-waiting, seen.cut)

  not-waiting : ((head_of s).cut ≡ true → waits s ≡ 0) → (st.cut && ltb 0 (older st.epoch (epochs st.readers))) ≡ false
  not-waiting alone =
      waiting-same
      ∙ decide (head_of s).cut
      (λ (c : (head_of s).cut ≡ true). rw c (le-ltb 0 (waits s) (omega (arith, alone c))))
      (λ (c : (head_of s).cut ≡ false). rw c)

  append-step : is_open_at s 16 ≡ false → ((head_of s).cut ≡ true → waits s ≡ 0)
      → step L.append st
      ≡ then (L.Done (st.last + 1)) (st.last + 1) st st.readers (L.appending (st.last + 1) st.epoch st.listed st.len st.start) false st.live st.held
  unfolding step
  append-step free alone = ap (step_append st) (seen-idle free) ∙ rw (not-waiting alone)

  truncate-step : is_open_at s 16 ≡ false
      → step L.truncate st ≡ then (L.Done (st.last + 1)) (st.last + 1) st st.readers (L.cutting (st.last + 1) st.len) false st.live st.held
  unfolding step
  truncate-step free = ap (step_truncate st) (seen-idle free)

-- ---- the calls

module _ (d s : List ℕ) (o : Orderly d s) where
  -- of a place and a kind that fits it
  began-orderly : (t : ℕ) (k : Kind) → MayBegin d s t → is_open k ≡ true → (t < 16 → kind_code k ≤ 1) → (t ≡ 16 → kind_code k ≢ 1) → Orderly d (begun_at s t k)
  began-orderly t k may some reads writes =
      let b = may-begins d s t k o.session-bytes may in
      let begun = o.session in
      orderly-left d s (begun_at s t k) b.left o (begun-begun_at s t k may.place begun reads writes)
      (bytes-begun_at s t k may.place begun.long o.session-bytes) (begins-ordered d s (begun_at s t k) t k may.place some may.free b o)

  pub reader-orderly : code_of (reader_call d s).answer ≡ 0 → Orderly d (reader_call d s).session
  reader-orderly =
      reader-cases (λ a. code_of a.answer ≡ 0 → Orderly d a.session) d s (λ why e. absurd (refusal-some why e))
      (λ t may low e q. began-orderly t K.Reader may refl (λ l. omega arith) (λ e z. omega arith))

  pub append-orderly : code_of (append_call d s).answer ≡ 0 → Orderly d (append_call d s).session
  append-orderly =
      append_cases (λ a. code_of a.answer ≡ 0 → Orderly d a.session) d s (λ why e. absurd (refusal-some why e))
      (λ may alone q. began-orderly 16 K.Append may refl (λ l. omega arith) (λ e z. omega arith))

  pub truncate-orderly : code_of (truncate_call d s).answer ≡ 0 → Orderly d (truncate_call d s).session
  truncate-orderly =
      truncate-cases (λ a. code_of a.answer ≡ 0 → Orderly d a.session) d s (λ why e. absurd (refusal-some why e))
      (λ may q. began-orderly 16 K.Truncate may refl (λ l. omega arith) (λ e z. omega arith))

  module _ (n : List ℕ) (st : Store) (seen : Seen d s n st) where
    pub reader-seen : code_of (reader_call d s).answer ≡ 0 → Seen d (reader_call d s).session n (step L.reader st).store
    reader-seen =
        reader-cases (λ a. code_of a.answer ≡ 0 → Seen d a.session n (step L.reader st).store) d s (λ why e. absurd (refusal-some why e))
        (λ t may low e q. reader-goes d s (begun_at s t K.Reader) t low may.free (may-begins d s t K.Reader o.session-bytes may) o n st seen)

    pub append-seen : code_of (append_call d s).answer ≡ 0 → Seen d (append_call d s).session n (step L.append st).store
    append-seen =
        append_cases (λ a. code_of a.answer ≡ 0 → Seen d a.session n (step L.append st).store) d s (λ why e. absurd (refusal-some why e))
        (λ may alone q.
        subst (λ (x : L.After). Seen d (begun_at s 16 K.Append) n x.store) (sym (append-step d s n st seen may.free alone))
        (writer-goes d s (begun_at s 16 K.Append) K.Append may.free refl (may-begins d s 16 K.Append o.session-bytes may) o n st seen _ refl))

    pub truncate-seen : code_of (truncate_call d s).answer ≡ 0 → Seen d (truncate_call d s).session n (step L.truncate st).store
    truncate-seen =
        truncate-cases (λ a. code_of a.answer ≡ 0 → Seen d a.session n (step L.truncate st).store) d s (λ why e. absurd (refusal-some why e))
        (λ may q.
        subst (λ (x : L.After). Seen d (begun_at s 16 K.Truncate) n x.store) (sym (truncate-step d s n st seen may.free))
        (writer-goes d s (begun_at s 16 K.Truncate) K.Truncate may.free refl (may-begins d s 16 K.Truncate o.session-bytes may) o n st seen _ refl))

  module _ (n : List ℕ) (handle entry : ℕ) (h : Handled s n handle entry) where
    began-handled : (t : ℕ) (k : Kind) → MayBegin d s t → Handled (begun_at s t k) n handle entry
    began-handled t k may = left-handled s (begun_at s t k) (may-begins d s t k o.session-bytes may).left n handle entry h

    pub reader-handled : Handled (reader_call d s).session n handle entry
    reader-handled = reader-cases (λ a. Handled a.session n handle entry) d s (λ why. h) (λ t may low e. began-handled t K.Reader may)

    pub append-handled : Handled (append_call d s).session n handle entry
    append-handled = append_cases (λ a. Handled a.session n handle entry) d s (λ why. h) (λ may alone. began-handled 16 K.Append may)

    pub truncate-handled : Handled (truncate_call d s).session n handle entry
    truncate-handled = truncate-cases (λ a. Handled a.session n handle entry) d s (λ why. h) (λ may. began-handled 16 K.Truncate may)

-- ---- the answers, there and here

-- the next number
abbrev pub next_done : List ℕ → Answer
next_done s = Ok ((head_of s).last_transaction + 1)

module _ (d s : List ℕ) where
  pub reader-done : code_of (reader_call d s).answer ≡ 0 → (reader_call d s).answer ≡ next_done s
  reader-done = reader-cases (λ a. code_of a.answer ≡ 0 → a.answer ≡ next_done s) d s (λ why e. absurd (refusal-some why e)) (λ t may low e q. refl)

  pub append-done : code_of (append_call d s).answer ≡ 0 → (append_call d s).answer ≡ next_done s
  append-done = append_cases (λ a. code_of a.answer ≡ 0 → a.answer ≡ next_done s) d s (λ why e. absurd (refusal-some why e)) (λ may alone q. refl)

  pub truncate-done : code_of (truncate_call d s).answer ≡ 0 → (truncate_call d s).answer ≡ next_done s
  truncate-done = truncate-cases (λ a. code_of a.answer ≡ 0 → a.answer ≡ next_done s) d s (λ why e. absurd (refusal-some why e)) (λ may q. refl)

  module _ (n : List ℕ) (st : Store) (seen : Seen d s n st) where
    next-told : L.Done (st.last + 1) ≡ L.Done ((head_of s).last_transaction + 1)
    next-told = rw seen.last

    pub reader-told : (step L.reader st).answer ≡ L.Done ((head_of s).last_transaction + 1)
    unfolding step
    reader-told = next-told

    pub append-told : code_of (append_call d s).answer ≡ 0 → (step L.append st).answer ≡ L.Done ((head_of s).last_transaction + 1)
    append-told =
        append_cases (λ a. code_of a.answer ≡ 0 → (step L.append st).answer ≡ L.Done ((head_of s).last_transaction + 1)) d s (λ why e. absurd (refusal-some why e))
        (λ may alone q. ap (λ (x : L.After). x.answer) (append-step d s n st seen may.free alone) ∙ next-told)

    pub truncate-told : code_of (truncate_call d s).answer ≡ 0 → (step L.truncate st).answer ≡ L.Done ((head_of s).last_transaction + 1)
    truncate-told =
        truncate-cases (λ a. code_of a.answer ≡ 0 → (step L.truncate st).answer ≡ L.Done ((head_of s).last_transaction + 1)) d s (λ why e. absurd (refusal-some why e))
        (λ may q. ap (λ (x : L.After). x.answer) (truncate-step d s n st seen may.free) ∙ next-told)
