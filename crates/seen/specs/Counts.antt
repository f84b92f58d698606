-- Laws of the two counts of readers: of those in a list, also by the pages that windows show, and of those in the open places of the table. Whom an append
-- waits for, and the oldest reader, are the same on both sides. Assumes nothing.
use Rattle.octets.specs.Cases.{some-injective}
use Rattle.std.proofs.lemmas.Option.{none-some}
use Rattle.std.specs.Prelude.{◌≡◌, ◌≢◌, cond, ◌&&◌, length, Option, Some}
use Rattle.std.proofs.Math.Path.{refl}
use Rattle.std.proofs.Common.{sym, ap, ◌∙◌, ⊎_elim, arith}
use Rattle.std.proofs.Math.Bool.{Bool, true, false, not, and-false}
use mathlib.Core.List.Memᴰ
use mathlib.Core.List.{List, [], ◌∷◌, map, Memᴰ}
use Prim.Native.Nat.{ℕ, zero, suc, ◌+◌, ◌≤◌, ◌<◌}
use borrow.Author.Tests.{eq-eqb, ne_eqb}
use Rattle.std.proofs.Math.Dec.{eqb, ltb}
use Rattle.octets.specs.Cases.{picked, decide, equal, and_l, and_r, and_both}
use Rattle.octets.specs.First.{count, count_same, count-more}
use Rattle.components.specs.Epochs.{older, oldest_other}
use Rattle.components.proofs.EpochsLaws.{none-older, →none-older, oldest-le, oldest-member}
use Rattle.session.specs.Rows.{head_of, transaction_of}
use Rattle.beginning.specs.Transactions.{is_open_at, is_older, waiting_for}
use Rattle.ending.specs.Oldest.{epochs_from, oldest_of}
use Rattle.lives.specs.Life.{Reader, Store, find, without, is_some, epochs}
use Rattle.lives.specs.Told.{Window, Page, page_w, page_in}
use Rattle.lives.specs.Invariant.{erase}
use Rattle.seen.specs.Seen.{place_of, reader_in, count_in, count_open, Seen}

-- ---- in a list

module _ (has : Reader → Bool) where
  pub in-none : count_in has [] ≡ 0
  unfolding count_in
  in-none = refl

  pub in-cons : (r : Reader) (rs : List Reader) → count_in has (r ∷ rs) ≡ cond (has r) (suc (count_in has rs)) (count_in has rs)
  unfolding count_in
  in-cons r rs = refl

  pub in-hit : (r : Reader) (rs : List Reader) → has r ≡ true → count_in has (r ∷ rs) ≡ suc (count_in has rs)
  in-hit r rs e = in-cons r rs ∙ rw e

  pub in-miss : (r : Reader) (rs : List Reader) → has r ≡ false → count_in has (r ∷ rs) ≡ count_in has rs
  in-miss r rs e = in-cons r rs ∙ rw e

  -- without those of a number
  pub in_without : (k : ℕ) (rs : List Reader) → count_in has (without k rs) ≡ count_in (λ r. has r && not (eqb k r.number)) rs
  unfolding count_in without
  in_without k [] = refl
  in_without k (r ∷ rs) =
      let ih = in_without k rs in
      decide (eqb k r.number)
      (λ (e : eqb k r.number ≡ true). rw (e, and-false (has r)) ih)
      (λ (e : eqb k r.number ≡ false). decide (has r) (λ (h : has r ≡ true). rw (e, h) (ap suc ih)) (λ (h : has r ≡ false). rw (e, h) ih))

pub in-member : (has : Reader → Bool) (r : Reader) (rs : List Reader) → Memᴰ r rs → has r ≡ true → 0 < count_in has rs
in-member has r [] m e = absurd (Memᴰ.not-nil m)
in-member has r (q ∷ rs) m e =
    decide (has q)
    (λ h. omega (arith, in-hit has q rs h))
    (λ (h : has q ≡ false).
    ⊎_elim
    (λ (same : r ≡ q). let z : ◌≡◌ {A = Bool} true false = cc in let y : ◌≡◌ {A = ℕ} 0 1 = cc in absurd (omega arith))
    (λ n. omega (arith, in-miss has q rs h, in-member has r rs n e))
    (Memᴰ.cases_cons m))

-- a reader of a number
abbrev pub is_number : ℕ → Reader → Bool
is_number k r = eqb k r.number

pub find-some : (k : ℕ) (rs : List Reader) → 0 < count_in (is_number k) rs → is_some (find k rs) ≡ true
unfolding find
find-some k [] one = absurd (omega (arith, in-none (is_number k)))
find-some k (r ∷ rs) one =
    decide (eqb k r.number)
    (λ (e : eqb k r.number ≡ true). rw e)
    (λ (e : eqb k r.number ≡ false). rw e (find-some k rs (omega (arith, in-miss (is_number k) r rs e))))

-- a window that shows a page is counted, by whatever such a window has
pub page-counted : (has : Reader → Bool) (k : ℕ) (q : Page) → ((w : Window) → eqb k w.number ≡ true → page_w w ≡ q → has (erase w) ≡ true)
    → (ws : List Window) → page_in k ws ≡ Some q → 0 < count_in has (map erase ws)
unfolding page_in
page-counted has k q hits [] = λ e. absurd (none-some q e)
page-counted has k q hits (w ∷ ws) =
    picked (λ (x : Option Page). x ≡ Some q → 0 < count_in has (map erase (w ∷ ws))) (eqb k w.number) (Some (page_w w)) (page_in k ws)
    (λ m e. omega (arith, in-hit has (erase w) (map erase ws) (hits w m (some-injective _ _ e))))
    (λ m e.
    let rest = page-counted has k q hits ws e in
    decide (has (erase w)) (λ h. omega (arith, in-hit has (erase w) (map erase ws) h)) (λ h. omega (arith, in-miss has (erase w) (map erase ws) h)))

-- ---- in the open places

-- a place in a run at which a test holds
record Place (p : ℕ → Bool) (k i : ℕ) : Type 0 where
  place : ℕ
  low : i ≤ place
  high : place < i + k
  holds : p place ≡ true

count-some : (p : ℕ → Bool) (k i : ℕ) → 0 < count p k i → Place p k i
unfolding count
count-some p zero i one = absurd (omega arith)
count-some p (suc k) i one =
    decide (p i)
    (λ (e : p i ≡ true). record { place = i; low = omega arith; high = omega arith; holds = e })
    (λ (e : p i ≡ false).
    let h = count-some p k (i + 1) (omega (arith, rw e at one)) in
    record { place = h.place; low = omega (arith, h.low); high = omega (arith, h.high); holds = h.holds })

count-place : (p : ℕ → Bool) (k i j : ℕ) → i ≤ j → j < i + k → p j ≡ true → 0 < count p k i
unfolding count
count-place p zero i j low high e = absurd (omega arith)
count-place p (suc k) i j low high e =
    equal i j
    (λ (same : i ≡ j). let h : p i ≡ true = cc in rw h (omega arith))
    (λ apart. omega (arith, count-place p k (i + 1) j (omega arith) (omega arith) e))

-- an open place whose reader has it
pub record AtPlace (has : Reader → Bool) (s : List ℕ) (tape : Option ℕ) : Type 0 where
  pub place : ℕ
  pub low : place < 16
  pub opened : is_open_at s place ≡ true
  pub holds : has (reader_in s tape place) ≡ true

module _ (has : Reader → Bool) (s : List ℕ) (tape : Option ℕ) where
  pub open-some : 0 < count_open has s tape → AtPlace has s tape
  unfolding count_open
  open-some one =
      let h = count-some (λ t. is_open_at s t && has (reader_in s tape t)) 16 0 one in
      let t = h.place in
      record {
        place = t;
        low = omega (arith, h.high);
        opened = and_l (is_open_at s t) (has (reader_in s tape t)) h.holds;
        holds = and_r (is_open_at s t) (has (reader_in s tape t)) h.holds;
      }

  pub open-place : (t : ℕ) → t < 16 → is_open_at s t ≡ true → has (reader_in s tape t) ≡ true → 0 < count_open has s tape
  unfolding count_open
  open-place t low opened holds =
      count-place (λ x. is_open_at s x && has (reader_in s tape x)) 16 0 t (omega arith) (omega arith) (and_both (is_open_at s t) (has (reader_in s tape t)) opened holds)

-- the other places are as they were
pub record Others (s u : List ℕ) (tape : Option ℕ) (t : ℕ) : Type 0 where
  pub opens : (x : ℕ) → x < 16 → x ≢ t → is_open_at u x ≡ is_open_at s x
  pub readers : (x : ℕ) → x < 16 → x ≢ t → reader_in u tape x ≡ reader_in s tape x

module _ (has : Reader → Bool) (s u : List ℕ) (tape : Option ℕ) (t : ℕ) (low : t < 16) (others : Others s u tape t) where
  -- one more reader, in a place that was free
  pub open_more : (r : Reader) → is_open_at s t ≡ false → is_open_at u t ≡ true → reader_in u tape t ≡ r
      → count_open has u tape ≡ cond (has r) (suc (count_open has s tape)) (count_open has s tape)
  unfolding count_open
  open_more r free opened same =
      let p : ℕ → Bool = λ x. is_open_at s x && has (reader_in s tape x) in
      let q : ℕ → Bool = λ x. is_open_at u x && has (reader_in u tape x) in
      let rest : (x : ℕ) → x < 16 → x ≢ t → q x ≡ p x = λ x l d. rw (others.opens x l d, others.readers x l d) in
      decide (has r)
      (λ (h : has r ≡ true).
      rw h
      (count-more p q 16 0 t (omega arith) (omega arith) (rw free) (rw (opened, same, h)) (λ x a b d. rest x (omega arith) d) ∙ omega arith))
      (λ (h : has r ≡ false).
      rw h
      (count_same q p 16 0 (λ x a b. equal x t (λ (e : x ≡ t). rw (e, free, opened, same, h)) (λ d. rest x (omega arith) d))))

  -- one less, the only one of its number
  pub open-less : (k : ℕ) → (transaction_of s t).number ≡ k → is_open_at u t ≡ false → ((x : ℕ) → x < 16 → is_open_at s x ≡ true → (transaction_of s x).number ≡ k → x ≡ t)
      → count_open has u tape ≡ count_open (λ r. has r && not (eqb k r.number)) s tape
  unfolding count_open
  open-less k own shut alone =
      let here : eqb k (transaction_of s t).number ≡ true = eq-eqb k (transaction_of s t).number (sym own) in
      count_same (λ x. is_open_at u x && has (reader_in u tape x)) (λ x. is_open_at s x && (has (reader_in s tape x) && not (eqb k (transaction_of s x).number))) 16 0
      (λ x a b.
      equal x t
      (λ (e : x ≡ t). rw (e, shut, here, and-false (has (reader_in s tape t)), and-false (is_open_at s t)))
      (λ d.
      rw (others.opens x (omega arith) d, others.readers x (omega arith) d)
      (decide (is_open_at s x)
      (λ (o : is_open_at s x ≡ true).
      let apart : eqb k (transaction_of s x).number ≡ false = ne_eqb k (transaction_of s x).number (λ e. d (alone x (omega arith) o (sym e))) in
      decide (has (reader_in s tape x)) (λ (h : has (reader_in s tape x) ≡ true). rw (o, h, apart)) (λ (h : has (reader_in s tape x) ≡ false). rw (o, h)))
      (λ (o : is_open_at s x ≡ false). rw o))))

-- ---- whom an append waits for

pub older-in : (e : ℕ) (rs : List Reader) → older e (epochs rs) ≡ count_in (λ r. ltb r.epoch e) rs
unfolding older count_in
older-in e [] = refl
older-in e (r ∷ rs) = rw (older-in e rs)

pub waits-open : (s : List ℕ) (e : ℕ) (tape : Option ℕ) → waiting_for s e ≡ count_open (λ r. ltb r.epoch e) s tape
unfolding waiting_for is_older count_open
waits-open s e tape = refl

pub seen-waits : (d s n : List ℕ) (st : Store) → Seen d s n st → (e : ℕ) → waiting_for s e ≡ older e (epochs st.readers)
seen-waits d s n st seen e = waits-open s e (place_of s n) ∙ seen.readers (λ r. ltb r.epoch e) ∙ sym (older-in e st.readers)

-- ---- the oldest

module _ (s : List ℕ) where
  older-from : (e k t : ℕ) → older e (epochs_from s k t) ≡ count (is_older s e) k t
  unfolding older epochs_from count is_older
  older-from e zero t = refl
  older-from e (suc k) t =
      let ih = older-from e k (t + 1) in
      decide (is_open_at s t)
      (λ (o : is_open_at s t ≡ true).
      decide (ltb (transaction_of s t).epoch e)
      (λ (l : ltb (transaction_of s t).epoch e ≡ true). rw (o, l, ih) (omega arith))
      (λ (l : ltb (transaction_of s t).epoch e ≡ false). rw (o, l, ih) (omega arith)))
      (λ (o : is_open_at s t ≡ false). rw (o, ih) (omega arith))

  length_from : (k t : ℕ) → length (epochs_from s k t) ≡ count (λ x. is_open_at s x && true) k t
  unfolding epochs_from count
  length_from zero t = refl
  length_from (suc k) t =
      let ih = length_from k (t + 1) in
      decide (is_open_at s t)
      (λ (o : is_open_at s t ≡ true). rw (o, ih) (omega arith))
      (λ (o : is_open_at s t ≡ false). rw (o, ih) (omega arith))

length-in : (rs : List Reader) → length (epochs rs) ≡ count_in (λ r. true) rs
unfolding count_in
length-in [] = refl
length-in (r ∷ rs) = ap suc (length-in rs)

-- lists of epochs with as many members below every number, and the same length, have the same least
oldest-bound : (own x y : ℕ) (xs ys : List ℕ) → ((e : ℕ) → older e (x ∷ xs) ≡ older e (y ∷ ys)) → oldest_other own (y ∷ ys) ≤ oldest_other own (x ∷ xs)
oldest-bound own x y xs ys same =
    let b = oldest_other own (y ∷ ys) in
    none-older b (x ∷ xs) (same b ∙ →none-older b (y ∷ ys) (λ d m. oldest-le own (y ∷ ys) m)) (oldest-member own x xs)

pub oldest-same : (own : ℕ) (xs ys : List ℕ) → length xs ≡ length ys → ((e : ℕ) → older e xs ≡ older e ys) → oldest_other own xs ≡ oldest_other own ys
oldest-same own [] [] long same = refl
oldest-same own [] (y ∷ ys) long same = absurd (omega arith)
oldest-same own (x ∷ xs) [] long same = absurd (omega arith)
oldest-same own (x ∷ xs) (y ∷ ys) long same =
    omega (arith, oldest-bound own x y xs ys same, oldest-bound own y x ys xs (λ e. sym (same e)))

pub seen-oldest : (d s n : List ℕ) (st : Store) → Seen d s n st → oldest_of s ≡ oldest_other (head_of s).epoch (epochs st.readers)
unfolding oldest_of count_open waiting_for
seen-oldest d s n st seen =
    oldest-same (head_of s).epoch (epochs_from s 16 0) (epochs st.readers)
    (length_from s 16 0 ∙ seen.readers (λ r. true) ∙ sym (length-in st.readers))
    (λ e. older-from s e 16 0 ∙ seen-waits d s n st seen e)
