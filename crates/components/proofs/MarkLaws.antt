-- Marks, clearings, opening and removal: none changes a byte that stays, a mark is set once, and files go from the lowest on. Assumes nothing.
use Rattle.octets.specs.Cases.{some-injective}
use Rattle.std.proofs.lemmas.Option.{none-some}
use Rattle.std.specs.Prelude.{◌≡◌, refl, ◌⊎◌, Bool, true, false, cond, not, ◌&&◌, ◌||◌, ℕ, zero, suc, ◌≤◌, ◌<◌, ltb, Option, Some, None, slice_get}
use Rattle.std.proofs.Math.Path.{sym}
use Rattle.std.proofs.Common.{ap, ◌∙◌, true≢false, arith}
use Rattle.std.proofs.Math.Logic.{inl, inr}
use Rattle.std.proofs.lemmas.Bool.{false≢true}
use Rattle.std.proofs.Math.Bool.{and-false}
use borrow.Author.Tests.{lt-ltb, le-ltb, le-leb, lt-leb, ltb-true, leb-false}
use Rattle.std.proofs.Math.Dec.{leb}
use Rattle.octets.specs.Cases.{picked, decide, equal, and_l, and_r}
use Rattle.components.specs.Pieces.{file_of, place_in}
use Rattle.components.specs.Files.{File, Files, gone, untracked, with_mark, byte_at, unmarked, marked_below, mark_below, ripe_below, removes, remove, clear_from, track}
use Rattle.components.specs.MarkLaws.{Alike}

-- files that differ in their marks alone give the same bytes
pub alike-byte : (fs : ℕ) (g f : Files) (o : ℕ) → Alike (g (file_of fs o)) (f (file_of fs o)) → byte_at fs g o ≡ byte_at fs f o
unfolding byte_at
alike-byte fs g f o a = rw (a.there, a.tracked, a.bytes)

both-alike : (t : Bool) (m : Option ℕ) (f : File) → Alike (cond t (with_mark m f) f) f
both-alike true m f = record { there = refl; tracked = refl; bytes = refl }
both-alike false m f = record { there = refl; tracked = refl; bytes = refl }

-- ---- marks

module _ (n e : ℕ) (f : Files) (k : ℕ) where
  pub mark-alike : Alike (mark_below n e f k) (f k)
  unfolding mark_below
  mark-alike = both-alike (ltb k n && ((f k).tracked && unmarked (f k).mark)) _ (f k)

  -- a tracked file below the start's gets the epoch, if it has none
  pub mark-new : k < n → (f k).tracked ≡ true → (f k).mark ≡ None → (mark_below n e f k).mark ≡ Some e
  unfolding mark_below
  mark-new l t q = rw (lt-ltb k n l, t, q)

  pub mark-once : {d : ℕ} → (f k).mark ≡ Some d → mark_below n e f k ≡ f k
  unfolding mark_below
  mark-once {d} q = rw (q, and-false (f k).tracked, and-false (ltb k n))

  pub mark-above : n ≤ k → mark_below n e f k ≡ f k
  unfolding mark_below
  mark-above l = rw (le-ltb k n l)

  pub mark-untracked : (f k).tracked ≡ false → mark_below n e f k ≡ f k
  unfolding mark_below
  mark-untracked t = rw (t, and-false (ltb k n))

  -- a mark that is there was there before, or is this epoch
  pub mark-mark : {d : ℕ} → (mark_below n e f k).mark ≡ Some d → ((f k).mark ≡ Some d) ⊎ ((d ≡ e) × (k < n))
  unfolding mark_below
  mark-mark {d} =
      picked (λ (g : File). g.mark ≡ Some d → ((f k).mark ≡ Some d) ⊎ ((d ≡ e) × (k < n))) (ltb k n && ((f k).tracked && unmarked (f k).mark)) (with_mark (Some e) (f k)) (f k)
      (λ t h. inr (sym (some-injective e d h), ltb-true k n (and_l _ _ t)))
      (λ _ h. inl h)

-- marked again, the first mark stays
pub mark-twice : (n m e d : ℕ) (f : Files) (k : ℕ) → k < n → (f k).tracked ≡ true → (f k).mark ≡ None → (mark_below m d (mark_below n e f) k).mark ≡ Some e
mark-twice n m e d f k l t q =
    let one : (mark_below n e f k).mark ≡ Some e = mark-new n e f k l t q in
    ap (λ (g : File). g.mark) (mark-once m d (mark_below n e f) k one) ∙ one

pub mark-byte : (fs n e : ℕ) (f : Files) (o : ℕ) → byte_at fs (mark_below n e f) o ≡ byte_at fs f o
mark-byte fs n e f o = alike-byte fs (mark_below n e f) f o (mark-alike n e f (file_of fs o))

-- ---- clearings

module _ (n : ℕ) (f : Files) (k : ℕ) where
  pub clear-alike : Alike (clear_from n f k) (f k)
  unfolding clear_from
  clear-alike = both-alike (leb n k) None (f k)

  pub clear-from : n ≤ k → (clear_from n f k).mark ≡ None
  unfolding clear_from
  clear-from l = rw (le-leb n k l)

  pub clear-below : k < n → clear_from n f k ≡ f k
  unfolding clear_from
  clear-below l = rw (lt-leb n k l)

  pub clear-mark : {e : ℕ} → (clear_from n f k).mark ≡ Some e → ((f k).mark ≡ Some e) × (k < n)
  unfolding clear_from
  clear-mark {e} =
      picked (λ (g : File). g.mark ≡ Some e → ((f k).mark ≡ Some e) × (k < n)) (leb n k) (with_mark None (f k)) (f k)
      (λ _ h. absurd (none-some e h))
      (λ t h. (h, leb-false n k t))

pub clear-byte : (fs n : ℕ) (f : Files) (o : ℕ) → byte_at fs (clear_from n f) o ≡ byte_at fs f o
clear-byte fs n f o = alike-byte fs (clear_from n f) f o (clear-alike n f (file_of fs o))

-- ---- opening

module _ (n : ℕ) (f : Files) (k : ℕ) where
  pub track-bytes : (track n f k).bytes ≡ (f k).bytes
  unfolding track
  track-bytes = picked (λ (g : File). g.bytes ≡ (f k).bytes) (leb k n && (f k).there) _ (untracked (f k)) (λ _. refl) (λ _. refl)

  pub track-there : (track n f k).there ≡ (f k).there
  unfolding track
  track-there = picked (λ (g : File). g.there ≡ (f k).there) (leb k n && (f k).there) _ (untracked (f k)) (λ t. sym (and_r (leb k n) _ t)) (λ _. refl)

  pub track-mark : (track n f k).mark ≡ None
  unfolding track
  track-mark = picked (λ (g : File). g.mark ≡ None) (leb k n && (f k).there) _ (untracked (f k)) (λ _. refl) (λ _. refl)

  pub track-tracked : (track n f k).tracked ≡ leb k n && (f k).there
  unfolding track
  track-tracked = picked (λ (g : File). g.tracked ≡ leb k n && (f k).there) (leb k n && (f k).there) _ (untracked (f k)) (λ t. sym t) (λ t. sym t)

pub track-byte : (fs n : ℕ) (f : Files) (o : ℕ) → file_of fs o ≤ n → (f (file_of fs o)).there ≡ true → byte_at fs (track n f) o ≡ slice_get (f (file_of fs o)).bytes (place_in fs o)
unfolding byte_at track
track-byte fs n f o l t = rw (le-leb (file_of fs o) n l, t)

-- ---- removal

marked-is : (oldest : ℕ) (q : Option ℕ) → marked_below oldest q ≡ true → (e : ℕ) × (q ≡ Some e) × (e < oldest)
marked-is oldest None h = absurd (false≢true h)
marked-is oldest (Some e) h = (e, refl, ltb-true e oldest h)

-- every lower tracked file is marked below the limit, and so are those below a lower number
ripe-less : (oldest : ℕ) (f : Files) (k j : ℕ) → j ≤ k → ripe_below oldest f k ≡ true → ripe_below oldest f j ≡ true
unfolding ripe_below
ripe-less oldest f zero j l h = let e : j ≡ 0 = omega arith in rw e
ripe-less oldest f (suc k) j l h =
    let ih = ripe-less oldest f k j in
    equal j (suc k)
    (λ e. rw e h)
    (λ n. ih (omega arith) (and_r (not (f k).tracked || marked_below oldest (f k).mark) _ h))

pub ripe-at : (oldest : ℕ) (f : Files) (k j : ℕ) → j < k → (f j).tracked ≡ true → ripe_below oldest f k ≡ true → marked_below oldest (f j).mark ≡ true
unfolding ripe_below
ripe-at oldest f k j l t h =
    let up : ripe_below oldest f (suc j) ≡ true = ripe-less oldest f k (suc j) l h in
    rw t at (and_l (not (f j).tracked || marked_below oldest (f j).mark) _ up)

pub →ripe : (oldest : ℕ) (f : Files) (k : ℕ) → ((j : ℕ) → j < k → (f j).tracked ≡ true → marked_below oldest (f j).mark ≡ true) → ripe_below oldest f k ≡ true
unfolding ripe_below
→ripe oldest f zero g = refl
→ripe oldest f (suc k) g =
    let rest : ripe_below oldest f k ≡ true = →ripe oldest f k (λ j l. g j (omega arith)) in
    decide (f k).tracked (λ u. rw (u, g k (omega arith) u, rest)) (λ u. rw (u, rest))

module _ (oldest : ℕ) (f : Files) (k : ℕ) where
  pub remove-gone : removes oldest f k ≡ true → remove oldest f k ≡ gone
  unfolding remove
  remove-gone t = rw t

  pub remove-kept : removes oldest f k ≡ false → remove oldest f k ≡ f k
  unfolding remove
  remove-kept t = rw t

  -- a removed file is tracked and has a mark below the limit
  pub removed-tracked : removes oldest f k ≡ true → (f k).tracked ≡ true
  removed-tracked t = and_l (f k).tracked _ t

  pub removed-mark : removes oldest f k ≡ true → (e : ℕ) × ((f k).mark ≡ Some e) × (e < oldest)
  removed-mark t = marked-is oldest (f k).mark (and_l (marked_below oldest (f k).mark) _ (and_r (f k).tracked _ t))

  -- from the lowest on: with it go the lower tracked ones, and one that stays keeps the higher ones
  pub removed-lower : (j : ℕ) → j < k → (f j).tracked ≡ true → removes oldest f k ≡ true → removes oldest f j ≡ true
  removed-lower j l q t =
      let r : ripe_below oldest f k ≡ true = and_r (marked_below oldest (f k).mark) _ (and_r (f k).tracked _ t) in
      rw (q, ripe-at oldest f k j l q r, ripe-less oldest f k j (omega arith) r)

  pub kept-higher : (j : ℕ) → j < k → (f j).tracked ≡ true → removes oldest f j ≡ false → removes oldest f k ≡ false
  kept-higher j l q s = decide (removes oldest f k) (λ t. absurd (true≢false (sym (removed-lower j l q t) ∙ s))) (λ t. t)

  pub kept-untracked : (f k).tracked ≡ false → removes oldest f k ≡ false
  kept-untracked q = rw q

  pub kept-unmarked : (f k).mark ≡ None → removes oldest f k ≡ false
  kept-unmarked q = rw (q, and-false (f k).tracked)

  pub kept-young : {e : ℕ} → (f k).mark ≡ Some e → oldest ≤ e → removes oldest f k ≡ false
  kept-young {e} q l = rw (q, le-ltb e oldest l, and-false (f k).tracked)

  -- what goes: the lowest tracked file, and whatever only such files lie below, if it is marked below the limit
  pub goes : {e : ℕ} → (f k).tracked ≡ true → (f k).mark ≡ Some e → e < oldest
      → ((j : ℕ) → j < k → (f j).tracked ≡ true → removes oldest f j ≡ true)
      → removes oldest f k ≡ true
  goes {e} t q l h = rw (t, q, lt-ltb e oldest l) (→ripe oldest f k (λ j m u. and_l (marked_below oldest (f j).mark) _ (and_r (f j).tracked _ (h j m u))))

  -- a mark that is there was there before
  pub remove-mark : {e : ℕ} → (remove oldest f k).mark ≡ Some e → (f k).mark ≡ Some e
  unfolding remove
  remove-mark {e} = picked (λ (g : File). g.mark ≡ Some e → (f k).mark ≡ Some e) (removes oldest f k) gone (f k) (λ _ h. absurd (none-some e h)) (λ _ h. h)

-- no byte is made or changed; one is lost only with a file marked below the limit
pub remove-byte : (fs oldest : ℕ) (f : Files) (o : ℕ) {x : ℕ} → byte_at fs (remove oldest f) o ≡ Some x → byte_at fs f o ≡ Some x
unfolding byte_at remove
remove-byte fs oldest f o {x} =
    picked (λ (g : File). cond (g.tracked && g.there) (slice_get g.bytes (place_in fs o)) None ≡ Some x → cond ((f (file_of fs o)).tracked && (f (file_of fs o)).there) (slice_get (f (file_of fs o)).bytes (place_in fs o)) None ≡ Some x)
    (removes oldest f (file_of fs o)) gone (f (file_of fs o))
    (λ _ h. absurd (none-some x h))
    (λ _ h. h)

pub remove-keeps : (fs oldest : ℕ) (f : Files) (o : ℕ) → removes oldest f (file_of fs o) ≡ false → byte_at fs (remove oldest f) o ≡ byte_at fs f o
unfolding byte_at
remove-keeps fs oldest f o t = rw (remove-kept oldest f (file_of fs o) t)
