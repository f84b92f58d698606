-- After any calls of a running session a tape that has a handle is made of whole entries: the entry size is at least 1, and it divides the committed length and
-- the length that the open writer has staged. Assumes nothing.
use Rattle.std.specs.Prelude.{◌≡◌, refl, ◌≢◌, Bool, false, cond, not, List, ◌++◌, ℕ, ◌*◌, ◌%◌, ◌^◌, ◌≤◌, ◌<◌, min, length, take, replicate}
use Rattle.std.proofs.Common.{sym, ap, ◌∙◌, subst, arith, eqb-true, length-append, length-take}
use Rattle.std.proofs.Math.Bool.{true}
use Rattle.std.proofs.lemmas.Bool.{false≢true}
use Rattle.std.specs.Int.{◌∣◌}
use Rattle.std.proofs.Math.Nat.{dvd-zero, dvd-add, dvd-mul_left, dvd_of_mod-eq-zero}
use Rattle.std.proofs.Math.Dec.{eqb}
use Rattle.octets.specs.Cases.{picked, decide, order, and_l, and_r}
use Rattle.octets.specs.Compare.{same_bytes, same_true, same_refl}
use Rattle.octets.specs.Number.{Bytes}
use Rattle.answers.specs.Answers.{code_of, value_of}
use Rattle.session.specs.Rows.{transaction_of}
use Rattle.rolling_tape.specs.Removal.{areas}
use Rattle.opening.specs.Shape.{opening_of}
use Rattle.opening.specs.Calls.{open_call, opened}
use Rattle.lives.specs.Life as L
use Rattle.lives.specs.Told.{Told, Staging, idle, appending, cutting, told_open, told_put, told_shift, told_cut, told_commit, told_drop}
use Rattle.lives.specs.Told as T
use Rattle.lives.specs.Invariant.{Dormant, GoodIf, Resting, build, erase_w}
use Rattle.seen.specs.Seen.{Handled}
use Rattle.seen.specs.Touching.{staged_len}
use Rattle.opened.specs.OpensServed.{open-served}
use Rattle.opened.specs.OpensSeen.{own-seen}
use Rattle.promises.specs.Calls.{Call, format, store, append, reader, truncate, open_tape, append_entries, shift_start, truncate_tape, drop_entries, pop_entry, read_entries, read_entry, tape_len, tape_start, tape_exists, commit, drop_transaction, Fits, perform}
use Rattle.promises.specs.Told.{Known, Concern, apart, calls, opens, is_ours, if_ours, staged_length, entries_left, concerns, OldSize, tell_as}
use Rattle.promises.specs.Holds.{Holds}
use Rattle.promises.specs.Standing.{Lore, Running}
use Rattle.promises.specs.Opening.{open-runs}
use Rattle.promises.specs.Handles.{staged-same}
use Rattle.promises.specs.Always.{is_inside, lore, Lasts}
use Rattle.promises.specs.Wholes.{Whole, WholeKnown, put-entire, WholeIn}

-- ---- a call of one tape

module _ (e : ℕ) where
  -- what is staged is whole entries
  abbrev Entries : Staging → Type 0
  Entries w = e ∣ staged_length w

  put_whole : (k : ℕ) (bs : List ℕ) (w : Staging) → e ∣ length bs → Entries w → Entries (told_put k bs w)
  put_whole k bs idle more entire = entire
  put_whole k bs (appending m h c s) more entire =
      picked Entries (eqb k m) (appending m h (c ++ bs) s) (appending m h c s) (λ q. subst (λ (x : ℕ). e ∣ x) (sym (length-append c bs)) (dvd-add e entire more)) (λ q. entire)
  put_whole k bs (cutting m c) more entire = entire

  shift-whole : (k o : ℕ) (w : Staging) → Entries w → Entries (told_shift k o w)
  shift-whole k o idle entire = entire
  shift-whole k o (appending m h c s) entire = picked Entries (eqb k m) _ (appending m h c s) (λ q. entire) (λ q. entire)
  shift-whole k o (cutting m c) entire = entire

  least-whole : (a b : ℕ) → e ∣ a → e ∣ b → e ∣ min a b
  least-whole a b left right =
      order a b
      (λ (l : a < b). let is : min a b ≡ a = omega arith in subst (λ (x : ℕ). e ∣ x) (sym is) left)
      (λ (l : b ≤ a). let is : min a b ≡ b = omega arith in subst (λ (x : ℕ). e ∣ x) (sym is) right)

  cut-whole : (k o : ℕ) (w : Staging) → e ∣ o → Entries w → Entries (told_cut k o w)
  cut-whole k o idle at entire = entire
  cut-whole k o (appending m h c s) at entire = entire
  cut-whole k o (cutting m c) at entire =
      picked Entries (eqb k m) (cutting m (take o c)) (cutting m c)
      (λ q. subst (λ (x : ℕ). e ∣ x) (sym (length-take o c)) (least-whole o (length c) at entire)) (λ q. entire)

  commit-whole : (k : ℕ) (t : Told) → Whole e t → (w : Staging) → Entries w → Whole e (told_commit k t w)
  commit-whole k t whole idle entire = whole
  commit-whole k t whole (appending m h c s) entire =
      picked (Whole e) (eqb k m) _ t (λ q. record { entry-some = whole.entry-some; content = entire; staged = dvd-zero e }) (λ q. whole)
  commit-whole k t whole (cutting m c) entire =
      picked (Whole e) (eqb k m) _ t (λ q. record { entry-some = whole.entry-some; content = entire; staged = dvd-zero e }) (λ q. whole)

  drop-whole : (k : ℕ) (t : Told) → Whole e t → (w : Staging) → Whole e (told_drop k t w)
  drop-whole k t whole idle = record { entry-some = whole.entry-some; content = whole.content; staged = whole.staged }
  drop-whole k t whole (appending m h c s) =
      picked (Whole e) (eqb k m) _ _
      (λ q. record { entry-some = whole.entry-some; content = whole.content; staged = dvd-zero e })
      (λ q. record { entry-some = whole.entry-some; content = whole.content; staged = whole.staged })
  drop-whole k t whole (cutting m c) =
      picked (Whole e) (eqb k m) _ _
      (λ q. record { entry-some = whole.entry-some; content = whole.content; staged = dvd-zero e })
      (λ q. record { entry-some = whole.entry-some; content = whole.content; staged = whole.staged })

  -- bytes put and lengths cut to are whole entries; openings are concerns of their own
  abbrev Entire : L.TapeCall → Type 0
  Entire L.restart = Unit {0}
  Entire L.reader = Unit {0}
  Entire L.append = Unit {0}
  Entire L.truncate = Unit {0}
  Entire (L.open' k size cache start memory) = ⊥
  Entire (L.put k bs) = e ∣ length bs
  Entire (L.shift k o) = Unit {0}
  Entire (L.cut k o) = e ∣ o
  Entire (L.read k o i) = Unit {0}
  Entire (L.commit k) = Unit {0}
  Entire (L.drop' k) = Unit {0}

  told-whole : (t : Told) (c : L.TapeCall) (v : ℕ) → Entire c → Whole e t → Whole e (T.told t c (L.Done v))
  told-whole t L.restart v entire whole = record { entry-some = whole.entry-some; content = whole.content; staged = dvd-zero e }
  told-whole t L.reader v entire whole = record { entry-some = whole.entry-some; content = whole.content; staged = whole.staged }
  told-whole t L.append v entire whole = record { entry-some = whole.entry-some; content = whole.content; staged = whole.content }
  told-whole t L.truncate v entire whole = record { entry-some = whole.entry-some; content = whole.content; staged = whole.content }
  told-whole t (L.open' k size cache start memory) v entire whole = absurd entire
  told-whole t (L.put k bs) v entire whole =
      record { entry-some = whole.entry-some; content = whole.content; staged = put_whole k bs t.writer entire whole.staged }
  told-whole t (L.shift k o) v entire whole =
      record { entry-some = whole.entry-some; content = whole.content; staged = shift-whole k o t.writer whole.staged }
  told-whole t (L.cut k o) v entire whole =
      record { entry-some = whole.entry-some; content = whole.content; staged = cut-whole k o t.writer entire whole.staged }
  told-whole t (L.read k o i) v entire whole = whole
  told-whole t (L.commit k) v entire whole = commit-whole k t whole t.writer whole.staged
  told-whole t (L.drop' k) v entire whole = drop-whole k t whole t.writer

-- a handle is kept or gone, and the entry size is kept
calls-whole : (k : Known) (v : ℕ) (c : L.TapeCall) → Entire k.entry c → WholeKnown k → WholeKnown (tell_as k v (calls c))
calls-whole k v c entire whole more =
    let live = (T.told k.tape c (L.Done v)).live in
    let was : k.handle ≢ 0 = λ (z : k.handle ≡ 0). more (picked (λ (x : ℕ). x ≡ 0) live k.handle 0 (λ q. z) (λ q. refl)) in
    told-whole k.entry k.tape c v entire (whole was)

ours-whole : (k : Known) (h v : ℕ) (c : L.TapeCall) → (h ≡ k.handle → Entire k.entry c) → WholeKnown k → WholeKnown (tell_as k v (if_ours k h c))
ours-whole k h v c entire whole =
    picked (λ (x : Concern). WholeKnown (tell_as k v x)) (is_ours k h) (calls c) apart
    (λ q. calls-whole k v c (entire (eqb-true h k.handle (and_r (not (eqb h 0)) (eqb h k.handle) q))) whole)
    (λ q. whole)

-- ---- an opening

-- a tape that is not open has nothing staged that is not committed
resting-length : (k start epoch began len first : ℕ) (listed : Bool) (C : List ℕ) (S : ℕ) (w : Staging) → Resting listed C S w → listed ≡ true
    → erase_w epoch (told_open k start w) ≡ L.appending k began true len first → length C ≡ len
resting-length k start epoch began len first listed C S idle rests here is = absurd (let z : ◌≡◌ {A = ℕ} 0 1 = cc in omega arith)
resting-length k start epoch began len first listed C S (appending m h c s) rests here is =
    let w : Staging = appending m h c s in
    let same : told_open k start w ≡ w
    = picked (λ (x : Staging). x ≡ w) (eqb k m) _ w (λ q. ap (λ (b : Bool). cond b w (appending m true (replicate start 0) start)) (rests.0 ∙ here)) (λ q. refl) in
    let erased : L.appending m epoch h (length c) s ≡ L.appending k began true len first = ap (erase_w epoch) (sym same) ∙ is in
    let long : length c ≡ len = cc in
    ap length (sym rests.1) ∙ long
resting-length k start epoch began len first listed C S (cutting m c) rests here is = absurd (let z : ◌≡◌ {A = ℕ} 0 1 = cc in omega arith)

module _ (d s : List ℕ) (t : ℕ) (wanted : List ℕ) (entry size cache start : ℕ) (K : Lore) (r : Running (areas d s) K) (letters : Bytes wanted) (small : start < 2 ^ 64)
    (served : code_of (open_call d s t wanted entry size cache start).answer ≡ 0) where
  abbrev v : ℕ
  v = value_of (open_call d s t wanted entry size cache start).answer

  abbrev here : Concern
  here = opens t entry size cache start

  -- "start or length on open .. no multiple of the entry size" is refused
  shape-whole : (1 ≤ entry) × (entry ∣ (opened s wanted entry size cache start).len)
  unfolding opening_of
  shape-whole =
      let shaped = (open-served d s t wanted entry size cache start r.orderly letters small served).shaped in
      let len = (opened s wanted entry size cache start).len in
      let divides : eqb (len % entry) 0 ≡ true = and_l (eqb (len % entry) 0) _ shaped.whole in
      (shaped.entry-some, dvd_of_mod-eq-zero entry (eqb-true (len % entry) 0 divides))

  module _ (long : 0 < length wanted) (old : (n : List ℕ) → OldSize (K n) (cond (same_bytes wanted n) here apart)) where
    abbrev tape : Told
    tape = (K wanted).tape

    -- what is staged then has the length that the shape was asked of
    open-writer : erase_w tape.epoch (told_open t start tape.writer)
        ≡ L.appending t (transaction_of s 16).epoch true (opened s wanted entry size cache start).len (opened s wanted entry size cache start).start
    open-writer =
        let h = r.holds wanted long in
        let sv = open-served d s t wanted entry size cache start r.orderly letters small served in
        let result = open_call d s t wanted entry size cache start in
        let after : Holds wanted (areas result.disk result.session) (tell_as (K wanted) v here)
        = subst (λ (b : Bool). Holds wanted (areas result.disk result.session) (tell_as (K wanted) v (cond b here apart))) (same_refl wanted)
        ((open-runs d s t wanted entry size cache start K r letters small served old).holds wanted long) in
        sym after.seen.writer
        ∙ (own-seen d s t wanted entry size cache start result.disk result.session r.orderly sv (build (K wanted).tape h.phys) h.seen).writer

    open-whole : Whole entry (tell_as (K wanted) v here).tape
    open-whole =
        let h = r.holds wanted long in
        let sv = open-served d s t wanted entry size cache start r.orderly letters small served in
        let asleep : tape.live ≡ false = sym h.seen.live ∙ sv.opens.shut in
        let dormant : Dormant tape h.phys = subst (λ (b : Bool). GoodIf b tape h.phys) asleep h.good in
        let len = (opened s wanted entry size cache start).len in
        let staged : len ≡ staged_length (told_open t start tape.writer) = ap staged_len (sym open-writer) ∙ staged-same tape.epoch (told_open t start tape.writer) in
        record {
          entry-some = shape-whole.0;
          content =
              decide tape.listed
              (λ (l : tape.listed ≡ true).
              subst (λ (x : ℕ). entry ∣ x) (sym (resting-length t start tape.epoch _ len _ tape.listed tape.content tape.start tape.writer dormant.staged l open-writer))
              shape-whole.1)
              (λ (l : tape.listed ≡ false). subst (λ (x : ℕ). entry ∣ x) (sym (dormant.bare l)) (dvd-zero entry));
          staged = subst (λ (x : ℕ). entry ∣ x) staged shape-whole.1;
        }

  open-known : (n : List ℕ) → 0 < length n → ((m : List ℕ) → OldSize (K m) (cond (same_bytes wanted m) here apart)) → WholeKnown (K n)
      → WholeKnown (tell_as (K n) v (cond (same_bytes wanted n) here apart))
  open-known n long old whole =
      picked (λ (x : Concern). WholeKnown (tell_as (K n) v x)) (same_bytes wanted n) here apart
      (λ q more.
      let same : wanted ≡ n = same_true wanted n q in
      subst (λ (m : List ℕ). Whole entry (tell_as (K m) v here).tape) same (open-whole (subst (λ (m : List ℕ). 0 < length m) (sym same) long) old))
      (λ q. whole)

-- ---- every call in a session

module _ (d s : List ℕ) (K : Lore) (r : Running (areas d s) K) (n : List ℕ) (long : 0 < length n) where
  abbrev k : Known
  k = K n

  kept : WholeKnown k → (c : Call) → is_inside c ≡ true → Fits c → (perform c d s).code ≡ 0 → ((m : List ℕ) → OldSize (K m) (concerns m (K m) c (perform c d s).value))
      → WholeKnown (lore d s K c n)
  kept whole (format i) is fits ok old = absurd (false≢true is)
  kept whole store is fits ok old = absurd (false≢true is)
  kept whole append is fits ok old = calls-whole k (perform append d s).value L.append tt whole
  kept whole reader is fits ok old = calls-whole k (perform reader d s).value L.reader tt whole
  kept whole truncate is fits ok old = calls-whole k (perform truncate d s).value L.truncate tt whole
  kept whole (open_tape t wanted entry size cache start) is fits ok old =
      open-known d s t wanted entry size cache start K r fits.1.0 fits.1.1.1.1.1 ok n long old whole
  kept whole (append_entries t h bs) is fits ok old =
      ours-whole k h (perform (append_entries t h bs) d s).value (L.put t bs)
      (λ its. put-entire d s K r n t h k.entry bs (subst (λ (x : ℕ). Handled s n x k.entry) (sym its) (r.holds n long).handled) ok) whole
  kept whole (shift_start t h i) is fits ok old = ours-whole k h (perform (shift_start t h i) d s).value (L.shift t _) (λ its. tt) whole
  kept whole (truncate_tape t h i) is fits ok old =
      ours-whole k h (perform (truncate_tape t h i) d s).value (L.cut t (i * k.entry)) (λ its. dvd-mul_left k.entry i) whole
  kept whole (drop_entries t h i) is fits ok old =
      ours-whole k h (perform (drop_entries t h i) d s).value (L.cut t (entries_left k i * k.entry)) (λ its. dvd-mul_left k.entry (entries_left k i)) whole
  kept whole (pop_entry t h buffer) is fits ok old =
      let v = (perform (pop_entry t h buffer) d s).value in
      picked (λ (x : Concern). WholeKnown (tell_as k v x)) (eqb v 0xffff_ffff_ffff_ffff) apart _ (λ q. whole)
      (λ q. ours-whole k h v (L.cut t (entries_left k 1 * k.entry)) (λ its. dvd-mul_left k.entry (entries_left k 1)) whole)
  kept whole (read_entries t h i m buffer) is fits ok old = whole
  kept whole (read_entry t h i buffer) is fits ok old = whole
  kept whole (tape_len t h) is fits ok old = whole
  kept whole (tape_start t h) is fits ok old = whole
  kept whole (tape_exists t wanted) is fits ok old = whole
  kept whole (commit t) is fits ok old = calls-whole k (perform (commit t) d s).value (L.commit t) tt whole
  kept whole (drop_transaction t) is fits ok old = calls-whole k (perform (drop_transaction t) d s).value (L.drop' t) tt whole

-- ---- after any calls

-- a new session has no handles
pub wholes : Lasts WholeIn
wholes =
    record {
      begins = λ d s K f ok n long more. absurd (more refl);
      renews = λ d s K r whole ok n long more. absurd (more refl);
      keeps = λ d s K r whole c is fits ok old n long. kept d s K r n long (whole n long) c is fits ok old;
    }
