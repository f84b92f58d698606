-- The promise's part (b): an append that is told to wait waits for the windows that began before the last commit, a cut, and for no other. Assumes nothing.
use Rattle.std.specs.Prelude.{◌≡◌, refl, ◌≢◌, Bool, ◌&&◌, ℕ, ◌+◌, ◌*◌, ◌≤◌, ◌<◌, eqb, length, Ok, Err}
use Rattle.std.proofs.Common.{sym, ◌∙◌, ⊎_elim, true≢false, arith}
use Rattle.std.proofs.Math.Path.{ap}
use Rattle.std.proofs.Math.Bool.{true, false, or-true}
use Rattle.std.proofs.lemmas.Bool.{false≢true}
use mathlib.Core.List.Memᴰ
use mathlib.Core.List.{List, [], ◌∷◌, map, Memᴰ}
use borrow.Author.Tests.{eqb-true, eq-eqb, le-ltb}
use Rattle.std.proofs.Math.Dec.{ltb}
use Rattle.octets.specs.Cases.{picked, decide, order, equal, and_l, and_r, and_both}
use Rattle.octets.specs.Compare.{same_bytes}
use Rattle.answers.specs.Answers.{Answer}
use Rattle.answers.specs.declared.Refusal.{Refusal}
use Rattle.answers.specs.declared.Refusal.TheVariants.{Unusable, Unknown, WriterOpen, Wait, Full, BadName, ReservedName, BadSize, AlreadyOpen, NotWhole, Absent, OutOfBounds, StartPastLength, LongerCut, NoSlot, Missing, BadList, TooLarge}
use Rattle.answers.specs.Answers.{code_of, value_of, refusal_number, refusal_value}
use Rattle.components.specs.Epochs.{older}
use Rattle.session.specs.Rows.{head_of, transaction_of}
use Rattle.rolling_tape.specs.Removal.{Areas, areas}
use Rattle.beginning.specs.Transactions.{After, is_open_at}
use Rattle.beginning.specs.Calls.{append_call}
use Rattle.beginning.specs.Calls as B
use Rattle.beginning.specs.Ways as Ways
use Rattle.lives.specs.Life.{Reader, Writer, Store, step_append, epochs}
use Rattle.lives.specs.Life as L
use Rattle.lives.specs.Told.{Window, idle, Told, nothing, before, quiet}
use Rattle.lives.specs.Invariant.{erase, erase_w, build}
use Rattle.lives.specs.Waits.{Asked, busy, wait, go, told-wait, let-in, kept_out, before-is, is-before, none_before, some-before}
use Rattle.lives.proofs.Waits.{asked}
use Rattle.seen.specs.Seen.{place_of, count_in}
use Rattle.seen.specs.Orderly.{Orderly, orderly-usable}
use Rattle.seen.specs.Counts.{in-member, open-some}
use Rattle.seen.specs.Begins.{next_done, reader-done, append-done, truncate-done, append-told, waiting-same}
use Rattle.seen.specs.Unbegun.{append-unbegun}
use Rattle.seen.specs.Waits.{wait-told, idle-seen, append-serves}
use Rattle.promises.specs.Calls.{Call, format, store, append, reader, truncate, open_tape, append_entries, shift_start, truncate_tape, drop_entries, pop_entry, read_entries, read_entry, tape_len, tape_start, tape_exists, commit, drop_transaction, AllFit, perform, step, exchange, history}
use Rattle.promises.specs.Told.{Known, unknown, Concern, apart, opens, calls, is_ours, if_ours, entries_left, concerns, tell_as, tell_one, tell, OldSizes}
use Rattle.promises.specs.Holds.{Holds}
use Rattle.promises.specs.Standing.{Lore, Running, Formatted, Standing, running, formatted, running-last}
use Rattle.promises.specs.Since.{Since, New, since-same, since-then, since-told}
use Rattle.promises.proofs.Steps.{tell-refused, tell-served, stands}
use Rattle.promises.proofs.Runs.{stands-last, stands-then}
use Rattle.promises.specs.Promise.{Run, ends, known, Further, ends_then, known_then, is_open, is_quiet, Quiet, earlier, Waiting, Waits, AppendWaits}

-- ---- quiet calls

-- what is told of a formatted disk's tapes
module _ (a : Areas) (K : Lore) (f : Formatted a K) (n : List ℕ) (long : 0 < length n) where
  untold-last : (K n).last ≡ 0
  unfolding unknown
  untold-last = ap (λ (k : Known). k.last) (f.untold n long)

  untold-cut : (K n).tape.cut ≡ false
  unfolding unknown nothing
  untold-cut = ap (λ (k : Known). k.tape.cut) (f.untold n long)

module _ (d s : List ℕ) (K : Lore) (n : List ℕ) (long : 0 < length n) where
  last-given : Standing (areas d s) K → (K n).last ≤ (head_of s).last_transaction
  last-given (running r) = omega (arith, running-last (areas d s) K r n long)
  last-given (formatted f) = omega (arith, untold-last (areas d s) K f n long)

  -- a begin gives the next number
  newer : Standing (areas d s) K → (x : Answer) → x ≡ next_done s → (K n).last < value_of x
  newer st x e = omega (arith, last-given st, ap value_of e)

  -- a call that goes to this tape, if the handle is its own
  since-ours : (v h : ℕ) (c : L.TapeCall) → New (K n).last c v → quiet c (L.Done v) ≡ true → Since (K n) (tell_as (K n) v (if_ours (K n) h c))
  since-ours v h c new q =
      picked (λ (x : Concern). Since (K n) (tell_as (K n) v x)) (is_ours (K n) h) (calls c) apart (λ e. since-told (K n) c v _ _ new q) (λ e. since-same (K n))

  since-served : Standing (areas d s) K → (c : Call) → is_quiet c ≡ true → (perform c d s).code ≡ 0
      → Since (K n) (tell_as (K n) (perform c d s).value (concerns n (K n) c (perform c d s).value))
  since-served st (format i) q ok = absurd (false≢true q)
  since-served st store q ok = absurd (false≢true q)
  since-served st append q ok = since-told (K n) L.append _ _ _ (newer st _ (append-done d s ok)) refl
  since-served st reader q ok = since-told (K n) L.reader _ _ _ (newer st _ (reader-done d s ok)) refl
  since-served st truncate q ok = since-told (K n) L.truncate _ _ _ (newer st _ (truncate-done d s ok)) refl
  since-served st (open_tape t name entry size cache start) q ok =
      let v = (perform (open_tape t name entry size cache start) d s).value in
      picked (λ (x : Concern). Since (K n) (tell_as (K n) v x)) (same_bytes name n) (opens t entry size cache start) apart
      (λ e. since-told (K n) (L.open' t size cache start []) v v entry tt refl)
      (λ e. since-same (K n))
  since-served st (append_entries t h bs) q ok = since-ours _ h (L.put t bs) tt refl
  since-served st (shift_start t h i) q ok = since-ours _ h (L.shift t _) tt refl
  since-served st (truncate_tape t h i) q ok = since-ours _ h (L.cut t _) tt refl
  since-served st (drop_entries t h i) q ok = since-ours _ h (L.cut t _) tt refl
  since-served st (pop_entry t h buffer) q ok =
      let v = (perform (pop_entry t h buffer) d s).value in
      let c = L.cut t (entries_left (K n) 1 * (K n).entry) in
      picked (λ (x : Concern). Since (K n) (tell_as (K n) v x)) (eqb v 0xffff_ffff_ffff_ffff) apart (if_ours (K n) h c)
      (λ e. since-same (K n))
      (λ e. since-ours v h c tt refl)
  since-served st (read_entries t h i count buffer) q ok = since-same (K n)
  since-served st (read_entry t h i buffer) q ok = since-same (K n)
  since-served st (tape_len t h) q ok = since-same (K n)
  since-served st (tape_start t h) q ok = since-same (K n)
  since-served st (tape_exists t name) q ok = since-same (K n)
  since-served st (commit t) q ok = absurd (false≢true q)
  since-served st (drop_transaction t) q ok = since-told (K n) (L.drop' t) (perform (drop_transaction t) d s).value _ _ tt refl

since-call : (c : Call) (a : Areas) (K : Lore) → Standing a K → ((step c a).code ≡ 0 → is_quiet c ≡ true) → (n : List ℕ) → 0 < length n
    → Since (K n) (tell_one n (K n) (exchange c (step c a)))
unfolding step
since-call c a K st q n long =
    equal (step c a).code 0
    (λ (ok : (step c a).code ≡ 0). rw (tell-served n (K n) (exchange c (step c a)) ok) (since-served a.disk a.session K n long st c (q ok) ok))
    (λ (bad : (step c a).code ≢ 0). rw (tell-refused n (K n) (exchange c (step c a)) bad) (since-same (K n)))

since-calls : (cs : List Call) (a : Areas) (K : Lore) → AllFit cs → ((n : List ℕ) → OldSizes n (history cs a) (K n)) → Standing a K → Quiet (history cs a)
    → (n : List ℕ) → 0 < length n → Since (K n) (tell n (history cs a) (K n))
unfolding history tell
since-calls [] a K fit old st q n long = since-same (K n)
since-calls (c ∷ cs) a K fit old st q n long =
    let M : Lore = λ m. tell_one m (K m) (exchange c (step c a)) in
    since-then (K n) (M n) _ (since-call c a K st q.0 n long)
    (since-calls cs (step c a).areas M fit.1 (λ m. (old m).1) (stands c a K fit.0 (λ m. (old m).0) st) q.1 n long)

-- ---- the windows and their places

open-window : (k : ℕ) (ws : List Window) → is_open k ws ≡ true → (w : Window) × Memᴰ w ws × (w.number ≡ k)
unfolding is_open
open-window k [] e = absurd (false≢true e)
open-window k (w ∷ ws) e =
    decide (eqb k w.number)
    (λ (hit : eqb k w.number ≡ true). (w, Memᴰ.head refl, sym (eqb-true k w.number hit)))
    (λ (miss : eqb k w.number ≡ false). let (v, i, same) = open-window k ws (rw miss at e) in (v, Memᴰ.tail i, same))

window-open : (w : Window) (ws : List Window) → Memᴰ w ws → is_open w.number ws ≡ true
unfolding is_open
window-open w [] i = absurd (Memᴰ.not-nil i)
window-open w (v ∷ ws) i =
    ⊎_elim
    (λ (same : w ≡ v). rw (eq-eqb w.number v.number (ap (λ (x : Window). x.number) same)))
    (λ j. rw (window-open w ws j) (or-true (eqb w.number v.number)))
    (Memᴰ.cases_cons i)

-- the place of a window's reader
record Placed (s : List ℕ) (w : Window) : Type 0 where
  place : ℕ
  low : place < 16
  opened : is_open_at s place ≡ true
  number : (transaction_of s place).number ≡ w.number
  epoch : (transaction_of s place).epoch ≡ w.epoch

module _ (n : List ℕ) (a : Areas) (k : Known) (o : Orderly a.disk a.session) (h : Holds n a k) where
  placed : (w : Window) → Memᴰ w k.tape.windows → Placed a.session w
  placed w i =
      let has : Reader → Bool = λ r. eqb r.number w.number && eqb r.epoch w.epoch in
      let some : 0 < count_in has (map erase k.tape.windows)
      = in-member has (erase w) _ (Memᴰ.map erase i) (and_both _ _ (eq-eqb w.number w.number refl) (eq-eqb w.epoch w.epoch refl)) in
      let p = open-some has a.session (place_of a.session n) (rw (h.seen.readers has) some) in
      let row = transaction_of a.session p.place in
      record {
        place = p.place;
        low = p.low;
        opened = p.opened;
        number = eqb-true row.number w.number (and_l (eqb row.number w.number) (eqb row.epoch w.epoch) p.holds);
        epoch = eqb-true row.epoch w.epoch (and_r (eqb row.number w.number) (eqb row.epoch w.epoch) p.holds);
      }

  number-told : (w : Window) → Memᴰ w k.tape.windows → w.number ≤ k.last
  number-told w i =
      let p = placed w i in
      omega (arith, o.number-given p.place (omega (arith, p.low)) p.opened, p.number, h.seen.last, h.last)

  -- numbers are not given twice
  same-epoch : (w v : Window) → Memᴰ w k.tape.windows → Memᴰ v k.tape.windows → w.number ≡ v.number → w.epoch ≡ v.epoch
  same-epoch w v i j e =
      let p = placed w i in
      let q = placed v j in
      let same : p.place ≡ q.place
      = o.numbers p.place q.place (omega (arith, p.low)) (omega (arith, q.low)) p.opened q.opened (p.number ∙ e ∙ sym q.number) in
      sym p.epoch ∙ ap (λ (x : ℕ). (transaction_of a.session x).epoch) same ∙ q.epoch

  asks : Asked k.tape (L.step L.append (build k.tape h.phys)).answer
  asks = asked (build k.tape h.phys) k.tape (record { phys = h.phys; same = refl; good = h.good })

-- ---- what an append is answered

wait-refusal : (why : Refusal) → refusal_number why ≡ 4 → why ≡ Wait (refusal_value why)
wait-refusal Unusable e = absurd (omega arith)
wait-refusal Unknown e = absurd (omega arith)
wait-refusal WriterOpen e = absurd (omega arith)
wait-refusal (Wait n) e = refl
wait-refusal Full e = absurd (omega arith)
wait-refusal BadName e = absurd (omega arith)
wait-refusal ReservedName e = absurd (omega arith)
wait-refusal BadSize e = absurd (omega arith)
wait-refusal AlreadyOpen e = absurd (omega arith)
wait-refusal NotWhole e = absurd (omega arith)
wait-refusal Absent e = absurd (omega arith)
wait-refusal OutOfBounds e = absurd (omega arith)
wait-refusal StartPastLength e = absurd (omega arith)
wait-refusal LongerCut e = absurd (omega arith)
wait-refusal NoSlot e = absurd (omega arith)
wait-refusal Missing e = absurd (omega arith)
wait-refusal BadList e = absurd (omega arith)
wait-refusal TooLarge e = absurd (omega arith)

wait-answer : (x : Answer) → code_of x ≡ 4 → x ≡ Err (Wait (value_of x))
wait-answer (Ok v) e = absurd (omega arith)
wait-answer (Err why) e = ap Err (wait-refusal why e)

-- who is told to wait found no writer, and waits for some
told_free : (t : Told) (x : L.Answer) (w : ℕ) → Asked t x → x ≡ L.Refused 4 w → (t.writer ≡ idle) × (0 < w)
told_free t x w (busy _) e = absurd (let z : ◌≡◌ {A = ℕ} 3 4 = cc in omega arith)
told_free t x w (wait free _ more) e =
    let z : length (before t.epoch t.windows) ≡ w = cc in
    (free, (omega arith))
told_free t x w (go v _ _) e = absurd (let z : ◌≡◌ {A = ℕ} 0 1 = cc in omega arith)

unbegun-code : (a : Areas) (K : Lore) → Formatted a K → (step append a).code ≡ 1
unfolding step
unbegun-code a K f = ap (λ (x : After). code_of x.answer) (append-unbegun a.disk a.session f.unbegun)

-- the windows of before the last commit
abbrev old : Known → List Window
old k = before k.tape.epoch k.tape.windows

module _ (a : Areas) (K : Lore) (r : Running a K) (n : List ℕ) (long : 0 < length n) where
  abbrev model : Store
  model = build (K n).tape (r.holds n long).phys

  answered : Asked (K n).tape (L.step L.append model).answer
  answered = asks n a (K n) r.orderly (r.holds n long)

  wait-model : (w : ℕ) → (step append a).code ≡ 4 → (step append a).value ≡ w → (L.step L.append model).answer ≡ L.Refused 4 w
  unfolding step
  wait-model w code value =
      wait-told a.disk a.session n model (r.holds n long).seen w (wait-answer (append_call a.disk a.session).answer code ∙ ap (λ (x : ℕ). Err (Wait x)) value)

  served-model : (step append a).code ≡ 0 → (L.step L.append model).answer ≡ L.Done ((head_of a.session).last_transaction + 1)
  unfolding step
  served-model code = append-told a.disk a.session n model (r.holds n long).seen code

  model-served : (K n).last ≢ 0xffff_ffff_ffff_ffff → (v : ℕ) → (L.step L.append model).answer ≡ L.Done v → (step append a).code ≡ 0
  unfolding step
  model-served more v e =
      ap code_of
      (append-serves a.disk a.session n model (r.holds n long).seen (orderly-usable a.disk a.session r.orderly)
      (λ z. more (sym (running-last a K r n long) ∙ z)) v e)

  -- where such windows are open, an append with no writer in its way has to wait
  has-to-wait : (K n).tape.writer ≡ idle → (K n).tape.cut ≡ true → 0 < length (old (K n)) → ((step append a).code ≡ 4) × ((step append a).value ≡ length (old (K n)))
  unfolding step L.step
  has-to-wait free cut some =
      let d = a.disk in
      let s = a.session in
      let seen = (r.holds n long).seen in
      let ok = orderly-usable d s r.orderly in
      let none : model.writer ≡ L.idle = ap (erase_w (K n).tape.epoch) free in
      let shut = idle-seen d s n model seen r.orderly.session none in
      let cuts : (head_of s).cut ≡ true = seen.cut ∙ cut in
      order 0 (B.waits s)
      (λ more.
      let e : (append_call d s).answer ≡ Err (Wait (B.waits s)) = ap (λ (x : After). x.answer) (Ways.append-waits d s ok shut cuts more) in
      let z = told-wait (K n).tape _ (B.waits s) answered (wait-told d s n model seen (B.waits s) e) in
      (ap code_of e, ap value_of e ∙ z.1))
      (λ none-waited.
      let no : (model.cut && ltb 0 (older model.epoch (epochs model.readers))) ≡ false = waiting-same d s n model seen ∙ rw (cuts, le-ltb 0 (B.waits s) none-waited) in
      let e : (L.step L.append model).answer ≡ L.Done (model.last + 1) = ap (λ (x : Writer). (step_append model x).answer) none ∙ rw no in
      absurd (kept_out (K n).tape _ (model.last + 1) answered cut some e))

-- ---- the promise

module _ (r : Run) (n : List ℕ) (long : 0 < length n) where
  since-last : (f : Further r) → Quiet (history f.calls (ends r)) → Since (known r n) (known_then r f n)
  since-last f q = since-calls f.calls (ends r) (known r) f.fit f.sizes (stands-last r) q n long

  module _ (session : Running (ends r) (known r)) (cut : (known r n).tape.cut ≡ true) (f : Further r) (q : Quiet (history f.calls (ends r))) where
    -- a window of before that is open is open still
    still-old : (x : Window) → Memᴰ x (earlier r n) → is_open x.number (known_then r f n).tape.windows ≡ true → 0 < length (old (known_then r f n))
    still-old x i e =
        let k = known r n in
        let m = known_then r f n in
        let since = since-last f q in
        let (mine, early) = before-is k.tape.epoch k.tape.windows i in
        let (w, j, same) = open-window x.number m.tape.windows e in
        let h = session.holds n long in
        some-before
        (is-before m.tape.epoch m.tape.windows j
        (⊎_elim
        (λ (was : Memᴰ w k.tape.windows).
        omega (arith, early, since.epoch, same-epoch n (ends r) k session.orderly h w x was mine same))
        (λ (new : (w.epoch ≡ k.tape.epoch) × (k.last < w.number)).
        absurd (omega (arith, new.1, same, number-told n (ends r) k session.orderly h x mine)))
        (since.windows w j)))

    waits-then : (x : Window) → Memᴰ x (earlier r n) → is_open x.number (known_then r f n).tape.windows ≡ true → Standing (ends_then r f) (known_then r f)
        → (step append (ends_then r f)).code ≢ 0
    waits-then x i e (formatted g) code = let z : ◌≡◌ {A = ℕ} 0 1 = sym code ∙ unbegun-code (ends_then r f) (known_then r f) g in omega arith
    waits-then x i e (running g) code =
        kept_out (known_then r f n).tape _ _ (answered (ends_then r f) (known_then r f) g n long) ((since-last f q).cut ∙ cut) (still-old x i e)
        (served-model (ends_then r f) (known_then r f) g n long code)

    none_old : ((x : Window) → Memᴰ x (earlier r n) → is_open x.number (known_then r f n).tape.windows ≡ false) → length (old (known_then r f n)) ≡ 0
    none_old shut =
        let k = known r n in
        let m = known_then r f n in
        let since = since-last f q in
        none_before m.tape.epoch m.tape.windows
        (λ w j early.
        ⊎_elim
        (λ (was : Memᴰ w k.tape.windows).
        true≢false (sym (window-open w m.tape.windows j) ∙ shut w (is-before k.tape.epoch k.tape.windows was (omega (arith, early, since.epoch)))))
        (λ (new : (w.epoch ≡ k.tape.epoch) × (k.last < w.number)). omega (arith, early, since.epoch, new.0))
        (since.windows w j))

    served-then : ((x : Window) → Memᴰ x (earlier r n) → is_open x.number (known_then r f n).tape.windows ≡ false) → (known_then r f n).tape.writer ≡ idle
        → (known_then r f n).last ≢ 0xffff_ffff_ffff_ffff → Standing (ends_then r f) (known_then r f) → (step append (ends_then r f)).code ≡ 0
    served-then shut free more (formatted g) = absurd (true≢false (sym ((since-last f q).cut ∙ cut) ∙ untold-cut (ends_then r f) (known_then r f) g n long))
    served-then shut free more (running g) =
        let (v, e) = let-in (known_then r f n).tape _ (answered (ends_then r f) (known_then r f) g n long) free (none_old shut) in
        model-served (ends_then r f) (known_then r f) g n long more v e

  waits-last : (w : ℕ) → (step append (ends r)).code ≡ 4 → (step append (ends r)).value ≡ w → Standing (ends r) (known r) → Waiting r w n
  waits-last w code value (formatted g) = absurd (let z : ◌≡◌ {A = ℕ} 4 1 = sym code ∙ unbegun-code (ends r) (known r) g in omega arith)
  waits-last w code value (running g) =
      let t = (known r n).tape in
      let asked = answered (ends r) (known r) g n long in
      let waited = wait-model (ends r) (known r) g n long w code value in
      let (cut, many) = told-wait t _ w asked waited in
      let (free, more) = told_free t _ w asked waited in
      record {
        free = free;
        cut = cut;
        many = sym many;
        more = more;
        waits = λ f q x i e. waits-then g cut f q x i e (stands-then r f);
        goes_in = λ f q shut idle more. served-then g cut f q shut idle more (stands-then r f);
      }

  waits-known : (known r n).tape.writer ≡ idle → (known r n).tape.cut ≡ true → 0 < length (earlier r n) → Standing (ends r) (known r)
      → ((step append (ends r)).code ≡ 4) × ((step append (ends r)).value ≡ length (earlier r n))
  waits-known free cut some (formatted g) = absurd (true≢false (sym cut ∙ untold-cut (ends r) (known r) g n long))
  waits-known free cut some (running g) = has-to-wait (ends r) (known r) g n long free cut some

pub waits : Waits
waits r w code value n long = waits-last r n long w code value (stands-last r)

pub append-waits : AppendWaits
append-waits r n long free cut some = waits-known r n long free cut some (stands-last r)
