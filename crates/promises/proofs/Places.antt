-- Two puts of the same bytes get two places: what an append has staged only grows while it is open, and bytes that are put are at least one entry. Assumes
-- nothing.
use Rattle.std.specs.Prelude.{◌≡◌, refl, ◌≢◌, Bool, true, false, cond, not, List, ◌∷◌, ◌++◌, ℕ, ◌+◌, ◌/◌, ◌≤◌, ◌<◌, max, eqb}
use Rattle.std.proofs.Common.{sym, ap, ◌∙◌, inr, one-mul, add-mul, div-mul-le_self, le-div_iff_mul-le, arith, eq-eqb, ne_eqb, length-append}
use Rattle.std.proofs.Math.Path.{subst}
use Rattle.std.specs.Int.{◌∣◌}
use Rattle.std.proofs.Math.Nat.{div-zero, le_of_dvd, pos_of_dvd_of_pos}
use Rattle.std.proofs.lemmas.Bool.{eqb-false}
use Rattle.std.proofs.Math.ListN.{length}
use Rattle.octets.specs.Cases.{picked, equal, and_both}
use Rattle.octets.specs.Number.{Bytes}
use Rattle.answers.specs.Answers.{code_of, value_of}
use Rattle.session.specs.Rows.{transaction_of}
use Rattle.rolling_tape.specs.Removal.{Areas}
use Rattle.staging.specs.Seeing.{touched_as}
use Rattle.staging.specs.Ways.{handle-found}
use Rattle.appending.specs.Calls.{put_call}
use Rattle.lives.specs.Life as L
use Rattle.lives.specs.Told.{Staging, idle, appending, cutting, told_put, told_shift, told_cut, told_commit, told_drop}
use Rattle.lives.specs.Told as T
use Rattle.lives.specs.Invariant.{build, erase_w}
use Rattle.seen.specs.Seen.{Handled}
use Rattle.seen.specs.Handles.{handle-own}
use Rattle.seen.specs.Touching.{staged_len, append-writer}
use Rattle.seen.specs.Puts.{put-found, put-value}
use Rattle.promises.specs.Calls.{Call, append_entries, AllFit, step, exchange, run, history}
use Rattle.promises.specs.Told.{Known, unknown, Concern, apart, anew, opens, calls, concerns, is_ours, tell_as, tell_one, tell, OldSizes}
use Rattle.promises.specs.Standing.{Lore, Running, Standing}
use Rattle.promises.specs.Promise.{ends, known, is_writer, AllServed, keeps_open, TwoPlaces}
use Rattle.promises.proofs.Steps.{stands, tell-served}
use Rattle.promises.proofs.Runs.{runs, stands-last}
use Rattle.promises.proofs.Reading.{with-handle}
use Rattle.promises.specs.Wholes.{put-entire}
use Rattle.promises.specs.StaysOpen.{KeepsCall, KeepsTape, KeptOpen, handle-kept}
use Rattle.promises.proofs.StaysOpen.{lasts}

-- ---- what an append has staged only grows

record Stages (t len : ℕ) (w : Staging) : Type 0 where
  here : Bool
  content : List ℕ
  start : ℕ
  is : w ≡ appending t here content start
  enough : len ≤ length content

erased-append : (epoch t began : ℕ) (here : Bool) (len start : ℕ) (w : Staging) → erase_w epoch w ≡ L.appending t began here len start → Stages t 0 w
erased-append epoch t began here len start idle e = absurd (let z : ◌≡◌ {A = ℕ} 0 1 = cc in omega arith)
erased-append epoch t began here len start (appending m h c s) e =
    let number : m ≡ t = cc in
    record { here = h; content = c; start = s; is = ap (λ (x : ℕ). appending x h c s) number; enough = omega arith }
erased-append epoch t began here len start (cutting m c) e = absurd (let z : ◌≡◌ {A = ℕ} 0 1 = cc in omega arith)

stages-writer : (t len : ℕ) (w : Staging) → Stages t len w → is_writer t w ≡ true
stages-writer t len w x = ap (is_writer t) x.is ∙ eq-eqb t t refl

other_way : (t u : ℕ) → eqb t u ≡ false → eqb u t ≡ false
other_way t u e = ne_eqb u t (λ z. eqb-false t u e (sym z))

put-stages : (t len u : ℕ) (bs : List ℕ) (w : Staging) → Stages t len w → Stages t len (told_put u bs w)
put-stages t len u bs w x =
    subst (λ (y : Staging). Stages t len (told_put u bs y)) (sym x.is)
    (picked (Stages t len) (eqb u t) _ _
    (λ e. record { here = x.here; content = x.content ++ bs; start = x.start; is = refl; enough = omega (arith, x.enough, length-append x.content bs) })
    (λ e. record { here = x.here; content = x.content; start = x.start; is = refl; enough = x.enough }))

shift-stages : (t len u o : ℕ) (w : Staging) → Stages t len w → Stages t len (told_shift u o w)
shift-stages t len u o w x =
    subst (λ (y : Staging). Stages t len (told_shift u o y)) (sym x.is)
    (picked (Stages t len) (eqb u t) _ _
    (λ e. record { here = x.here; content = x.content; start = max x.start o; is = refl; enough = x.enough })
    (λ e. record { here = x.here; content = x.content; start = x.start; is = refl; enough = x.enough }))

stages-call : (t len : ℕ) (k : Known) (v : ℕ) (c : L.TapeCall) → KeepsCall t k v c → Stages t len k.tape.writer → Stages t len (T.told k.tape c (L.Done v)).writer
stages-call t len k v L.restart l x = absurd l
stages-call t len k v L.reader l x = x
stages-call t len k v L.append l x = absurd (let y = x.is in let z : ◌≡◌ {A = ℕ} 0 1 = cc in omega arith)
stages-call t len k v L.truncate l x = absurd (let y = x.is in let z : ◌≡◌ {A = ℕ} 0 1 = cc in omega arith)
stages-call t len k v (L.open' u size cache start memory) l x = absurd l
stages-call t len k v (L.put u bs) l x = put-stages t len u bs k.tape.writer x
stages-call t len k v (L.shift u o) l x = shift-stages t len u o k.tape.writer x
stages-call t len k v (L.cut u o) l x =
    subst (λ (y : Staging). Stages t len (told_cut u o y)) (sym x.is) (record { here = x.here; content = x.content; start = x.start; is = refl; enough = x.enough })
stages-call t len k v (L.read u o i) l x = x
stages-call t len k v (L.commit u) l x =
    subst (λ (y : Staging). Stages t len (told_commit u k.tape y).writer) (sym x.is) (rw (other_way t u l) x)
stages-call t len k v (L.drop' u) l x =
    subst (λ (y : Staging). Stages t len (told_drop u k.tape y).writer) (sym x.is) (rw (other_way t u l) x)

-- append t is open with at least this much staged, and the tape keeps its handle and its entry size
record Grows (t len h e : ℕ) (k : Known) : Type 0 where
  staged : Stages t len k.tape.writer
  handle-is : k.handle ≡ h
  entry-is : k.entry ≡ e

module _ (t : ℕ) (n : List ℕ) (long : 0 < length n) (len h e : ℕ) (more : h ≢ 0) where
  grows-call : (a : Areas) (K : Lore) → Running a K → Grows t len h e (K n) → (v : ℕ) (x : Concern) → KeepsTape t (K n) v x → Stages t len (tell_as (K n) v x).tape.writer
  grows-call a K r p v apart l = p.staged
  grows-call a K r p v anew l = absurd l
  grows-call a K r p v (opens u entry size cache start) l = absurd (more (sym p.handle-is ∙ l))
  grows-call a K r p v (calls c) l = stages-call t len (K n) v c l p.staged

  not-begun : Grows t len h e unknown → ⊥
  unfolding unknown
  not-begun p = more (sym p.handle-is)

  grows : KeptOpen t n (Grows t len h e)
  grows =
      record {
        begun = not-begun;
        keeps = λ a K r p v x l.
            let kept = handle-kept a K r n long (λ z. more (sym p.handle-is ∙ z)) t v x l (inr (stages-writer t len (K n).tape.writer p.staged)) in
            record { staged = grows-call a K r p v x l; handle-is = kept.0 ∙ p.handle-is; entry-is = kept.1 ∙ p.entry-is };
      }

-- ---- a put in a running session

module _ (a : Areas) (K : Lore) (r : Running a K) (n : List ℕ) (long : 0 < length n) (h e : ℕ) (its : Handled a.session n h e) (t : ℕ) (bs : List ℕ)
    (served : code_of (put_call a.disk a.session t h bs).answer ≡ 0) where
  -- the append has this number
  put-appends : Stages t 0 (K n).tape.writer
  put-appends =
      let d = a.disk in
      let s = a.session in
      let o = r.holds n long in
      let f = put-found d s t h bs served in
      let p = f.tape in
      let at = (handle-own d s r.orderly n h p e its f.goes.found).0 in
      erased-append (K n).tape.epoch t (transaction_of s 16).epoch true (touched_as s p).len (touched_as s p).start (K n).tape.writer
      (append-writer d s n r.orderly p at (handle-found s h p f.goes.found).held (build (K n).tape o.phys) o.seen t f.goes.writer f.goes.on.listed)

  -- and its place is the end of what was staged
  put-place : Bytes bs → (len : ℕ) (x : Stages t len (K n).tape.writer) → value_of (put_call a.disk a.session t h bs).answer ≡ length x.content / e
  put-place bytes len x =
      let o = r.holds n long in
      ap value_of (put-value a.disk a.session r.orderly t h bs bytes served n e its (K n).tape o.phys o.good o.seen)
      ∙ ap (λ (w : Staging). staged_len (erase_w (K n).tape.epoch w) / e) x.is

-- ---- two of them

sum-div : (a b c e : ℕ) → a + b ≤ c → a / e + b / e ≤ c / e
sum-div a b c e l =
    equal e 0
    (λ (z : e ≡ 0). rw (z, div-zero a, div-zero b) (omega arith))
    (λ (nonzero : e ≢ 0). (le-div_iff_mul-le (omega arith)).1 (omega (arith, add-mul (a / e) (b / e) e, div-mul-le_self a e, div-mul-le_self b e)))

-- bytes that are whole entries are at least one
some-entry : (e len : ℕ) → e ∣ len → 0 < len → 1 ≤ len / e
some-entry e len entire some_bytes =
    (le-div_iff_mul-le (pos_of_dvd_of_pos entire some_bytes)).1 (omega (arith, le_of_dvd some_bytes entire, one-mul e))

module _ (a : Areas) (K : Lore) (n : List ℕ) (long : 0 < length n) (t : ℕ) (bs : List ℕ) (rest : List Call) (some_bytes : 0 < length bs) (more : (K n).handle ≢ 0) where
  abbrev h : ℕ
  h = (K n).handle

  abbrev e : ℕ
  e = (K n).entry

  abbrev c : Call
  c = append_entries t (K n).handle bs

  -- the first put adds its bytes
  put-grows : Running a K → (x : Stages t 0 (K n).tape.writer) (v : ℕ) → Grows t (length x.content + length bs) h e (tell_as (K n) v (concerns n (K n) c v))
  put-grows r x v =
      let ours : is_ours (K n) h ≡ true = and_both (not (eqb h 0)) (eqb h h) (ap not (ne_eqb h 0 more)) (eq-eqb h h refl) in
      let kept = handle-kept a K r n long more t v (calls (L.put t bs)) tt (inr (stages-writer t 0 (K n).tape.writer x)) in
      let long_as : Stages t (length x.content + length bs) (told_put t bs (K n).tape.writer)
      = record {
        here = x.here;
        content = x.content ++ bs;
        start = x.start;
        is = ap (told_put t bs) x.is ∙ rw (eq-eqb t t refl);
        enough = omega (arith, length-append x.content bs);
      } in
      subst (λ (b : Bool). Grows t (length x.content + length bs) h e (tell_as (K n) v (cond b (calls (L.put t bs)) apart))) (sym ours)
      (record { staged = long_as; handle-is = kept.0; entry-is = kept.1 })

  two_from : AllFit (c ∷ rest) → ((m : List ℕ) → OldSizes m (history (c ∷ rest) a) (K m)) → Standing a K → AllServed (keeps_open t) (history (c ∷ rest) a)
      → (step c a).code ≡ 0 → (step c (run (c ∷ rest) a)).code ≡ 0
      → ((step c a).value < (step c (run (c ∷ rest) a)).value) × ((step c a).value + length bs / e ≤ (step c (run (c ∷ rest) a)).value)
  unfolding run history step
  two_from fit old st stays first second =
      let r = with-handle a K n long more st in
      let bytes = fit.0.1.1 in
      let x = put-appends a K r n long h e (r.holds n long).handled t bs first in
      let was = put-place a K r n long h e (r.holds n long).handled t bs first bytes 0 x in
      let len = length x.content + length bs in
      let b = (step c a).areas in
      let M : Lore = λ m. tell_one m (K m) (exchange c (step c a)) in
      let then = stands c a K fit.0 (λ m. (old m).0) st in
      let start : Grows t len h e (M n) = subst (Grows t len h e) (sym (tell-served n (K n) (exchange c (step c a)) first)) (put-grows r x (step c a).value) in
      let p = lasts t n long (Grows t len h e) (grows t n long len h e more) rest b M fit.1 (λ m. (old m).1) then stays.1 start in
      let N : Lore = λ m. tell m (history rest b) (M m) in
      let q = with-handle (run rest b) N n long (λ z. more (sym p.handle-is ∙ z)) (runs rest b M fit.1 (λ m. (old m).1) then) in
      let its : Handled (run rest b).session n h e
      = subst (λ (y : ℕ). Handled (run rest b).session n y e) p.handle-is
      (subst (λ (y : ℕ). Handled (run rest b).session n (N n).handle y) p.entry-is (q.holds n long).handled) in
      let is = put-place (run rest b) N q n long h e its t bs second bytes len p.staged in
      let behind : (step c a).value + length bs / e ≤ (step c (run rest b)).value
      = omega (arith, was, is, sum-div (length x.content) (length bs) (length p.staged.content) e p.staged.enough) in
      let entire = put-entire a.disk a.session K r n t h e bs (r.holds n long).handled first in
      (omega (arith, behind, some-entry e (length bs) entire some_bytes), behind)

pub two-places : TwoPlaces
two-places r f n long t bs rest some_bytes more is stays first second =
    let a = ends r in
    let K = known r in
    let c = append_entries t (known r n).handle bs in
    subst
    (λ (cs : List Call). AllFit cs → ((m : List ℕ) → OldSizes m (history cs a) (K m)) → AllServed (keeps_open t) (history cs a) → (step c (run cs a)).code ≡ 0
    → ((step c a).value < (step c (run cs a)).value) × ((step c a).value + length bs / (K n).entry ≤ (step c (run cs a)).value))
    (sym is)
    (λ fit old open-still again. two_from a K n long t bs rest some_bytes more fit old (stands-last r) open-still first again)
    f.fit f.sizes stays second
