-- Calls that leave a transaction open, for the tape of a name: what each of them keeps, all of them keep. Assumes nothing.
use Rattle.std.specs.Prelude.{◌≡◌, refl, ◌≢◌, true, false, cond, ℕ, ◌+◌, ◌*◌, ◌<◌, eqb, length, Option, Some, None}
use Rattle.std.proofs.Common.{sym, ap, ◌∙◌, true≢false, arith, eqb-true}
use Rattle.std.proofs.Math.Path.{subst}
use Rattle.std.proofs.lemmas.Bool.{false≢true, not-true}
use mathlib.Core.List.{List, [], ◌∷◌}
use Rattle.octets.specs.Cases.{picked, decide, equal}
use Rattle.octets.specs.Compare.{same_bytes, same_true}
use Rattle.answers.specs.Answers.{code_of, value_of}
use Rattle.layout.specs.Session.{handle_number}
use Rattle.rolling_tape.specs.Removal.{Areas, areas}
use Rattle.beginning.specs.Transactions.{is_open_at}
use Rattle.beginning.specs.Laws.{refusal-some, truncate-cases}
use Rattle.beginning.proofs.Laws.{append_cases}
use Rattle.opening.specs.Calls.{is_open_tape, open_call}
use Rattle.lives.specs.Life as L
use Rattle.lives.specs.Told.{Staging, idle, appending, cutting}
use Rattle.lives.specs.Invariant.{build, erase_w}
use Rattle.seen.specs.Seen.{place_of, handle_in}
use Rattle.seen.specs.Begins.{seen-idle, reader-done}
use Rattle.opened.specs.OpensServed.{open-served}
use Rattle.promises.specs.Calls.{Call, format, store, append, reader, truncate, open_tape, append_entries, shift_start, truncate_tape, drop_entries, pop_entry, read_entries, read_entry, tape_len, tape_start, tape_exists, commit, drop_transaction, Fits, AllFit, perform, step, exchange, history}
use Rattle.promises.specs.Told.{Known, apart, opens, calls, concerns, is_ours, if_ours, entries_left, tell_one, tell, OldSizes}
use Rattle.promises.specs.Standing.{Lore, Running, Standing, running, formatted, running-last}
use Rattle.promises.specs.Promise.{AllServed, keeps_open}
use Rattle.promises.proofs.Steps.{stands, tell-served, tell-refused}
use Rattle.promises.specs.StaysOpen.{KeepsCall, KeepsTape, KeptOpen}

erased-idle : (epoch : ℕ) (w : Staging) → erase_w epoch w ≡ L.idle → w ≡ idle
erased-idle epoch idle e = refl
erased-idle epoch (appending m h c s) e = absurd (let z : ◌≡◌ {A = ℕ} 0 1 = cc in omega arith)
erased-idle epoch (cutting m c) e = absurd (let z : ◌≡◌ {A = ℕ} 0 1 = cc in omega arith)

shut-handle : (s : List ℕ) (tape : Option ℕ) → is_open_tape s tape ≡ false → handle_in s tape ≡ 0
shut-handle s (Some p) = λ e. decide (eqb (handle_number s p) 0) (λ z. eqb-true (handle_number s p) 0 z) (λ (z : eqb (handle_number s p) 0 ≡ false). absurd (true≢false (rw z at e)))
shut-handle s None = λ e. refl

module _ (d s : List ℕ) (K : Lore) (r : Running (areas d s) K) (n : List ℕ) (long : 0 < length n) where
  -- no writer is open
  none-writes : is_open_at s 16 ≡ false → (K n).tape.writer ≡ idle
  none-writes free =
      let h = r.holds n long in
      erased-idle (K n).tape.epoch (K n).tape.writer (seen-idle d s n (build (K n).tape h.phys) h.seen free)

  module _ (t : ℕ) where
    ours-lasts : (v h : ℕ) (c : L.TapeCall) → KeepsCall t (K n) v c → KeepsTape t (K n) v (if_ours (K n) h c)
    ours-lasts v h c l = picked (KeepsTape t (K n) v) (is_ours (K n) h) (calls c) apart (λ e. l) (λ e. tt)

    open-lasts : (u : ℕ) (name : List ℕ) (entry size cache start : ℕ) → Fits (open_tape u name entry size cache start)
        → code_of (open_call d s u name entry size cache start).answer ≡ 0 → (v : ℕ) → KeepsTape t (K n) v (cond (same_bytes name n) (opens u entry size cache start) apart)
    open-lasts u name entry size cache start fits ok v =
        picked (KeepsTape t (K n) v) (same_bytes name n) (opens u entry size cache start) apart
        (λ e.
        let sv = open-served d s u name entry size cache start r.orderly fits.1.0 fits.1.1.1.1.1 ok in
        sym (r.holds n long).handled.number ∙ subst (λ (m : List ℕ). handle_in s (place_of s m) ≡ 0) (same_true name n e) (shut-handle s (place_of s name) sv.opens.shut))
        (λ e. tt)

    keeping : (c : Call) → Fits c → (perform c d s).code ≡ 0 → keeps_open t c ≡ true → KeepsTape t (K n) (perform c d s).value (concerns n (K n) c (perform c d s).value)
    keeping (format k) fits ok keeps = absurd (false≢true keeps)
    keeping store fits ok keeps = absurd (false≢true keeps)
    keeping append fits ok keeps =
        append_cases (λ a. code_of a.answer ≡ 0 → (K n).tape.writer ≡ idle) d s (λ why e. absurd (refusal-some why e)) (λ may alone e. none-writes may.free) ok
    keeping reader fits ok keeps = ap value_of (reader-done d s ok) ∙ ap (λ (x : ℕ). x + 1) (running-last (areas d s) K r n long)
    keeping truncate fits ok keeps =
        truncate-cases (λ a. code_of a.answer ≡ 0 → (K n).tape.writer ≡ idle) d s (λ why e. absurd (refusal-some why e)) (λ may e. none-writes may.free) ok
    keeping (open_tape u name entry size cache start) fits ok keeps = open-lasts u name entry size cache start fits ok _
    keeping (append_entries u h bs) fits ok keeps = ours-lasts _ h (L.put u bs) tt
    keeping (shift_start u h i) fits ok keeps = ours-lasts _ h (L.shift u (i * (K n).entry)) tt
    keeping (truncate_tape u h i) fits ok keeps = ours-lasts _ h (L.cut u (i * (K n).entry)) tt
    keeping (drop_entries u h i) fits ok keeps = ours-lasts _ h (L.cut u (entries_left (K n) i * (K n).entry)) tt
    keeping (pop_entry u h buffer) fits ok keeps =
        let v = (perform (pop_entry u h buffer) d s).value in
        picked (KeepsTape t (K n) v) (eqb v 0xffff_ffff_ffff_ffff) apart (if_ours (K n) h (L.cut u (entries_left (K n) 1 * (K n).entry))) (λ e. tt)
        (λ e. ours-lasts v h (L.cut u (entries_left (K n) 1 * (K n).entry)) tt)
    keeping (read_entries u h i count buffer) fits ok keeps = tt
    keeping (read_entry u h i buffer) fits ok keeps = tt
    keeping (tape_len u h) fits ok keeps = tt
    keeping (tape_start u h) fits ok keeps = tt
    keeping (tape_exists u name) fits ok keeps = tt
    keeping (commit u) fits ok keeps = not-true (eqb t u) keeps
    keeping (drop_transaction u) fits ok keeps = not-true (eqb t u) keeps

-- ---- what such calls keep, of the tape of a name, they all keep

module _ (t : ℕ) (n : List ℕ) (long : 0 < length n) (P : Known → Type 0) (kept : KeptOpen t n P) where
  -- one exchange
  once : (c : Call) (a : Areas) (K : Lore) → Fits c → Standing a K → ((step c a).code ≡ 0 → keeps_open t c ≡ true) → P (K n) → P (tell_one n (K n) (exchange c (step c a)))
  unfolding step
  once c a K fits (formatted f) stays p = absurd (kept.begun (subst P (f.untold n long) p))
  once c a K fits (running r) stays p =
      equal (step c a).code 0
      (λ (ok : (step c a).code ≡ 0).
      subst P (sym (tell-served n (K n) (exchange c (step c a)) ok))
      (kept.keeps a K r p (step c a).value (concerns n (K n) c (step c a).value) (keeping a.disk a.session K r n long t c fits ok (stays ok))))
      (λ (bad : (step c a).code ≢ 0). subst P (sym (tell-refused n (K n) (exchange c (step c a)) bad)) p)

  pub lasts : (cs : List Call) (a : Areas) (K : Lore) → AllFit cs → ((m : List ℕ) → OldSizes m (history cs a) (K m)) → Standing a K → AllServed (keeps_open t) (history cs a)
      → P (K n) → P (tell n (history cs a) (K n))
  unfolding history tell
  lasts [] a K fit old st stays p = p
  lasts (c ∷ cs) a K fit old st stays p =
      lasts cs (step c a).areas (λ m. tell_one m (K m) (exchange c (step c a))) fit.1 (λ m. (old m).1) (stands c a K fit.0 (λ m. (old m).0) st) stays.1
      (once c a K fit.0 st stays.0 p)
