-- A law of running sessions that every served call keeps holds after any calls: the second induction beside `Runs.antt`, once for all such laws. Assumes
-- nothing.
use Rattle.std.specs.Prelude.{◌≡◌, refl, ◌≢◌, true, false, ℕ}
use Rattle.std.proofs.Common.{sym, ◌∙◌, true≢false, arith}
use Rattle.std.proofs.Math.Path.{subst, fun_ext}
use mathlib.Core.List.{List, [], ◌∷◌}
use Rattle.octets.specs.Cases.{equal}
use Rattle.layout.specs.Session.{begun}
use Rattle.layout.specs.SessionLaws.{→begun}
use Rattle.rolling_tape.specs.Removal.{Areas, areas}
use Rattle.seen.specs.Formats.{format-unbegun}
use Rattle.promises.specs.Calls.{Call, format, store, append, reader, truncate, open_tape, append_entries, shift_start, truncate_tape, drop_entries, pop_entry, read_entries, read_entry, tape_len, tape_start, tape_exists, commit, drop_transaction, Fits, AllFit, perform, step, exchange, run, history}
use Rattle.promises.specs.Told.{unknown, concerns, OldSize, tell_one, tell, OldSizes}
use Rattle.promises.specs.Refused.{areas-leave}
use Rattle.promises.specs.Standing.{Lore, Running, Standing, running, formatted}
use Rattle.promises.proofs.Steps.{tell-served, tell-refused, stands}
use Rattle.promises.proofs.Runs.{stands-first}
use Rattle.promises.specs.Promise.{Run, begins, ends, known}
use Rattle.promises.specs.Always.{is_inside, no-session, lore, Lasts}

-- a session is not both
unformatted : (s : List ℕ) {d : List ℕ} {K : Lore} {A : Type 0} → Running (areas d s) K → begun s ≡ false → A
unformatted s r unbegun = absurd (true≢false (sym (→begun s r.orderly.session) ∙ unbegun))

module _ (P : Areas → Lore → Type 0) (lasts : Lasts P) where
  -- what holds, with the law if a session runs
  pub record Has (a : Areas) (K : Lore) : Type 0 where
    pub standing : Standing a K
    pub has : Running a K → P a K

  -- ---- a served call

  module _ (d s : List ℕ) (K : Lore) (st : Standing (areas d s) K) (has : Running (areas d s) K → P (areas d s) K) where
    abbrev KeptBy : Call → Type 0
    KeptBy c = Fits c → (perform c d s).code ≡ 0 → ((n : List ℕ) → OldSize (K n) (concerns n (K n) c (perform c d s).value))
        → Running (perform c d s).areas (lore d s K c) → P (perform c d s).areas (lore d s K c)

    inside : (c : Call) → is_inside c ≡ true → KeptBy c
    inside c is fits ok old r = by st has
      where
        by : Standing (areas d s) K → (Running (areas d s) K → P (areas d s) K) → P (perform c d s).areas (lore d s K c)
        by (running q) p = lasts.keeps d s K q (p q) c is fits ok old
        by (formatted f) p = absurd (let z : ◌≡◌ {A = ℕ} 0 1 = sym ok ∙ no-session d s f.unbegun c is in omega arith)

    stored : KeptBy store
    stored fits ok old r = by st has
      where
        by : Standing (areas d s) K → (Running (areas d s) K → P (areas d s) K) → P (perform store d s).areas (lore d s K store)
        by (running q) p = lasts.renews d s K q (p q) ok
        by (formatted f) p = lasts.begins d s K f ok

    kept_by : (c : Call) → KeptBy c
    kept_by (format k) = λ fits ok old r. unformatted (perform (format k) d s).areas.session r (format-unbegun d s k ok)
    kept_by store = stored
    kept_by append = inside append refl
    kept_by reader = inside reader refl
    kept_by truncate = inside truncate refl
    kept_by (open_tape t name entry size cache start) = inside (open_tape t name entry size cache start) refl
    kept_by (append_entries t h bs) = inside (append_entries t h bs) refl
    kept_by (shift_start t h i) = inside (shift_start t h i) refl
    kept_by (truncate_tape t h i) = inside (truncate_tape t h i) refl
    kept_by (drop_entries t h i) = inside (drop_entries t h i) refl
    kept_by (pop_entry t h buffer) = inside (pop_entry t h buffer) refl
    kept_by (read_entries t h i n buffer) = inside (read_entries t h i n buffer) refl
    kept_by (read_entry t h i buffer) = inside (read_entry t h i buffer) refl
    kept_by (tape_len t h) = inside (tape_len t h) refl
    kept_by (tape_start t h) = inside (tape_start t h) refl
    kept_by (tape_exists t name) = inside (tape_exists t name) refl
    kept_by (commit t) = inside (commit t) refl
    kept_by (drop_transaction t) = inside (drop_transaction t) refl

  -- ---- one exchange, and any calls

  module _ (c : Call) (a : Areas) (K : Lore) (fits : Fits c) (old : (n : List ℕ) → (step c a).code ≡ 0 → OldSize (K n) (concerns n (K n) c (step c a).value)) (h : Has a K) where
    abbrev Then : Lore
    Then n = tell_one n (K n) (exchange c (step c a))

    has-then : Running (step c a).areas Then → P (step c a).areas Then
    unfolding step
    has-then =
        let Q : Areas → Lore → Type 0 = λ b M. Running b M → P b M in
        equal (step c a).code 0
        (λ (ok : (step c a).code ≡ 0).
        subst (Q (step c a).areas) (sym (fun_ext (λ n. tell-served n (K n) (exchange c (step c a)) ok)))
        (kept_by a.disk a.session K h.standing h.has c fits ok (λ n. old n ok)))
        (λ (bad : (step c a).code ≢ 0).
        subst (λ (b : Areas). Q b Then) (sym (areas-leave c a bad))
        (subst (Q a) (sym (fun_ext (λ n. tell-refused n (K n) (exchange c (step c a)) bad))) h.has))

    has-next : Has (step c a).areas Then
    has-next = record { standing = stands c a K fits old h.standing; has = has-then }

  has-runs : (cs : List Call) (a : Areas) (K : Lore) → AllFit cs → ((n : List ℕ) → OldSizes n (history cs a) (K n)) → Has a K
      → Has (run cs a) (λ n. tell n (history cs a) (K n))
  unfolding run history tell
  has-runs [] a K fit old h = h
  has-runs (c ∷ cs) a K fit old h =
      has-runs cs (step c a).areas (λ n. tell_one n (K n) (exchange c (step c a))) fit.1 (λ n. (old n).1) (has-next c a K fit.0 (λ n. (old n).0) h)

  module _ (r : Run) where
    -- a format leaves no session
    has_first : Has (begins r) (λ n. unknown)
    unfolding step
    has_first =
        record {
          standing = stands-first r;
          has = λ q. unformatted (begins r).session q (format-unbegun r.disk r.session r.slots r.formatted);
        }

    has_last : Has (ends r) (known r)
    has_last = has-runs r.calls (begins r) (λ n. unknown) r.fit r.sizes has_first

    pub always : Running (ends r) (known r) → P (ends r) (known r)
    always = has_last.has
