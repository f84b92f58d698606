-- The session's rule, as the code tests it and as facts: a law for each way out of a test, the test and the facts both ways, and an area of zeros.
-- Assumes nothing.
use Rattle.std.specs.Prelude.{◌≡◌, ◌≢◌, ◌⊎◌, true, false, ◌&&◌, List, ℕ, ◌^◌, ◌≤◌, ◌<◌, eqb, leb, ltb, length, replicate}
use Rattle.std.proofs.Common.{sym, ◌∙◌, inl, inr, true≢false}
use Rattle.std.proofs.Math.Bool.{and-true}
use native.Mathlib.Omega.{arith}
use borrow.Author.Tests.{lt-ltb, le-ltb, le-leb, lt-leb, eq-eqb, ne_eqb, leb-true, ltb-true, eqb-true}
use Rattle.std.proofs.lemmas.List.{length-replicate}
use Rattle.octets.specs.Cases.{and_l, and_r, decide, order, equal}
use Rattle.octets.specs.Number.{num_at, num_at-zeros}
use Rattle.octets.specs.First.{all, all_true, all-holds, all-skip}
use Rattle.layout.specs.Names.{name_fits}
use Rattle.layout.specs.NamesLaws.{names-fit, fit-names}
use Rattle.layout.specs.Joined.{joined, joined-above, joined-below}
use Rattle.layout.specs.Session.{mark, session_bytes, names_at, kind_word, handle_number, entry_size_of, file_size_of, capacity, ring_start, ring_len, unwritten, ring_fits, tape_fits, kind_fits, tables_fit, begun, sound, RingFits, TapeFits, Begun}

-- ---- the ways out of a ring's test

pub ring-big : (s : List ℕ) (p : ℕ) → 4096 < capacity s p → ring_fits s p ≡ false
unfolding ring_fits
ring-big s p h = simp (lt-leb _ _ h)

module _ (s : List ℕ) (p : ℕ) (small : capacity s p ≤ 4096) where
  pub ring-outside : capacity s p ≤ ring_start s p → ring_fits s p ≡ false
  unfolding ring_fits
  ring-outside h = simp (le-leb _ _ small, le-ltb _ _ h)

  module _ (inside : ring_start s p < capacity s p) where
    pub ring_long : capacity s p < ring_len s p → ring_fits s p ≡ false
    unfolding ring_fits
    ring_long h = simp (le-leb _ _ small, lt-ltb _ _ inside, lt-leb _ _ h)

    pub ring-last : ring_len s p ≤ capacity s p → ring_fits s p ≡ leb (unwritten s p) (ring_len s p)
    unfolding ring_fits
    ring-last h = simp (le-leb _ _ small, lt-ltb _ _ inside, le-leb _ _ h)

-- ---- of a tape's

pub tape-shut : (s : List ℕ) (p : ℕ) → handle_number s p ≡ 0 → tape_fits s p ≡ true
unfolding tape_fits
tape-shut s p h = simp (eq-eqb _ _ h)

module _ (s : List ℕ) (p : ℕ) (held : handle_number s p ≢ 0) where
  pub tape-no-entry : entry_size_of s p < 1 → tape_fits s p ≡ false
  unfolding tape_fits
  tape-no-entry h = simp (ne_eqb _ _ held, lt-leb _ _ h)

  module _ (entry-some : 1 ≤ entry_size_of s p) where
    pub tape-big-entry : 256 < entry_size_of s p → tape_fits s p ≡ false
    unfolding tape_fits
    tape-big-entry h = simp (ne_eqb _ _ held, le-leb _ _ entry-some, lt-leb _ _ h)

    module _ (entry-small : entry_size_of s p ≤ 256) where
      pub tape-no-file : file_size_of s p < 1 → tape_fits s p ≡ false
      unfolding tape_fits
      tape-no-file h = simp (ne_eqb _ _ held, le-leb _ _ entry-some, le-leb _ _ entry-small, lt-leb _ _ h)

      module _ (file-some : 1 ≤ file_size_of s p) where
        pub tape-big-file : 4096 < file_size_of s p → tape_fits s p ≡ false
        unfolding tape_fits
        tape-big-file h = simp (ne_eqb _ _ held, le-leb _ _ entry-some, le-leb _ _ entry-small, le-leb _ _ file-some, lt-leb _ _ h)

        pub tape-ring : file_size_of s p ≤ 4096 → tape_fits s p ≡ ring_fits s p
        unfolding tape_fits
        tape-ring h = simp (ne_eqb _ _ held, le-leb _ _ entry-some, le-leb _ _ entry-small, le-leb _ _ file-some, le-leb _ _ h)

-- ---- of a transaction place's

pub kind-reader : (s : List ℕ) (t : ℕ) → t < 16 → kind_fits s t ≡ leb (kind_word s t) 1
unfolding kind_fits
kind-reader s t h = simp (lt-ltb _ _ h)

module _ (s : List ℕ) (t : ℕ) (high : 16 ≤ t) where
  pub kind-mixed : kind_word s t ≡ 1 → kind_fits s t ≡ false
  unfolding kind_fits
  kind-mixed h = simp (le-ltb _ _ high, eq-eqb _ _ h)

  pub kind-writer : kind_word s t ≢ 1 → kind_fits s t ≡ leb (kind_word s t) 3
  unfolding kind_fits
  kind-writer h = simp (le-ltb _ _ high, ne_eqb _ _ h)

-- ---- of the transaction places', with the readers' joined

module _ (s : List ℕ) where
  pub kinds-bad : 1 < joined (kind_word s) 16 → all (kind_fits s) 17 0 ≡ false
  kinds-bad h =
      decide (all (kind_fits s) 17 0)
      (λ (t : all (kind_fits s) 17 0 ≡ true).
      let each : (i : ℕ) → i < 16 → kind_word s i < 2 ^ 1
      = λ i l.
      let one : kind_word s i ≤ 1 = leb-true _ _ (sym (kind-reader s i l) ∙ all-holds (kind_fits s) 17 0 t i (omega arith) (omega arith)) in
      omega arith in
      let low : joined (kind_word s) 16 < 2 ^ 1 = joined-below (kind_word s) 1 16 each in
      absurd (omega arith))
      (λ f. f)

  pub kinds-good : joined (kind_word s) 16 ≤ 1 → all (kind_fits s) 17 0 ≡ kind_fits s 16
  unfolding all
  kinds-good h =
      all-skip (kind_fits s) 16 1 0
      (λ i l m.
      let few : i < 16 = omega arith in
      let low : kind_word s i ≤ joined (kind_word s) 16 = joined-above (kind_word s) 16 i few in
      kind-reader s i few ∙ le-leb (kind_word s i) 1 (omega arith))
      ∙ and-true (kind_fits s 16)

-- ---- of the tables'

module _ (s : List ℕ) where
  pub tables-names : all (name_fits s names_at) 8 0 ≡ false → tables_fit s ≡ false
  unfolding tables_fit
  tables-names h = rw h

  pub tables-kinds : all (name_fits s names_at) 8 0 ≡ true → all (kind_fits s) 17 0 ≡ false → tables_fit s ≡ false
  unfolding tables_fit
  tables-kinds n h = rw (n, h)

  pub tables-tapes : all (name_fits s names_at) 8 0 ≡ true → all (kind_fits s) 17 0 ≡ true → tables_fit s ≡ all (tape_fits s) 8 0
  unfolding tables_fit
  tables-tapes n h = rw (n, h)

-- ---- of the area's

module _ (s : List ℕ) where
  pub begun-short : length s < session_bytes → begun s ≡ false
  unfolding begun
  begun-short h = simp (lt-leb _ _ h)

  pub begun-unmarked : num_at 8 s 0 ≢ mark → begun s ≡ false
  unfolding begun
  begun-unmarked h = order (length s) session_bytes (λ l. simp (lt-leb _ _ l)) (λ l. simp (le-leb _ _ l, ne_eqb _ _ h))

  pub begun-tables : session_bytes ≤ length s → num_at 8 s 0 ≡ mark → begun s ≡ tables_fit s
  unfolding begun
  begun-tables l h = simp (le-leb _ _ l, eq-eqb _ _ h)

  pub sound-short : length s < session_bytes → sound s ≡ false
  unfolding sound
  sound-short h = simp (lt-leb _ _ h)

  pub ended-sound : session_bytes ≤ length s → num_at 8 s 0 ≡ 0 → sound s ≡ true
  unfolding sound
  ended-sound l h = simp (le-leb _ _ l, eq-eqb _ _ h)

  pub sound-begun : session_bytes ≤ length s → num_at 8 s 0 ≢ 0 → sound s ≡ begun s
  unfolding sound
  sound-begun l h = simp (le-leb _ _ l, ne_eqb _ _ h)

-- ---- the test and the facts: a ring

pub ring→ : (s : List ℕ) (p : ℕ) → ring_fits s p ≡ true → RingFits s p
unfolding ring_fits
ring→ s p e =
    let a = and_r (leb (capacity s p) 4096) _ e in
    let b = and_r (ltb (ring_start s p) (capacity s p)) _ a in
    record {
      small = leb-true _ _ (and_l _ _ e);
      inside = ltb-true _ _ (and_l _ _ a);
      short = leb-true _ _ (and_l _ _ b);
      pending = leb-true _ _ (and_r (leb (ring_len s p) (capacity s p)) _ b);
    }

pub →ring : (s : List ℕ) (p : ℕ) → RingFits s p → ring_fits s p ≡ true
→ring s p r = ring-last s p r.small r.inside r.short ∙ le-leb _ _ r.pending

-- ---- a tape

pub tape→ : (s : List ℕ) (p : ℕ) → tape_fits s p ≡ true → handle_number s p ≢ 0 → TapeFits s p
unfolding tape_fits
tape→ s p e h =
    let a : (leb 1 (entry_size_of s p) && (leb (entry_size_of s p) 256 && (leb 1 (file_size_of s p) && (leb (file_size_of s p) 4096 && ring_fits s p)))) ≡ true = simp (ne_eqb _ _ h) at e in
    let b = and_r (leb 1 (entry_size_of s p)) _ a in
    let c = and_r (leb (entry_size_of s p) 256) _ b in
    let d = and_r (leb 1 (file_size_of s p)) _ c in
    record {
      entry-some = leb-true _ _ (and_l _ _ a);
      entry-small = leb-true _ _ (and_l _ _ b);
      file-some = leb-true _ _ (and_l _ _ c);
      file-small = leb-true _ _ (and_l _ _ d);
      ring = ring→ s p (and_r (leb (file_size_of s p) 4096) _ d);
    }

pub →tape : (s : List ℕ) (p : ℕ) → (handle_number s p ≢ 0 → TapeFits s p) → tape_fits s p ≡ true
→tape s p f =
    equal (handle_number s p) 0
    (λ h. tape-shut s p h)
    (λ h.
    let t = f h in
    tape-ring s p h t.entry-some t.entry-small t.file-some t.file-small ∙ →ring s p t.ring)

-- ---- a session

pub begun→ : (s : List ℕ) → begun s ≡ true → Begun s
unfolding begun tables_fit
begun→ s e =
    let long = leb-true session_bytes (length s) (and_l _ _ e) in
    let a = and_r (leb session_bytes (length s)) _ e in
    let b = and_r (eqb (num_at 8 s 0) mark) _ a in
    let c = and_r (all (name_fits s names_at) 8 0) _ b in
    let kinds = all-holds (kind_fits s) 17 0 (and_l _ _ c) in
    let writer : kind_fits s 16 ≡ true = kinds 16 (omega arith) (omega arith) in
    let apart : kind_word s 16 ≢ 1 = λ q. absurd (true≢false (sym writer ∙ kind-mixed s 16 (omega arith) q)) in
    record {
      long = long;
      marked = eqb-true _ _ (and_l _ _ a);
      names = names-fit s names_at (omega arith) (and_l _ _ b);
      readers = λ t l. leb-true _ _ (sym (kind-reader s t l) ∙ kinds t (omega arith) (omega arith));
      writer-apart = apart;
      writer = leb-true _ _ (sym (kind-writer s 16 (omega arith) apart) ∙ writer);
      tapes = λ p l. tape→ s p (all-holds (tape_fits s) 8 0 (and_r (all (kind_fits s) 17 0) _ c) p (omega arith) (omega arith));
    }

pub →begun : (s : List ℕ) → Begun s → begun s ≡ true
→begun s g =
    let kinds : all (kind_fits s) 17 0 ≡ true
    = all_true (kind_fits s) 17 0
    (λ t l m. order t 16
    (λ (r : t < 16). kind-reader s t r ∙ le-leb _ _ (g.readers t r))
    (λ (w : 16 ≤ t).
    let e : 16 ≡ t = omega arith in
    rw (← e) (kind-writer s 16 (omega arith) g.writer-apart ∙ le-leb _ _ g.writer))) in
    let tapes : all (tape_fits s) 8 0 ≡ true
    = all_true (tape_fits s) 8 0 (λ p l m. →tape s p (g.tapes p (omega arith))) in
    begun-tables s g.long g.marked ∙ tables-tapes s (fit-names s names_at g.names) kinds ∙ tapes

-- ---- the rule

pub sound-long : (s : List ℕ) → sound s ≡ true → session_bytes ≤ length s
unfolding sound
sound-long s e = leb-true _ _ (and_l _ _ e)

pub begun-sound : (s : List ℕ) → begun s ≡ true → sound s ≡ true
begun-sound s e =
    let long = (begun→ s e).long in
    equal (num_at 8 s 0) 0 (λ h. ended-sound s long h) (λ h. sound-begun s long h ∙ e)

pub sound→ : (s : List ℕ) → sound s ≡ true → (num_at 8 s 0 ≡ 0) ⊎ Begun s
sound→ s e =
    equal (num_at 8 s 0) 0 (λ h. inl h) (λ h. inr (begun→ s (sym (sound-begun s (sound-long s e) h) ∙ e)))

pub →sound : (s : List ℕ) → Begun s → sound s ≡ true
→sound s g = begun-sound s (→begun s g)

-- ---- an area of zeros: no session, and no rule broken

pub zeros-sound : (n : ℕ) → session_bytes ≤ n → sound (replicate n 0) ≡ true
zeros-sound n h = ended-sound (replicate n 0) (rw (length-replicate {A = ℕ} n 0) h) (num_at-zeros 8 n 0)

pub zeros-none : (n : ℕ) → begun (replicate n 0) ≡ false
zeros-none n = begun-unmarked (replicate n 0) (λ e. omega (arith, e, num_at-zeros 8 n 0))
