-- What a caller sees of a disk by directory and number, and how many files there are, after each change: of the meaning alone. Assumes nothing.
use Rattle.std.specs.Prelude.{◌≡◌, ◌≢◌, Bool, not, ◌&&◌, List, [], ℕ, ◌+◌, ◌≤◌, ◌<◌, Option, Some, None}
use Rattle.std.proofs.Math.Path.{refl, ap}
use Rattle.std.proofs.Common.{sym, ◌∙◌, arith}
use Rattle.std.proofs.Math.Bool.{false}
use borrow.Author.Tests.{eqb-true, eq-eqb, ne_eqb}
use Rattle.std.proofs.Math.Dec.{eqb}
use Rattle.octets.specs.First.{first-same, first-never, first-at, first-hits, first-misses, count_same, count-le, count-more}
use Rattle.octets.specs.Cases.{equal, and_l, and_r}
use Rattle.disk.specs.Meaning.{Slot, Disk, free, slot_with, bytes_in, file_in, file_count, with_slot, emptied}

-- ---- a slot changed

module _ (m : Disk) (i : ℕ) (r : Slot) where
  slot-new : (with_slot m i r).slot i ≡ r
  slot-new = rw (eq-eqb i i refl)

  slot_kept : (j : ℕ) → j ≢ i → (with_slot m i r).slot j ≡ m.slot j
  slot_kept j d = rw (ne_eqb j i d)

  bytes-kept : (f : Option ℕ) → (f ≡ Some i → ⊥) → bytes_in (with_slot m i r) f ≡ bytes_in m f
  bytes-kept (Some j) d = ap (λ (x : Slot). Some x.bytes) (slot_kept j (λ e. d (ap Some e)))
  bytes-kept None d = refl

-- slot i has file n of directory d
abbrev pub has : Disk → ℕ → ℕ → ℕ → Bool
has m d n i = eqb (m.slot i).owner (d + 1) && eqb (m.slot i).number n

module _ (m : Disk) where
  pub with-low : (d n i : ℕ) → slot_with m d n ≡ Some i → i < m.slots
  with-low d n i e = omega (arith, (first-hits (has m d n) m.slots 0 i e).high)

  pub with-is : (d n i : ℕ) → slot_with m d n ≡ Some i → ((m.slot i).owner ≡ d + 1) × ((m.slot i).number ≡ n)
  with-is d n i e =
      let h = (first-hits (has m d n) m.slots 0 i e).holds in
      (eqb-true _ _ (and_l _ _ h), eqb-true _ _ (and_r (eqb (m.slot i).owner (d + 1)) _ h))

  not-owner : (d n i : ℕ) → (m.slot i).owner ≢ d + 1 → has m d n i ≡ false
  not-owner d n i h = rw (ne_eqb (m.slot i).owner (d + 1) h)

-- ---- a file's bytes changed

abbrev pub with_bytes : Slot → List ℕ → Slot
with_bytes r bs = record { owner = r.owner; number = r.number; bytes = bs }

module _ (m : Disk) (i : ℕ) (bs : List ℕ) where
  same-slots : (d n : ℕ) → slot_with (with_slot m i (with_bytes (m.slot i) bs)) d n ≡ slot_with m d n
  same-slots d n =
      first-same _ (has m d n) m.slots 0
      (λ j l h.
      equal j i
      (λ (e : j ≡ i). rw (e, eq-eqb i i refl))
      (λ (q : j ≢ i). rw (ne_eqb j i q)))

  pub file-written : (d n : ℕ) → slot_with m d n ≡ Some i → file_in (with_slot m i (with_bytes (m.slot i) bs)) d n ≡ Some bs
  unfolding file_in
  file-written d n e =
      ap (bytes_in (with_slot m i (with_bytes (m.slot i) bs))) (same-slots d n ∙ e) ∙ ap (λ (x : Slot). Some x.bytes) (slot-new m i (with_bytes (m.slot i) bs))

  pub file-written-other : (d n d' n' : ℕ) → slot_with m d n ≡ Some i → (d' ≡ d → n' ≡ n → ⊥) → file_in (with_slot m i (with_bytes (m.slot i) bs)) d' n' ≡ file_in m d' n'
  unfolding file_in
  file-written-other d n d' n' e other =
      ap (bytes_in (with_slot m i (with_bytes (m.slot i) bs))) (same-slots d' n')
      ∙ bytes-kept m i (with_bytes (m.slot i) bs) (slot_with m d' n')
      (λ f.
      let old = with-is m d n i e in
      let new = with-is m d' n' i f in
      other (omega arith) (omega arith))

-- ---- a file made in a free slot

abbrev pub new_file : ℕ → ℕ → Slot
new_file d n = record { owner = d + 1; number = n; bytes = [] }

module _ (m : Disk) (i d n : ℕ) where
  pub file-made : slot_with m d n ≡ None → i < m.slots → file_in (with_slot m i (new_file d n)) d n ≡ Some []
  unfolding file_in
  file-made missing low =
      ap (bytes_in (with_slot m i (new_file d n)))
      (first-at (has (with_slot m i (new_file d n)) d n) m.slots 0 i
      (record {
        low = omega arith;
        high = omega arith;
        holds = rw (eq-eqb i i refl, eq-eqb (d + 1) (d + 1) refl, eq-eqb n n refl);
        before = λ j a b.
            rw (ne_eqb j i (λ e. omega arith)) (first-misses (has m d n) m.slots 0 missing j (omega arith) (omega arith));
      }))
      ∙ ap (λ (x : Slot). Some x.bytes) (slot-new m i (new_file d n))

  pub file-made-other : (d' n' : ℕ) → (m.slot i).owner ≡ 0 → (d' ≡ d → n' ≡ n → ⊥) → file_in (with_slot m i (new_file d n)) d' n' ≡ file_in m d' n'
  unfolding file_in
  file-made-other d' n' was_free other =
      ap (bytes_in (with_slot m i (new_file d n))) same
      ∙ bytes-kept m i (new_file d n) (slot_with m d' n') (λ f. let found = with-is m d' n' i f in omega arith)
    where
      differs : (eqb (d + 1) (d' + 1) && eqb n n') ≡ false
      differs =
          equal d d'
          (λ (p : d ≡ d'). rw (eq-eqb (d + 1) (d' + 1) (omega arith), ne_eqb n n' (λ q. other (sym p) (sym q))))
          (λ (p : d ≢ d'). rw (ne_eqb (d + 1) (d' + 1) (λ q. p (omega arith))))

      same : slot_with (with_slot m i (new_file d n)) d' n' ≡ slot_with m d' n'
      same =
          first-same _ (has m d' n') m.slots 0
          (λ j l h.
          equal j i
          (λ (e : j ≡ i). rw (e, eq-eqb i i refl) (differs ∙ sym (not-owner m d' n' i (λ q. omega arith))))
          (λ (q : j ≢ i). rw (ne_eqb j i q)))

-- ---- a directory emptied

module _ (m : Disk) (d : ℕ) where
  emptied-owned : (i : ℕ) → (m.slot i).owner ≡ d + 1 → (emptied m d).slot i ≡ free
  emptied-owned i e = rw (eq-eqb (m.slot i).owner (d + 1) e)

  emptied-other : (i : ℕ) → (m.slot i).owner ≢ d + 1 → (emptied m d).slot i ≡ m.slot i
  emptied-other i h = rw (ne_eqb (m.slot i).owner (d + 1) h)

  pub file-emptied : (n : ℕ) → file_in (emptied m d) d n ≡ None
  unfolding file_in
  file-emptied n =
      ap (bytes_in (emptied m d))
      (first-never (has (emptied m d) d n) m.slots 0
      (λ j l h.
      equal (m.slot j).owner (d + 1)
      (λ (e : (m.slot j).owner ≡ d + 1). rw (emptied-owned j e, ne_eqb 0 (d + 1) (λ q. omega arith)))
      (λ (e : (m.slot j).owner ≢ d + 1). rw (emptied-other j e) (not-owner m d n j e))))

  pub file-emptied-other : (d' n : ℕ) → d' ≢ d → file_in (emptied m d) d' n ≡ file_in m d' n
  unfolding file_in
  file-emptied-other d' n other = ap (bytes_in (emptied m d)) same ∙ kept (slot_with m d' n) refl
    where
      same : slot_with (emptied m d) d' n ≡ slot_with m d' n
      same =
          first-same _ (has m d' n) m.slots 0
          (λ j l h.
          equal (m.slot j).owner (d + 1)
          (λ (e : (m.slot j).owner ≡ d + 1). rw (emptied-owned j e, ne_eqb 0 (d' + 1) (λ q. omega arith)) (sym (not-owner m d' n j (λ q. other (omega arith)))))
          (λ (e : (m.slot j).owner ≢ d + 1). rw (emptied-other j e)))

      kept : (f : Option ℕ) → slot_with m d' n ≡ f → bytes_in (emptied m d) f ≡ bytes_in m f
      kept (Some j) e =
          let found = with-is m d' n j e in
          ap (λ (x : Slot). Some x.bytes) (emptied-other j (λ q. other (omega arith)))
      kept None e = refl

-- ---- how many there are

-- slot i has a file
abbrev used : Disk → ℕ → Bool
used m i = not (eqb (m.slot i).owner 0)

module _ (m : Disk) where
  pub count-few : file_count m ≤ m.slots
  count-few = count-le (used m) m.slots 0

  module _ (i : ℕ) (r : Slot) where
    used-kept : (j : ℕ) → j ≢ i → used (with_slot m i r) j ≡ used m j
    used-kept j d = ap (λ (x : Slot). not (eqb x.owner 0)) (slot_kept m i r j d)

    pub count-made : i < m.slots → (m.slot i).owner ≡ 0 → 1 ≤ r.owner → file_count (with_slot m i r) ≡ file_count m + 1
    count-made low was more =
        count-more (used m) (used (with_slot m i r)) m.slots 0 i (omega arith) (omega arith)
        (rw (eq-eqb (m.slot i).owner 0 was))
        (rw (eq-eqb i i refl, ne_eqb r.owner 0 (λ e. omega arith)))
        (λ j a b d. used-kept j d)

    -- as many, where the slot had a file and has one, or had none and has none
    pub count_kept : r.owner ≡ (m.slot i).owner → file_count (with_slot m i r) ≡ file_count m
    count_kept same =
        count_same (used (with_slot m i r)) (used m) m.slots 0
        (λ j a b.
        equal j i
        (λ (e : j ≡ i). rw (e, eq-eqb i i refl, same))
        (λ (d : j ≢ i). used-kept j d))

  pub count-removed : (i : ℕ) → i < m.slots → (m.slot i).owner ≢ 0 → file_count (with_slot m i free) + 1 ≡ file_count m
  count-removed i low was =
      sym
      (count-more (used (with_slot m i free)) (used m) m.slots 0 i (omega arith) (omega arith)
      (rw (eq-eqb i i refl))
      (rw (ne_eqb (m.slot i).owner 0 was))
      (λ j a b d. sym (used-kept i free j d)))
