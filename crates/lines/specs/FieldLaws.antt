-- Laws of fields: how many they are, byte by byte, and the first of what is left of a line and those behind it. Assumes nothing.
use Rattle.std.specs.Prelude.{◌≡◌, refl, ◌≢◌, List, [], ◌∷◌, ℕ, suc, ◌+◌, ◌-◌, ◌≤◌, ◌<◌, length, get_or, take, drop}
use Rattle.std.proofs.Common.{sym, ap, ◌∙◌, add-one, arith, eq-eqb, ne_eqb, drop_of_length-le, length-drop, drop-cons, drop-drop}
use Rattle.std.proofs.Math.Seq.{take-nil}
use Rattle.octets.specs.Cases.{equal}
use Rattle.lines.specs.Fields.{in_front, fields, lead}

-- ---- how many

length_front : (b : ℕ) (fs : List (List ℕ)) → 1 ≤ length fs → length (in_front b fs) ≡ length fs
unfolding in_front
length_front b [] l = absurd (omega arith)
length_front b (f ∷ fs) l = refl

module _ (b : ℕ) (s : List ℕ) where
  fields-tab : b ≡ 9 → fields (b ∷ s) ≡ [] ∷ fields s
  unfolding fields
  fields-tab e = rw (eq-eqb b 9 e)

  fields-other : b ≢ 9 → fields (b ∷ s) ≡ in_front b (fields s)
  unfolding fields
  fields-other d = rw (ne_eqb b 9 d)

  lead-tab : b ≡ 9 → lead (b ∷ s) ≡ 0
  unfolding lead
  lead-tab e = rw (eq-eqb b 9 e)

  lead-other : b ≢ 9 → lead (b ∷ s) ≡ suc (lead s)
  unfolding lead
  lead-other d = rw (ne_eqb b 9 d)

some-field : (s : List ℕ) → 1 ≤ length (fields s)
unfolding fields
some-field [] = omega arith
some-field (b ∷ s) =
    equal b 9 (λ (e : b ≡ 9). rw (fields-tab b s e) (omega arith))
    (λ (d : b ≢ 9). rw (fields-other b s d, length_front b (fields s) (some-field s)) (some-field s))

module _ (s : List ℕ) (i : ℕ) (more : i < length s) where
  pub count-tab : get_or s i 0 ≡ 9 → length (fields (drop i s)) ≡ length (fields (drop (i + 1) s)) + 1
  count-tab e = rw (drop-cons s i 0 more, fields-tab (get_or s i 0) (drop (suc i) s) e, add-one i) (omega arith)

  pub count-other : get_or s i 0 ≢ 9 → length (fields (drop i s)) ≡ length (fields (drop (i + 1) s))
  count-other d =
      rw (drop-cons s i 0 more, fields-other (get_or s i 0) (drop (suc i) s) d, add-one i)
      (length_front (get_or s i 0) (fields (drop (suc i) s)) (some-field (drop (suc i) s)))

  pub lead-stop : get_or s i 0 ≡ 9 → lead (drop i s) ≡ 0
  lead-stop e = rw (drop-cons s i 0 more) (lead-tab (get_or s i 0) (drop (suc i) s) e)

  pub lead-step : get_or s i 0 ≢ 9 → lead (drop i s) ≡ suc (lead (drop (i + 1) s))
  lead-step d = rw (drop-cons s i 0 more, add-one i) (lead-other (get_or s i 0) (drop (suc i) s) d)

module _ (s : List ℕ) (i : ℕ) where
  pub count-end : length s ≤ i → length (fields (drop i s)) ≡ 1
  unfolding fields
  count-end l = rw (drop_of_length-le s l)

  pub lead-end : length s ≤ i → lead (drop i s) ≡ 0
  unfolding lead
  lead-end l = rw (drop_of_length-le s l)

-- ---- the first field, and those behind it

front-first : (b : ℕ) (fs : List (List ℕ)) → get_or (in_front b fs) 0 [] ≡ b ∷ get_or fs 0 []
unfolding in_front
front-first b [] = refl
front-first b (f ∷ fs) = refl

front-behind : (b : ℕ) (fs : List (List ℕ)) (k : ℕ) → get_or (in_front b fs) (suc k) [] ≡ get_or fs (suc k) []
unfolding in_front
front-behind b [] k = refl
front-behind b (f ∷ fs) k = refl

no_line : fields [] ≡ [] ∷ []
unfolding fields
no_line = refl

pub first_field : (s : List ℕ) → get_or (fields s) 0 [] ≡ take (lead s) s
first_field [] = rw no_line (sym (take-nil (lead [])))
first_field (b ∷ s) =
    equal b 9
    (λ (e : b ≡ 9). rw (fields-tab b s e, lead-tab b s e))
    (λ (d : b ≢ 9). rw (fields-other b s d, lead-other b s d, front-first b (fields s)) (ap (λ (f : List ℕ). b ∷ f) (first_field s)))

pub fields-behind : (s : List ℕ) (k : ℕ) → lead s < length s → get_or (fields s) (suc k) [] ≡ get_or (fields (drop (suc (lead s)) s)) k []
fields-behind [] k l = absurd (omega arith)
fields-behind (b ∷ s) k l =
    equal b 9
    (λ (e : b ≡ 9). rw (fields-tab b s e, lead-tab b s e))
    (λ (d : b ≢ 9).
    let h : suc (lead s) < suc (length s) = rw (lead-other b s d) at l in
    rw (fields-other b s d, lead-other b s d, front-behind b (fields s) k) (fields-behind s k (omega arith)))

pub fields-none : (s : List ℕ) (k : ℕ) → length s ≤ lead s → get_or (fields s) (suc k) [] ≡ []
fields-none [] k l = rw no_line
fields-none (b ∷ s) k l =
    equal b 9
    (λ (e : b ≡ 9). let h : suc (length s) ≤ 0 = rw (lead-tab b s e) at l in absurd (omega arith))
    (λ (d : b ≢ 9).
    let h : suc (length s) ≤ suc (lead s) = rw (lead-other b s d) at l in
    rw (fields-other b s d, front-behind b (fields s) k) (fields-none s k (omega arith)))

pub lead-le : (s : List ℕ) → lead s ≤ length s
unfolding lead
lead-le [] = omega arith
lead-le (b ∷ s) =
    equal b 9 (λ (e : b ≡ 9). rw (lead-tab b s e) (omega arith)) (λ (d : b ≢ 9). rw (lead-other b s d) (omega (arith, lead-le s)))

-- ---- from a place of the line on

module _ (s : List ℕ) (start end : ℕ) (inside : start ≤ length s) (ends : end ≡ start + lead (drop start s)) where
  pub field-here : get_or (fields (drop start s)) 0 [] ≡ take (end - start) (drop start s)
  field-here =
      let e : end - start ≡ lead (drop start s) = omega arith in
      rw e (first_field (drop start s))

  pub field-later : (k : ℕ) → 0 < k → end < length s → get_or (fields (drop start s)) k [] ≡ get_or (fields (drop (end + 1) s)) (k - 1) []
  field-later k l h =
      let e : k ≡ suc (k - 1) = omega arith in
      let there : lead (drop start s) < length (drop start s) = rw length-drop (omega arith) in
      let f : start + suc (lead (drop start s)) ≡ end + 1 = omega arith in
      ap (λ (n : ℕ). get_or (fields (drop start s)) n []) e
      ∙ fields-behind (drop start s) (k - 1) there
      ∙ ap (λ (l : List ℕ). get_or (fields l) (k - 1) []) (drop-drop (suc (lead (drop start s))) start s ∙ ap (λ (n : ℕ). drop n s) f)

  pub field-over : (k : ℕ) → 0 < k → length s ≤ end → get_or (fields (drop start s)) k [] ≡ []
  field-over k l h =
      let e : k ≡ suc (k - 1) = omega arith in
      let there : length (drop start s) ≤ lead (drop start s) = rw length-drop (omega arith) in
      ap (λ (n : ℕ). get_or (fields (drop start s)) n []) e ∙ fields-none (drop start s) (k - 1) there
