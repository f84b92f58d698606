-- What a shape that is answered Done says of the name and the sizes. Assumes nothing.
use Rattle.std.specs.Prelude.{◌≡◌, Bool, true, false, List, ℕ, ◌≤◌, ◌<◌, leb, length, Ok, Err}
use Rattle.std.proofs.Common.{sym, ◌∙◌, true≢false, arith, leb-true}
use Rattle.octets.specs.Cases.{decide, order, and_l, and_r}
use Rattle.octets.specs.Compare.{same_bytes}
use Rattle.answers.specs.declared.Refusal.{Refusal}
use Rattle.metadata.specs.Name.{name_rule}
use Rattle.metadata.specs.NameLaws.{rule-empty, rule_fits}
use Rattle.opening.specs.declared.shape.Opening.{Opening}
use Rattle.opening.specs.Shape.{METADATA, in_range, is_whole, shape_of}
use Rattle.opening.specs.Ways.{shape-bad-name, shape-bad-entry, shape-not-whole, shape-bad-file, shape-reserved, shape-bad-cache}

-- ---- a number in range

pub range-some : (n most : ℕ) → in_range n most ≡ true → 1 ≤ n
range-some n most e = leb-true 1 n (and_l (leb 1 n) (leb n most) e)

range_small : (n most : ℕ) → in_range n most ≡ true → n ≤ most
range_small n most e = leb-true n most (and_r (leb 1 n) (leb n most) e)

-- a test that is not false
holds : (b : Bool) → (b ≡ false → ⊥) → b ≡ true
holds b f = decide b (λ t. t) (λ e. absurd (f e))

-- ---- a name

pub name-some : (wanted : List ℕ) → name_rule wanted ≡ true → 0 < length wanted
name-some wanted named =
    order 0 (length wanted) (λ l. l) (λ (l : length wanted ≤ 0). absurd (true≢false (sym named ∙ rule-empty wanted (omega arith))))

-- ---- a shape

pub record Shaped (wanted : List ℕ) (o : Opening) : Type 0 where
  pub named : name_rule wanted ≡ true
  pub name-short : length wanted ≤ 24
  pub name-some : 0 < length wanted
  pub entry-some : 1 ≤ o.entry
  pub entry-small : o.entry ≤ 256
  pub whole : is_whole o ≡ true
  pub file-some : 1 ≤ o.file_size
  pub file-small : o.file_size ≤ 4096
  pub other : same_bytes wanted METADATA ≡ false
  pub cache-some : 1 ≤ o.cache
  pub cache-small : o.cache ≤ 4096

pub shape-done : (wanted : List ℕ) (o : Opening) (v : Unit) → shape_of wanted o ≡ Ok v → Shaped wanted o
shape-done wanted o v done =
    let not-refused : (why : Refusal) → shape_of wanted o ≡ Err why → ⊥ = λ why e. let z : ◌≡◌ {A = ℕ} 0 1 = cc in omega arith in
    let named : name_rule wanted ≡ true = holds (name_rule wanted) (λ f. not-refused _ (shape-bad-name wanted o f)) in
    let entry : in_range o.entry 256 ≡ true = holds (in_range o.entry 256) (λ f. not-refused _ (shape-bad-entry wanted o named f)) in
    let whole : is_whole o ≡ true = holds (is_whole o) (λ f. not-refused _ (shape-not-whole wanted o named entry f)) in
    let file : in_range o.file_size 4096 ≡ true = holds (in_range o.file_size 4096) (λ f. not-refused _ (shape-bad-file wanted o named entry whole f)) in
    let other : same_bytes wanted METADATA ≡ false
    = decide (same_bytes wanted METADATA) (λ t. absurd (not-refused _ (shape-reserved wanted o named entry whole file t))) (λ f. f) in
    let cache : in_range o.cache 4096 ≡ true
    = holds (in_range o.cache 4096) (λ f. not-refused _ (shape-bad-cache wanted o named entry whole file other f)) in
    record {
      named = named;
      name-short = rule_fits wanted named;
      name-some = name-some wanted named;
      entry-some = range-some o.entry 256 entry;
      entry-small = range_small o.entry 256 entry;
      whole = whole;
      file-some = range-some o.file_size 4096 file;
      file-small = range_small o.file_size 4096 file;
      other = other;
      cache-some = range-some o.cache 4096 cache;
      cache-small = range_small o.cache 4096 cache;
    }
