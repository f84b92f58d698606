-- Laws of the call: the contract leaves nothing open, a refused call changes nothing, and a served one keeps both layout rules and both lengths
-- and leaves areas of bytes areas of bytes. Assumes nothing.
use Rattle.std.specs.Prelude.{◌≡◌, ◌≢◌, true, ◌&&◌, List, ℕ, ◌<◌, eqb, length, Option, Some, None, Result, Ok, Err}
use Rattle.std.proofs.Math.Path.{refl}
use Rattle.std.proofs.Common.{sym, ◌∙◌, arith, eq-eqb}
use Rattle.std.proofs.Math.Bool.{false, true≢false}
use Rattle.octets.specs.Cases.{picked, and_both}
use Rattle.octets.specs.Number.{Bytes}
use Rattle.answers.specs.Answers.{code_of}
use Rattle.answers.specs.Outcome.{Outcome, outcome, refused_at, Unchanged}
use Rattle.answers.specs.Answers.{Answer}
use Rattle.answers.specs.declared.Refusal.{Refusal}
use Rattle.answers.specs.declared.Refusal.TheVariants.{Unusable, Unknown, Full, AlreadyOpen, Missing, TooLarge}
use Rattle.layout.specs.Disk as D
use Rattle.layout.specs.DiskLaws.{→sound}
use Rattle.layout.specs.Names.{find_name}
use Rattle.layout.specs.Session as S
use Rattle.layout.specs.SessionLaws.{→begun}
use Rattle.layout.specs.NamesLaws.{name-low}
use Rattle.session.specs.Rows.{head_of, transaction_of}
use Rattle.session.specs.KeepLaws.{begun-put_name}
use Rattle.rolling_tape.specs.Removal.{Areas, areas}
use Rattle.beginning.specs.Transactions.{usable}
use Rattle.beginning.specs.Ways.{usable-begun, usable-disk}
use Rattle.beginning.specs.Laws.{both-unique}
use Rattle.staging.specs.Seeing.{writes}
use Rattle.opening.specs.declared.shape.Opening.{Opening}
use Rattle.opening.specs.Shape.{shape_of}
use Rattle.opening.specs.ShapeLaws.{Shaped, shape-done}
use Rattle.opening.specs.NamesLeft.{is_nothing, is_ninth}
use Rattle.opening.specs.Directory.{readied}
use Rattle.opening.specs.DirectoryLaws.{sound-readied, length-readied-disk, begun-readied, bytes-readied-disk}
use Rattle.opening.specs.Calls.{cached_from, cached_count, can_fill, cached_bytes, open_with, open_now, open_in, is_open_tape, place_for, open_placed, open_at, open_shaped, open_on, open_call, place_of, opened}
use Rattle.opening.specs.CallWays.{place-low, in-now, at_place, on-shaped, open-goes}
use Rattle.opening.specs.PlacingLaws.{cached-most, length-cached, bytes-read_run, named, length-named, bytes-named}
use Rattle.opening.specs.RowedLaws.{RowFits, length-rowed, bytes-rowed, begun-rowed}

-- ---- the contract leaves nothing open

pub open-unique : (d s : List ℕ) (t : ℕ) (wanted : List ℕ) (entry fs cache start : ℕ) (r r' : Answer) (d₁ d₂ s₁ s₂ : List ℕ)
    → open_call d s t wanted entry fs cache start ≡ outcome r d₁ s₁ → open_call d s t wanted entry fs cache start ≡ outcome r' d₂ s₂
    → (r ≡ r') × ((d₁ ≡ d₂) × (s₁ ≡ s₂))
open-unique d s t wanted entry fs cache start r r' d₁ d₂ s₁ s₂ e f = both-unique (sym e ∙ f)

-- ---- what holds of each way out holds of the call

-- what a call that is served has found: o is what is opened, tape is where the name stands among the tapes
pub record Opens (d s wanted : List ℕ) (o : Opening) (tape : Option ℕ) (p : ℕ) : Type 0 where
  pub value : Unit
  pub shape : shape_of wanted o ≡ Ok value
  pub shut : is_open_tape s tape ≡ false
  pub place : place_for s tape ≡ Some p
  pub few : is_ninth d s o.listed (find_name d D.directories wanted) ≡ false
  pub there : (o.listed && is_nothing (find_name d D.directories wanted)) ≡ false
  pub fill : can_fill d s wanted o ≡ true
  pub more : (head_of s).last_handle ≢ 0xffff_ffff_ffff_ffff

module _ (P : Outcome → Type 0) (d s wanted : List ℕ) (no : (why : Refusal) → P (refused_at why d s)) where
  module _ (o : Opening) (tape : Option ℕ) where
    abbrev directory : Option ℕ
    directory = find_name d D.directories wanted

    abbrev Served : Type 0
    Served = (p : ℕ) → Opens d s wanted o tape p → P (open_now d s wanted o directory p)

    in-cases : (v : Unit) → shape_of wanted o ≡ Ok v → is_open_tape s tape ≡ false → (p : ℕ) → place_for s tape ≡ Some p → Served → P (open_in d s wanted o directory p)
    unfolding open_in
    in-cases v shape shut p place goes =
        picked P (is_ninth d s o.listed directory) _ _ (λ e. no Full)
        (λ few.
        picked P (o.listed && is_nothing directory) _ _ (λ e. no Missing)
        (λ there.
        picked P (can_fill d s wanted o) _ _
        (λ fill.
        picked P (eqb (head_of s).last_handle 0xffff_ffff_ffff_ffff) _ _ (λ e. no TooLarge)
        (λ more.
        goes p
        (record {
          value = v;
          shape = shape;
          shut = shut;
          place = place;
          few = few;
          there = there;
          fill = fill;
          more = λ e. true≢false (sym (eq-eqb (head_of s).last_handle 0xffff_ffff_ffff_ffff e) ∙ more);
        })))
        (λ e. no Missing)))

    at-cases : (v : Unit) → shape_of wanted o ≡ Ok v → Served → P (open_at d s wanted o tape)
    unfolding open_at
    at-cases v shape goes = picked P (is_open_tape s tape) _ _ (λ e. no AlreadyOpen) (λ shut. by shut (place_for s tape) refl)
      where
        by : is_open_tape s tape ≡ false → (f : Option ℕ) → place_for s tape ≡ f → P (open_placed d s wanted o f)
        by shut (Some p) place = in-cases v shape shut p place goes
        by shut None place = no Full

    pub on-cases : Served → P (open_on d s wanted o tape)
    unfolding open_on
    on-cases goes = by (shape_of wanted o) refl
      where
        by : (a : Result Unit Refusal) → shape_of wanted o ≡ a → P (open_shaped d s wanted o tape a)
        by (Ok v) shape = at-cases v shape goes
        by (Err why) shape = no why

-- the row of a tape whose shape is taken is in range
pub row_fits : (d s wanted : List ℕ) (p : ℕ) (o : Opening) → Shaped wanted o → RowFits s p o (cached_bytes d wanted o)
row_fits d s wanted p o shaped =
    let many = length-cached o d wanted in
    let most = cached-most o in
    record {
      entry-some = shaped.entry-some;
      entry-small = shaped.entry-small;
      file-some = shaped.file-some;
      file-small = shaped.file-small;
      cache-some = shaped.cache-some;
      cache-small = shaped.cache-small;
      within = omega arith;
    }

module _ (d s : List ℕ) (t : ℕ) (wanted : List ℕ) (entry fs cache start : ℕ) where
  abbrev o : Opening
  o = opened s wanted entry fs cache start

  abbrev pub result : Outcome
  result = open_call d s t wanted entry fs cache start

  abbrev pub served : ℕ → Outcome
  served p = open_now d s wanted o (find_name d D.directories wanted) p

  pub open-cases : (P : Outcome → Type 0) → ((why : Refusal) → P (refused_at why d s))
      → (usable d s ≡ true → writes s t ≡ true → (p : ℕ) → Opens d s wanted o (place_of s wanted) p → P (served p)) → P result
  unfolding open_call
  open-cases P stays goes =
      picked P (usable d s) _ _
      (λ ok. picked P (writes s t) _ _ (λ w. on-cases P d s wanted stays o (place_of s wanted) (goes ok w)) (λ w. stays Unknown))
      (λ ok. stays Unusable)

  -- a call that has found all that is served
  pub open_done : usable d s ≡ true → writes s t ≡ true → (p : ℕ) → Opens d s wanted o (place_of s wanted) p → result ≡ served p
  open_done ok w p g =
      open-goes d s t wanted entry fs cache start ok w
      ∙ on-shaped d s wanted o (place_of s wanted) g.value g.shape
      ∙ at_place d s wanted o (place_of s wanted) g.shut p g.place
      ∙ in-now d s wanted o (find_name d D.directories wanted) p g.few g.there g.fill g.more

  pub opens-low : (p : ℕ) → Opens d s wanted o (place_of s wanted) p → p < 8
  opens-low p g = place-low s (place_of s wanted) p (λ q e. name-low s S.names_at wanted q e) g.place

  pub opens-shaped : (p : ℕ) → Opens d s wanted o (place_of s wanted) p → Shaped wanted o
  opens-shaped p g = shape-done wanted o g.value g.shape

  -- ---- a refused call changes no byte

  pub open-refused : code_of result.answer ≢ 0 → (result.disk ≡ d) × (result.session ≡ s)
  unfolding open_now open_with
  open-refused = open-cases (Unchanged d s) (λ why r. (refl, refl)) (λ ok w p g r. absurd (r refl))

  -- ---- both layout rules and both lengths are kept

  module _ (ok : usable d s ≡ true) (p : ℕ) (g : Opens d s wanted o (place_of s wanted) p) where
    abbrev began : ℕ
    began = (transaction_of s 16).epoch

    abbrev found : Option ℕ
    found = find_name d D.directories wanted

    abbrev after : Areas
    after = readied (areas d s) wanted o began found

    abbrev with-name : List ℕ
    with-name = named (areas d s) wanted o began found p (usable-disk d s ok) (opens-shaped p g).name-short

    abbrev filled : List ℕ
    filled = cached_bytes d wanted o

    served-disk : D.Sound (served p).disk
    unfolding open_now open_with
    served-disk = sound-readied (areas d s) wanted o began found (usable-disk d s ok) (opens-shaped p g).name-short

    served-session : S.Begun (served p).session
    unfolding open_now open_with
    served-session =
        let shaped = opens-shaped p g in
        let low = opens-low p g in
        let short = shaped.name-short in
        begun-rowed with-name p o filled low (row_fits d with-name wanted p o shaped)
        (begun-put_name after.session (begun-readied (areas d s) wanted o began found (usable-disk d s ok) short (usable-begun d s ok)) p wanted low short)

    served-lengths : (length (served p).disk ≡ length d) × (length (served p).session ≡ length s)
    unfolding open_now open_with
    served-lengths =
        let sound = usable-disk d s ok in
        let short = (opens-shaped p g).name-short in (
          length-readied-disk (areas d s) wanted o began found sound short,
          length-rowed with-name p o filled ∙ length-named (areas d s) wanted o began found p sound short,
        )

    served-bytes : Bytes d → Bytes s → Bytes wanted → Bytes (served p).disk × Bytes (served p).session
    unfolding open_now open_with
    served-bytes on-disk in-session new =
        let sound = usable-disk d s ok in
        let shaped = opens-shaped p g in
        let short = shaped.name-short in
        let low = opens-low p g in
        let long = (usable-begun d s ok).long in
        let same = length-named (areas d s) wanted o began found p sound short in
        let many = length-cached o d wanted in
        let most = cached-most o in
        let small = shaped.cache-small in (
          bytes-readied-disk (areas d s) wanted o began found sound short on-disk new,
          bytes-rowed with-name p o filled (omega arith) low (omega arith)
              (bytes-named (areas d s) wanted o began found p sound short long low in-session new)
              (bytes-read_run d wanted o.file_size on-disk (cached_from o) (cached_count o)),
        )

  abbrev Usable : Outcome → Type 0
  Usable r = usable r.disk r.session ≡ true

  pub open-sound : usable d s ≡ true → usable result.disk result.session ≡ true
  unfolding usable
  open-sound ok =
      open-cases Usable (λ why. ok)
      (λ both w p g. and_both (D.sound (served p).disk) (S.begun (served p).session) (→sound _ (served-disk both p g)) (→begun _ (served-session both p g)))

  abbrev Long : Outcome → Type 0
  Long r = (length r.disk ≡ length d) × (length r.session ≡ length s)

  pub open-lengths : (length result.disk ≡ length d) × (length result.session ≡ length s)
  open-lengths = open-cases Long (λ why. (refl, refl)) (λ ok w p g. served-lengths ok p g)

  -- areas of bytes stay areas of bytes
  abbrev AllBytes : Outcome → Type 0
  AllBytes r = Bytes r.disk × Bytes r.session

  pub open-bytes : Bytes d → Bytes s → Bytes wanted → Bytes result.disk × Bytes result.session
  open-bytes on-disk in-session new = open-cases AllBytes (λ why. (on-disk, in-session)) (λ ok w p g. served-bytes ok p g on-disk in-session new)
