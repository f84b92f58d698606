-- The ways out of the call, in the code's order: a law for each. Assumes nothing.
use Rattle.std.specs.Prelude.{◌≡◌, ◌≢◌, true, false, ◌&&◌, List, [], ℕ, ◌<◌, Option, Some, None, Ok, Err}
use borrow.Author.Tests.{eq-eqb, ne_eqb}
use Rattle.answers.specs.Outcome.{refused_at}
use Rattle.answers.specs.declared.Refusal.{Refusal}
use Rattle.answers.specs.declared.Refusal.TheVariants.{Unusable, Unknown, Full, AlreadyOpen, Missing, TooLarge}
use Rattle.layout.specs.Disk.{directories}
use Rattle.layout.specs.Names.{find_name}
use Rattle.layout.specs.NamesLaws.{name-low}
use Rattle.layout.specs.Session.{names_at}
use Rattle.session.specs.Rows.{head_of}
use Rattle.beginning.specs.Transactions.{usable}
use Rattle.staging.specs.Seeing.{writes}
use Rattle.opening.specs.declared.shape.Opening.{Opening}
use Rattle.opening.specs.Shape.{shape_of}
use Rattle.opening.specs.NamesLeft.{is_nothing, is_ninth}
use Rattle.opening.specs.Calls.{can_fill, open_now, open_in, is_open_tape, place_for, open_at, open_on, open_call, place_of, opened}

-- the place for a tape that has one below 8, or none
pub place-low : (s : List ℕ) (tape : Option ℕ) (p : ℕ) → ((q : ℕ) → tape ≡ Some q → q < 8) → place_for s tape ≡ Some p → p < 8
place-low s (Some q) p low e = low p e
place-low s None p low e = name-low s names_at [] p e

module _ (d s wanted : List ℕ) (o : Opening) (directory : Option ℕ) (p : ℕ) where
  pub in-ninth : is_ninth d s o.listed directory ≡ true → open_in d s wanted o directory p ≡ refused_at Full d s
  unfolding open_in
  in-ninth h = rw h

  module _ (few : is_ninth d s o.listed directory ≡ false) where
    pub in-gone : (o.listed && is_nothing directory) ≡ true → open_in d s wanted o directory p ≡ refused_at Missing d s
    unfolding open_in
    in-gone h = rw (few, h)

    module _ (there : (o.listed && is_nothing directory) ≡ false) where
      pub in-missing : can_fill d s wanted o ≡ false → open_in d s wanted o directory p ≡ refused_at Missing d s
      unfolding open_in
      in-missing h = rw (few, there, h)

      module _ (fill : can_fill d s wanted o ≡ true) where
        pub in-last : (head_of s).last_handle ≡ 0xffff_ffff_ffff_ffff → open_in d s wanted o directory p ≡ refused_at TooLarge d s
        unfolding open_in
        in-last h = rw (few, there, fill, eq-eqb (head_of s).last_handle 0xffff_ffff_ffff_ffff h)

        pub in-now : (head_of s).last_handle ≢ 0xffff_ffff_ffff_ffff → open_in d s wanted o directory p ≡ open_now d s wanted o directory p
        unfolding open_in
        in-now h = rw (few, there, fill, ne_eqb (head_of s).last_handle 0xffff_ffff_ffff_ffff h)

module _ (d s wanted : List ℕ) (o : Opening) (tape : Option ℕ) where
  pub at_open : is_open_tape s tape ≡ true → open_at d s wanted o tape ≡ refused_at AlreadyOpen d s
  unfolding open_at
  at_open h = rw h

  module _ (shut : is_open_tape s tape ≡ false) where
    pub at-full : place_for s tape ≡ None → open_at d s wanted o tape ≡ refused_at Full d s
    unfolding open_at
    at-full h = rw (shut, h)

    pub at_place : (p : ℕ) → place_for s tape ≡ Some p → open_at d s wanted o tape ≡ open_in d s wanted o (find_name d directories wanted) p
    unfolding open_at
    at_place p h = rw (shut, h)

  pub on-shaped : (v : Unit) → shape_of wanted o ≡ Ok v → open_on d s wanted o tape ≡ open_at d s wanted o tape
  unfolding open_on
  on-shaped v h = rw h

  pub on-refused : (why : Refusal) → shape_of wanted o ≡ Err why → open_on d s wanted o tape ≡ refused_at why d s
  unfolding open_on
  on-refused why h = rw h

module _ (d s : List ℕ) (t : ℕ) (wanted : List ℕ) (entry fs cache start : ℕ) where
  pub open-unusable : usable d s ≡ false → open_call d s t wanted entry fs cache start ≡ refused_at Unusable d s
  unfolding open_call
  open-unusable h = rw h

  module _ (ok : usable d s ≡ true) where
    pub open_unknown : writes s t ≡ false → open_call d s t wanted entry fs cache start ≡ refused_at Unknown d s
    unfolding open_call
    open_unknown h = rw (ok, h)

    pub open-goes : writes s t ≡ true
        → open_call d s t wanted entry fs cache start
        ≡ open_on d s wanted (opened s wanted entry fs cache start) (place_of s wanted)
    unfolding open_call
    open-goes h = rw (ok, h)
