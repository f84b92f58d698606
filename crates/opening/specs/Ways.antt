-- The ways out of each function, in the code's order: a law for each. Assumes nothing.
use Rattle.std.specs.Prelude.{◌≡◌, ◌≢◌, Bool, true, false, List, [], ℕ, ◌%◌, ◌≤◌, ◌<◌, eqb, leb, length, Option, Some, None, Ok, Err}
use borrow.Author.Tests.{lt-ltb, le-ltb, le-leb, lt-leb, eq-eqb, ne_eqb}
use Rattle.octets.specs.Compare.{same_bytes}
use Rattle.answers.specs.declared.Refusal.TheVariants.{BadName, ReservedName, BadSize, NotWhole}
use Rattle.layout.specs.Disk.{directories}
use Rattle.layout.specs.Names.{name, find_name}
use Rattle.layout.specs.Session.{names_at}
use Rattle.metadata.specs.Name.{name_rule}
use Rattle.disk.specs.Steps.{add_directory}
use Rattle.session.specs.Rows.{view_of}
use Rattle.session.specs.declared.views.View.{View}
use Rattle.rolling_tape.specs.Removal.{Areas, areas}
use Rattle.opening.specs.declared.shape.Opening.{Opening}
use Rattle.opening.specs.Shape.{METADATA, in_range, opening_of, is_whole, shape_of}
use Rattle.opening.specs.NamesLeft.{is_at, is_nothing, is_named, is_listed_alone, names_used, is_ninth}
use Rattle.opening.specs.Directory.{taken_files, emptied, added, readied}

-- ---- a tape with its sizes

module _ (v : View) (entry fs cache start : ℕ) where
  pub opening-listed : v.listed ≡ true
      → record { entry = entry; file_size = fs; cache = cache; listed = true; len = v.len; start = v.start } ≡ opening_of v entry fs cache start
  unfolding opening_of
  opening-listed h = rw h

  pub opening-new : v.listed ≡ false
      → record { entry = entry; file_size = fs; cache = cache; listed = false; len = start; start = start } ≡ opening_of v entry fs cache start
  unfolding opening_of
  opening-new h = rw h

module _ (n most : ℕ) where
  pub range-low : n < 1 → in_range n most ≡ false
  range-low l = rw (lt-leb 1 n l)

  pub range-high : 1 ≤ n → in_range n most ≡ leb n most
  range-high l = rw (le-leb 1 n l)

module _ (o : Opening) where
  pub whole-not : o.len % o.entry ≢ 0 → is_whole o ≡ false
  whole-not h = rw (ne_eqb (o.len % o.entry) 0 h)

  pub whole-start : o.len % o.entry ≡ 0 → is_whole o ≡ eqb (o.start % o.entry) 0
  whole-start h = rw (eq-eqb (o.len % o.entry) 0 h)

module _ (wanted : List ℕ) (o : Opening) where
  pub shape-bad-name : name_rule wanted ≡ false → shape_of wanted o ≡ Err BadName
  unfolding shape_of
  shape-bad-name h = rw h

  module _ (named : name_rule wanted ≡ true) where
    pub shape-bad-entry : in_range o.entry 256 ≡ false → shape_of wanted o ≡ Err BadSize
    unfolding shape_of
    shape-bad-entry h = rw (named, h)

    module _ (entry : in_range o.entry 256 ≡ true) where
      pub shape-not-whole : is_whole o ≡ false → shape_of wanted o ≡ Err NotWhole
      unfolding shape_of
      shape-not-whole h = rw (named, entry, h)

      module _ (whole : is_whole o ≡ true) where
        pub shape-bad-file : in_range o.file_size 4096 ≡ false → shape_of wanted o ≡ Err BadSize
        unfolding shape_of
        shape-bad-file h = rw (named, entry, whole, h)

        module _ (file : in_range o.file_size 4096 ≡ true) where
          pub shape-reserved : same_bytes wanted METADATA ≡ true → shape_of wanted o ≡ Err ReservedName
          unfolding shape_of
          shape-reserved h = rw (named, entry, whole, file, h)

          module _ (other : same_bytes wanted METADATA ≡ false) where
            pub shape-bad-cache : in_range o.cache 4096 ≡ false → shape_of wanted o ≡ Err BadSize
            unfolding shape_of
            shape-bad-cache h = rw (named, entry, whole, file, other, h)

            pub shape-good : in_range o.cache 4096 ≡ true → shape_of wanted o ≡ Ok tt
            unfolding shape_of
            shape-good h = rw (named, entry, whole, file, other, h)

-- ---- names

module _ (s : List ℕ) (base i : ℕ) where
  pub named-empty : length (name s base i) ≤ 0 → is_named s base i ≡ false
  unfolding is_named
  named-empty h = rw (le-ltb 0 (length (name s base i)) h)

  pub named_some : 0 < length (name s base i) → is_named s base i ≡ is_at i (find_name s base (name s base i))
  unfolding is_named
  named_some h = rw (lt-ltb 0 (length (name s base i)) h)

module _ (d s : List ℕ) (p : ℕ) where
  pub alone-unnamed : is_named s names_at p ≡ false → is_listed_alone d s p ≡ false
  unfolding is_listed_alone
  alone-unnamed h = rw h

  module _ (named : is_named s names_at p ≡ true) where
    pub alone-unlisted : (view_of s 16 p).listed ≡ false → is_listed_alone d s p ≡ false
    unfolding is_listed_alone
    alone-unlisted h = rw (named, h)

    pub alone-listed : (view_of s 16 p).listed ≡ true → is_listed_alone d s p ≡ is_nothing (find_name d directories (name s names_at p))
    unfolding is_listed_alone
    alone-listed h = rw (named, h)

module _ (d s : List ℕ) (listed : Bool) (directory : Option ℕ) where
  pub ninth-listed : listed ≡ true → is_ninth d s listed directory ≡ false
  unfolding is_ninth
  ninth-listed h = rw h

  module _ (new : listed ≡ false) where
    pub ninth-there : is_nothing directory ≡ false → is_ninth d s listed directory ≡ false
    unfolding is_ninth
    ninth-there h = rw (new, h)

    module _ (none : is_nothing directory ≡ true) where
      pub ninth-full : 8 ≤ names_used d s → is_ninth d s listed directory ≡ true
      unfolding is_ninth
      ninth-full h = rw (new, none, le-leb 8 (names_used d s) h)

      pub ninth-places : names_used d s < 8 → is_ninth d s listed directory ≡ is_nothing (find_name d directories [])
      unfolding is_ninth
      ninth-places h = rw (new, none, lt-leb 8 (names_used d s) h)

-- ---- the directory

module _ (a : Areas) (wanted : List ℕ) (o : Opening) (began : ℕ) (directory : Option ℕ) where
  module _ (place : ℕ) (there : directory ≡ Some place) where
    pub ready-known : o.listed ≡ true → readied a wanted o began directory ≡ taken_files a place o began
    ready-known h = rw (there, h)

    pub ready-empty : o.listed ≡ false → readied a wanted o began directory ≡ emptied a place
    ready-empty h = rw (there, h)

  pub ready_made : directory ≡ None → readied a wanted o began directory ≡ added a wanted (find_name a.disk directories [])
  ready_made h = rw h

module _ (a : Areas) (wanted : List ℕ) (free : Option ℕ) where
  pub add_at_lem : (place : ℕ) → free ≡ Some place → added a wanted free ≡ areas (add_directory (emptied a place).disk wanted).area (emptied a place).session
  add_at_lem place h = rw h

  pub add-nowhere : free ≡ None → added a wanted free ≡ a
  add-nowhere h = rw h
