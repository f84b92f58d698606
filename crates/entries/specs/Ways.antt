-- The ways out of each function, in the code's order: a law for each. Assumes nothing.
use Rattle.std.specs.Prelude.{◌≡◌, ◌≢◌, true, false, List, ℕ, ◌*◌, ◌-◌, ◌/◌, ◌≤◌, ◌<◌, length, Some, None, Ok, Err}
use borrow.Author.Tests.{eq-eqb, ne_eqb, le-leb, lt-leb}
use Rattle.octets.specs.Bytes.{put}
use Rattle.answers.specs.Outcome.{reading, refused_read, entering, popping, refused_pop}
use Rattle.answers.specs.Answers.{Answer}
use Rattle.answers.specs.Answers.{OneEntry}
use Rattle.answers.specs.declared.Refusal.{Refusal}
use Rattle.answers.specs.declared.Refusal.TheVariants.{Unusable, Unknown, NotWhole, Absent, OutOfBounds, Missing}
use Rattle.components.specs.Bounds.{in_bounds}
use Rattle.layout.specs.Names.{find_name}
use Rattle.layout.specs.Session.{names_at, entry_size_of}
use Rattle.metadata.specs.Name.{name_rule}
use Rattle.session.specs.Rows.{find_transaction, find_handle}
use Rattle.session.specs.declared.views.View.{View}
use Rattle.cached_tape.specs.Serving.{can_serve, served}
use Rattle.beginning.specs.Transactions.{usable}
use Rattle.staging.specs.Seeing.{writes, cuts, seen_by}
use Rattle.staging.specs.Cutting.{cut_to}
use Rattle.entries.specs.Reads.{serve_on, read_on, read_call, none_for, one_of, entry_call}
use Rattle.entries.specs.Popping.{pop_at, pop_on, pop_call}
use Rattle.entries.specs.Existing.{sees, exists_call}

-- ---- bytes that lie in bounds, by the entry size that the code reads

module _ (d s : List ℕ) (p i n : ℕ) (out : List ℕ) (e : ℕ) (size : e ≡ entry_size_of s p) where
  pub serve-missing : can_serve d s p (i * e) (n * e) ≡ false → serve_on d s p i n out ≡ refused_read Missing out
  unfolding serve_on
  serve-missing h = rw (← size, h)

  pub serve-can : can_serve d s p (i * e) (n * e) ≡ true → serve_on d s p i n out ≡ reading (Ok n) (put out 0 (served d s p (i * e) (n * e)))
  unfolding serve_on
  serve-can h = rw (← size, h)

-- ---- a read, by what the code sees

module _ (d s : List ℕ) (t p i n : ℕ) (out : List ℕ) (v : View) (seen : v ≡ seen_by s t p) where
  pub read-absent : v.listed ≡ false → read_on d s t p i n out ≡ refused_read Absent out
  unfolding read_on
  read-absent h = rw (← seen, h)

  module _ (e : ℕ) (size : e ≡ entry_size_of s p) (listed : v.listed ≡ true) where
    pub read-outside : in_bounds e v.start v.len i n ≡ false → read_on d s t p i n out ≡ refused_read OutOfBounds out
    unfolding read_on
    read-outside h = rw (← seen, ← size, listed, h)

    module _ (inside : in_bounds e v.start v.len i n ≡ true) where
      pub read_short : length out < n * e → read_on d s t p i n out ≡ refused_read NotWhole out
      unfolding read_on
      read_short h = rw (← seen, ← size, listed, inside, lt-leb (n * e) (length out) h)

      pub read-room : n * e ≤ length out → read_on d s t p i n out ≡ serve_on d s p i n out
      unfolding read_on
      read-room h = rw (← seen, ← size, listed, inside, le-leb (n * e) (length out) h)

module _ (d s : List ℕ) (t h i n : ℕ) (out : List ℕ) where
  pub read-unusable : usable d s ≡ false → read_call d s t h i n out ≡ refused_read Unusable out
  unfolding read_call
  read-unusable e = rw e

  module _ (ok : usable d s ≡ true) where
    pub read-no-transaction : find_transaction s t ≡ None → read_call d s t h i n out ≡ refused_read Unknown out
    unfolding read_call
    read-no-transaction e = rw (ok, e)

    module _ (x : ℕ) (there : find_transaction s t ≡ Some x) where
      pub read-no-handle : find_handle s h ≡ None → read_call d s t h i n out ≡ refused_read Unknown out
      unfolding read_call
      read-no-handle e = rw (ok, there, e)

      pub read_goes : (p : ℕ) → find_handle s h ≡ Some p → read_call d s t h i n out ≡ read_on d s x p i n out
      unfolding read_call
      read_goes p e = rw (ok, there, e)

-- one entry is a read of one
pub entry_read : (d s : List ℕ) (t h i : ℕ) (out : List ℕ) (r : Answer) (b : List ℕ) (a : OneEntry) → read_call d s t h i 1 out ≡ reading r b → a ≡ one_of i r
    → entry_call d s t h i out ≡ entering a b
unfolding entry_call
entry_read d s t h i out r b a e f = rw (e, ← f)

-- ---- a pop

module _ (d s : List ℕ) (p i : ℕ) (out : List ℕ) (b : List ℕ) where
  pub pop-unread : (why : Refusal) → read_on d s 16 p i 1 out ≡ refused_read why b → pop_at d s p i out ≡ popping (none_for why) s b
  unfolding pop_at
  pop-unread why h = rw h

  pub pop-read : (n e : ℕ) → e ≡ entry_size_of s p → read_on d s 16 p i 1 out ≡ reading (Ok n) b → pop_at d s p i out ≡ popping (Ok (Some i)) (cut_to s p (i * e)) b
  unfolding pop_at
  pop-read n e size h = rw (h, ← size)

module _ (d s : List ℕ) (p : ℕ) (out : List ℕ) (v : View) (seen : v ≡ seen_by s 16 p) where
  pub pop-absent : v.listed ≡ false → pop_on d s p out ≡ popping (Ok None) s out
  unfolding pop_on
  pop-absent h = rw (← seen, h)

  module _ (e : ℕ) (size : e ≡ entry_size_of s p) (listed : v.listed ≡ true) where
    pub pop-empty : v.len / e ≡ 0 → pop_on d s p out ≡ popping (Ok None) s out
    unfolding pop_on
    pop-empty h = rw (← seen, ← size, listed, eq-eqb (v.len / e) 0 h)

    pub pop-last : v.len / e ≢ 0 → pop_on d s p out ≡ pop_at d s p (v.len / e - 1) out
    unfolding pop_on
    pop-last h = rw (← seen, ← size, listed, ne_eqb (v.len / e) 0 h)

module _ (d s : List ℕ) (t h : ℕ) (out : List ℕ) where
  pub pop-unusable : usable d s ≡ false → pop_call d s t h out ≡ refused_pop Unusable s out
  unfolding pop_call
  pop-unusable e = rw e

  module _ (ok : usable d s ≡ true) where
    pub pop-no-truncate : cuts s t ≡ false → pop_call d s t h out ≡ refused_pop Unknown s out
    unfolding pop_call
    pop-no-truncate e = rw (ok, e)

    module _ (there : cuts s t ≡ true) where
      pub pop-no-handle : find_handle s h ≡ None → pop_call d s t h out ≡ refused_pop Unknown s out
      unfolding pop_call
      pop-no-handle e = rw (ok, there, e)

      pub pop_goes : (p : ℕ) → find_handle s h ≡ Some p → pop_call d s t h out ≡ pop_on d s p out
      unfolding pop_call
      pop_goes p e = rw (ok, there, e)

-- ---- whether a tape exists

module _ (s wanted : List ℕ) where
  pub sees-no-name : name_rule wanted ≡ false → sees s wanted ≡ false
  unfolding sees
  sees-no-name h = rw h

  module _ (named : name_rule wanted ≡ true) where
    pub sees-nothing : find_name s names_at wanted ≡ None → sees s wanted ≡ false
    unfolding sees
    sees-nothing h = rw (named, h)

    pub sees-at : (p : ℕ) → find_name s names_at wanted ≡ Some p → sees s wanted ≡ (seen_by s 16 p).listed
    unfolding sees
    sees-at p h = rw (named, h)

module _ (d s : List ℕ) (t : ℕ) (wanted : List ℕ) where
  pub exists-unusable : usable d s ≡ false → exists_call d s t wanted ≡ Err Unusable
  unfolding exists_call
  exists-unusable e = rw e

  module _ (ok : usable d s ≡ true) where
    pub exists-no-append : writes s t ≡ false → exists_call d s t wanted ≡ Err Unknown
    unfolding exists_call
    exists-no-append e = rw (ok, e)

    module _ (there : writes s t ≡ true) where
      pub exists-yes : sees s wanted ≡ true → exists_call d s t wanted ≡ Ok 1
      unfolding exists_call
      exists-yes e = rw (ok, there, e)

      pub exists-no : sees s wanted ≡ false → exists_call d s t wanted ≡ Ok 0
      unfolding exists_call
      exists-no e = rw (ok, there, e)
