-- Reads, in the words of `components` and `held`: a byte can be read of a tape's directory just if its files have it there, and it is that byte; and so for
-- runs, across cache and files, and of the disk alone. Assumes nothing.
use Rattle.std.specs.Prelude.{◌≡◌, refl, Bool, cond, ◌&&◌, leb, length, get_or, Option, Some, None, slice_get}
use Rattle.std.proofs.Common.{sym, ◌∙◌, add-zero, zero-add, add_assoc, le-leb}
use Rattle.std.proofs.Math.Bool.{true, false}
use mathlib.Core.List.{List, [], ◌∷◌}
use Prim.Native.Nat.{ℕ, zero, suc, ◌+◌, ◌-◌, ◌≤◌, ◌<◌}
use Rattle.std.proofs.Math.Nat.{sub-zero}
use native.Mathlib.Omega.{arith}
use Rattle.std.proofs.lemmas.Bool.{lt-leb}
use Rattle.octets.specs.Cases.{order, decide}
use Rattle.octets.specs.First.{all}
use Rattle.components.specs.Pieces.{file_of, place_in}
use Rattle.components.proofs.FileBytesLaws.{at_some, at_none}
use Rattle.components.specs.Files.{File, gone, byte_at}
use Rattle.layout.specs.Disk.{Sound, directories, slots}
use Rattle.layout.specs.Names.{name, find_name}
use Rattle.layout.specs.Session.{names_at, file_size_of}
use Rattle.held.specs.Held.{Held, byte_in, cons_o, fetch, on_disk_at, load}
use Rattle.disk.specs.Meaning.{disk_of}
use Rattle.disk.specs.MeaningLaws.{length-file, bytes-in, find-slot}
use Rattle.disk.specs.Steps.{find_file, find_in, file_bytes}
use Rattle.disk.specs.StepLaws.{find-low}
use Rattle.ring_buffer.specs.Ring.{nths, ring_at}
use Rattle.ring_buffer.specs.RingLaws.{from-cache, not-from-cache}
use Rattle.session.specs.Meaning.{session_of}
use Rattle.session.specs.MeaningLaws.{tracking-at}
use Rattle.session.specs.Rows.{ring_of, ring_bytes, tracking_of}
use Rattle.session.specs.declared.tracking.Tracking.{Tracking}
use Rattle.rolling_tape.specs.Files.{file_with, file-in, file-out}
use Rattle.rolling_tape.specs.Reading.{reaches, piece_lies, can_read_at, can_read, bytes_of, byte_of, read_run}
use Rattle.rolling_tape.specs.ReadingLaws.{can_read-none}
use Rattle.rolling_tape.specs.Removal.{areas}
use Rattle.rolling_tape.specs.Tracking.{is_tracked}
use Rattle.cached_tape.specs.ServeLaws.{length-served, serve-cached}
use Rattle.cached_tape.specs.Serving.{below_cache, can_serve, served}
use Rattle.staging.specs.Seeing.{directory_of}
use Rattle.joins.specs.FilesAt.{files_at, held_at}

-- ---- what may be read, and is

-- something that is there just if a test says so
abbrev pub given : {A : Type 0} → Bool → A → Option A
given b x = cond b (Some x) None

-- what was there was let through, and is it
pub given_back : {A : Type 0} (b : Bool) (x y : A) → given b x ≡ Some y → (b ≡ true) × (x ≡ y)
given_back true x y e = (refl, (cc))
given_back false x y e = let z : ◌≡◌ {A = ℕ} 0 1 = cc in absurd (omega arith)

-- a byte before a run
given-cons : (a b : Bool) (x : ℕ) (l : List ℕ) → cons_o (given a x) (given b l) ≡ given (a && b) (x ∷ l)
given-cons true true x l = refl
given-cons true false x l = refl
given-cons false b x l = refl

-- an element of a list, if there is one
element : (l : List ℕ) (i : ℕ) → slice_get l i ≡ given (leb (i + 1) (length l)) (get_or l i 0)
element l i =
    order i (length l)
    (λ (h : i < length l). at_some l i h ∙ rw (le-leb (i + 1) (length l) (omega arith)))
    (λ (h : length l ≤ i). at_none l i h ∙ rw (lt-leb (i + 1) (length l) (omega arith)))

-- ---- one byte

-- a file's byte, of a tracked one alone or of any
abbrev byte_or : Bool → File → ℕ → Option ℕ
byte_or only f k = cond (cond only f.tracked true && f.there) (slice_get f.bytes k) None

byte-with : (only : Bool) (t : Tracking) (bytes : List ℕ) (k : ℕ)
    → byte_or only (file_with bytes t) k ≡ given (cond only (is_tracked t) true && leb (k + 1) (length bytes)) (get_or bytes k 0)
byte-with only t bytes k =
    decide (cond only (is_tracked t) true) (λ (e : cond only (is_tracked t) true ≡ true). rw e (element bytes k)) (λ (e : cond only (is_tracked t) true ≡ false). rw e)

byte-gone : (only : Bool) (k : ℕ) → byte_or only gone k ≡ None
byte-gone true k = refl
byte-gone false k = refl

module _ (d s : List ℕ) (sound : Sound d) (place : ℕ) where
  -- the file of a number is that of the slot that a search finds
  file-found : (n i : ℕ) → find_in d place n ≡ Some i → files_at (areas d s) place n ≡ file_with (file_bytes d i) (tracking_of s i)
  file-found n i e =
      let low : i < slots d = find-low d place n i e in
      file-in (disk_of d) (session_of s).tracking place n i (sym (find-slot d place n) ∙ e)
      ∙ rw (bytes-in d i low, tracking-at s i (omega (arith, sound.head.few)))

  byte-found : (only : Bool) (n k : ℕ) (found : Option ℕ) → find_in d place n ≡ found
      → byte_or only (files_at (areas d s) place n) k ≡ given (reaches d s only (k + 1) found) (get_or (bytes_of d found) k 0)
  byte-found only n k (Some i) e =
      rw (file-found n i e) (byte-with only (tracking_of s i) (file_bytes d i) k ∙ rw (length-file d sound i (find-low d place n i e)))
  byte-found only n k None e = rw (file-out (disk_of d) (session_of s).tracking place n (sym (find-slot d place n) ∙ e)) (byte-gone only k)

  module _ (tape : List ℕ) (named : find_name d directories tape ≡ Some place) (fs o : ℕ) where
    byte-named : (only : Bool) → byte_or only (files_at (areas d s) place (file_of fs o)) (place_in fs o) ≡ given (can_read_at d s only tape fs o) (byte_of d tape fs o)
    unfolding piece_lies find_file
    byte-named only = rw named (byte-found only (file_of fs o) (place_in fs o) (find_in d place (file_of fs o)) refl)

    -- a read of the files
    pub byte-tracked : byte_at fs (files_at (areas d s) place) o ≡ given (can_read_at d s true tape fs o) (byte_of d tape fs o)
    unfolding byte_at
    byte-tracked = byte-named true

    -- and of the disk, whatever is tracked
    pub byte-there : on_disk_at fs (files_at (areas d s) place) o ≡ given (can_read_at d s false tape fs o) (byte_of d tape fs o)
    unfolding on_disk_at
    byte-there = byte-named false

-- ---- a run, one byte after the other

all-shifted : (p q : ℕ → Bool) (k i j : ℕ) → ((m : ℕ) → p (i + m) ≡ q (j + m)) → all p k i ≡ all q k j
unfolding all
all-shifted p q zero i j h = refl
all-shifted p q (suc k) i j h =
    let here : p i ≡ q j = rw (add-zero, add-zero) at (h 0) in
    rw (here, all-shifted p q k (i + 1) (j + 1) (λ m. rw (add_assoc i 1 m, add_assoc j 1 m) (h (1 + m))))

can-next : (d s : List ℕ) (only : Bool) (tape : List ℕ) (fs o n : ℕ)
    → can_read d s only tape fs o (suc n) ≡ (can_read_at d s only tape fs o && can_read d s only tape fs (o + 1) n)
unfolding can_read all
can-next d s only tape fs o n =
    rw (
      add-zero o,
      all-shifted (λ j. can_read_at d s only tape fs (o + j)) (λ j. can_read_at d s only tape fs (o + 1 + j)) n 1 0
          (λ m. rw (zero-add, add_assoc)),
    )

-- ---- across cache and files

-- no bytes can always be served
serve-none : (d s : List ℕ) (p o : ℕ) → can_serve d s p o 0 ≡ true
unfolding can_serve
serve-none d s p o =
    let none_below : below_cache (ring_of s p) o 0 ≡ 0 = omega arith in
    rw none_below (can_read-none d s true (name s names_at p) (file_size_of s p) o)

length-zero : (l : List ℕ) → length l ≡ 0 → l ≡ []
length-zero [] e = refl
length-zero (b ∷ l) e = absurd (omega arith)

module _ (d s : List ℕ) (p o n : ℕ) where
  -- below the cache's first index: a byte of the files, then the rest
  module _ (below : o < (ring_of s p).first) where
    one_below : below_cache (ring_of s p) o (suc n) ≡ suc (below_cache (ring_of s p) (o + 1) n)
    one_below = omega arith

    serve-below : can_serve d s p o (suc n) ≡ (can_read_at d s true (name s names_at p) (file_size_of s p) o && can_serve d s p (o + 1) n)
    unfolding can_serve
    serve-below = rw one_below (can-next d s true (name s names_at p) (file_size_of s p) o (below_cache (ring_of s p) (o + 1) n))

    served-one-below : served d s p o (suc n) ≡ byte_of d (name s names_at p) (file_size_of s p) o ∷ served d s p (o + 1) n
    unfolding served read_run
    served-one-below =
        let first : o - (ring_of s p).first ≡ o + 1 - (ring_of s p).first = omega arith in
        let rest : suc n - suc (below_cache (ring_of s p) (o + 1) n) ≡ n - below_cache (ring_of s p) (o + 1) n = omega arith in
        rw (one_below, first, rest)

  -- from it on: all is the cache's
  module _ (from : (ring_of s p).first ≤ o) where
    served-one-from : served d s p o (suc n) ≡ ring_at (ring_of s p) (ring_bytes s p) o ∷ served d s p (o + 1) n
    unfolding served read_run nths
    served-one-from =
        let none_here : below_cache (ring_of s p) o (suc n) ≡ 0 = omega arith in
        let none-there : below_cache (ring_of s p) (o + 1) n ≡ 0 = omega arith in
        let next : o - (ring_of s p).first + 1 ≡ o + 1 - (ring_of s p).first = omega arith in
        rw (none_here, none-there, sub-zero (suc n), sub-zero n, next)

module _ (d s : List ℕ) (sound : Sound d) (p place unwritten : ℕ) (named : directory_of d s p ≡ Some place) where
  abbrev now : Held
  now = held_at (areas d s) place p unwritten

  -- a byte below the cache's first index is the files', any other the cache's
  held_below : (o : ℕ) → o < (ring_of s p).first
      → byte_in (file_size_of s p) now o ≡ given (can_read_at d s true (name s names_at p) (file_size_of s p) o) (byte_of d (name s names_at p) (file_size_of s p) o)
  unfolding byte_in
  held_below o below = rw (not-from-cache (ring_of s p) o below) (byte-tracked d s sound place (name s names_at p) named (file_size_of s p) o)

  held-from : (o : ℕ) → (ring_of s p).first ≤ o → byte_in (file_size_of s p) now o ≡ Some (ring_at (ring_of s p) (ring_bytes s p) o)
  unfolding byte_in
  held-from o from = rw (from-cache (ring_of s p) o from)

  pub fetch-serves : (o n : ℕ) → fetch (file_size_of s p) now o n ≡ given (can_serve d s p o n) (served d s p o n)
  unfolding fetch
  fetch-serves o zero =
      let nothing : served d s p o 0 ≡ [] = length-zero (served d s p o 0) (length-served d s p o 0) in
      rw (nothing, serve-none d s p o)
  fetch-serves o (suc n) =
      order o (ring_of s p).first
      (λ (below : o < (ring_of s p).first).
      rw (held_below o below, fetch-serves (o + 1) n, serve-below d s p o n below, served-one-below d s p o n below)
      (given-cons (can_read_at d s true (name s names_at p) (file_size_of s p) o) (can_serve d s p (o + 1) n)
      (byte_of d (name s names_at p) (file_size_of s p) o) (served d s p (o + 1) n)))
      (λ (from : (ring_of s p).first ≤ o).
      rw (
        held-from o from,
        fetch-serves (o + 1) n,
        serve-cached d s p o (suc n) from,
        serve-cached d s p (o + 1) n (omega arith),
        served-one-from d s p o n from,
      ))

  -- what is fetched is served
  pub fetch-served : (o n : ℕ) (bs : List ℕ) → fetch (file_size_of s p) now o n ≡ Some bs → (can_serve d s p o n ≡ true) × (served d s p o n ≡ bs)
  fetch-served o n bs e = given_back (can_serve d s p o n) (served d s p o n) bs (sym (fetch-serves o n) ∙ e)

-- ---- of the disk alone

module _ (d s : List ℕ) (sound : Sound d) (tape : List ℕ) (place : ℕ) (named : find_name d directories tape ≡ Some place) (fs : ℕ) where
  pub load-reads : (o n : ℕ) → load fs (files_at (areas d s) place) o n ≡ given (can_read d s false tape fs o n) (read_run d tape fs o n)
  unfolding load read_run
  load-reads o zero = rw (can_read-none d s false tape fs o)
  load-reads o (suc n) =
      rw (can-next d s false tape fs o n, byte-there d s sound place tape named fs o, load-reads (o + 1) n)
      (given-cons (can_read_at d s false tape fs o) (can_read d s false tape fs (o + 1) n) (byte_of d tape fs o) (read_run d tape fs (o + 1) n))

  pub load_read : (o n : ℕ) (bs : List ℕ) → load fs (files_at (areas d s) place) o n ≡ Some bs → (can_read d s false tape fs o n ≡ true) × (read_run d tape fs o n ≡ bs)
  load_read o n bs e = given_back (can_read d s false tape fs o n) (read_run d tape fs o n) bs (sym (load-reads o n) ∙ e)
