-- What is served of areas that are in order: a `store`, also over another session area; an append where nobody writes, as behind a `store`; and the open of a
-- tape that sleeps on the disk, or of a new one. Assumes nothing.
use Rattle.std.specs.Prelude.{◌≡◌, refl, ◌≢◌, Bool, true, false, List, ℕ, ◌+◌, ◌-◌, ◌%◌, ◌≤◌, ◌<◌, max, length, take, drop, Option, Some, None, Ok}
use Rattle.std.proofs.Common.{sym, subst, ◌∙◌, true≢false, arith, eq-eqb, le-leb}
use Rattle.std.proofs.Math.Path.{ap}
use Rattle.octets.specs.Compare.{same_bytes}
use Rattle.octets.specs.Number.{Bytes}
use Rattle.answers.specs.Answers.{code_of}
use Rattle.answers.specs.Outcome.{Outcome, refused_at}
use Rattle.answers.specs.declared.Refusal.TheVariants.{TooLarge}
use Rattle.components.specs.Files.{Files}
use Rattle.components.specs.Pieces.{file_of}
use Rattle.metadata.specs.Decoding.{Listing}
use Rattle.metadata.specs.Name.{name_rule}
use Rattle.layout.specs.Disk.{directories}
use Rattle.layout.specs.DiskLaws as DL
use Rattle.layout.specs.Names.{find_name}
use Rattle.layout.specs.NamesLaws.{name-low}
use Rattle.layout.specs.Session.{names_at, sound}
use Rattle.layout.specs.SessionLaws.{→sound}
use Rattle.held.specs.Held.{load}
use Rattle.held.specs.OpenLaws.{load_kept}
use Rattle.session.specs.declared.head.Head.{Head}
use Rattle.session.specs.declared.transactions.Kind.TheVariants as K
use Rattle.session.specs.declared.views.View.{View}
use Rattle.session.specs.Rows.{head_of, view_of}
use Rattle.rolling_tape.specs.ReadingLaws.{can_read-none}
use Rattle.rolling_tape.specs.Room.{is_found}
use Rattle.beginning.specs.Transactions.{After, is_open_at}
use Rattle.beginning.specs.Sessions.{start_with, store_call}
use Rattle.beginning.specs.Calls.{append_call}
use Rattle.beginning.specs.Ways.{both-by-session, store-starts, append-uncut, begins-at}
use Rattle.staging.specs.Seeing.{writes}
use Rattle.opening.specs.declared.shape.Opening.{Opening}
use Rattle.opening.specs.Shape.{METADATA, opening_of, shape_of}
use Rattle.opening.specs.Ways.{opening-new, shape-good, ninth-listed}
use Rattle.opening.specs.NamesLeft.{is_nothing, is_ninth}
use Rattle.opening.specs.Calls.{cached_from, can_fill, view_found, place_for, open_with, open_now, open_in, open_on, open_call, opened}
use Rattle.opening.specs.Laws.{Opens, open_done}
use Rattle.opening.specs.CallWays.{open-goes, on-shaped, at_place, in-last, in-now}
use Rattle.restarts.specs.Level.{store-head}
use Rattle.joins.specs.Fetches.{load_read}
use Rattle.lives.specs.Life.{Store}
use Rattle.lives.specs.Told.{Told}
use Rattle.lives.specs.Invariant.{Phys, build, Dormant, GoodIf, Good}
use Rattle.seen.specs.Seen.{place_of, shown, view_in, files_in, Seen}
use Rattle.seen.specs.Orderly.{Orderly, orderly-usable}
use Rattle.seen.specs.Proper.{Proper}
use Rattle.seen.specs.Places.{found_name}
use Rattle.seen.specs.Shown.{shown-listed}
use Rattle.seen.specs.Restarts.{orderly-disk, shut-stored, store-orderly}
use Rattle.seen.specs.Kinds.{writes-open}
use Rattle.opened.specs.OpensPlaces.{listed_then}

-- ---- a store

-- over any area that a session may lie in: the list that counts is on the disk
pub store-serves-in : (d s area : List ℕ) → Orderly d s → sound area ≡ true → (store_call d area).answer ≡ Ok (head_of s).epoch
store-serves-in d s area o free =
    ap (λ (r : After). r.answer) (store-starts d area (both-by-session d area (DL.→sound d o.disk) ∙ free))
    ∙ ap (λ (l : Listing). (start_with d area l).answer) o.recorded.read
    ∙ ap Ok o.recorded.epoch

pub store-serves : (d s : List ℕ) → Orderly d s → (store_call d s).answer ≡ Ok (head_of s).epoch
store-serves d s o = store-serves-in d s s o (→sound s o.session)

-- ---- an append

pub append-serves-idle : (d s : List ℕ) → Orderly d s → is_open_at s 16 ≡ false → (head_of s).cut ≡ false → (head_of s).last_transaction ≢ 0xffff_ffff_ffff_ffff
    → (append_call d s).answer ≡ Ok ((head_of s).last_transaction + 1)
append-serves-idle d s o free uncut more =
    ap (λ (r : After). r.answer) (append-uncut d s (orderly-usable d s o) free uncut ∙ begins-at s 16 K.Append more)

-- behind a store nobody writes, no commit was a truncate's, and no number was given
pub append-after-store-in : (d s area : List ℕ) → Orderly d s → sound area ≡ true → Bytes area → (append_call d (store_call d area).session).answer ≡ Ok 1
append-after-store-in d s area o free bytes =
    let served : code_of (store_call d area).answer ≡ 0 = ap code_of (store-serves-in d s area o free) in
    let u = (store_call d area).session in
    let head = store-head d area o.disk-bytes served in
    let last : (head_of u).last_transaction ≡ 0 = ap (λ (h : Head). h.last_transaction) head in
    append-serves-idle d u (store-orderly d area (orderly-disk d s o) bytes served) (shut-stored d area o.disk-bytes served 16 (omega arith))
    (ap (λ (h : Head). h.cut) head)
    (λ e. omega arith)
    ∙ ap (λ (i : ℕ). Ok (i + 1)) last

pub append-after-store : (d s : List ℕ) → Orderly d s → (append_call d (store_call d s).session).answer ≡ Ok 1
append-after-store d s o = append-after-store-in d s s o (→sound s o.session) o.session-bytes

-- ---- an open

-- what a view that is shown as listed is
listed-view : (x : View) (li : Bool) (l f : ℕ) → shown x ≡ record { listed = li; len = l; start = f } → li ≡ true → x ≡ record { listed = true; len = l; start = f }
listed-view x li l f e listed = (shown-listed x _ e listed).1 ∙ ap (λ (b : Bool). record { listed = b; len = l; start = f }) listed

-- a name and sizes that are in range
module _ (n : List ℕ) (o : Opening) (named : name_rule n ≡ true) (other : same_bytes n METADATA ≡ false) where
  shaped : 1 ≤ o.entry → o.entry ≤ 256 → 1 ≤ o.file_size → o.file_size ≤ 4096 → 1 ≤ o.cache → o.cache ≤ 4096
      → o.len % o.entry ≡ 0 → o.start % o.entry ≡ 0 → shape_of n o ≡ Ok tt
  shaped entry-some entry-small file-some file-small cache-some cache-small len_whole start-whole =
      shape-good n o named (rw (le-leb 1 o.entry entry-some, le-leb o.entry 256 entry-small))
      (rw (eq-eqb (o.len % o.entry) 0 len_whole, eq-eqb (o.start % o.entry) 0 start-whole))
      (rw (le-leb 1 o.file_size file-some, le-leb o.file_size 4096 file-small))
      other
      (rw (le-leb 1 o.cache cache-some, le-leb o.cache 4096 cache-small))

-- ---- a tape that is listed

module _ (d s n : List ℕ) (orderly : Orderly d s) (st : Store) (seen : Seen d s n st) (listed : st.listed ≡ true) where
  -- its place, and what the list says of it
  record Known : Type 0 where
    place : ℕ
    found : place_of s n ≡ Some place
    view : view_of s 17 place ≡ record { listed = true; len = st.len; start = st.start }

  known : Known
  known = by (place_of s n) refl seen.list
    where
      by : (f : Option ℕ) → place_of s n ≡ f → view_in s 17 f ≡ record { listed = st.listed; len = st.len; start = st.start } → Known
      by (Some q) e list = record { place = q; found = e; view = listed-view (view_of s 17 q) st.listed st.len st.start list listed }
      by None e list = absurd (true≢false (sym listed ∙ sym (ap (λ (v : View). v.listed) list)))

  -- what is opened has the list's length and start
  opened-known : is_open_at s 16 ≡ true → (entry fs cache start : ℕ)
      → opened s n entry fs cache start
      ≡ record { entry = entry; file_size = fs; cache = cache; listed = true; len = st.len; start = st.start }
  unfolding opening_of
  opened-known writer entry fs cache start =
      let q = known.place in
      let low = name-low s names_at n q known.found in
      ap (λ (f : Option ℕ). opening_of (view_found s f) entry fs cache start) known.found
      ∙ ap (λ (v : View). opening_of v entry fs cache start) (orderly.writer-view writer q low ∙ known.view)

  -- its directory
  record Housed : Type 0 where
    directory : ℕ
    there : find_name d directories n ≡ Some directory

  home : Proper d s → Housed
  home proper = by (find_name d directories n) refl
    where
      by : (f : Option ℕ) → find_name d directories n ≡ f → Housed
      by (Some i) e = record { directory = i; there = e }
      by None e =
          let q = known.place in
          let house = proper.housed q (name-low s names_at n q known.found) (ap (λ (v : View). v.listed) known.view) in
          let nowhere = ap (λ (m : List ℕ). is_found (find_name d directories m)) (found_name s names_at n q known.found) ∙ ap is_found e in
          absurd (true≢false (sym house ∙ nowhere))

-- its files hold what its cache is filled with: they are on the disk, tracked or not
can-fill : (d s n : List ℕ) → Orderly d s → (t : Told) (p : Phys) → Dormant t p → Seen d s n (build t p) → (i : ℕ) → find_name d directories n ≡ Some i
    → (entry cache : ℕ)
    → can_fill d s n (record { entry = entry; file_size = t.size; cache = cache; listed = true; len = length t.content; start = t.start }) ≡ true
can-fill d s n orderly t p dormant seen i there entry cache =
    let c = t.content in
    let bounded = dormant.bounded in
    let from = max (length c - cache) t.start in
    let loads : load t.size p.held.files from (length c - from) ≡ _
    = load_kept t.size (file_of t.size (length c)) p.held.files t.start c dormant.kept (length c - from) from (omega arith) (omega arith) in
    (load_read d s orderly.disk n i there t.size from (length c - from) (take (length c - from) (drop from c))
    (ap (λ (f : Files). load t.size f from (length c - from)) (sym (ap (files_in d s) there) ∙ seen.files) ∙ loads)
    ).0

-- one without a handle, asked for with the file size that is told of it: nothing is amiss, but that handle numbers may be used up
module _ (d s n : List ℕ) (long : 0 < length n) (orderly : Orderly d s) (proper : Proper d s) (t : Told) (p : Phys) (good : Good t p) (seen : Seen d s n (build t p))
    (shut : t.live ≡ false) (listed : t.listed ≡ true) (size_small : t.size ≤ 4096) (k entry cache start : ℕ) (writer : writes s k ≡ true)
    (entry-some : 1 ≤ entry) (entry-small : entry ≤ 256) (len_whole : length t.content % entry ≡ 0) (start-whole : t.start % entry ≡ 0)
    (cache-some : 1 ≤ cache) (cache-small : cache ≤ 4096) where
  abbrev asked : Opening
  asked = record { entry = entry; file_size = t.size; cache = cache; listed = true; len = length t.content; start = t.start }

  abbrev own : Known d s n orderly (build t p) seen listed
  own = known d s n orderly (build t p) seen listed

  abbrev folder : Option ℕ
  folder = find_name d directories n

  dormant : Dormant t p
  dormant = subst (λ (b : Bool). GoodIf b t p) shut good

  its_shape : shape_of n asked ≡ Ok tt
  its_shape =
      let low = name-low s names_at n own.place own.found in
      let has = found_name s names_at n own.place own.found in
      let some-name = subst (λ (m : List ℕ). 0 < length m) (sym has) long in
      shaped n asked
      (ap name_rule (sym has) ∙ proper.rule own.place low some-name)
      (ap (λ (m : List ℕ). same_bytes m METADATA) (sym has) ∙ proper.unreserved own.place low some-name)
      entry-some entry-small (dormant.pos listed) size_small cache-some cache-small len_whole start-whole

  at_its_place : open_call d s k n entry t.size cache start ≡ open_in d s n asked folder own.place
  at_its_place =
      open-goes d s k n entry t.size cache start (orderly-usable d s orderly) writer
      ∙ ap (λ (o : Opening). open_on d s n o (place_of s n)) (opened-known d s n orderly (build t p) seen listed (writes-open s k writer) entry t.size cache start)
      ∙ on-shaped d s n asked (place_of s n) tt its_shape
      ∙ at_place d s n asked (place_of s n) (seen.live ∙ shut) own.place (ap (place_for s) own.found)

  few : is_ninth d s true folder ≡ false
  few = ninth-listed d s true folder refl

  there : is_nothing folder ≡ false
  there = ap is_nothing (home d s n orderly (build t p) seen listed proper).there

  fill : can_fill d s n asked ≡ true
  fill =
      let house = home d s n orderly (build t p) seen listed proper in
      can-fill d s n orderly t p dormant seen house.directory house.there entry cache

  pub open-serves : (head_of s).last_handle ≢ 0xffff_ffff_ffff_ffff → (open_call d s k n entry t.size cache start).answer ≡ Ok ((head_of s).last_handle + 1)
  unfolding open_now open_with
  open-serves more = ap (λ (r : Outcome). r.answer) (at_its_place ∙ in-now d s n asked folder own.place few there fill more)

  open-last : (head_of s).last_handle ≡ 0xffff_ffff_ffff_ffff → open_call d s k n entry t.size cache start ≡ refused_at TooLarge d s
  open-last used-up = at_its_place ∙ in-last d s n asked folder own.place few there fill used-up

  -- so it is served, unless that is its refusal
  pub open-fits : code_of (open_call d s k n entry t.size cache start).answer ≢ 18 → code_of (open_call d s k n entry t.size cache start).answer ≡ 0
  open-fits remain = ap code_of (open-serves (λ used-up. remain (ap (λ (r : Outcome). code_of r.answer) (open-last used-up))))

-- ---- a new tape

-- wherever the tape has its place, or the first free one, and it is no ninth name
pub open-new-serves : (d s n : List ℕ) → Orderly d s → (st : Store) → Seen d s n st → st.live ≡ false → st.listed ≡ false → name_rule n ≡ true
    → same_bytes n METADATA ≡ false → is_ninth d s false (find_name d directories n) ≡ false → (q : ℕ) → place_for s (place_of s n) ≡ Some q
    → (k entry fs cache start : ℕ) → writes s k ≡ true → 1 ≤ entry → entry ≤ 256 → start % entry ≡ 0 → 1 ≤ fs → fs ≤ 4096 → 1 ≤ cache → cache ≤ 4096
    → (head_of s).last_handle ≢ 0xffff_ffff_ffff_ffff
    → (open_call d s k n entry fs cache start).answer ≡ Ok ((head_of s).last_handle + 1)
unfolding open_now open_with
open-new-serves d s n orderly st seen shut unlisted named other few q place k entry fs cache start writer entry-some entry-small whole file-some file-small cache-some cache-small more =
    let o : Opening = record { entry = entry; file_size = fs; cache = cache; listed = false; len = start; start = start } in
    let new : (view_found s (place_of s n)).listed ≡ false
    = listed_then d s n orderly (writes-open s k writer) ∙ ap (λ (v : View). v.listed) seen.list ∙ unlisted in
    let found : Opens d s n o (place_of s n) q
    = record {
      value = tt;
      shape = shaped n o named other entry-some entry-small file-some file-small cache-some cache-small whole whole;
      shut = seen.live ∙ shut;
      place = place;
      few = few;
      there = refl;
      fill = can_read-none d s false n fs (cached_from o);
      more = more;
    } in
    ap (λ (r : Outcome). r.answer)
    (open_done d s k n entry fs cache start (orderly-usable d s orderly) writer q
    (subst (λ (x : Opening). Opens d s n x (place_of s n) q) (opening-new (view_found s (place_of s n)) entry fs cache start new) found))
