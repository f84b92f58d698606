-- What a served open has found, and the rows of the session that it leaves: its tape's name, handle, ring, cache and staged record, the head with the next
-- handle's number, and everything else as before. Assumes nothing.
use Rattle.std.specs.Prelude.{◌≡◌, refl, ◌≢◌, true, List, ℕ, ◌+◌, ◌*◌, ◌<◌, ◌^◌, length, Option, Some, None}
use Rattle.std.proofs.Common.{sym, ◌∙◌}
use Rattle.std.proofs.Math.Path.{ap}
use native.Mathlib.Omega.{arith}
use Rattle.octets.specs.Bytes.{put}
use Rattle.octets.specs.Cases.{picked}
use Rattle.octets.specs.Number.{Bytes, num_at-lt}
use Rattle.octets.specs.Only.{OnlyIn}
use Rattle.answers.specs.Answers.{code_of}
use Rattle.answers.specs.Outcome.{Outcome}
use Rattle.layout.specs.Disk.{directories}
use Rattle.layout.specs.Names.{name, find_name}
use Rattle.layout.specs.NamesLaws.{only-put_name, name-put_name}
use Rattle.layout.specs.Session.{names_at, head_at, view_at, Begun}
use Rattle.ring_buffer.specs.Ring.{fresh, reset_to}
use Rattle.session.specs.declared.head.Head.{Head}
use Rattle.session.specs.Meaning.{Session, session_of}
use Rattle.session.specs.MeaningLaws.{name-at, session-put_name}
use Rattle.session.specs.Rows.{head_of, view_of, transaction_of, handle_of, ring_of, ring_bytes, staged_of}
use Rattle.session.specs.RowLaws.{ring_bytes-only}
use Rattle.session.specs.KeepLaws.{begun-ready, begun-put_name}
use Rattle.disk.specs.Meaning.{disk_of}
use Rattle.session.specs.declared.tracking.Tracking.{Tracking}
use Rattle.rolling_tape.specs.Files.{files_of}
use Rattle.rolling_tape.specs.Removal.{Areas, areas}
use Rattle.beginning.specs.Transactions.{usable}
use Rattle.beginning.specs.Ways.{usable-begun, usable-disk}
use Rattle.beginning.specs.Laws.{refusal-some}
use Rattle.staging.specs.Seeing.{writes}
use Rattle.opening.specs.declared.shape.Opening.{Opening}
use Rattle.opening.specs.Shape.{opening_of}
use Rattle.opening.specs.ShapeLaws.{Shaped}
use Rattle.opening.specs.Directory.{readied}
use Rattle.opening.specs.DirectoryLaws.{only-readied-session, begun-readied}
use Rattle.opening.specs.Calls.{cached_from, cached_bytes, next_handle, row_staged, row_handle, handed, rowed, view_found, place_for, open_with, open_now, open_call, place_of, opened}
use Rattle.opening.specs.Laws.{Opens, row_fits, open-cases, opens-low, opens-shaped}
use Rattle.opening.specs.PlacingLaws.{named, head-named, bytes-named}
use Rattle.joins.specs.FilesAt.{files_at}
use Rattle.joins.specs.Caches.{RowsIn, rows_in}
use Rattle.touches.specs.Opens.{open-touches-session, open-leaves-session}
use Rattle.touches.specs.Rows.{view-stays, transaction-stays, name-stays, handle-stays, ring-stays, staged-stays, cache-stays}

-- ---- what it has found

-- served, in this place
pub record Went (d s : List ℕ) (t : ℕ) (wanted : List ℕ) (entry fs cache start : ℕ) (r : Outcome) : Type 0 where
  pub place : ℕ
  pub both : usable d s ≡ true
  pub writer : writes s t ≡ true
  pub opens : Opens d s wanted (opened s wanted entry fs cache start) (place_of s wanted) place
  pub same : r ≡ open_now d s wanted (opened s wanted entry fs cache start) (find_name d directories wanted) place

pub open-went : (d s : List ℕ) (t : ℕ) (wanted : List ℕ) (entry fs cache start : ℕ) → code_of (open_call d s t wanted entry fs cache start).answer ≡ 0
    → Went d s t wanted entry fs cache start (open_call d s t wanted entry fs cache start)
open-went d s t wanted entry fs cache start =
    open-cases d s t wanted entry fs cache start (λ (r : Outcome). code_of r.answer ≡ 0 → Went d s t wanted entry fs cache start r)
    (λ why z. absurd (refusal-some why z))
    (λ ok w p g z. record { place = p; both = ok; writer = w; opens = g; same = refl })

-- ---- the rows that it leaves

pub record Rows (s u : List ℕ) (p : ℕ) (wanted : List ℕ) (o : Opening) (bs : List ℕ) : Type 0 where
  pub head : head_of u ≡ handed (head_of s)
  pub own_name : name u names_at p ≡ wanted
  pub names : (q : ℕ) → q < 8 → q ≢ p → name u names_at q ≡ name s names_at q
  pub views : (w q : ℕ) → w < 18 → q < 8 → view_of u w q ≡ view_of s w q
  pub transactions : (t : ℕ) → t < 17 → transaction_of u t ≡ transaction_of s t
  pub own-handle : handle_of u p ≡ row_handle s o
  pub handles : (q : ℕ) → q < 8 → q ≢ p → handle_of u q ≡ handle_of s q
  pub own-ring : ring_of u p ≡ reset_to (fresh o.cache (cached_from o)) (length bs) (cached_from o)
  pub rings : (q : ℕ) → q < 8 → q ≢ p → ring_of u q ≡ ring_of s q
  pub own-cache : ring_bytes u p ≡ put (ring_bytes s p) 0 bs
  pub caches : (q : ℕ) → q < 8 → q ≢ p → ring_bytes u q ≡ ring_bytes s q
  pub own-staged : staged_of u p ≡ row_staged o
  pub stageds : (q : ℕ) → q < 8 → q ≢ p → staged_of u q ≡ staged_of s q

-- ---- lengths are 64-bit numbers

view-fits : (s : List ℕ) → Bytes s → (w p : ℕ) → ((view_of s w p).len < 2 ^ 64) × ((view_of s w p).start < 2 ^ 64)
unfolding view_of
view-fits s bytes w p = (num_at-lt 8 s (view_at w p + 8) bytes, num_at-lt 8 s (view_at w p + 16) bytes)

found-fits : (s : List ℕ) → Bytes s → (tape : Option ℕ) → ((view_found s tape).len < 2 ^ 64) × ((view_found s tape).start < 2 ^ 64)
found-fits s bytes (Some p) = view-fits s bytes 16 p
found-fits s bytes None = (omega arith, omega arith)

module _ (d s : List ℕ) (t : ℕ) (wanted : List ℕ) (entry fs cache start : ℕ) where
  abbrev o : Opening
  o = opened s wanted entry fs cache start

  opening-fits : Bytes s → start < 2 ^ 64 → (o.len < 2 ^ 64) × (o.start < 2 ^ 64)
  unfolding opening_of
  opening-fits bytes small =
      let fit = found-fits s bytes (place_of s wanted) in
      let v = view_found s (place_of s wanted) in (
        picked (λ (n : ℕ). n < 2 ^ 64) v.listed v.len start (λ e. fit.0) (λ e. small),
        picked (λ (n : ℕ). n < 2 ^ 64) v.listed v.start start (λ e. fit.1) (λ e. small),
      )

  module _ (bytes : Bytes s) (new : Bytes wanted) (small : start < 2 ^ 64) (w : Went d s t wanted entry fs cache start (open_call d s t wanted entry fs cache start)) where
    abbrev p : ℕ
    p = w.place

    abbrev u : List ℕ
    u = (open_call d s t wanted entry fs cache start).session

    abbrev bs : List ℕ
    bs = cached_bytes d wanted o

    abbrev directory : Option ℕ
    directory = find_name d directories wanted

    abbrev began : ℕ
    began = (transaction_of s 16).epoch

    pub went-low : p < 8
    went-low = opens-low d s t wanted entry fs cache start p w.opens

    pub went-shaped : Shaped wanted o
    went-shaped = opens-shaped d s t wanted entry fs cache start p w.opens

    abbrev after : Areas
    after = readied (areas d s) wanted o began directory

    abbrev x : List ℕ
    x = named (areas d s) wanted o began directory p (usable-disk d s w.both) went-shaped.name-short

    abbrev only_after : OnlyIn 4936 5960 s after.session
    only_after = only-readied-session (areas d s) wanted o began directory (usable-disk d s w.both) went-shaped.name-short

    abbrev only_x : OnlyIn (names_at + p * 32) (names_at + p * 32 + 32) after.session x
    only_x = only-put_name after.session names_at p wanted went-shaped.name-short

    head-x : head_of x ≡ head_of s
    head-x = head-named (areas d s) wanted o began directory p (usable-disk d s w.both) went-shaped.name-short

    begun-after : Begun after.session
    begun-after = begun-readied (areas d s) wanted o began directory (usable-disk d s w.both) went-shaped.name-short (usable-begun d s w.both)

    begun-x : Begun x
    begun-x = begun-put_name after.session begun-after p wanted went-low went-shaped.name-short

    last_fits : next_handle x < 2 ^ 64
    unfolding head_of
    last_fits =
        let more = w.opens.more in
        let last : (head_of s).last_handle < 256 ^ 8 = num_at-lt 8 s (head_at + 32) bytes in
        let same : (head_of x).last_handle ≡ (head_of s).last_handle = ap (λ (h : Head). h.last_handle) head-x in
        omega arith

    rows-x : RowsIn x p o bs
    rows-x =
        let shaped = went-shaped in
        let fit = opening-fits bytes small in
        rows_in x (begun-ready x begun-x)
        (bytes-named (areas d s) wanted o began directory p (usable-disk d s w.both) shaped.name-short (usable-begun d s w.both).long went-low bytes new)
        p went-low o bs (row_fits d x wanted p o shaped)
        last_fits fit.0 fit.1

    pub went-session : u ≡ rowed x p o bs
    unfolding open_now open_with
    went-session = ap (λ (r : Outcome). r.session) w.same

    pub went-rows : Rows s u p wanted o bs
    went-rows =
        let r = rows-x in
        let e = went-session in
        let leaves = open-leaves-session d s t wanted entry fs cache start in
        let long = (open-touches-session d s t wanted entry fs cache start).long in
        let here = w.opens.place in
        let apart : (q : ℕ) → q ≢ p → place_for s (place_of s wanted) ≢ Some q = λ q d z. d (let same : q ≡ p = cc in same) in
        let short = (usable-begun d s w.both).names.short in
        let handed : next_handle x ≡ next_handle s = ap (λ (h : Head). h.last_handle + 1) head-x in
        record {
          head = ap head_of e ∙ r.head ∙ ap (λ (h : Head). record { epoch = h.epoch; cut = h.cut; side = h.side; last_transaction = h.last_transaction; last_handle = h.last_handle + 1 }) head-x;
          own_name = ap (λ (a : List ℕ). name a names_at p) e ∙ name-row;
          names = λ q l d. name-stays _ _ s u (leaves.names-stay q l (apart q d)) long names_at q (short q l) (omega arith) (omega arith);
          views = λ v q l m. view-stays _ _ s u leaves.views-stay v q (omega arith) (omega arith);
          transactions = λ v l. transaction-stays _ _ s u leaves.transactions-stay v (omega arith) (omega arith);
          own-handle = ap (λ (a : List ℕ). handle_of a p) e ∙ r.handle ∙ ap (λ (n : ℕ). record { number = n; entry = o.entry; file_size = o.file_size }) handed;
          handles = λ q l d. handle-stays _ _ s u (leaves.tapes-stay q l (apart q d)) q (omega arith) (omega arith);
          own-ring = ap (λ (a : List ℕ). ring_of a p) e ∙ r.ring;
          rings = λ q l d. ring-stays _ _ s u (leaves.tapes-stay q l (apart q d)) q (omega arith) (omega arith);
          own-cache =
              ap (λ (a : List ℕ). ring_bytes a p) e
              ∙ r.cache
              ∙ ap (λ (m : List ℕ). put m 0 bs)
              (ring_bytes-only _ _ after.session x only_x p (λ l. omega (arith, went-low)) ∙ ring_bytes-only _ _ s after.session only_after p (λ l. omega arith));
          caches = λ q l d. cache-stays _ _ s u (leaves.rings-stay q l (apart q d)) long q (omega arith) (omega arith);
          own-staged = ap (λ (a : List ℕ). staged_of a p) e ∙ r.staged;
          stageds = λ q l d. staged-stays _ _ s u (leaves.tapes-stay q l (apart q d)) q (omega arith) (omega arith);
        }
      where
        -- the rows leave the names
        name-row : name (rowed x p o bs) names_at p ≡ wanted
        name-row =
            sym (name-at (rowed x p o bs) p went-low)
            ∙ ap (λ (m : Session). m.name p) rows-x.whole
            ∙ name-at x p went-low
            ∙ name-put_name after.session names_at p wanted begun-after.names.room went-low went-shaped.name-short

    -- the disk is the readied one, and the rows leave the tracking of its files
    pub went-disk : (open_call d s t wanted entry fs cache start).disk ≡ after.disk
    unfolding open_now open_with
    went-disk = ap (λ (r : Outcome). r.disk) w.same

    went-tracking : (session_of u).tracking ≡ (session_of after.session).tracking
    went-tracking =
        ap (λ (a : List ℕ). (session_of a).tracking) went-session
        ∙ rows-x.tracking
        ∙ ap (λ (m : Session). m.tracking) (session-put_name after.session p wanted (begun-ready after.session begun-after) went-low went-shaped.name-short)

    pub went-files : (q : ℕ) → files_at (areas after.disk u) q ≡ files_at after q
    went-files q = ap (λ (f : ℕ → Tracking). files_of (disk_of after.disk) f q) went-tracking
