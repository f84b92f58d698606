-- Laws of what the bytes of a session mean: what each write does to the meaning, what it leaves alone, and the searches over the meaning. Assumes nothing.
use Rattle.std.specs.Prelude.{◌≡◌, Bool, true, false, cond, ◌&&◌, length}
use Rattle.std.proofs.Math.Path.{refl, sym, ap}
use Rattle.std.proofs.Common.{◌∙◌, arith}
use Rattle.std.proofs.Math.Bool.{not}
use mathlib.Core.List.{List, []}
use Prim.Native.Nat.{ℕ, ◌+◌, ◌≤◌, ◌<◌}
use Rattle.std.proofs.Math.Dec.{eqb}
use Rattle.octets.specs.Bytes.{put}
use Rattle.octets.specs.Only.{OnlyIn}
use Rattle.octets.specs.First.{first, first-same}
use Rattle.octets.specs.Words.{table, with_row, table-in, table_same, table-row}
use Rattle.layout.specs.Names.{NamesFit, name, names, put_name}
use Rattle.layout.specs.NamesLaws.{names-only, names-put_name, only-put_name, fit-only, fit-put_name}
use Rattle.layout.specs.Session.{session_bytes, names_at, kind_word, tape_at}
use Rattle.ring_buffer.specs.Ring.{around}
use Rattle.ring_buffer.specs.declared.bookkeeping.RingBuffer.{RingBuffer}
use Rattle.session.specs.declared.head.Head.{Head}
use Rattle.session.specs.declared.views.View.{View}
use Rattle.session.specs.declared.transactions.Kind.{Kind}
use Rattle.session.specs.declared.transactions.Kind.TheVariants.{Closed, Reader, Append, Truncate}
use Rattle.session.specs.declared.transactions.Transaction.{Transaction}
use Rattle.session.specs.declared.tape_rows.Handle.{Handle}
use Rattle.session.specs.declared.tape_rows.Staged.{Staged}
use Rattle.session.specs.declared.tracking.Tracking.{Tracking}
use Rattle.session.specs.declared.tracking.Tracking.TheVariants.{Untracked}
use Rattle.session.specs.Rows.{head_of, put_head, view_of, put_view, copy_view, kind_for, transaction_of, put_transaction, is_closed, is_open_as, find_transaction, free_reader, handle_of, put_handle, ring_of, put_ring, staged_of, put_staged, is_handle, find_handle, tracking_of, put_tracking, ring_bytes, fill_ring, push_ring}
use Rattle.session.specs.RowLaws.{HeadFits, ViewFits, TransactionFits, HandleFits, RingNumbers, StagedFits, TrackingFits, only-put_head, head-same, head-only, only-put_view, view-same, view-only, only-copy_view, view-copied, only-put_transaction, transaction-same, transaction-only, only-put_handle, handle-same, handle-only, only-put_ring, ring-same, ring-only, only-put_staged, staged-same, staged-only, only-put_tracking, tracking-same, tracking-only, ring_bytes-only, only-fill_ring, ring_bytes-fill, only-push_ring, ring_bytes-push}
use Rattle.session.specs.Meaning.{Session, no_view, no_views, closed, no_handle, no_ring, untouched, session_of, with_head, with_name, with_views, with_view, with_transaction, with_handle, with_ring, with_cache, with_staged, with_tracking}

-- an area that is long enough, and whose names fit
pub record Ready (s : List ℕ) : Type 0 where
  pub long : session_bytes ≤ length s
  pub names : NamesFit s names_at

-- sessions whose fields are the same
pub same-session : (m n : Session) → m.head ≡ n.head → m.name ≡ n.name → m.view ≡ n.view → m.transaction ≡ n.transaction → m.handle ≡ n.handle
    → m.ring ≡ n.ring → m.cache ≡ n.cache → m.staged ≡ n.staged → m.tracking ≡ n.tracking → m ≡ n
same-session m n a b c d e f g h i =
    λ x. record { head = a x; name = b x; view = c x; transaction = d x; handle = e x; ring = f x; cache = g x; staged = h x; tracking = i x }

-- the views of one place, and those of all
abbrev pub views_of : List ℕ → ℕ → ℕ → View
views_of s w = table 8 no_view (view_of s w)

abbrev pub all_views : List ℕ → ℕ → ℕ → View
all_views s = table 18 no_views (views_of s)

-- ---- a row of the meaning is that of the bytes

module _ (s : List ℕ) where
  pub head_at_lem : (session_of s).head ≡ head_of s
  unfolding session_of
  head_at_lem = refl

  pub name-at : (p : ℕ) → p < 8 → (session_of s).name p ≡ name s names_at p
  unfolding session_of
  name-at p l = table-in 8 [] (name s names_at) p l

  pub view-at : (w p : ℕ) → w < 18 → p < 8 → (session_of s).view w p ≡ view_of s w p
  unfolding session_of
  view-at w p l m = ap (λ (v : ℕ → View). v p) (table-in 18 no_views (views_of s) w l) ∙ table-in 8 no_view (view_of s w) p m

  pub transaction-at : (t : ℕ) → t < 17 → (session_of s).transaction t ≡ transaction_of s t
  unfolding session_of
  transaction-at t l = table-in 17 closed (transaction_of s) t l

  pub handle-at : (p : ℕ) → p < 8 → (session_of s).handle p ≡ handle_of s p
  unfolding session_of
  handle-at p l = table-in 8 no_handle (handle_of s) p l

  pub ring-at : (p : ℕ) → p < 8 → (session_of s).ring p ≡ ring_of s p
  unfolding session_of
  ring-at p l = table-in 8 no_ring (ring_of s) p l

  pub cache-at : (p : ℕ) → p < 8 → (session_of s).cache p ≡ ring_bytes s p
  unfolding session_of
  cache-at p l = table-in 8 [] (ring_bytes s) p l

  pub staged-at : (p : ℕ) → p < 8 → (session_of s).staged p ≡ staged_of s p
  unfolding session_of
  staged-at p l = table-in 8 untouched (staged_of s) p l

  pub tracking-at : (i : ℕ) → i < 64 → (session_of s).tracking i ≡ tracking_of s i
  unfolding session_of
  tracking-at i l = table-in 64 Untracked (tracking_of s) i l

-- ---- what a step elsewhere leaves

module _ (low high : ℕ) (s t : List ℕ) (only : OnlyIn low high s t) where
  pub ready-only : (low < 304 → high ≤ 48) → Ready s → Ready t
  ready-only clear ready = let long = only.long in record { long = omega (arith, ready.long); names = fit-only low high s t names_at only clear ready.names }

  pub views-only : (low < 3760 → high ≤ 304) → all_views t ≡ all_views s
  views-only clear =
      table_same 18 no_views (views_of s) (views_of t)
      (λ w l.
      table_same 8 no_view (view_of s w) (view_of t w)
      (λ p m. view-only low high s t only w p (λ q. omega (arith, clear (omega arith)))))

  pub transactions-only : (low < 4168 → high ≤ 3760) → table 17 closed (transaction_of t) ≡ table 17 closed (transaction_of s)
  transactions-only clear =
      table_same 17 closed (transaction_of s) (transaction_of t)
      (λ u l. transaction-only low high s t only u (λ q. omega (arith, clear (omega arith))))

  -- handle, ring and staged record are parts of one row: a step in one of them is clear of the other two, row by row
  pub handles-only : ((p : ℕ) → p < 8 → low < tape_at p + 24 → high ≤ tape_at p) → table 8 no_handle (handle_of t) ≡ table 8 no_handle (handle_of s)
  handles-only clear = table_same 8 no_handle (handle_of s) (handle_of t) (λ p l. handle-only low high s t only p (clear p l))

  pub rings-only : ((p : ℕ) → p < 8 → low < tape_at p + 24 + 32 → high ≤ tape_at p + 24) → table 8 no_ring (ring_of t) ≡ table 8 no_ring (ring_of s)
  rings-only clear = table_same 8 no_ring (ring_of s) (ring_of t) (λ p l. ring-only low high s t only p (clear p l))

  pub stageds-only : ((p : ℕ) → p < 8 → low < tape_at p + 56 + 40 → high ≤ tape_at p + 56) → table 8 untouched (staged_of t) ≡ table 8 untouched (staged_of s)
  stageds-only clear = table_same 8 untouched (staged_of s) (staged_of t) (λ p l. staged-only low high s t only p (clear p l))

  pub trackings-only : (low < 5960 → high ≤ 4936) → table 64 Untracked (tracking_of t) ≡ table 64 Untracked (tracking_of s)
  trackings-only clear =
      table_same 64 Untracked (tracking_of s) (tracking_of t)
      (λ i l. tracking-only low high s t only i (λ q. omega (arith, clear (omega arith))))

  pub caches-only : (low < 38728 → high ≤ 5960) → table 8 [] (ring_bytes t) ≡ table 8 [] (ring_bytes s)
  caches-only clear =
      table_same 8 [] (ring_bytes s) (ring_bytes t)
      (λ p l. ring_bytes-only low high s t only p (λ q. omega (arith, clear (omega arith))))

-- ---- what each write does

module _ (s : List ℕ) (h : Head) (ready : Ready s) where
  pub ready-put_head : Ready (put_head s h)
  ready-put_head = ready-only _ _ s _ (only-put_head s h) (λ l. omega arith) ready

  pub session-put_head : HeadFits h → session_of (put_head s h) ≡ with_head (session_of s) h
  unfolding session_of
  session-put_head f =
      let u = put_head s h in
      let only = only-put_head s h in
      let own : head_of u ≡ h = head-same s h (omega arith) f in
      same-session (session_of u) (with_head (session_of s) h)
      own (names-only _ _ s u names_at only (λ l. omega arith) ready.names) (views-only _ _ s u only (λ l. omega arith))
      (transactions-only _ _ s u only (λ l. omega arith)) (handles-only _ _ s u only (λ q m l. omega arith)) (rings-only _ _ s u only (λ q m l. omega arith))
      (caches-only _ _ s u only (λ l. omega arith)) (stageds-only _ _ s u only (λ q m l. omega arith)) (trackings-only _ _ s u only (λ l. omega arith))

module _ (s : List ℕ) (p : ℕ) (n : List ℕ) (ready : Ready s) (low : p < 8) (short : length n ≤ 24) where
  pub ready-put_name : Ready (put_name s names_at p n)
  ready-put_name =
      let only = only-put_name s names_at p n short in
      let same = only.long in
      record { long = omega arith; names = fit-put_name s names_at p n ready.names low short }

  pub session-put_name : session_of (put_name s names_at p n) ≡ with_name (session_of s) p n
  unfolding session_of
  session-put_name =
      let u = put_name s names_at p n in
      let only = only-put_name s names_at p n short in
      let own : names u names_at ≡ with_row (names s names_at) p n = names-put_name s names_at p n ready.names low short in
      same-session (session_of u) (with_name (session_of s) p n)
      (head-only _ _ s u only (λ l. omega arith)) own (views-only _ _ s u only (λ l. omega arith))
      (transactions-only _ _ s u only (λ l. omega arith)) (handles-only _ _ s u only (λ q m l. omega arith)) (rings-only _ _ s u only (λ q m l. omega arith))
      (caches-only _ _ s u only (λ l. omega arith)) (stageds-only _ _ s u only (λ q m l. omega arith)) (trackings-only _ _ s u only (λ l. omega arith))

module _ (s : List ℕ) (w p : ℕ) (v : View) (ready : Ready s) (wide : w < 18) (low : p < 8) where
  pub ready-put_view : Ready (put_view s w p v)
  ready-put_view = ready-only _ _ s _ (only-put_view s w p v) (λ l. omega arith) ready

  pub session-put_view : ViewFits v → session_of (put_view s w p v) ≡ with_view (session_of s) w p v
  unfolding session_of
  session-put_view f =
      let u = put_view s w p v in
      let only = only-put_view s w p v in
      let own : all_views u ≡ with_row (all_views s) w (with_row (all_views s w) p v)
      = table-row 18 no_views (views_of s) (views_of u) w (with_row (all_views s w) p v) wide
      (table-row 8 no_view (view_of s w) (view_of u w) p v low (view-same s w p v (omega arith) f) (λ q m d. view-only _ _ s u only w q (λ l. omega arith))
      ∙ ap (λ (r : ℕ → View). with_row r p v) (sym (table-in 18 no_views (views_of s) w wide)))
      (λ x l d. table_same 8 no_view (view_of s x) (view_of u x) (λ q m. view-only _ _ s u only x q (λ k. omega arith))) in
      same-session (session_of u) (with_view (session_of s) w p v)
      (head-only _ _ s u only (λ l. omega arith)) (names-only _ _ s u names_at only (λ l. omega arith) ready.names) own
      (transactions-only _ _ s u only (λ l. omega arith)) (handles-only _ _ s u only (λ q m l. omega arith)) (rings-only _ _ s u only (λ q m l. omega arith))
      (caches-only _ _ s u only (λ l. omega arith)) (stageds-only _ _ s u only (λ q m l. omega arith)) (trackings-only _ _ s u only (λ l. omega arith))

module _ (s : List ℕ) (from to : ℕ) (ready : Ready s) (there : from < 18) (wide : to < 18) where
  pub ready-copy_view : Ready (copy_view s from to)
  ready-copy_view = ready-only _ _ s _ (only-copy_view s from to (omega arith)) (λ l. omega arith) ready

  pub session-copy_view : session_of (copy_view s from to) ≡ with_views (session_of s) to ((session_of s).view from)
  unfolding session_of
  session-copy_view =
      let u = copy_view s from to in
      let only = only-copy_view s from to (omega arith) in
      let own : all_views u ≡ with_row (all_views s) to (all_views s from)
      = table-row 18 no_views (views_of s) (views_of u) to (all_views s from) wide
      (table_same 8 no_view (view_of s from) (view_of u to) (λ q m. view-copied s from to (omega arith) (omega arith) q m)
      ∙ sym (table-in 18 no_views (views_of s) from there))
      (λ x l d. table_same 8 no_view (view_of s x) (view_of u x) (λ q m. view-only _ _ s u only x q (λ k. omega arith))) in
      same-session (session_of u) (with_views (session_of s) to ((session_of s).view from))
      (head-only _ _ s u only (λ l. omega arith)) (names-only _ _ s u names_at only (λ l. omega arith) ready.names) own
      (transactions-only _ _ s u only (λ l. omega arith)) (handles-only _ _ s u only (λ q m l. omega arith)) (rings-only _ _ s u only (λ q m l. omega arith))
      (caches-only _ _ s u only (λ l. omega arith)) (stageds-only _ _ s u only (λ q m l. omega arith)) (trackings-only _ _ s u only (λ l. omega arith))

module _ (s : List ℕ) (t : ℕ) (r : Transaction) (ready : Ready s) (low : t < 17) where
  pub ready-put_transaction : Ready (put_transaction s t r)
  ready-put_transaction = ready-only _ _ s _ (only-put_transaction s t r) (λ l. omega arith) ready

  pub session-put_transaction : TransactionFits r → session_of (put_transaction s t r) ≡ with_transaction (session_of s) t r
  unfolding session_of
  session-put_transaction f =
      let u = put_transaction s t r in
      let only = only-put_transaction s t r in
      let own : table 17 closed (transaction_of u) ≡ with_row (table 17 closed (transaction_of s)) t r
      = table-row 17 closed (transaction_of s) (transaction_of u) t r low (transaction-same s t r (omega arith) f) (λ q m d. transaction-only _ _ s u only q (λ l. omega arith)) in
      same-session (session_of u) (with_transaction (session_of s) t r)
      (head-only _ _ s u only (λ l. omega arith)) (names-only _ _ s u names_at only (λ l. omega arith) ready.names) (views-only _ _ s u only (λ l. omega arith))
      own (handles-only _ _ s u only (λ q m l. omega arith)) (rings-only _ _ s u only (λ q m l. omega arith))
      (caches-only _ _ s u only (λ l. omega arith)) (stageds-only _ _ s u only (λ q m l. omega arith)) (trackings-only _ _ s u only (λ l. omega arith))

module _ (s : List ℕ) (p : ℕ) (r : Handle) (ready : Ready s) (low : p < 8) where
  pub ready-put_handle : Ready (put_handle s p r)
  ready-put_handle = ready-only _ _ s _ (only-put_handle s p r) (λ l. omega arith) ready

  pub session-put_handle : HandleFits r → session_of (put_handle s p r) ≡ with_handle (session_of s) p r
  unfolding session_of
  session-put_handle f =
      let u = put_handle s p r in
      let only = only-put_handle s p r in
      let own : table 8 no_handle (handle_of u) ≡ with_row (table 8 no_handle (handle_of s)) p r
      = table-row 8 no_handle (handle_of s) (handle_of u) p r low (handle-same s p r (omega arith) f) (λ q m d. handle-only _ _ s u only q (λ l. omega arith)) in
      same-session (session_of u) (with_handle (session_of s) p r)
      (head-only _ _ s u only (λ l. omega arith)) (names-only _ _ s u names_at only (λ l. omega arith) ready.names) (views-only _ _ s u only (λ l. omega arith))
      (transactions-only _ _ s u only (λ l. omega arith)) own (rings-only _ _ s u only (λ q m l. omega arith))
      (caches-only _ _ s u only (λ l. omega arith)) (stageds-only _ _ s u only (λ q m l. omega arith)) (trackings-only _ _ s u only (λ l. omega arith))

module _ (s : List ℕ) (p : ℕ) (r : RingBuffer) (ready : Ready s) (low : p < 8) where
  pub ready-put_ring : Ready (put_ring s p r)
  ready-put_ring = ready-only _ _ s _ (only-put_ring s p r) (λ l. omega arith) ready

  pub session-put_ring : RingNumbers r → session_of (put_ring s p r) ≡ with_ring (session_of s) p r
  unfolding session_of
  session-put_ring f =
      let u = put_ring s p r in
      let only = only-put_ring s p r in
      let own : table 8 no_ring (ring_of u) ≡ with_row (table 8 no_ring (ring_of s)) p r
      = table-row 8 no_ring (ring_of s) (ring_of u) p r low (ring-same s p r (omega arith) f) (λ q m d. ring-only _ _ s u only q (λ l. omega arith)) in
      same-session (session_of u) (with_ring (session_of s) p r)
      (head-only _ _ s u only (λ l. omega arith)) (names-only _ _ s u names_at only (λ l. omega arith) ready.names) (views-only _ _ s u only (λ l. omega arith))
      (transactions-only _ _ s u only (λ l. omega arith)) (handles-only _ _ s u only (λ q m l. omega arith)) own
      (caches-only _ _ s u only (λ l. omega arith)) (stageds-only _ _ s u only (λ q m l. omega arith)) (trackings-only _ _ s u only (λ l. omega arith))

module _ (s : List ℕ) (p : ℕ) (r : Staged) (ready : Ready s) (low : p < 8) where
  pub ready-put_staged : Ready (put_staged s p r)
  ready-put_staged = ready-only _ _ s _ (only-put_staged s p r) (λ l. omega arith) ready

  pub session-put_staged : StagedFits r → session_of (put_staged s p r) ≡ with_staged (session_of s) p r
  unfolding session_of
  session-put_staged f =
      let u = put_staged s p r in
      let only = only-put_staged s p r in
      let own : table 8 untouched (staged_of u) ≡ with_row (table 8 untouched (staged_of s)) p r
      = table-row 8 untouched (staged_of s) (staged_of u) p r low (staged-same s p r (omega arith) f) (λ q m d. staged-only _ _ s u only q (λ l. omega arith)) in
      same-session (session_of u) (with_staged (session_of s) p r)
      (head-only _ _ s u only (λ l. omega arith)) (names-only _ _ s u names_at only (λ l. omega arith) ready.names) (views-only _ _ s u only (λ l. omega arith))
      (transactions-only _ _ s u only (λ l. omega arith)) (handles-only _ _ s u only (λ q m l. omega arith)) (rings-only _ _ s u only (λ q m l. omega arith))
      (caches-only _ _ s u only (λ l. omega arith)) own (trackings-only _ _ s u only (λ l. omega arith))

module _ (s : List ℕ) (i : ℕ) (r : Tracking) (ready : Ready s) (low : i < 64) where
  pub ready-put_tracking : Ready (put_tracking s i r)
  ready-put_tracking = ready-only _ _ s _ (only-put_tracking s i r) (λ l. omega arith) ready

  pub session-put_tracking : TrackingFits r → session_of (put_tracking s i r) ≡ with_tracking (session_of s) i r
  unfolding session_of
  session-put_tracking f =
      let u = put_tracking s i r in
      let only = only-put_tracking s i r in
      let own : table 64 Untracked (tracking_of u) ≡ with_row (table 64 Untracked (tracking_of s)) i r
      = table-row 64 Untracked (tracking_of s) (tracking_of u) i r low (tracking-same s i r (omega arith) f) (λ q m d. tracking-only _ _ s u only q (λ l. omega arith)) in
      same-session (session_of u) (with_tracking (session_of s) i r)
      (head-only _ _ s u only (λ l. omega arith)) (names-only _ _ s u names_at only (λ l. omega arith) ready.names) (views-only _ _ s u only (λ l. omega arith))
      (transactions-only _ _ s u only (λ l. omega arith)) (handles-only _ _ s u only (λ q m l. omega arith)) (rings-only _ _ s u only (λ q m l. omega arith))
      (caches-only _ _ s u only (λ l. omega arith)) (stageds-only _ _ s u only (λ q m l. omega arith)) own

module _ (s : List ℕ) (p place : ℕ) (bs : List ℕ) (ready : Ready s) (low : p < 8) (inside : place + length bs ≤ 4096) where
  pub ready-fill_ring : Ready (fill_ring s p place bs)
  ready-fill_ring = ready-only _ _ s _ (only-fill_ring s p place bs inside) (λ l. omega arith) ready

  pub session-fill_ring : session_of (fill_ring s p place bs) ≡ with_cache (session_of s) p (put (ring_bytes s p) place bs)
  unfolding session_of
  session-fill_ring =
      let u = fill_ring s p place bs in
      let only = only-fill_ring s p place bs inside in
      let own : table 8 [] (ring_bytes u) ≡ with_row (table 8 [] (ring_bytes s)) p (put (ring_bytes s p) place bs)
      = table-row 8 [] (ring_bytes s) (ring_bytes u) p (put (ring_bytes s p) place bs) low (ring_bytes-fill s p place bs inside) (λ q m d. ring_bytes-only _ _ s u only q (λ l. omega arith)) in
      same-session (session_of u) (with_cache (session_of s) p (put (ring_bytes s p) place bs))
      (head-only _ _ s u only (λ l. omega arith)) (names-only _ _ s u names_at only (λ l. omega arith) ready.names) (views-only _ _ s u only (λ l. omega arith))
      (transactions-only _ _ s u only (λ l. omega arith)) (handles-only _ _ s u only (λ q m l. omega arith)) (rings-only _ _ s u only (λ q m l. omega arith))
      own (stageds-only _ _ s u only (λ q m l. omega arith)) (trackings-only _ _ s u only (λ l. omega arith))

module _ (s : List ℕ) (p : ℕ) (r : RingBuffer) (bs : List ℕ) (ready : Ready s) (low : p < 8) where
  pub ready-push_ring : Ready (push_ring s p r bs)
  ready-push_ring = ready-only _ _ s _ (only-push_ring s p r bs (omega arith)) (λ l. omega arith) ready

  pub session-push_ring : session_of (push_ring s p r bs) ≡ with_cache (session_of s) p (around r.capacity (ring_bytes s p) (r.start + r.len) bs)
  unfolding session_of
  session-push_ring =
      let u = push_ring s p r bs in
      let only = only-push_ring s p r bs (omega arith) in
      let own : table 8 [] (ring_bytes u) ≡ with_row (table 8 [] (ring_bytes s)) p (around r.capacity (ring_bytes s p) (r.start + r.len) bs)
      = table-row 8 [] (ring_bytes s) (ring_bytes u) p (around r.capacity (ring_bytes s p) (r.start + r.len) bs) low (ring_bytes-push s p r bs (omega arith)) (λ q m d. ring_bytes-only _ _ s u only q (λ l. omega arith)) in
      same-session (session_of u) (with_cache (session_of s) p (around r.capacity (ring_bytes s p) (r.start + r.len) bs))
      (head-only _ _ s u only (λ l. omega arith)) (names-only _ _ s u names_at only (λ l. omega arith) ready.names) (views-only _ _ s u only (λ l. omega arith))
      (transactions-only _ _ s u only (λ l. omega arith)) (handles-only _ _ s u only (λ q m l. omega arith)) (rings-only _ _ s u only (λ q m l. omega arith))
      own (stageds-only _ _ s u only (λ q m l. omega arith)) (trackings-only _ _ s u only (λ l. omega arith))

-- ---- searches over the meaning

abbrev pub is_open : Kind → Bool
is_open Closed = false
is_open Reader = true
is_open Append = true
is_open Truncate = true

-- the code 0, and no other, is that of a closed place
pub open-kind : (w : ℕ) → is_open (kind_for w) ≡ not (eqb w 0)
open-kind w = by (eqb w 0) (eqb w 1) (eqb w 2)
  where
    by : (a b c : Bool) → is_open (cond a Closed (cond b Reader (cond c Append Truncate))) ≡ not a
    by true b c = refl
    by false true c = refl
    by false false true = refl
    by false false false = refl

pub closed-kind : (w : ℕ) → not (is_open (kind_for w)) ≡ eqb w 0
closed-kind w = rw (open-kind w) (twice (eqb w 0))
  where
    twice : (b : Bool) → not (not b) ≡ b
    twice true = refl
    twice false = refl

module _ (s : List ℕ) where
  pub find-transaction : (n : ℕ) → find_transaction s n ≡ first (λ t. is_open ((session_of s).transaction t).kind && eqb ((session_of s).transaction t).number n) 17 0
  unfolding find_transaction transaction_of
  find-transaction n =
      first-same (is_open_as s n) (λ t. is_open ((session_of s).transaction t).kind && eqb ((session_of s).transaction t).number n) 17 0
      (λ t l h. rw (transaction-at s t (omega arith), open-kind (kind_word s t)))

  pub free-reader : free_reader s ≡ first (λ t. not (is_open ((session_of s).transaction t).kind)) 16 0
  unfolding free_reader transaction_of
  free-reader =
      first-same (is_closed s) (λ t. not (is_open ((session_of s).transaction t).kind)) 16 0
      (λ t l h. rw (transaction-at s t (omega arith), closed-kind (kind_word s t)))

  pub find-handle : (n : ℕ) → find_handle s n ≡ first (λ p. not (eqb n 0) && eqb ((session_of s).handle p).number n) 8 0
  unfolding find_handle handle_of
  find-handle n =
      first-same (is_handle s n) (λ p. not (eqb n 0) && eqb ((session_of s).handle p).number n) 8 0
      (λ p l h. rw (handle-at s p (omega arith)))
