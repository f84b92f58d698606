-- What a new session means, and that it keeps the layout rule; and that an ended one is none. Assumes nothing.
use Rattle.std.specs.Prelude.{◌≡◌, ◌≢◌, true, false, eqb, replicate, Option, Some, None, slice_get}
use Rattle.std.proofs.Math.Path.{refl, ap, fun_ext}
use Rattle.std.proofs.Common.{sym, ◌∙◌, zero-add, add-zero, eq-eqb, ne_eqb}
use Rattle.std.proofs.Math.Bool.{cond}
use mathlib.Core.List.{List, [], ◌∷◌, ◌++◌, append-nil}
use Prim.Native.Nat.{ℕ, zero, suc, ◌+◌, ◌*◌, ◌≤◌, ◌<◌, ◌^◌}
use native.Mathlib.Omega.{arith}
use Rattle.std.proofs.Math.ListN.{length, length-append}
use Rattle.std.proofs.Math.Seq.{append_snoc}
use Rattle.octets.specs.Bytes.{put, length-put}
use Rattle.octets.specs.Number.{num_at, put_num, length-put_num, num_at-put_num-same, num_at-put_num-other, num_at-put-zeros}
use Rattle.octets.specs.Only.{OnlyIn, only-zeros, only-put_num, only_then, only_wider, num_at-only}
use Rattle.octets.specs.Cases.{decide, equal}
use Rattle.octets.specs.Words.{table, table-blank}
use Rattle.metadata.specs.Tapes.{Tape}
use Rattle.metadata.specs.declared.choice.Side.{Side}
use Rattle.layout.specs.Names.{place_at, name, put_name}
use Rattle.layout.specs.Session.{mark, session_bytes, head_at, names_at, view_at, transaction_at, tape_at, tape_word, tracking_at, Begun, begun, sound}
use Rattle.layout.specs.SessionLaws.{ended-sound, begun-unmarked}
use Rattle.session.specs.declared.head.Head.{Head}
use Rattle.session.specs.declared.views.View.{View}
use Rattle.session.specs.declared.tracking.Tracking.TheVariants.{Untracked}
use Rattle.session.specs.Rows.{head_of, view_of, put_view, transaction_of, handle_of, ring_of, staged_of, tracking_of}
use Rattle.session.specs.RowLaws.{only-put_head, head-same}
use Rattle.session.specs.Begin.{ended, cleared, listed, listed_from, begin_session}
use Rattle.session.specs.Meaning.{Session, no_view, no_views, closed, no_handle, no_ring, untouched, session_of, running, list_from, list_in, with_name, with_view}
use Rattle.session.specs.MeaningLaws.{same-session, caches-only, session-put_name, session-put_view}
use Rattle.session.specs.KeepLaws.{begun-ready, begun-put_name, begun-put_view}

-- ---- the meaning of a new session

abbrev pub name_of : Option Tape → List ℕ
name_of None = []
name_of (Some t) = t.name

abbrev pub view_for : Option Tape → View
view_for None = no_view
view_for (Some t) = record { listed = true; len = t.len; start = t.start }

abbrev pub new_head : ℕ → Side → Head
new_head epoch side = record { epoch = epoch; cut = false; side = side; last_transaction = 0; last_handle = 0 }

-- the tapes of the list in their places, and no transaction, no handle, nothing staged and nothing tracked; the caches' bytes are what they were
unfoldable pub started : (ℕ → List ℕ) → ℕ → Side → List Tape → Session
started cache epoch side ts =
    record {
      head = new_head epoch side;
      name = λ p. name_of (slice_get ts p);
      view = λ w. cond (eqb w 17) (λ p. view_for (slice_get ts p)) no_views;
      transaction = λ t. closed;
      handle = λ p. no_handle;
      ring = λ p. no_ring;
      cache = cache;
      staged = λ p. untouched;
      tracking = λ i. Untracked;
    }

-- tapes whose names and numbers fit
pub record Listable (t : Tape) : Type 0 where
  pub short : length t.name ≤ 24
  pub len : t.len < 256 ^ 8
  pub start : t.start < 256 ^ 8

abbrev pub AllListable : List Tape → Type 0
AllListable ts = (i : ℕ) (t : Tape) → slice_get ts i ≡ Some t → Listable t

-- ---- everything but the rings cleared

module _ (s : List ℕ) (long : session_bytes ≤ length s) (epoch : ℕ) (side : Side) where
  pub only-cleared : OnlyIn 0 5960 s (cleared s epoch side)
  unfolding cleared
  only-cleared =
      let a = put s 0 (replicate 5960 0) in
      let b = put_num 8 a 0 mark in
      only_then 0 5960 s b _
      (only_then 0 5960 s a b (only-zeros s 0 5960) (only_wider 0 8 0 5960 a b (omega arith) (omega arith) (only-put_num 8 a 0 mark)))
      (only_wider head_at (head_at + 40) 0 5960 b _ (omega arith) (omega arith) (only-put_head b (new_head epoch side)))

  pub length-cleared : length (cleared s epoch side) ≡ length s
  length-cleared = only-cleared.long

  -- every number of the tables is 0
  pub word-cleared : (b : ℕ) → names_at ≤ b → b + 8 ≤ 5960 → num_at 8 (cleared s epoch side) b ≡ 0
  unfolding cleared
  word-cleared b l h =
      num_at-only head_at (head_at + 40) _ _ (only-put_head (put_num 8 (put s 0 (replicate 5960 0)) 0 mark) (new_head epoch side)) 8 b (λ q. omega arith)
      ∙ num_at-put_num-other 8 8 (put s 0 (replicate 5960 0)) 0 mark b (λ q. omega arith)
      ∙ num_at-put-zeros 8 s 0 5960 b (omega arith) (omega arith) (omega arith)

  pub mark-cleared : num_at 8 (cleared s epoch side) 0 ≡ mark
  unfolding cleared
  mark-cleared =
      num_at-only head_at (head_at + 40) _ _ (only-put_head (put_num 8 (put s 0 (replicate 5960 0)) 0 mark) (new_head epoch side)) 8 0 (λ q. absurd (omega arith))
      ∙ num_at-put_num-same 8 (put s 0 (replicate 5960 0)) 0 mark (simp length-put (omega arith)) (omega arith)

  pub begun-cleared : Begun (cleared s epoch side)
  begun-cleared =
      let same = length-cleared in
      let None : (b : ℕ) → names_at ≤ b → b + 8 ≤ 5960 → num_at 8 (cleared s epoch side) b ≡ 0 = word-cleared in
      record {
        long = omega arith;
        marked = mark-cleared;
        names = record { room = omega arith; short = λ i l. rw (None (place_at names_at i) (omega arith) (omega arith)) (omega arith) };
        readers = λ t l. rw (None (transaction_at t) (omega arith) (omega arith)) (omega arith);
        writer-apart = λ e. let z = None (transaction_at 16) (omega arith) (omega arith) in absurd (omega arith);
        writer = rw (None (transaction_at 16) (omega arith) (omega arith)) (omega arith);
        tapes = λ p l d. absurd (d (None (tape_at p) (omega arith) (omega arith)));
      }

  -- so each row is the one where there is nothing
  row-name : (i : ℕ) → i < 8 → name (cleared s epoch side) names_at i ≡ []
  unfolding name
  row-name i l = rw (word-cleared (place_at names_at i) (omega arith) (omega arith))

  row-view : (w : ℕ) → w < 18 → (p : ℕ) → p < 8 → view_of (cleared s epoch side) w p ≡ no_view
  unfolding view_of
  row-view w l p h =
      rw (word-cleared (view_at w p) (omega arith) (omega arith), word-cleared (view_at w p + 8) (omega arith) (omega arith), word-cleared (view_at w p + 16) (omega arith) (omega arith))

  row-transaction : (t : ℕ) → t < 17 → transaction_of (cleared s epoch side) t ≡ closed
  unfolding transaction_of
  row-transaction t l =
      rw (word-cleared (transaction_at t) (omega arith) (omega arith), word-cleared (transaction_at t + 8) (omega arith) (omega arith), word-cleared (transaction_at t + 16) (omega arith) (omega arith))

  tape-word : (p k : ℕ) → p < 8 → k < 12 → tape_word (cleared s epoch side) p k ≡ 0
  tape-word p k l h = word-cleared (tape_at p + k * 8) (omega arith) (omega arith)

  row-handle : (p : ℕ) → p < 8 → handle_of (cleared s epoch side) p ≡ no_handle
  unfolding handle_of
  row-handle p l = rw (word-cleared (tape_at p) (omega arith) (omega arith), tape-word p 1 l (omega arith), tape-word p 2 l (omega arith))

  row-ring : (p : ℕ) → p < 8 → ring_of (cleared s epoch side) p ≡ no_ring
  unfolding ring_of
  row-ring p l = rw (tape-word p 3 l (omega arith), tape-word p 4 l (omega arith), tape-word p 5 l (omega arith), tape-word p 6 l (omega arith))

  row-staged : (p : ℕ) → p < 8 → staged_of (cleared s epoch side) p ≡ untouched
  unfolding staged_of
  row-staged p l =
      rw (tape-word p 7 l (omega arith), tape-word p 8 l (omega arith), tape-word p 9 l (omega arith), tape-word p 10 l (omega arith), tape-word p 11 l (omega arith))

  row-tracking : (i : ℕ) → i < 64 → tracking_of (cleared s epoch side) i ≡ Untracked
  unfolding tracking_of
  row-tracking i l = rw (word-cleared (tracking_at i) (omega arith) (omega arith))

  row-head : epoch < 256 ^ 8 → head_of (cleared s epoch side) ≡ new_head epoch side
  unfolding cleared
  row-head f =
      head-same (put_num 8 (put s 0 (replicate 5960 0)) 0 mark) (new_head epoch side) (simp (length-put_num, length-put) (omega arith))
      (record { epoch = f; transaction = omega arith; handle = omega arith })

  pub session-cleared : epoch < 256 ^ 8 → session_of (cleared s epoch side) ≡ started (session_of s).cache epoch side []
  unfolding session_of started
  session-cleared f =
      let u = cleared s epoch side in
      same-session (session_of u) (started (session_of s).cache epoch side [])
      (row-head f)
      (table-blank 8 [] (name u names_at) row-name)
      (table-blank 18 no_views (λ w. table 8 no_view (view_of u w)) (λ w l. table-blank 8 no_view (view_of u w) (row-view w l))
      ∙ fun_ext (λ (w : ℕ). decide {P = no_views ≡ cond (eqb w 17) no_views no_views} (eqb w 17) (λ e. rw e) (λ e. rw e)))
      (table-blank 17 closed (transaction_of u) row-transaction)
      (table-blank 8 no_handle (handle_of u) row-handle)
      (table-blank 8 no_ring (ring_of u) row-ring)
      (caches-only 0 5960 s u only-cleared (λ l. omega arith))
      (table-blank 8 untouched (staged_of u) row-staged)
      (table-blank 64 Untracked (tracking_of u) row-tracking)

-- ---- the tapes of the list

-- a list with one more tape
pub elem-more : (xs : List Tape) (t : Tape) (q : ℕ) → slice_get (xs ++ (t ∷ [])) q ≡ cond (eqb q (length xs)) (Some t) (slice_get xs q)
elem-more [] t zero = refl
elem-more [] t (suc q) = rw (ne_eqb (suc q) 0 (λ e. absurd (omega arith)))
elem-more (x ∷ xs) t zero = rw (ne_eqb 0 (suc (length xs)) (λ e. absurd (omega arith)))
elem-more (x ∷ xs) t (suc q) =
    elem-more xs t q
    ∙ equal q (length xs)
    (λ (e : q ≡ length xs). rw (eq-eqb q (length xs) e, eq-eqb (suc q) (suc (length xs)) (ap suc e)))
    (λ (d : q ≢ length xs). rw (ne_eqb q (length xs) d, ne_eqb (suc q) (suc (length xs)) (λ e. d (omega arith))))

module _ (cache : ℕ → List ℕ) (epoch : ℕ) (side : Side) where
  -- one more tape in the next place
  started-more : (xs : List Tape) (t : Tape)
      → with_view (with_name (started cache epoch side xs) (length xs) t.name) 17 (length xs) (record { listed = true; len = t.len; start = t.start })
      ≡ started cache epoch side (xs ++ (t ∷ []))
  unfolding started
  started-more xs t =
      same-session _ _ refl
      (fun_ext (λ (p : ℕ). decide (eqb p (length xs)) (λ e. rw (elem-more xs t p, e)) (λ e. rw (elem-more xs t p, e))))
      (fun_ext
      (λ (w : ℕ).
      decide (eqb w 17)
      (λ e. rw e (fun_ext (λ (p : ℕ). decide (eqb p (length xs)) (λ k. rw (elem-more xs t p, k)) (λ k. rw (elem-more xs t p, k)))))
      (λ e. rw e)))
      refl refl refl refl refl refl

  pub session-listed_from : (s : List ℕ) (xs ts : List Tape) → Begun s → length xs + length ts ≤ 8 → AllListable ts
      → session_of s ≡ started cache epoch side xs → session_of (listed_from s (length xs) ts) ≡ started cache epoch side (xs ++ ts)
  unfolding listed_from listed
  session-listed_from s xs [] ok-before few fit e = e ∙ ap (started cache epoch side) (sym (append-nil xs))
  session-listed_from s xs (t ∷ ts) ok-before few fit e =
      let ok : Listable t = fit 0 t refl in
      let v : View = record { listed = true; len = t.len; start = t.start } in
      let p = length xs in
      let named = put_name s names_at p t.name in
      let b₁ : Begun named = begun-put_name s ok-before p t.name (omega arith) ok.short in
      let b₂ : Begun (put_view named 17 p v) = begun-put_view named b₁ 17 p v (omega arith) (omega arith) in
      let m : session_of (put_view named 17 p v) ≡ started cache epoch side (xs ++ (t ∷ []))
      = session-put_view named 17 p v (begun-ready named b₁) (omega arith) (omega arith) (record { len = ok.len; start = ok.start })
      ∙ ap (λ (n : Session). with_view n 17 p v)
      (session-put_name s p t.name (begun-ready s ok-before) (omega arith) ok.short ∙ ap (λ (n : Session). with_name n p t.name) e)
      ∙ started-more xs t in
      let l : length (xs ++ (t ∷ [])) ≡ p + 1 = length-append xs (t ∷ []) in
      ap (λ (k : ℕ). session_of (listed_from (put_view named 17 p v) k ts)) (sym l)
      ∙ session-listed_from (put_view named 17 p v) (xs ++ (t ∷ [])) ts b₂ (omega arith) (λ i u q. fit (suc i) u q) m
      ∙ ap (started cache epoch side) (append_snoc xs t ts)

-- the layout rule stays: of a list it looks at the names' lengths alone
abbrev pub AllShort : List Tape → Type 0
AllShort ts = (i : ℕ) (t : Tape) → slice_get ts i ≡ Some t → length t.name ≤ 24

begun-listed_from : (s : List ℕ) (p : ℕ) (ts : List Tape) → Begun s → p + length ts ≤ 8 → AllShort ts → Begun (listed_from s p ts)
unfolding listed_from listed
begun-listed_from s p [] ok-before few short = ok-before
begun-listed_from s p (t ∷ ts) ok-before few short =
    begun-listed_from (put_view (put_name s names_at p t.name) 17 p (record { listed = true; len = t.len; start = t.start })) (p + 1) ts
    (begun-put_view (put_name s names_at p t.name) (begun-put_name s ok-before p t.name (omega arith) (short 0 t refl)) 17 p (record { listed = true; len = t.len; start = t.start }) (omega arith) (omega arith))
    (omega arith) (λ i u q. short (suc i) u q)

-- ---- a new session

pub begun-begin : (s : List ℕ) → session_bytes ≤ length s → (epoch : ℕ) (side : Side) (ts : List Tape) → length ts ≤ 8 → AllShort ts → Begun (begin_session s epoch side ts)
unfolding begin_session
begun-begin s long epoch side ts few short = begun-listed_from (cleared s epoch side) 0 ts (begun-cleared s long epoch side) (omega arith) short

module _ (s : List ℕ) (long : session_bytes ≤ length s) (epoch : ℕ) (side : Side) (ts : List Tape) (few : length ts ≤ 8) (fit : AllListable ts) where
  pub session-begin : epoch < 256 ^ 8 → session_of (begin_session s epoch side ts) ≡ started (session_of s).cache epoch side ts
  unfolding begin_session
  session-begin f =
      session-listed_from (session_of s).cache epoch side (cleared s epoch side) [] ts (begun-cleared s long epoch side) (omega arith) fit
      (session-cleared s long epoch side f)

  pub running-begin : epoch < 256 ^ 8 → running (begin_session s epoch side ts) ≡ Some (started (session_of s).cache epoch side ts)
  unfolding running
  running-begin f = rw ((begun-begin s long epoch side ts few (λ i t e. (fit i t e).short)).marked, session-begin f)

-- and it has the list
module _ (cache : ℕ → List ℕ) (epoch : ℕ) (side : Side) (us : List Tape) where
  list-from : (k p : ℕ) (ts : List Tape) → length ts ≤ k → ((i : ℕ) → slice_get us (p + i) ≡ slice_get ts i) → list_from (started cache epoch side us) k p ≡ ts
  unfolding list_from started
  list-from zero p [] few same = refl
  list-from zero p (t ∷ ts) few same = absurd (omega arith)
  list-from (suc k) p [] few same =
      rw (sym (ap (λ (q : ℕ). slice_get us q) (add-zero p)) ∙ same 0)
      (list-from k (p + 1) [] (omega arith) (λ i. let e : p + 1 + i ≡ p + suc i = omega arith in ap (λ (q : ℕ). slice_get us q) e ∙ same (suc i)))
  list-from (suc k) p (t ∷ ts) few same =
      rw (sym (ap (λ (q : ℕ). slice_get us q) (add-zero p)) ∙ same 0)
      (ap (λ (l : List Tape). t ∷ l) (list-from k (p + 1) ts (omega arith) (λ i. let e : p + 1 + i ≡ p + suc i = omega arith in ap (λ (q : ℕ). slice_get us q) e ∙ same (suc i))))

  pub list-started : length us ≤ 8 → list_in (started cache epoch side us) ≡ us
  list-started few = list-from 8 0 us few (λ i. ap (λ (q : ℕ). slice_get us q) (zero-add i))

-- ---- an ended one

module _ (s : List ℕ) (long : session_bytes ≤ length s) where
  pub length-ended : length (ended s) ≡ length s
  unfolding ended
  length-ended = length-put_num 8 s 0 0

  mark-ended : num_at 8 (ended s) 0 ≡ 0
  unfolding ended
  mark-ended = num_at-put_num-same 8 s 0 0 (omega arith) (omega arith)

  pub sound-ended : sound (ended s) ≡ true
  sound-ended = ended-sound (ended s) (rw length-ended long) mark-ended

  pub running-ended : running (ended s) ≡ None
  unfolding running
  running-ended = rw mark-ended

  pub none-ended : begun (ended s) ≡ false
  none-ended = begun-unmarked (ended s) (λ e. let z = mark-ended in absurd (omega arith))
