-- A tape opened in a running session: its own name, and every other. Assumes nothing.
use Rattle.std.specs.Prelude.{◌≡◌, ◌≢◌, Bool, false, cond, List, ℕ, ◌^◌, ◌<◌, length, Option, Some, None}
use Rattle.std.proofs.Math.Path.{refl, sym, ap}
use Rattle.std.proofs.Common.{◌∙◌, subst, true≢false, arith, eq-eqb}
use Rattle.std.proofs.Math.Bool.{true}
use Rattle.std.proofs.lemmas.Bool.{false≢true}
use Rattle.octets.specs.Cases.{picked, decide}
use Rattle.octets.specs.Compare.{same_bytes, same_true, same_refl}
use Rattle.octets.specs.Number.{Bytes}
use Rattle.answers.specs.Answers.{code_of, value_of}
use Rattle.layout.specs.NamesLaws.{name-low}
use Rattle.layout.specs.Session.{names_at}
use Rattle.session.specs.declared.views.View.{View}
use Rattle.session.specs.Rows.{view_of, transaction_of, staged_of}
use Rattle.rolling_tape.specs.Removal.{areas}
use Rattle.beginning.specs.Transactions.{is_open_at}
use Rattle.staging.specs.Seeing.{seen_by, is_truncate}
use Rattle.opening.specs.Calls.{open_call}
use Rattle.lives.specs.Life as L
use Rattle.lives.specs.Told.{Staging, idle, appending, cutting, is_here}
use Rattle.lives.specs.Invariant.{build, erase_w}
use Rattle.seen.specs.Orderly.{Orderly}
use Rattle.seen.specs.Seen.{place_of, staged_in, writer_in, view_in, Seen, Handled}
use Rattle.seen.specs.Shown.{shown-keeps}
use Rattle.opened.specs.OpensServed.{open-served}
use Rattle.opened.specs.Opens.{open_memory, open-answers, open-orderly, open-writer, open-seen-other, open-handled-other, open-handled, open-seen, open-steps}
use Rattle.promises.specs.Told.{Concern, apart, opens, tell_as, OldSize}
use Rattle.promises.specs.Holds.{Holds, followed}
use Rattle.promises.specs.Standing.{Lore, Running}

-- ---- an append sees what is listed

module _ (d s n : List ℕ) (o : Orderly d s) (st : L.Store) (seen : Seen d s n st) (going : is_open_at s 16 ≡ true) (listed : st.listed ≡ true) where
  listed-staged : (staged_in s (place_of s n)).listed ≡ true
  unfolding seen_by
  listed-staged = by (place_of s n) refl (ap (λ (v : View). v.listed) seen.list ∙ listed)
    where
      by : (found : Option ℕ) → place_of s n ≡ found → (view_in s 17 found).listed ≡ true → (staged_in s found).listed ≡ true
      by (Some p) e here =
          shown-keeps (seen_by s 16 p)
          ∙ (picked (λ (v : View). v.listed ≡ true) (staged_of s p).touched (record { listed = true; len = (staged_of s p).len; start = (staged_of s p).start }) (view_of s 16 p)
          (λ t. refl)
          (λ t. ap (λ (v : View). v.listed) (o.writer-view going p (name-low s names_at n p e)) ∙ sym (shown-keeps (view_of s 17 p)) ∙ here))
      by None e here = absurd (false≢true here)

-- a writer that is erased to an append is that append
here-is : (epoch t : ℕ) (here : Bool) (began len start : ℕ) (w : Staging) → erase_w epoch w ≡ L.appending t began here len start → here ≡ true → is_here t w ≡ true
here-is epoch t here began len start idle e h = absurd (let z : ◌≡◌ {A = ℕ} 0 1 = cc in omega arith)
here-is epoch t here began len start (appending m x c s) e h =
    let number : t ≡ m = cc in
    let same : x ≡ true = cc in
    rw (eq-eqb t m number, same)
here-is epoch t here began len start (cutting m c) e h = absurd (let z : ◌≡◌ {A = ℕ} 0 1 = cc in omega arith)

module _ (d s : List ℕ) (t : ℕ) (wanted : List ℕ) (entry size cache start : ℕ) (K : Lore) (r : Running (areas d s) K) (letters : Bytes wanted) (small : start < 2 ^ 64)
    (served : code_of (open_call d s t wanted entry size cache start).answer ≡ 0) where
  abbrev e : List ℕ
  e = (open_call d s t wanted entry size cache start).disk

  abbrev u : List ℕ
  u = (open_call d s t wanted entry size cache start).session

  abbrev v : ℕ
  v = value_of (open_call d s t wanted entry size cache start).answer

  abbrev here : Concern
  here = opens t entry size cache start

  sees : 0 < length wanted → (K wanted).tape.listed ≡ true → is_here t (K wanted).tape.writer ≡ true
  unfolding is_open_at
  sees long listed =
      let o = r.orderly in
      let h = r.holds wanted long in
      let sv = open-served d s t wanted entry size cache start o letters small served in
      let there = listed-staged d s wanted o (build (K wanted).tape h.phys) h.seen (rw sv.kind) listed in
      let writer : writer_in s (place_of s wanted) ≡ erase_w (K wanted).tape.epoch (K wanted).tape.writer = h.seen.writer in
      here-is (K wanted).tape.epoch t (staged_in s (place_of s wanted)).listed (transaction_of s 16).epoch (staged_in s (place_of s wanted)).len (staged_in s (place_of s wanted)).start
      (K wanted).tape.writer (sym writer ∙ rw (sv.kind, sv.number)) there

  own : 0 < length wanted → OldSize (K wanted) here → Holds wanted (areas e u) (tell_as (K wanted) v here)
  own long old =
      let o = r.orderly in
      let h = r.holds wanted long in
      let k = K wanted in
      let st = build k.tape h.phys in
      let sized : k.tape.listed ≡ true → size ≡ k.tape.size = λ l. old (sees long l) in
      let f = followed wanted (areas d s) (areas e u) k (L.open' t size cache start (open_memory s wanted)) v 1 h
      (open-steps d s t wanted entry size cache start o letters small served st h.seen sized)
      (open-seen d s t wanted entry size cache start o letters small served st h.seen sized) refl refl in
      record {
        phys = f.phys;
        good = f.good;
        seen = f.seen;
        handled =
            subst (λ (x : ℕ). Handled u wanted x entry) (sym (ap value_of (open-answers d s t wanted entry size cache start o letters small served)))
            (open-handled d s t wanted entry size cache start o letters small served);
        last = f.count;
      }

  other : (n : List ℕ) → 0 < length n → n ≢ wanted → Holds n (areas e u) (K n)
  other n long differs =
      let o = r.orderly in
      let h = r.holds n long in
      record {
        phys = h.phys;
        good = h.good;
        seen = open-seen-other d s t wanted entry size cache start o letters small served n differs long (build (K n).tape h.phys) h.seen;
        handled = open-handled-other d s t wanted entry size cache start o letters small served n differs long (K n).handle (K n).entry h.handled;
        last = h.last;
      }

  pub open-runs : ((n : List ℕ) → OldSize (K n) (cond (same_bytes wanted n) here apart)) → Running (areas e u) (λ n. tell_as (K n) v (cond (same_bytes wanted n) here apart))
  open-runs old =
      record {
        orderly = open-orderly d s t wanted entry size cache start r.orderly letters small served;
        starts = λ kind p low touched. absurd (true≢false (sym kind ∙ ap is_truncate (open-writer d s t wanted entry size cache start r.orderly letters small served)));
        holds = λ n long.
            decide (same_bytes wanted n)
            (λ (q : same_bytes wanted n ≡ true).
            let same : wanted ≡ n = same_true wanted n q in
            subst (λ (m : List ℕ). Holds m (areas e u) (tell_as (K m) v (cond (same_bytes wanted m) here apart))) same
            (rw (same_refl wanted) (own (subst (λ (m : List ℕ). 0 < length m) (sym same) long) (rw (same_refl wanted) at (old wanted)))))
            (λ (q : same_bytes wanted n ≡ false).
            rw q (other n long (λ (z : n ≡ wanted). true≢false (sym (subst (λ (m : List ℕ). same_bytes wanted m ≡ true) (sym z) (same_refl wanted)) ∙ q))));
      }
