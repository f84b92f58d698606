-- Calls on a handle, in a running session: the handle's tape follows, every other tape is as it was. Assumes nothing.
use Rattle.std.specs.Prelude.{◌≡◌, refl, ◌≢◌, Bool, cond, not, List, ℕ, ◌*◌, ◌-◌, ◌/◌, eqb, Some, None, Ok, Err}
use Rattle.std.proofs.Common.{sym, ap, ◌∙◌, subst, inl, true≢false, arith, eq-eqb, ne_eqb, eqb-true}
use Rattle.octets.specs.Cases.{picked, and_both, and_r}
use Rattle.octets.specs.Number.{Bytes}
use Rattle.answers.specs.Answers.{OneEntry}
use Rattle.answers.specs.Answers.{code_of, entry_code_of, entry_value_of}
use Rattle.beginning.specs.Laws.{refusal-some}
use Rattle.layout.specs.Names.{name}
use Rattle.layout.specs.Session.{names_at, entry_size_of}
use Rattle.rolling_tape.specs.Removal.{areas}
use Rattle.staging.specs.Shifting.{shift_call}
use Rattle.staging.specs.Cutting.{cut_call, drop_call}
use Rattle.appending.specs.Calls.{put_call}
use Rattle.entries.specs.Popping.{pop_call}
use Rattle.entries.specs.Laws.{pop-none}
use Rattle.lives.specs.Life as L
use Rattle.lives.specs.Told.{Staging, idle, appending, cutting}
use Rattle.lives.specs.Told as T
use Rattle.lives.specs.Invariant.{Phys, build, erase_w}
use Rattle.seen.specs.Seen.{Handled}
use Rattle.seen.specs.Starts.{CutStarts}
use Rattle.seen.specs.Touching.{OnHandle, Leads, staged_len}
use Rattle.seen.specs.Handles.{handle-some, handle-letters, handle-handled}
use Rattle.seen.specs.Stages.{shift-found, shift-on, shift-own}
use Rattle.seen.specs.Cuts.{cut-to, cut_on_lem, cut-own, drop-to, drop-on, drop_own, pop-to, pop-on, pop-own, pop-index, pop-small}
use Rattle.seen.specs.Puts.{put-found, put_on_lem, put-own}
use Rattle.seen.specs.StageStarts.{shift-starts, put-starts, cuts-starts}
use Rattle.promises.specs.Told.{Known, Concern, apart, calls, is_ours, if_ours, staged_length, entries_left, last_after, tell_as}
use Rattle.promises.specs.Holds.{Holds, moved}
use Rattle.promises.specs.Standing.{Lore, Running}

-- the handle's tape has followed the call c, which is told with the value v
record Own (e u n : List ℕ) (k : Known) (x : Phys) (c : L.TapeCall) (v : ℕ) : Type 0 where
  w : ℕ
  leads : Leads e u n (L.step c (build k.tape x)) w
  says : T.told k.tape c (L.Done w) ≡ T.told k.tape c (L.Done v)
  last : last_after k.last c w ≡ last_after k.last c v

module _ (d s e u : List ℕ) (h : ℕ) (K : Lore) (r : Running (areas d s) K) (v : ℕ) (c : Known → L.TapeCall) (more : h ≢ 0) (on : OnHandle d s e u h) (starts : CutStarts u)
    (own : (n : List ℕ) → (p : Holds n (areas d s) (K n)) → Handled s n h (K n).entry → Own e u n (K n) p.phys (c (K n)) v) where
  ours : (n : List ℕ) → (p : Holds n (areas d s) (K n)) → h ≡ (K n).handle → Holds n (areas e u) (tell_as (K n) v (calls (c (K n))))
  ours n p is =
      let k = K n in
      let its : Handled s n h k.entry = subst (λ (x : ℕ). Handled s n x k.entry) (sym is) p.handled in
      let o = own n p its in
      moved n (areas d s) (areas e u) k (c k) v p
      (record {
        w = o.w;
        answer = o.leads.answer;
        seen = o.leads.seen;
        handle = h;
        entry = k.entry;
        handled = on.handled n h k.entry its;
        which = inl (is, refl);
        says = o.says;
        last = o.last;
      })

  others : (n : List ℕ) → (p : Holds n (areas d s) (K n)) → (K n).handle ≢ h → Holds n (areas e u) (K n)
  others n p differs =
      record {
        phys = p.phys;
        good = p.good;
        seen = on.others n (K n).handle (K n).entry p.handled differs (build (K n).tape p.phys) p.seen;
        handled = on.handled n (K n).handle (K n).entry p.handled;
        last = p.last;
      }

  handle-runs : Running (areas e u) (λ n. tell_as (K n) v (if_ours (K n) h (c (K n))))
  handle-runs =
      record {
        orderly = on.orderly;
        starts = starts;
        holds = λ n long.
            let p = r.holds n long in
            picked (λ (x : Concern). Holds n (areas e u) (tell_as (K n) v x)) (is_ours (K n) h) (calls (c (K n))) apart
            (λ q. ours n p (eqb-true h (K n).handle (and_r (not (eqb h 0)) (eqb h (K n).handle) q)))
            (λ q.
            others n p
            (λ (z : (K n).handle ≡ h).
            true≢false (sym (and_both (not (eqb h 0)) (eqb h (K n).handle) (ap not (ne_eqb h 0 more)) (eq-eqb h (K n).handle (sym z))) ∙ q)));
      }

-- ---- the length that the writer has staged, there and here

pub staged-same : (epoch : ℕ) (w : Staging) → staged_len (erase_w epoch w) ≡ staged_length w
staged-same epoch idle = refl
staged-same epoch (appending m h c s) = refl
staged-same epoch (cutting m c) = refl

-- ---- the calls

module _ (d s : List ℕ) (t h : ℕ) (K : Lore) (r : Running (areas d s) K) where
  pub shift_runs : (i v : ℕ) → code_of (shift_call d s t h i).answer ≡ 0
      → Running (areas d (shift_call d s t h i).session) (λ n. tell_as (K n) v (if_ours (K n) h (L.shift t (i * (K n).entry))))
  shift_runs i v served =
      let o = r.orderly in
      let f = shift-found d s t h i o served in
      handle-runs d s d _ h K r v (λ k. L.shift t (i * k.entry)) (handle-some s h f.place f.goes.found) (shift-on d s t h i o served) (shift-starts d s t h i o served)
      (λ n p its. record { w = 0; leads = shift-own d s t h i o served n (K n).entry its (build (K n).tape p.phys) p.seen; says = refl; last = refl })

  pub cut-runs : (i v : ℕ) → code_of (cut_call d s t h i).answer ≡ 0
      → Running (areas d (cut_call d s t h i).session) (λ n. tell_as (K n) v (if_ours (K n) h (L.cut t (i * (K n).entry))))
  cut-runs i v served =
      let o = r.orderly in
      let c = cut-to d s t h i served in
      handle-runs d s d _ h K r v (λ k. L.cut t (i * k.entry)) (handle-some s h c.tape c.found) (cut_on_lem d s t h i served o) (cuts-starts d s o t h _ c r.starts)
      (λ n p its. record { w = 0; leads = cut-own d s t h i served o n (K n).entry its (K n).tape p.phys p.good p.seen; says = refl; last = refl })

  pub drop-entries-runs : (i v : ℕ) → code_of (drop_call d s t h i).answer ≡ 0
      → Running (areas d (drop_call d s t h i).session) (λ n. tell_as (K n) v (if_ours (K n) h (L.cut t (entries_left (K n) i * (K n).entry))))
  drop-entries-runs i v served =
      let o = r.orderly in
      let c = drop-to d s t h i served in
      handle-runs d s d _ h K r v (λ k. L.cut t (entries_left k i * k.entry)) (handle-some s h c.tape c.found) (drop-on d s t h i served o) (cuts-starts d s o t h _ c r.starts)
      (λ n p its.
      let k = K n in
      record {
        w = 0;
        leads = subst (λ (x : ℕ). Leads d (drop_call d s t h i).session n (L.step (L.cut t ((x / k.entry - i) * k.entry)) (build k.tape p.phys)) 0)
            (staged-same k.tape.epoch k.tape.writer) (drop_own d s t h i served o n k.entry its k.tape p.phys p.good p.seen);
        says = refl;
        last = refl;
      })

  -- the last entry popped
  popped-runs : (buffer : List ℕ) (i v : ℕ) → (pop_call d s t h buffer).answer ≡ Ok (Some i)
      → Running (areas d (pop_call d s t h buffer).session) (λ n. tell_as (K n) v (if_ours (K n) h (L.cut t (entries_left (K n) 1 * (K n).entry))))
  popped-runs buffer i v served =
      let o = r.orderly in
      let c = pop-to d s t h buffer i served in
      handle-runs d s d _ h K r v (λ k. L.cut t (entries_left k 1 * k.entry)) (handle-some s h c.tape c.found) (pop-on d s t h buffer i served o) (cuts-starts d s o t h _ c r.starts)
      (λ n p its.
      let k = K n in
      let st = build k.tape p.phys in
      record {
        w = 0;
        leads = subst (λ (x : ℕ). Leads d (pop_call d s t h buffer).session n (L.step (L.cut t (x * k.entry)) st) 0)
            (pop-index d s t h buffer i served o n k.entry its st p.seen ∙ ap (λ (x : ℕ). x / k.entry - 1) (staged-same k.tape.epoch k.tape.writer))
            (pop-own d s t h buffer i served o n k.entry its k.tape p.phys p.good p.seen);
        says = refl;
        last = refl;
      })

  pub pop-runs : (buffer : List ℕ) → entry_code_of (pop_call d s t h buffer).answer ≡ 0
      → Running (areas d (pop_call d s t h buffer).session)
      (λ n. tell_as (K n) (entry_value_of (pop_call d s t h buffer).answer)
      (cond (eqb (entry_value_of (pop_call d s t h buffer).answer) 0xffff_ffff_ffff_ffff) apart (if_ours (K n) h (L.cut t (entries_left (K n) 1 * (K n).entry)))))
  pop-runs buffer served = by (pop_call d s t h buffer).answer refl served
    where
      by : (a : OneEntry) → (pop_call d s t h buffer).answer ≡ a → entry_code_of a ≡ 0
          → Running (areas d (pop_call d s t h buffer).session)
          (λ n. tell_as (K n) (entry_value_of a) (cond (eqb (entry_value_of a) 0xffff_ffff_ffff_ffff) apart (if_ours (K n) h (L.cut t (entries_left (K n) 1 * (K n).entry)))))
      by (Ok (Some i)) e z =
          subst (λ (b : Bool). Running (areas d (pop_call d s t h buffer).session) (λ n. tell_as (K n) i (cond b apart (if_ours (K n) h (L.cut t (entries_left (K n) 1 * (K n).entry))))))
          (sym (ne_eqb i 0xffff_ffff_ffff_ffff (λ q. omega (arith, pop-small d s t h buffer i e r.orderly)))) (popped-runs buffer i i e)
      by (Ok None) e z = subst (λ (u : List ℕ). Running (areas d u) K) (sym (pop-none d s t h buffer e).0) r
      by (Err why) e z = absurd (refusal-some why z)

  -- the handle's own tape has to be in order too, for the others to be left alone
  pub put-runs : (bs : List ℕ) (v : ℕ) → Bytes bs → code_of (put_call d s t h bs).answer ≡ 0
      → Running (areas (put_call d s t h bs).disk (put_call d s t h bs).session) (λ n. tell_as (K n) v (if_ours (K n) h (L.put t bs)))
  put-runs bs v bytes served =
      let o = r.orderly in
      let f = put-found d s t h bs served in
      let at = f.goes.found in
      let n₀ = name s names_at f.tape in
      let its₀ = handle-handled d s o h f.tape at in
      let p₀ = r.holds n₀ (handle-letters d s o h f.tape at) in
      handle-runs d s _ _ h K r v (λ k. L.put t bs) (handle-some s h f.tape at)
      (put_on_lem d s o t h bs bytes served n₀ (entry_size_of s f.tape) its₀ (K n₀).tape p₀.phys p₀.good p₀.seen)
      (put-starts d s o t h bs bytes served n₀ (entry_size_of s f.tape) its₀ (K n₀).tape p₀.phys p₀.good p₀.seen)
      (λ n p its.
      record {
        w = staged_len (build (K n).tape p.phys).writer;
        leads = put-own d s o t h bs bytes served n (K n).entry its (K n).tape p.phys p.good p.seen;
        says = refl;
        last = refl;
      })
