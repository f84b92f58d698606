-- After any calls of a running session: the file size that is told of a tape that is listed or open is one that an open takes. Assumes nothing.
use Rattle.std.specs.Prelude.{◌≡◌, refl, Bool, true, false, cond, List, ℕ, ◌≤◌, ◌<◌, ◌^◌, eqb, length}
use Rattle.std.proofs.Common.{sym, ◌∙◌, subst, arith}
use Rattle.std.proofs.lemmas.Bool.{false≢true}
use Rattle.octets.specs.Cases.{picked, and_l}
use Rattle.octets.specs.Compare.{same_bytes}
use Rattle.octets.specs.Number.{Bytes}
use Rattle.answers.specs.Answers.{code_of}
use Rattle.rolling_tape.specs.Removal.{Areas, areas}
use Rattle.opening.specs.Calls.{open_call}
use Rattle.opening.specs.Shape.{opening_of}
use Rattle.lives.specs.Life as L
use Rattle.lives.specs.Told.{Told, Staging, idle, appending, cutting, is_here, told_commit, told_drop, published}
use Rattle.lives.specs.Told as T
use Rattle.lives.specs.Invariant.{Phys, GoodIf}
use Rattle.opened.specs.OpensServed.{open-served}
use Rattle.promises.specs.Calls.{Call, format, store, append, reader, truncate, open_tape, append_entries, shift_start, truncate_tape, drop_entries, pop_entry, read_entries, read_entry, tape_len, tape_start, tape_exists, commit, drop_transaction, Fits, perform}
use Rattle.promises.specs.Told.{Known, unknown, Concern, apart, calls, opens, is_ours, if_ours, concerns, OldSize, tell_as}
use Rattle.promises.specs.Standing.{Lore, Running}
use Rattle.promises.specs.Always.{is_inside, lore, Lasts}

-- of a tape that is listed, and of one that is open
abbrev pub SizedTape : Told → Type 0
SizedTape t = (t.listed ≡ true → t.size ≤ 4096) × (t.live ≡ true → t.size ≤ 4096)

abbrev pub Sized : Known → Type 0
Sized k = SizedTape k.tape

unknown-sized : Sized unknown
unfolding unknown T.nothing
unknown-sized = ((λ e. absurd (false≢true e)), (λ e. absurd (false≢true e)))

-- a tape that an append is to list is listed already, or open
commit-sized : (b : Bool) (t : Told) (p : Phys) (k : ℕ) → t.live ≡ b → GoodIf b t p → SizedTape t → (w : Staging) → t.writer ≡ w → SizedTape (told_commit k t w)
commit-sized b t p k live good sized idle e = sized
commit-sized true t p k live good sized (appending m h c s) e =
    picked SizedTape (eqb k m) (published t false h c s) t (λ q. ((λ here. sized.1 live), sized.1)) (λ q. sized)
commit-sized false t p k live good sized (appending m h c s) e =
    let rests : h ≡ t.listed = (rw e at good.staged).0 in
    picked SizedTape (eqb k m) (published t false h c s) t (λ q. ((λ here. sized.0 (sym rests ∙ here)), sized.1)) (λ q. sized)
commit-sized b t p k live good sized (cutting m c) e = picked SizedTape (eqb k m) _ t (λ q. sized) (λ q. sized)

drop-sized : (t : Told) (k : ℕ) → SizedTape t → (w : Staging) → SizedTape (told_drop k t w)
drop-sized t k sized idle = sized
drop-sized t k sized (appending m h c s) =
    picked SizedTape (eqb k m) _ _ (λ q. (sized.0, (λ e. sized.1 (and_l t.live t.listed e)))) (λ q. sized)
drop-sized t k sized (cutting m c) = picked SizedTape (eqb k m) _ _ (λ q. sized) (λ q. sized)

module _ (d s : List ℕ) (K : Lore) (r : Running (areas d s) K) (n : List ℕ) (long : 0 < length n) where
  abbrev k : Known
  k = K n

  ours-sized : (h v : ℕ) (c : L.TapeCall) → Sized k → Sized (tell_as k v (calls c)) → Sized (tell_as k v (if_ours k h c))
  ours-sized h v c was now = picked (λ (x : Concern). Sized (tell_as k v x)) (is_ours k h) (calls c) apart (λ q. now) (λ q. was)

  -- the size that it was made with is the one given
  open-sized : (t : ℕ) (wanted : List ℕ) (entry size cache start v : ℕ) → size ≤ 4096 → OldSize k (cond (same_bytes wanted n) (opens t entry size cache start) apart) → Sized k
      → Sized (tell_as k v (cond (same_bytes wanted n) (opens t entry size cache start) apart))
  open-sized t wanted entry size cache start v small =
      picked (λ (x : Concern). OldSize k x → Sized k → Sized (tell_as k v x)) (same_bytes wanted n) (opens t entry size cache start) apart
      (λ same old sized.
      let now : cond (is_here t k.tape.writer) k.tape.size size ≤ 4096
      = picked (λ (x : ℕ). x ≤ 4096) (is_here t k.tape.writer) k.tape.size size (λ here. omega (arith, old here)) (λ here. small) in
      ((λ e. now), (λ e. now)))
      (λ other old sized. sized)

  shaped-size : (t : ℕ) (wanted : List ℕ) (entry size cache start : ℕ) → Bytes wanted → start < 2 ^ 64 → code_of (open_call d s t wanted entry size cache start).answer ≡ 0 → size ≤ 4096
  unfolding opening_of
  shaped-size t wanted entry size cache start bytes small served =
      (open-served d s t wanted entry size cache start r.orderly bytes small served).shaped.file-small

  kept-sized : Sized k → (c : Call) → is_inside c ≡ true → Fits c → (perform c d s).code ≡ 0 → OldSize k (concerns n k c (perform c d s).value) → Sized (lore d s K c n)
  kept-sized z (format i) is fits ok old = absurd (false≢true is)
  kept-sized z store is fits ok old = absurd (false≢true is)
  kept-sized z append is fits ok old = z
  kept-sized z reader is fits ok old = z
  kept-sized z truncate is fits ok old = z
  kept-sized z (open_tape t wanted entry size cache start) is fits ok old =
      open-sized t wanted entry size cache start (perform (open_tape t wanted entry size cache start) d s).value
      (shaped-size t wanted entry size cache start fits.1.0 fits.1.1.1.1.1 ok) old z
  kept-sized z (append_entries t h bs) is fits ok old = ours-sized h (perform (append_entries t h bs) d s).value (L.put t bs) z z
  kept-sized z (shift_start t h i) is fits ok old = ours-sized h (perform (shift_start t h i) d s).value (L.shift t _) z z
  kept-sized z (truncate_tape t h i) is fits ok old = ours-sized h (perform (truncate_tape t h i) d s).value (L.cut t _) z z
  kept-sized z (drop_entries t h i) is fits ok old = ours-sized h (perform (drop_entries t h i) d s).value (L.cut t _) z z
  kept-sized z (pop_entry t h buffer) is fits ok old =
      let v = (perform (pop_entry t h buffer) d s).value in
      picked (λ (x : Concern). Sized (tell_as k v x)) (eqb v 0xffff_ffff_ffff_ffff) apart _ (λ q. z) (λ q. ours-sized h v (L.cut t _) z z)
  kept-sized z (read_entries t h i m buffer) is fits ok old = z
  kept-sized z (read_entry t h i buffer) is fits ok old = z
  kept-sized z (tape_len t h) is fits ok old = z
  kept-sized z (tape_start t h) is fits ok old = z
  kept-sized z (tape_exists t wanted) is fits ok old = z
  kept-sized z (commit t) is fits ok old = commit-sized k.tape.live k.tape (r.holds n long).phys t refl (r.holds n long).good z k.tape.writer refl
  kept-sized z (drop_transaction t) is fits ok old = drop-sized k.tape t z k.tape.writer

abbrev pub SizedIn : Areas → Lore → Type 0
SizedIn a K = (n : List ℕ) → 0 < length n → Sized (K n)

-- a new session has no open tape
stored-sized : (k : Known) (v : ℕ) → Sized k → Sized (tell_as k v (calls L.restart))
stored-sized k v sized = (sized.0, (λ e. absurd (false≢true e)))

pub sizes : Lasts SizedIn
sizes =
    record {
      begins = λ d s K f ok n long. stored-sized (K n) (perform store d s).value (subst Sized (sym (f.untold n long)) unknown-sized);
      renews = λ d s K r sized ok n long. stored-sized (K n) (perform store d s).value (sized n long);
      keeps = λ d s K r sized c is fits ok old n long. kept-sized d s K r n long (sized n long) c is fits ok (old n);
    }
