-- A shift, a put and a cut keep the starts that a truncate has staged (`Starts.antt`). Assumes nothing.
use Rattle.std.specs.Prelude.{◌≡◌, refl, ◌≢◌, true, List, ℕ}
use Rattle.std.proofs.Common.{sym, ap, ◌∙◌, true≢false, arith}
use Rattle.octets.specs.Cases.{decide, equal}
use Rattle.octets.specs.Number.{Bytes}
use Rattle.answers.specs.Answers.{code_of}
use Rattle.session.specs.declared.tape_rows.Staged.{Staged}
use Rattle.session.specs.Rows.{view_of, transaction_of, staged_of}
use Rattle.staging.specs.Seeing.{touched_as, is_truncate, writes}
use Rattle.staging.specs.Shifting.{shift_call}
use Rattle.staging.specs.Ways.{handle-found, touched-now}
use Rattle.appending.specs.Calls.{put_call}
use Rattle.lives.specs.Told.{Told}
use Rattle.lives.specs.Invariant.{Phys, Good, build}
use Rattle.seen.specs.Seen.{Seen, Handled}
use Rattle.seen.specs.Orderly.{Orderly}
use Rattle.seen.specs.Starts.{CutStarts}
use Rattle.seen.specs.Touching.{touched-row}
use Rattle.seen.specs.Stages.{shift-found, shift-on}
use Rattle.seen.specs.Cuts.{CutsTo, cuts-on, cuts-becomes}
use Rattle.seen.specs.Puts.{put-found, put_on_lem}
use Rattle.seen.specs.Kinds.{writes-kind, cuts-kind}

-- where an append is open nothing is asked
open-starts : (s u : List ℕ) (k : ℕ) → writes s k ≡ true → transaction_of u 16 ≡ transaction_of s 16 → CutStarts u
open-starts s u k w same is = absurd (true≢false (sym is ∙ rw (same, writes-kind s k w)))

pub shift-starts : (d s : List ℕ) (k h i : ℕ) (o : Orderly d s) (served : code_of (shift_call d s k h i).answer ≡ 0) → CutStarts (shift_call d s k h i).session
shift-starts d s k h i o served =
    open-starts s (shift_call d s k h i).session k (shift-found d s k h i o served).goes.writer ((shift-on d s k h i o served).frame.transactions 16 (omega arith))

pub put-starts : (d s : List ℕ) (o : Orderly d s) (k h : ℕ) (bs : List ℕ) (bytes : Bytes bs) (served : code_of (put_call d s k h bs).answer ≡ 0)
    (n : List ℕ) (entry : ℕ) (its : Handled s n h entry) (t : Told) (x : Phys) (good : Good t x) (seen : Seen d s n (build t x)) → CutStarts (put_call d s k h bs).session
put-starts d s o k h bs bytes served n entry its t x good seen =
    open-starts s (put_call d s k h bs).session k (put-found d s k h bs served).goes.writer
    ((put_on_lem d s o k h bs bytes served n entry its t x good seen).frame.transactions 16 (omega arith))

-- a cut, of whatever kind
pub cuts-starts : (d s : List ℕ) (o : Orderly d s) (k h : ℕ) (u : List ℕ) → CutsTo s k h u → CutStarts s → CutStarts u
cuts-starts d s o k h u c starts is q low touched =
    let f = (cuts-on d s o k h u c).frame in
    let b = cuts-becomes d s o k h u c in
    let p = c.tape in
    let before = starts (ap is_truncate (cuts-kind s k c.writer)) in
    let row : (touched_as s p).start ≡ (view_of s 16 p).start
    = decide (staged_of s p).touched
    (λ e. ap (λ (r : Staged). r.start) (touched-row s p e) ∙ before p (handle-found s h p c.found).low e)
    (λ e. sym (ap (λ (r : Staged). r.start) (touched-now s p (staged_of s p) refl (view_of s 16 p) refl e))) in
    rw (f.views 16 q (omega arith) low)
    (equal q p
    (λ (e : q ≡ p). rw (e, b.staged) row)
    (λ (e : q ≢ p). rw (b.others q low e).staged (before q low (rw (b.others q low e).staged at touched))))
