-- A commit in a running session. Assumes nothing.
use Rattle.std.specs.Prelude.{◌≡◌, refl, true, false, List, ℕ, ◌+◌, ◌<◌, length}
use Rattle.std.proofs.Common.{ap, ◌∙◌, inl}
use Rattle.octets.specs.Cases.{decide}
use Rattle.answers.specs.Answers.{code_of}
use Rattle.rolling_tape.specs.Removal.{areas}
use Rattle.staging.specs.Seeing.{writes}
use Rattle.ending.specs.Committing.{commit_call}
use Rattle.lives.specs.Life as L
use Rattle.lives.specs.Told.{Told}
use Rattle.lives.specs.Invariant.{Phys, Good, build}
use Rattle.seen.specs.Orderly.{Orderly}
use Rattle.seen.specs.Seen.{Seen, Handled}
use Rattle.seen.specs.Starts.{CutStarts, shut-starts}
use Rattle.ended.specs.Flushes.{Inside}
use Rattle.ended.specs.AppendOrder.{shut, commit-append-orderly, commit-append-handled}
use Rattle.ended.specs.CommitAppends.{commit-append-seen, commit-append-answer, inside-all}
use Rattle.ended.specs.CutLeaves.{commit-cut-orderly}
use Rattle.ended.specs.CommitCuts.{commit-cut-starts, commit-cut-seen, commit-cut-answer, commit-cut-handled}
use Rattle.promises.specs.Told.{tell_as, calls}
use Rattle.promises.specs.Holds.{moved}
use Rattle.promises.specs.Standing.{Lore, Running}

-- a commit that the areas have followed, of every tape
pub record Committed (d s e u : List ℕ) (k : ℕ) (K : Lore) : Type 0 where
  pub orderly : Orderly e u
  pub closed : CutStarts u
  pub handled : (n : List ℕ) (handle entry : ℕ) → Handled s n handle entry → Handled u n handle entry
  pub seen : (n : List ℕ) → 0 < length n → (t : Told) (p : Phys) → Good t p → Seen d s n (build t p) → Seen e u n (L.step (L.commit k) (build t p)).store
  pub answer : (n : List ℕ) → 0 < length n → (t : Told) (p : Phys) → Good t p → Seen d s n (build t p) → (L.step (L.commit k) (build t p)).answer ≡ L.Done (t.epoch + 1)

pub committed-runs : (d s e u : List ℕ) (k v : ℕ) (K : Lore) → Running (areas d s) K → Committed d s e u k K → Running (areas e u) (λ n. tell_as (K n) v (calls (L.commit k)))
committed-runs d s e u k v K r c =
    record {
      orderly = c.orderly;
      starts = c.closed;
      holds = λ n long.
          let h = r.holds n long in
          let x = K n in
          moved n (areas d s) (areas e u) x (L.commit k) v h
          (record {
            w = x.tape.epoch + 1;
            answer = c.answer n long x.tape h.phys h.good h.seen;
            seen = c.seen n long x.tape h.phys h.good h.seen;
            handle = x.handle;
            entry = x.entry;
            handled = c.handled n x.handle x.entry h.handled;
            which = inl (refl, refl);
            says = refl;
            last = refl;
          });
    }

module _ (d s : List ℕ) (k : ℕ) (K : Lore) (r : Running (areas d s) K) (served : code_of (commit_call d s k).answer ≡ 0) where
  abbrev e : List ℕ
  e = (commit_call d s k).disk

  abbrev u : List ℕ
  u = (commit_call d s k).session

  -- of an append; the writes of all tapes need a word on each
  append-committed : writes s k ≡ true → Committed d s e u k K
  append-committed w =
      let o = r.orderly in
      let inside : Inside s = inside-all d s k w o (λ n long. ((K n).tape, ((r.holds n long).phys, ((r.holds n long).good, (r.holds n long).seen)))) in
      record {
        orderly = commit-append-orderly d s o k w served inside;
        closed = shut-starts u (shut d s o k w served);
        handled = commit-append-handled d s o k w served;
        seen = λ n long t p good seen. commit-append-seen d s o k w served inside n (build t p) seen;
        answer = λ n long t p good seen. commit-append-answer d s o k w served inside n (build t p) seen;
      }

  -- of a truncate
  truncate-committed : writes s k ≡ false → Committed d s e u k K
  truncate-committed other =
      let o = r.orderly in
      record {
        orderly = commit-cut-orderly d s o k served other;
        closed = commit-cut-starts d s o k served other;
        handled = λ n handle entry h. commit-cut-handled d s o k served other n handle entry h;
        seen = λ n long t p good seen. commit-cut-seen d s o k served other n r.starts t p good seen;
        answer = λ n long t p good seen. commit-cut-answer d s o k served other n (build t p) seen ∙ ap (λ (x : ℕ). L.Done (x + 1)) seen.epoch;
      }

  pub commit-runs : (v : ℕ) → Running (areas e u) (λ n. tell_as (K n) v (calls (L.commit k)))
  commit-runs v =
      decide (writes s k)
      (λ (w : writes s k ≡ true). committed-runs d s e u k v K r (append-committed w))
      (λ (w : writes s k ≡ false). committed-runs d s e u k v K r (truncate-committed w))
