-- The told writer is the one in the writer's place, and its commit is served, as long as epochs remain: with what else holds (`Furnished.antt`) all that a
-- commit checks is so. Assumes nothing.
use Rattle.std.specs.Prelude.{◌≡◌, refl, ◌≢◌, Bool, true, false, List, [], ◌∷◌, ℕ, ◌+◌, ◌<◌, length, Ok}
use Rattle.std.proofs.Common.{sym, ap, ◌∙◌, subst, true≢false, arith, eqb-true, le-ltb}
use Rattle.std.proofs.lemmas.Bool.{false≢true}
use Rattle.answers.specs.Answers.{code_of, value_of}
use Rattle.layout.specs.Disk.{slots}
use Rattle.disk.specs.Steps.{files}
use Rattle.session.specs.Rows.{head_of, transaction_of}
use Rattle.rolling_tape.specs.Removal.{areas}
use Rattle.beginning.specs.Transactions.{is_open_at}
use Rattle.staging.specs.Seeing.{is_append, writes, cuts}
use Rattle.appending.specs.Room.{lacking_all, no_room}
use Rattle.ending.specs.Committing.{commit_call}
use Rattle.lives.specs.Told.{Staging, idle, appending, cutting, Told}
use Rattle.lives.specs.Told as T
use Rattle.lives.specs.Invariant.{Phys, Good, build, erase_w}
use Rattle.lives.specs.Reads.{tied-blank}
use Rattle.seen.specs.Seen.{Seen}
use Rattle.ended.specs.Commitable.{append-bounded, truncate-bounded}
use Rattle.ended.proofs.Commitable.{commit-append-serves, commit-truncate-serves}
use Rattle.promises.specs.Calls.{commit, step}
use Rattle.promises.specs.Told.{Known, unknown}
use Rattle.promises.specs.Standing.{Lore, Running, Standing, running, formatted}
use Rattle.promises.proofs.Runs.{stands-last}
use Rattle.promises.specs.Promise.{ends, known, is_writer, CommitsServed}
use Rattle.seen.specs.Kinds.{writes-kind, writes_as, writes-open, cuts-as, cuts-open}
use Rattle.seen.specs.Reads.{seen-writes, seen-cuts}
use Rattle.promises.specs.Furnished.{Furnished}
use Rattle.promises.proofs.Furnished.{furnished}

-- the told writer is in the writer's place, as an append or as a truncate
module _ (d s n : List ℕ) (t : Told) (p : Phys) (seen : Seen d s n (build t p)) where
  pub told_writes : (m : ℕ) (h : Bool) (c : List ℕ) (b : ℕ) → t.writer ≡ appending m h c b → writes s m ≡ true
  told_writes m h c b e = seen-writes d s n (build t p) seen m t.epoch h (length c) b (ap (erase_w t.epoch) e)

  pub told_cuts : (m : ℕ) (c : List ℕ) → t.writer ≡ cutting m c → cuts s m ≡ true
  told_cuts m c e = seen-cuts d s n (build t p) seen m (length c) (ap (erase_w t.epoch) e)

  -- and has its number
  pub told-open : (k : ℕ) (w : Staging) → t.writer ≡ w → is_writer k w ≡ true → (is_open_at s 16 ≡ true) × ((transaction_of s 16).number ≡ k)
  told-open k idle e own = absurd (false≢true own)
  told-open k (appending m h c b) e own = let w = told_writes m h c b e in (writes-open s m w, writes_as s m w ∙ sym (eqb-true k m own))
  told-open k (cutting m c) e own = let w = told_cuts m c e in (cuts-open s m w, cuts-as s m w ∙ sym (eqb-true k m own))

module _ (d s : List ℕ) (K : Lore) (r : Running (areas d s) K) (f : Furnished (areas d s) K) (more : (head_of s).epoch ≢ 0xffff_ffff_ffff_ffff) where
  letters : (x : ℕ) (n : List ℕ) → 0 < length (x ∷ n)
  letters x n = omega arith

  -- of every name, the empty one too
  abbrev physical : List ℕ → Phys
  physical [] = tied-blank.phys
  physical (x ∷ n) = (r.holds (x ∷ n) (letters x n)).phys

  each : (n : List ℕ) → 0 < length n → Good (K n).tape (physical n) × Seen d s n (build (K n).tape (physical n))
  each [] long = absurd (omega arith)
  each (x ∷ n) long = let h = r.holds (x ∷ n) (letters x n) in (h.good, h.seen)

  append-commits : (t : ℕ) → writes s t ≡ true → (commit_call d s t).answer ≡ Ok ((head_of s).epoch + 1)
  unfolding no_room
  append-commits t w =
      commit-append-serves d s t r.orderly f.proper more w (le-ltb (slots d) (files d + lacking_all d s 8 0 8 0) (f.roomy (ap is_append (writes-kind s t w))))
      (append-bounded d s r.orderly (λ n. (K n).tape) physical each t w)

  truncate-commits : (t : ℕ) → cuts s t ≡ true → (commit_call d s t).answer ≡ Ok ((head_of s).epoch + 1)
  truncate-commits t c = commit-truncate-serves d s t r.orderly f.proper more c (truncate-bounded d s r.orderly (λ n. (K n).tape) physical each t c)

  -- with the number that is told
  told-commits : (t : ℕ) (n : List ℕ) (long : 0 < length n) (w : Staging) → (K n).tape.writer ≡ w → is_writer t w ≡ true → (commit_call d s t).answer ≡ Ok ((head_of s).epoch + 1)
  told-commits t n long idle e own = absurd (false≢true own)
  told-commits t n long (appending m h c st) e own =
      append-commits t
      (subst (λ (x : ℕ). writes s x ≡ true) (sym (eqb-true t m own)) (told_writes d s n (K n).tape (r.holds n long).phys (r.holds n long).seen m h c st e))
  told-commits t n long (cutting m c) e own =
      truncate-commits t
      (subst (λ (x : ℕ). cuts s x ≡ true) (sym (eqb-true t m own)) (told_cuts d s n (K n).tape (r.holds n long).phys (r.holds n long).seen m c e))

-- a disk that was just formatted has none
no-writer : (t : ℕ) (k : Known) → k ≡ unknown → is_writer t k.tape.writer ≡ false
unfolding unknown T.nothing
no-writer t k is = ap (λ (x : Known). is_writer t x.tape.writer) is

pub commits-served : CommitsServed
unfolding step
commits-served r n long t own more = by (stands-last r)
  where
    by : Standing (ends r) (known r) → ((step (commit t) (ends r)).code ≡ 0) × ((step (commit t) (ends r)).value ≡ (known r n).tape.epoch + 1)
    by (running q) =
        let d = (ends r).disk in
        let s = (ends r).session in
        let seen = (q.holds n long).seen in
        let done = told-commits d s (known r) q (furnished r q) (λ e. more (sym seen.epoch ∙ e)) t n long (known r n).tape.writer refl own in
        (ap code_of done, ap value_of done ∙ ap (λ (x : ℕ). x + 1) seen.epoch)
    by (formatted f) = absurd (true≢false (sym own ∙ no-writer t (known r n) (f.untold n long)))
