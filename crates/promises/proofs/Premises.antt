-- The premises of the promise can be met: a format of areas that are long enough is served, and whoever gives each name one file size reopens every tape with
-- its old one, whatever is answered. Assumes nothing.
use Rattle.std.specs.Prelude.{◌≡◌, refl, Bool, true, false, cond, List, [], ◌∷◌, ℕ, ◌*◌, ◌≤◌, eqb, length}
use Rattle.std.proofs.Common.{sym, ap, ◌∙◌}
use Rattle.std.proofs.lemmas.Bool.{false≢true}
use Rattle.octets.specs.Cases.{picked, and_r}
use Rattle.octets.specs.Compare.{same_bytes, same_true}
use Rattle.layout.specs.Disk.{data_at}
use Rattle.layout.specs.Session.{session_bytes}
use Rattle.octets.specs.Number.{Bytes}
use Rattle.rolling_tape.specs.Removal.{areas}
use Rattle.lives.specs.Life as L
use Rattle.lives.specs.Told.{Told, Staging, idle, appending, cutting, is_here, told_put, told_shift, told_cut, told_commit, told_drop, published, nothing}
use Rattle.lives.specs.Told as T
use Rattle.promises.specs.Calls.{Call, format, store, append, reader, truncate, open_tape, append_entries, shift_start, truncate_tape, drop_entries, pop_entry, read_entries, read_entry, tape_len, tape_start, tape_exists, commit, drop_transaction, step, Exchange, history, AllFit}
use Rattle.promises.specs.Promise.{Run}
use Rattle.promises.specs.Told.{Known, unknown, Concern, apart, anew, opens, calls, if_ours, is_ours, entries_left, concerns, tell_as, tell_one, OldSize, OldSizes}
use Rattle.promises.specs.Premises.{served-format, HasSize, OneSize, AllSized, history-sized}

-- ---- one tape: where it is seen, its size is the one given

-- the append sees it
abbrev sees : Staging → Bool
sees idle = false
sees (appending m here c start) = here
sees (cutting m c) = false

record Sized (size : ℕ) (t : Told) : Type 0 where
  listed : t.listed ≡ true → t.size ≡ size
  here : sees t.writer ≡ true → t.size ≡ size

here-sees : (k : ℕ) (w : Staging) → is_here k w ≡ true → sees w ≡ true
here-sees k idle e = e
here-sees k (appending m h c s) e = and_r (eqb k m) h e
here-sees k (cutting m c) e = e

put-sees : (k : ℕ) (d : List ℕ) (w : Staging) → sees (told_put k d w) ≡ sees w
put-sees k d idle = refl
put-sees k d (appending m h c s) = picked (λ (w : Staging). sees w ≡ h) (eqb k m) _ _ (λ e. refl) (λ e. refl)
put-sees k d (cutting m c) = refl

shift-sees : (k n : ℕ) (w : Staging) → sees (told_shift k n w) ≡ sees w
shift-sees k n idle = refl
shift-sees k n (appending m h c s) = picked (λ (w : Staging). sees w ≡ h) (eqb k m) _ _ (λ e. refl) (λ e. refl)
shift-sees k n (cutting m c) = refl

cut-sees : (k n : ℕ) (w : Staging) → sees (told_cut k n w) ≡ sees w
cut-sees k n idle = refl
cut-sees k n (appending m h c s) = refl
cut-sees k n (cutting m c) = picked (λ (w : Staging). sees w ≡ false) (eqb k m) _ _ (λ e. refl) (λ e. refl)

-- an opening of this tape has its size
abbrev Given : ℕ → L.TapeCall → Type 0
Given size L.restart = Unit {0}
Given size L.reader = Unit {0}
Given size L.append = Unit {0}
Given size L.truncate = Unit {0}
Given size (L.open' t s cache start memory) = s ≡ size
Given size (L.put t bs) = Unit {0}
Given size (L.shift t o) = Unit {0}
Given size (L.cut t o) = Unit {0}
Given size (L.read t o i) = Unit {0}
Given size (L.commit t) = Unit {0}
Given size (L.drop' t) = Unit {0}

module _ (size : ℕ) where
  commit-sized : (k : ℕ) (t : Told) (w : Staging) → t.writer ≡ w → Sized size t → Sized size (told_commit k t w)
  commit-sized k t idle e g = g
  commit-sized k t (appending m h c s) e g =
      picked (Sized size) (eqb k m) (published t false h c s) t
      (λ ours. record { listed = λ (l : h ≡ true). g.here (ap sees e ∙ l); here = λ l. absurd (false≢true l) })
      (λ ours. g)
  commit-sized k t (cutting m c) e g =
      picked (Sized size) (eqb k m) _ t (λ ours. record { listed = g.listed; here = λ l. absurd (false≢true l) }) (λ ours. g)

  drop-sized : (k : ℕ) (t : Told) (w : Staging) → Sized size t → Sized size (told_drop k t w)
  drop-sized k t idle g = record { listed = g.listed; here = g.here }
  drop-sized k t (appending m h c s) g =
      picked (Sized size) (eqb k m) _ _
      (λ ours. record { listed = g.listed; here = λ l. absurd (false≢true l) })
      (λ ours. record { listed = g.listed; here = g.here })
  drop-sized k t (cutting m c) g =
      picked (Sized size) (eqb k m) _ _
      (λ ours. record { listed = g.listed; here = λ l. absurd (false≢true l) })
      (λ ours. record { listed = g.listed; here = g.here })

  -- the size changes in an opening alone, to the one given
  told-sized : (t : Told) (c : L.TapeCall) (v : ℕ) → Given size c → Sized size t → Sized size (T.told t c (L.Done v))
  told-sized t L.restart v given g = record { listed = g.listed; here = λ l. absurd (false≢true l) }
  told-sized t L.reader v given g = record { listed = g.listed; here = g.here }
  told-sized t L.append v given g = record { listed = g.listed; here = g.listed }
  told-sized t L.truncate v given g = record { listed = g.listed; here = λ l. absurd (false≢true l) }
  told-sized t (L.open' k s cache start memory) v given g =
      let is : cond (is_here k t.writer) t.size s ≡ size
      = picked (λ (x : ℕ). x ≡ size) (is_here k t.writer) t.size s (λ e. g.here (here-sees k t.writer e)) (λ e. given) in
      record { listed = λ l. is; here = λ l. is }
  told-sized t (L.put k d) v given g = record { listed = g.listed; here = λ l. g.here (sym (put-sees k d t.writer) ∙ l) }
  told-sized t (L.shift k n) v given g = record { listed = g.listed; here = λ l. g.here (sym (shift-sees k n t.writer) ∙ l) }
  told-sized t (L.cut k n) v given g = record { listed = g.listed; here = λ l. g.here (sym (cut-sees k n t.writer) ∙ l) }
  told-sized t (L.read k o i) v given g = g
  told-sized t (L.commit k) v given g = commit-sized k t t.writer refl g
  told-sized t (L.drop' k) v given g = drop-sized k t t.writer g

-- ---- the tape of a name

-- as `HasSize`, of what a call is for the tape
abbrev Asks : ℕ → Concern → Type 0
Asks size apart = Unit {0}
Asks size anew = Unit {0}
Asks size (opens t entry s cache start) = s ≡ size
Asks size (calls c) = Given size c

module _ (size : ℕ) where
  unknown-sized : Sized size unknown.tape
  unfolding unknown nothing
  unknown-sized = record { listed = λ l. absurd (false≢true l); here = λ l. absurd (false≢true l) }

  tells-sized : (k : Known) (v : ℕ) (c : Concern) → Asks size c → Sized size k.tape → Sized size (tell_as k v c).tape
  tells-sized k v apart asks g = g
  tells-sized k v anew asks g = unknown-sized
  tells-sized k v (opens t entry s cache start) asks g = told-sized size k.tape (L.open' t s cache start []) v asks g
  tells-sized k v (calls c) asks g = told-sized size k.tape c v asks g

  asks-old : (k : Known) (c : Concern) → Asks size c → Sized size k.tape → OldSize k c
  asks-old k apart asks g = tt
  asks-old k anew asks g = tt
  asks-old k (opens t entry s cache start) asks g = λ seen. asks ∙ sym (g.here (here-sees t k.tape.writer seen))
  asks-old k (calls c) asks g = tt

  ours-asks : (k : Known) (h : ℕ) (c : L.TapeCall) → Given size c → Asks size (if_ours k h c)
  ours-asks k h c given = picked (Asks size) (is_ours k h) (calls c) apart (λ e. given) (λ e. tt)

module _ (size : List ℕ → ℕ) (n : List ℕ) where
  asked : (k : Known) (c : Call) (v : ℕ) → HasSize size c → Asks (size n) (concerns n k c v)
  asked k (format slots) v has = tt
  asked k store v has = tt
  asked k append v has = tt
  asked k reader v has = tt
  asked k truncate v has = tt
  asked k (open_tape t name entry s cache start) v has =
      picked (Asks (size n)) (same_bytes name n) (opens t entry s cache start) apart (λ e. has ∙ ap size (same_true name n e)) (λ e. tt)
  asked k (append_entries t h bs) v has = ours-asks (size n) k h (L.put t bs) tt
  asked k (shift_start t h i) v has = ours-asks (size n) k h (L.shift t (i * k.entry)) tt
  asked k (truncate_tape t h i) v has = ours-asks (size n) k h (L.cut t (i * k.entry)) tt
  asked k (drop_entries t h i) v has = ours-asks (size n) k h (L.cut t (entries_left k i * k.entry)) tt
  asked k (pop_entry t h buffer) v has =
      picked (Asks (size n)) (eqb v 0xffff_ffff_ffff_ffff) apart (if_ours k h (L.cut t (entries_left k 1 * k.entry)))
      (λ e. tt) (λ e. ours-asks (size n) k h (L.cut t (entries_left k 1 * k.entry)) tt)
  asked k (read_entries t h i count buffer) v has = tt
  asked k (read_entry t h i buffer) v has = tt
  asked k (tape_len t h) v has = tt
  asked k (tape_start t h) v has = tt
  asked k (tape_exists t name) v has = tt
  asked k (commit t) v has = tt
  asked k (drop_transaction t) v has = tt

  exchanged-sized : (k : Known) (x : Exchange) → HasSize size x.call → Sized (size n) k.tape → Sized (size n) (tell_one n k x).tape
  exchanged-sized k x has g =
      picked (λ (m : Known). Sized (size n) m.tape) (eqb x.code 0) _ k
      (λ e. tells-sized (size n) k x.value (concerns n k x.call x.value) (asked k x.call x.value has) g)
      (λ e. g)

  sizes-from : (xs : List Exchange) (k : Known) → OneSize size xs → Sized (size n) k.tape → OldSizes n xs k
  sizes-from [] k one g = tt
  sizes-from (x ∷ xs) k one g = (
    (λ ok. asks-old (size n) k (concerns n k x.call x.value) (asked k x.call x.value one.0) g),
    sizes-from xs (tell_one n k x) one.1 (exchanged-sized k x one.0 g),
  )

pub one_size : (size : List ℕ → ℕ) (xs : List Exchange) → OneSize size xs → (n : List ℕ) → OldSizes n xs unknown
one_size size xs one n = sizes-from size n xs unknown one (unknown-sized (size n))

-- ---- a run: areas of bytes that are long enough, and calls that give each name one file size

pub a-run : (disk session : List ℕ) (slots : ℕ) (cs : List Call) (size : List ℕ → ℕ) → Bytes disk → Bytes session → 1 ≤ slots → slots ≤ 64 → data_at slots ≤ length disk
    → session_bytes ≤ length session → AllFit cs → AllSized size cs → Run
a-run disk session slots cs size disk-bytes session-bytes some few room long fit all =
    record {
      disk = disk;
      session = session;
      disk-bytes = disk-bytes;
      session-bytes = session-bytes;
      slots = slots;
      formatted = served-format slots disk session some few room long;
      calls = cs;
      fit = fit;
      sizes = one_size size (history cs (step (format slots) (areas disk session)).areas) (history-sized size cs (step (format slots) (areas disk session)).areas all);
    }
