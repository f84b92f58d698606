-- A tape of whole entries: the entry size is at least 1, and it divides the committed length and the length that the open writer has staged. That a tape that has
-- a handle is so after any calls is in proofs/Wholes.antt. Assumes nothing.
use Rattle.std.specs.Prelude.{◌≡◌, ◌≢◌, List, ℕ, ◌%◌, ◌≤◌, ◌<◌, length}
use Rattle.std.proofs.Common.{subst}
use Rattle.std.specs.Int.{◌∣◌}
use Rattle.std.proofs.Math.Nat.{dvd_of_mod-eq-zero}
use Rattle.answers.specs.Answers.{code_of}
use Rattle.rolling_tape.specs.Removal.{Areas, areas}
use Rattle.appending.specs.Calls.{put_call}
use Rattle.lives.specs.Told.{Told}
use Rattle.seen.specs.Seen.{Handled}
use Rattle.seen.specs.Handles.{handle-own}
use Rattle.seen.specs.Puts.{put-found}
use Rattle.promises.specs.Told.{Known, staged_length}
use Rattle.promises.specs.Standing.{Lore, Running}

pub record Whole (e : ℕ) (t : Told) : Type 0 where
  pub entry-some : 1 ≤ e
  pub content : e ∣ length t.content
  pub staged : e ∣ staged_length t.writer

-- of a tape that has no handle nothing is said
abbrev pub WholeKnown : Known → Type 0
WholeKnown k = k.handle ≢ 0 → Whole k.entry k.tape

-- ---- a put

-- what is put is whole entries
pub put-entire : (d s : List ℕ) (K : Lore) → Running (areas d s) K → (n : List ℕ) (t h e : ℕ) (bs : List ℕ) → Handled s n h e → code_of (put_call d s t h bs).answer ≡ 0 → e ∣ length bs
put-entire d s K r n t h e bs its served =
    let f = put-found d s t h bs served in
    let own = handle-own d s r.orderly n h f.tape e its f.goes.found in
    dvd_of_mod-eq-zero e (subst (λ (x : ℕ). length bs % x ≡ 0) own.1 f.goes.on.whole)

-- ---- after any calls

abbrev pub WholeIn : Areas → Lore → Type 0
WholeIn a K = (n : List ℕ) → 0 < length n → WholeKnown (K n)
