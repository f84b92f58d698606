-- Laws of `format`: each way out, that its contract leaves nothing open, that a refused one changes nothing, and what a served one means: an empty disk,
-- and no session. Assumes nothing.
use Rattle.std.specs.Prelude.{◌≡◌, refl, ◌≢◌, true, false, List, ℕ, ◌≤◌, ◌<◌, length, None, Ok, Err}
use Rattle.std.proofs.Common.{sym, ap, subst, ◌∙◌, arith}
use borrow.Author.Tests.{lt-ltb, le-ltb}
use Rattle.octets.specs.Cases.{order}
use Rattle.layout.specs.Disk.{data_at, Sound}
use Rattle.layout.specs.Session.{session_bytes, begun, sound}
use Rattle.disk.specs.Steps.{formatted}
use Rattle.disk.specs.SoundLaws.{sound-formatted}
use Rattle.disk.specs.Meaning.{disk_of, blank}
use Rattle.disk.specs.MeaningLaws.{disk-formatted}
use Rattle.session.specs.Begin.{ended}
use Rattle.session.specs.Meaning.{running}
use Rattle.session.specs.BeginLaws.{sound-ended, running-ended, none-ended}
use Rattle.areas.specs.Format.{Formatted, Outcome, outcome, format_step, code_of}
use Rattle.areas.specs.declared.FormatError.TheVariants.{BadSlotCount, TooSmall}

-- ---- each way out

module _ (d s : List ℕ) (n : ℕ) where
  pub no-slots : n < 1 → format_step d s n ≡ outcome (Err BadSlotCount) d s
  unfolding format_step
  no-slots h = rw (lt-ltb n 1 h)

  pub many-slots : 64 < n → format_step d s n ≡ outcome (Err BadSlotCount) d s
  unfolding format_step
  many-slots h = rw (le-ltb n 1 (omega arith), lt-ltb 64 n h)

  module _ (some : 1 ≤ n) (few : n ≤ 64) where
    pub small-disk : length d < data_at n → format_step d s n ≡ outcome (Err TooSmall) d s
    unfolding format_step
    small-disk h = rw (le-ltb n 1 some, le-ltb 64 n few, lt-ltb (length d) (data_at n) h)

    module _ (room : data_at n ≤ length d) where
      pub small-session : length s < session_bytes → format_step d s n ≡ outcome (Err TooSmall) d s
      unfolding format_step
      small-session h = rw (le-ltb n 1 some, le-ltb 64 n few, le-ltb (length d) (data_at n) room, lt-ltb (length s) session_bytes h)

      pub format-done : session_bytes ≤ length s → format_step d s n ≡ outcome (Ok tt) (formatted d n) (ended s)
      unfolding format_step
      format-done h = rw (le-ltb n 1 some, le-ltb 64 n few, le-ltb (length d) (data_at n) room, le-ltb (length s) session_bytes h)

-- ---- the contract leaves nothing open

-- two results that satisfy it are the same answer and the same areas
pub format-unique : (d s : List ℕ) (n : ℕ) (r r' : Formatted) (d₁ d₂ s₁ s₂ : List ℕ) → format_step d s n ≡ outcome r d₁ s₁ → format_step d s n ≡ outcome r' d₂ s₂
    → (r ≡ r') × ((d₁ ≡ d₂) × (s₁ ≡ s₂))
format-unique d s n r r' d₁ d₂ s₁ s₂ e f =
    let same : outcome r d₁ s₁ ≡ outcome r' d₂ s₂ = sym e ∙ f in
    (ap (λ (o : Outcome). o.answer) same, (ap (λ (o : Outcome). o.disk) same, ap (λ (o : Outcome). o.session) same))

-- ---- what it means

-- what holds of each way out holds of the step
pub format-cases : (P : Outcome → Type 0) (d s : List ℕ) (n : ℕ) → P (outcome (Err BadSlotCount) d s) → P (outcome (Err TooSmall) d s)
    → (1 ≤ n → n ≤ 64 → data_at n ≤ length d → session_bytes ≤ length s → P (outcome (Ok tt) (formatted d n) (ended s))) → P (format_step d s n)
format-cases P d s n bad small done =
    order n 1
    (λ (l : n < 1). subst P (sym (no-slots d s n l)) bad)
    (λ (some : 1 ≤ n).
    order 64 n
    (λ (l : 64 < n). subst P (sym (many-slots d s n l)) bad)
    (λ (few : n ≤ 64).
    order (length d) (data_at n)
    (λ (l : length d < data_at n). subst P (sym (small-disk d s n some few l)) small)
    (λ (room : data_at n ≤ length d).
    order (length s) session_bytes
    (λ (l : length s < session_bytes). subst P (sym (small-session d s n some few room l)) small)
    (λ (long : session_bytes ≤ length s). subst P (sym (format-done d s n some few room long)) (done some few room long)))))

-- a refused one changes no byte
pub refused-same : (d s : List ℕ) (n : ℕ) → code_of (format_step d s n).answer ≢ 0 → ((format_step d s n).disk ≡ d) × ((format_step d s n).session ≡ s)
refused-same d s n =
    format-cases (λ o. code_of o.answer ≢ 0 → (o.disk ≡ d) × (o.session ≡ s)) d s n
    (λ r. (refl, refl)) (λ r. (refl, refl)) (λ some few room long r. absurd (r refl))

-- a served one makes an empty disk that keeps the rule, and leaves a session area that keeps it too and holds no session
pub record Served (n : ℕ) (o : Outcome) : Type 0 where
  pub disk-sound : Sound o.disk
  pub disk-empty : disk_of o.disk ≡ blank n
  pub session-sound : sound o.session ≡ true
  pub no-session : begun o.session ≡ false
  pub none-running : running o.session ≡ None

pub served : (d s : List ℕ) (n : ℕ) → code_of (format_step d s n).answer ≡ 0 → Served n (format_step d s n)
served d s n =
    format-cases (λ o. code_of o.answer ≡ 0 → Served n o) d s n
    (λ e. absurd (omega arith)) (λ e. absurd (omega arith))
    (λ some few room long e.
    record {
      disk-sound = sound-formatted d n some few room;
      disk-empty = disk-formatted d n few room;
      session-sound = sound-ended s long;
      no-session = none-ended s long;
      none-running = running-ended s long;
    })
