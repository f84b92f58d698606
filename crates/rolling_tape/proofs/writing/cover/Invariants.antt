-- `cover` leaves `covered`. The loop's invariant: covering the numbers that are left, on the present areas, is the whole. Assumes nothing.
use Rattle.std.proofs.Common.{length, ◌≡◌, List, ℕ, ◌+◌, ◌-◌, ◌≤◌}
use Rattle.layout.specs.Disk.{Sound}
use Rattle.rolling_tape.specs.Removal.{areas}
use Rattle.rolling_tape.specs.Writing.{covered}
use Rattle.rolling_tape.proofs.writing.cover.Given as goal

pub record Inv (disk₀ session₀ : List ℕ) (place first count : ℕ) (disk session : List ℕ) (done : ℕ) : Type 0 where
  pub long-disk : length disk ≡ length disk₀
  pub long-session : length session ≡ length session₀
  pub sound : Sound disk
  pub within : done ≤ count
  pub rest : covered (areas disk session) place (first + done) (count - done) ≡ covered (areas disk₀ session₀) place first count

abbrev pub invariant-loop-done : goal.invariant-loop-done
invariant-loop-done l = Inv l.initial.disk l.initial.session l.place l.first l.count l.disk l.session l.done
