-- After any calls an open append has room for every file that its bytes lack (seen's `Roomy`): what was put is committed, no commit is refused for want of a
-- slot or of a directory. Assumes nothing.
use Rattle.std.specs.Prelude.{◌≡◌, ◌≢◌, ℕ}
use Rattle.std.proofs.Math.Path.{refl}
use Rattle.std.proofs.Common.{sym, ◌∙◌, arith}
use Rattle.seen.specs.Rooms.{commit-fine}
use Rattle.promises.specs.Calls.{commit, step}
use Rattle.promises.specs.Standing.{Standing, running, formatted}
use Rattle.promises.proofs.Runs.{stands-last}
use Rattle.promises.specs.Always.{no-session}
use Rattle.promises.proofs.Always.{always}
use Rattle.promises.specs.Promise.{ends, known, Commits}
use Rattle.promises.specs.Rooms.{RoomyIn, rooms}

pub commits : Commits
unfolding step
commits r t = by (stands-last r)
  where
    by : Standing (ends r) (known r) → ((step (commit t) (ends r)).code ≢ 15) × ((step (commit t) (ends r)).code ≢ 16)
    by (running q) = commit-fine (ends r).disk (ends r).session q.orderly (always RoomyIn rooms r q) t
    by (formatted f) =
        let one = no-session (ends r).disk (ends r).session f.unbegun (commit t) refl in
        ((λ e. let z : ◌≡◌ {A = ℕ} 1 15 = sym one ∙ e in omega arith), (λ e. let z : ◌≡◌ {A = ℕ} 1 16 = sym one ∙ e in omega arith))
