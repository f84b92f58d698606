-- A handle that is found is that of an open tape. Assumes nothing.
use Rattle.std.specs.Prelude.{Some, None, ok_or, Option, IfOk}
use Rattle.std.proofs.Common.{◌≡◌, refl, ℕ}
use Rattle.answers.specs.declared.Refusal.TheVariants.{Unknown}
use Rattle.layout.specs.Disk.{Sound}
use Rattle.layout.specs.Session.{Begun}
use Rattle.session.specs.Rows.{find_handle}
use Rattle.staging.specs.Ways.{Held, handle-found}
use Rattle.staging.proofs.guards.tape_to_change.Goals as goal

pub returns-clause-served : goal.returns-clause-served
returns-clause-served c =
    rw (c.ok_or.ensures.value, c.find_handle.ensures) (by (find_handle c.args.session.now c.args.handle) refl)
  where
    by : (o : Option ℕ) → find_handle c.args.session.now c.args.handle ≡ o → IfOk (ok_or o Unknown) (λ tape. (Sound c.args.disk.now × Begun c.args.session.now) × Held c.args.session.now tape)
    by (Some p) e = (c.in_ok-check_usable.ensures.served, handle-found c.args.session.now c.args.handle p e)
    by None e = tt
