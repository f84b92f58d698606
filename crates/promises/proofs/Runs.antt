-- What holds after any calls. Assumes nothing.
use Rattle.std.specs.Prelude.{List, [], ◌∷◌, ℕ}
use Rattle.rolling_tape.specs.Removal.{Areas}
use Rattle.promises.specs.Calls.{Call, AllFit, step, exchange, run, history}
use Rattle.promises.specs.Told.{unknown, tell_one, tell, OldSizes}
use Rattle.promises.specs.Standing.{Lore, Standing, formatted}
use Rattle.promises.specs.Sessions.{format-runs}
use Rattle.promises.proofs.Steps.{stands}
use Rattle.promises.specs.Promise.{Run, begins, ends, known, Further, ends_then, known_then}

pub runs : (cs : List Call) (a : Areas) (K : Lore) → AllFit cs → ((n : List ℕ) → OldSizes n (history cs a) (K n)) → Standing a K
    → Standing (run cs a) (λ n. tell n (history cs a) (K n))
unfolding run history tell
runs [] a K fit old st = st
runs (c ∷ cs) a K fit old st =
    runs cs (step c a).areas (λ n. tell_one n (K n) (exchange c (step c a))) fit.1 (λ n. (old n).1) (stands c a K fit.0 (λ n. (old n).0) st)

module _ (r : Run) where
  pub stands-first : Standing (begins r) (λ n. unknown)
  unfolding step
  stands-first = formatted (format-runs r.disk r.session r.slots (λ n. unknown) 0 r.disk-bytes r.session-bytes r.formatted)

  pub stands-last : Standing (ends r) (known r)
  stands-last = runs r.calls (begins r) (λ n. unknown) r.fit r.sizes stands-first

  pub stands-then : (f : Further r) → Standing (ends_then r f) (known_then r f)
  stands-then f = runs f.calls (ends r) (known r) f.fit f.sizes stands-last
