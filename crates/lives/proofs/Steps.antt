-- Every call keeps the store and what is told of it together. Assumes nothing.
use Rattle.std.specs.Prelude.{◌≡◌, refl, ℕ}
use Rattle.lives.specs.Life.{TapeCall, Answer, Done, Bytes, Refused, restart, reader, append, truncate, open', put, shift, cut, read, commit, drop', step}
use Rattle.lives.specs.Told.{Told, told}
use Rattle.lives.specs.Invariant.{Phys, build, Good, Goes, goes}
use Rattle.lives.specs.StepsBegin.{step-reader, step-append, step-truncate}
use Rattle.lives.specs.StepsStaged.{step-put, step-shift, step_cut_lem}
use Rattle.lives.specs.StepsOpen.{step-restart, step-open}
use Rattle.lives.specs.StepsCommit.{step-commit}
use Rattle.lives.specs.StepsDrop.{step-drop}

read-tells : (t : Told) (k o n : ℕ) (a : Answer) → told t (read k o n) a ≡ t
read-tells t k o n (Done v) = refl
read-tells t k o n (Bytes l) = refl
read-tells t k o n (Refused x v) = refl

pub keeps : (c : TapeCall) (t : Told) (p : Phys) → Good t p → Goes t c (step c (build t p))
unfolding step
keeps restart t p g = step-restart t p t.writer t.live g
keeps reader t p g = step-reader t p t.writer t.live g
keeps append t p g = step-append t p t.writer t.live g
keeps truncate t p g = step-truncate t p t.writer t.live g
keeps (open' k size c st memory) t p g = step-open t p k size c st memory t.writer t.live g
keeps (put k d) t p g = step-put t p k d t.writer t.live g
keeps (shift k n) t p g = step-shift t p k n t.writer t.live g
keeps (cut k n) t p g = step_cut_lem t p k n t.writer t.live g
keeps (read k o n) t p g =
    let a = step (read k o n) (build t p) in
    goes t (read k o n) a t p (read-tells t k o n a.answer) refl g
keeps (commit k) t p g = step-commit t p k t.writer t.live g
keeps (drop' k) t p g = step-drop t p k t.writer t.live g
