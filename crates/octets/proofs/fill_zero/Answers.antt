use Rattle.std.proofs.Common.{◌≡◌, ◌∙◌, ◌-◌, ap, arith, refl, replicate}
use Rattle.std.proofs.lemmas.List.{length-replicate}
use Rattle.octets.specs.Bytes.{put, length_part}
use Rattle.octets.proofs.Std.{put-mid}
use Rattle.octets.proofs.fill_zero.Goals as goal

pub returns-then-from-to : goal.returns-then-from-to
returns-then-from-to c =
    let n = c.args.to - c.args.from in
    let zeros : c.fill.new.self ≡ replicate n 0 = c.fill.ensures.after (λ y e. e) ∙ ap (λ k. replicate k 0) (length_part n c.args.s.now c.args.from (omega arith)) in
    rw zeros (put-mid c.args.s.now c.args.from n (replicate n 0) (length-replicate n 0) (omega arith))

pub returns-else-from-to : goal.returns-else-from-to
unfolding put
returns-else-from-to c =
    let none : c.args.to - c.args.from ≡ 0 = omega arith in
    rw none refl
