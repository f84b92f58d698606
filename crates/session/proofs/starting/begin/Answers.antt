use Rattle.std.proofs.Common.{◌≡◌, refl, sym, ap, ◌∙◌, List, ℕ, ◌+◌, ◌≤◌, min, arith, rules, length, drop}
use Rattle.std.proofs.Math.Seq.{get_or-take}
use Rattle.metadata.specs.declared.list.TapeMetadata.{TapeMetadata}
use Rattle.metadata.specs.Struct.{meaning, tapes_of}
use Rattle.session.specs.Begin.{listed, listed_from, begin_session}
use Rattle.session.specs.Ways.{listed-turn, listed-end}
use Rattle.session.proofs.starting.begin.Goals as goal

pub loop-place-init : goal.loop-place-init
loop-place-init c = record { within = omega arith; long = refl; rest = refl }

pub loop-place-preserved : goal.loop-place-preserved
loop-place-preserved c =
    let list = c.args.list in
    let room : length list.tapes ≡ 8 = search rules in
    let same : length c.list_tape.new.session ≡ length c.loop-place.session = search rules in
    record {
      within = omega arith;
      long = same ∙ c.loop-place.invariant.long;
      rest = ap (λ (s : List ℕ). listed_from s (c.loop-place.place + 1) (drop (c.loop-place.place + 1) (tapes_of list))) c.list_tape.ensures
          ∙ ap (λ (t : TapeMetadata). listed_from (listed c.loop-place.session c.loop-place.place (meaning t)) (c.loop-place.place + 1) (drop (c.loop-place.place + 1) (tapes_of list)))
          (get_or-take c.min-count.result list.tapes c.loop-place.place _ (omega arith))
          ∙ sym (listed-turn list c.loop-place.session c.loop-place.place _ (omega arith) (omega arith))
          ∙ c.loop-place.invariant.rest;
    }

pub returns : goal.returns
unfolding begin_session
returns c =
    let list = c.args.list in
    let room : length list.tapes ≡ 8 = search rules in
    let end : min list.count (length list.tapes) ≤ c.loop-place.place = omega arith in
    sym (listed-end list c.loop-place.session c.loop-place.place end)
    ∙ c.loop-place.invariant.rest
    ∙ ap (λ (s : List ℕ). listed_from s 0 (tapes_of list)) c.clear.ensures
