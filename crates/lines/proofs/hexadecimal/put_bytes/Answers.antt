use Rattle.std.proofs.Common.{◌≡◌, refl, sym, ◌∙◌, ◌+◌, ◌*◌, ◌/◌, ◌≤◌, ◌<◌, arith, List, [], ◌∷◌, ◌++◌, ℕ, length, get_or, set, length-set, length-append}
use Rattle.octets.specs.Bytes.{put}
use Rattle.lines.specs.Hex.{hex_value, hex_bytes}
use Rattle.lines.proofs.hexadecimal.put_bytes.Goals as goal

-- one pair, and the bytes that are left behind it
turn : (t pair rest : List ℕ) (i : ℕ) → length pair ≡ 2
    → put t i (hex_bytes (pair ++ rest)) ≡ put (set t i (hex_value (get_or pair 0 0) * 16 + hex_value (get_or pair 1 0))) (i + 1) (hex_bytes rest)
unfolding put hex_bytes
turn t [] rest i l = absurd (omega arith)
turn t (a ∷ []) rest i l = absurd (omega arith)
turn t (a ∷ b ∷ []) rest i l = refl
turn t (a ∷ b ∷ c ∷ more) rest i l = absurd (omega arith)

end : (t s : List ℕ) (i : ℕ) → length s < 2 → put t i (hex_bytes s) ≡ t
unfolding put hex_bytes
end t [] i l = refl
end t (a ∷ []) i l = refl
end t (a ∷ b ∷ s) i l = absurd (omega arith)

pub loop-i-preserved : goal.loop-i-preserved
loop-i-preserved c =
    let steps = c.in-Some.ensures.steps in
    let rest = c.next.new.self.iter.rest.now in
    let two : length c.in-Some.pair.now ≡ 2 = steps.0.1.1 ∙ c.loop-i.invariant.0 in
    let room : c.loop-i.i-iterator.count + length (c.in-Some.pair.now ++ rest) / 2 ≤ length c.loop-i.out = rw steps.0.1.0 at c.loop-i.invariant.1 in
    let whole : put c.loop-i.out c.loop-i.i-iterator.count (hex_bytes (c.in-Some.pair.now ++ rest)) ≡ put c.args.out.now 0 (hex_bytes c.args.s.now) = rw steps.0.1.0 at c.loop-i.invariant.2 in (
      steps.0.0 ∙ c.loop-i.invariant.0,
      simp length-set (omega (arith, simp length-append at room, two, steps.2)),
      rw (steps.2, steps.1, c.hex_value.ensures.0, c.hex_value-in-loop-i.ensures.0) (sym (turn c.loop-i.out c.in-Some.pair.now rest c.loop-i.i-iterator.count two) ∙ whole),
    )

pub returns : goal.returns
returns c =
    let short = c.in-None.ensures.steps.0.1.0 in
    sym (end c.loop-i.out c.loop-i.i-iterator.iter.rest.now c.loop-i.i-iterator.count (omega (arith, short, c.loop-i.invariant.0))) ∙ c.loop-i.invariant.2
