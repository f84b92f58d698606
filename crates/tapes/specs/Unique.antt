-- Two results of a C function that satisfy its contract are equal: the reply, and every lent byte. Each contract is one equation with what the call's step
-- says, so three theorems, one for each shape of contract, speak of all of them. Assumes nothing.
use Rattle.std.specs.Prelude.{◌≡◌, List, ℕ}
use Rattle.std.proofs.Common.{sym, ap, ◌∙◌}
use Rattle.answers.specs.Answers.{Answer}
use Rattle.tapes.specs.declared.numbers.Reply.{Reply}
use Rattle.tapes.specs.Numbers.{numbers, Pair, pair, Single, single}

-- of a call that lends two areas to be written: both areas, or session and buffer
pub pair-unique : (o : Pair) (r r' : Reply) (a a' b b' : List ℕ) → o ≡ pair r a b → o ≡ pair r' a' b' → (r ≡ r') × ((a ≡ a') × (b ≡ b'))
pair-unique o r r' a a' b b' e f =
    let same : pair r a b ≡ pair r' a' b' = sym e ∙ f in
    (ap (λ (x : Pair). x.reply) same, (ap (λ (x : Pair). x.first) same, ap (λ (x : Pair). x.second) same))

-- of one that lends one: the session, or the buffer
pub single-unique : (o : Single) (r r' : Reply) (a a' : List ℕ) → o ≡ single r a → o ≡ single r' a' → (r ≡ r') × (a ≡ a')
single-unique o r r' a a' e f =
    let same : single r a ≡ single r' a' = sym e ∙ f in
    (ap (λ (x : Single). x.reply) same, ap (λ (x : Single). x.area) same)

-- of one that lends none
pub numbers-unique : (a : Answer) (r r' : Reply) → r ≡ numbers a → r' ≡ numbers a → r ≡ r'
numbers-unique a r r' e f = e ∙ sym f
