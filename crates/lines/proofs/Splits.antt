-- Fields are what the library's `split` gives at tabs. Assumes nothing.
use Rattle.std.specs.Prelude.{◌≡◌, refl, List, [], ◌∷◌, ℕ, eqb}
use Rattle.std.specs.List.{slice_split, onto_first}
use Rattle.lines.specs.Fields.{in_front, fields}

front : (b : ℕ) (fs : List (List ℕ)) → in_front b fs ≡ onto_first b fs
unfolding in_front
front b [] = refl
front b (f ∷ fs) = refl

pub fields_split : (s : List ℕ) → fields s ≡ slice_split (λ b. eqb b 9) s
unfolding fields
fields_split [] = refl
fields_split (b ∷ s) = rw (fields_split s, front b (slice_split (λ b. eqb b 9) s))
