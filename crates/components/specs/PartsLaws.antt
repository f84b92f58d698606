-- What a loop over a run's parts has at each of them. Assumes nothing.
use Rattle.std.specs.Prelude.{◌≡◌, ℕ, ◌+◌, ◌-◌, ◌^◌, ◌<◌, ◌≤◌, min, Some, None, List, length, take, drop}
use Rattle.std.proofs.Common.{sym, ap, ◌∙◌, arith, length-drop, length-take-le}
use Rattle.components.specs.Pieces.{file_of, place_in, left_in}
use Rattle.components.specs.declared.pieces.Part.{Part}
use Rattle.components.specs.declared.pieces.Parts.{Parts}
use Rattle.components.specs.Parts.{parts_from, next_part, MayGive, GivesPart}

-- an iterator over the parts of n bytes from the offset o on
pub record Run (fs o n : ℕ) (it : Parts) : Type 0 where
  pub same : it ≡ parts_from fs o n it.done
  pub within : it.done ≤ n

-- what a part that it gives is, and the iterator behind it
pub record Turn (fs o n done : ℕ) (p : Part) (t : Parts) : Type 0 where
  pub more : done < n
  pub file : p.file ≡ file_of fs (o + done)
  pub place : p.place ≡ place_in fs (o + done)
  pub from : p.from ≡ done
  pub count : p.count ≡ min (n - done) (left_in fs (o + done))
  pub next : t.done ≡ done + p.count
  pub run : Run fs o n t

module _ (fs o n : ℕ) where
  pub run-new : (it : Parts) → it ≡ parts_from fs o n 0 → Run fs o n it
  run-new it e = let z : it.done ≡ 0 = ap (λ (s : Parts). s.done) e in record { same = e ∙ ap (λ (d : ℕ). parts_from fs o n d) (sym z); within = omega arith }

  pub run-done : (it : Parts) → it ≡ parts_from fs o n 0 → it.done ≡ 0
  run-done it e = ap (λ (s : Parts). s.done) e

  module _ (it : Parts) (run : Run fs o n it) where
    size-run : it.file_size ≡ fs
    size-run = ap (λ (s : Parts). s.file_size) run.same

    offset-run : it.offset ≡ o
    offset-run = ap (λ (s : Parts). s.offset) run.same

    count-run : it.count ≡ n
    count-run = ap (λ (s : Parts). s.count) run.same

    pub may-give : 0 < fs → o + n ≤ 2 ^ 64 → MayGive it
    may-give z h =
        let w = run.within in
        record { size = rw size-run z; within = rw count-run w; fits = rw (offset-run, count-run) h }

    pub run-turn : (p : Part) (t : Parts) → GivesPart it (Some p) t → Turn fs o n it.done p t
    run-turn p t (more, given, next) =
        let part : p ≡ next_part fs o n it.done = given ∙ rw (size-run, offset-run, count-run) in
        let count : p.count ≡ min (n - it.done) (left_in fs (o + it.done)) = ap (λ (q : Part). q.count) part in
        let then : t ≡ parts_from fs o n (it.done + p.count) = next ∙ rw (size-run, offset-run, count-run, count) in
        let done : t.done ≡ it.done + p.count = ap (λ (s : Parts). s.done) then in
        let low : it.done < n = rw count-run at more in
        record {
          more = low;
          file = ap (λ (q : Part). q.file) part;
          place = ap (λ (q : Part). q.place) part;
          from = ap (λ (q : Part). q.from) part;
          count = count;
          next = done;
          run = record { same = then ∙ ap (λ (d : ℕ). parts_from fs o n d) (sym done); within = omega arith };
        }

    -- where none is left, all was given
    pub run-end : (t : Parts) → GivesPart it None t → it.done ≡ n
    run-end t (all, same) = let w = run.within in let l : n ≤ it.done = rw count-run at all in omega arith

-- the part's bytes, as a slice of the run's
module _ (fs o n done : ℕ) (p : Part) (t : Parts) (turn : Turn fs o n done p t) where
  pub turn-within : p.from + p.count ≤ n
  turn-within = let m = turn.more in let f = turn.from in let c = turn.count in omega arith

  pub turn-slice : (s : List ℕ) → take (p.from + p.count - p.from) (drop p.from s) ≡ take p.count (drop done s)
  turn-slice s =
      let size : p.from + p.count - p.from ≡ p.count = omega arith in
      ap (λ (k : ℕ). take k (drop p.from s)) size ∙ ap (λ (k : ℕ). take p.count (drop k s)) turn.from

  pub length-turn : (s : List ℕ) → length s ≡ n → length (take (p.from + p.count - p.from) (drop p.from s)) ≡ p.count
  length-turn s e =
      let w = turn-within in
      length-take-le (p.from + p.count - p.from) (drop p.from s) (simp length-drop (omega arith)) ∙ omega arith
