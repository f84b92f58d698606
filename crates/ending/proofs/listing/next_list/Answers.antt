use Rattle.std.specs.Prelude.{Some}
use Rattle.std.proofs.Common.{◌≡◌, sym, ap, ◌∙◌, Bool, List, [], ◌∷◌, ◌++◌, append-nil, append_assoc, ℕ, ◌+◌, ◌-◌, ◌≤◌, ◌<◌, arith, set, length-append}
use Rattle.metadata.specs.declared.list.TapeMetadata.{TapeMetadata}
use Rattle.metadata.specs.declared.list.TapeList.{TapeList}
use Rattle.metadata.specs.Tapes.{Tape}
use Rattle.metadata.specs.Struct.{stored, list_of, meaning}
use Rattle.metadata.specs.StructLaws.{meaning-stored, store-next}
use Rattle.layout.specs.Names.{name}
use Rattle.layout.specs.Session.{names_at, Begun}
use Rattle.ending.specs.Listing.{next_behind, tape_in, list_behind, next_list}
use Rattle.ending.specs.ListingLaws.{name-short, next-behind-low, list-more, list-none, list-end}
use Rattle.ending.proofs.listing.next_list.Invariants.{Listed}
use Rattle.ending.proofs.listing.next_list.Goals as goal

-- the stored tape's own name
named : (s : List ℕ) (cut : Bool) (p : ℕ) → (meaning (stored (tape_in s cut p))).name ≡ name s names_at p
unfolding tape_in
named s cut p = ap (λ (t : Tape). t.name) (meaning-stored (tape_in s cut p))

letters : (s : List ℕ) (cut : Bool) (p : ℕ) → Begun s → p < 8 → (stored (tape_in s cut p)).letters ≤ 24
unfolding stored tape_in
letters s cut p begun low = name-short s p begun low

module _ {s : List ℕ} {cut : Bool} {array : List TapeMetadata} {before : TapeMetadata} {i : ℕ} (r : Listed s cut array before i) where
  -- one more tape
  turn : {p : ℕ} {t : TapeMetadata} → Begun s → i < 8 → next_behind s cut (meaning before).name ≡ Some p → t ≡ stored (tape_in s cut p)
      → Listed s cut (set array i t) t (i + 1)
  turn {p} begun l e f =
      let size = r.size in
      let t = tape_in s cut p in
      let low = next-behind-low s cut (meaning before).name p e in
      rw f
      (record {
        done = r.done ++ (t ∷ []);
        size = length-append r.done (t ∷ []) ∙ ap (λ (n : ℕ). n + 1) size;
        within = omega arith;
        short = letters s cut p begun low;
        held = ap (λ (a : List TapeMetadata). set a i (stored t)) r.held ∙ store-next r.done t i size l;
        rest = ap (λ (n : List ℕ). (r.done ++ (t ∷ [])) ++ list_behind s cut (8 - (i + 1)) n) (named s cut p)
            ∙ append_assoc r.done (t ∷ []) (list_behind s cut (8 - (i + 1)) (name s names_at p))
            ∙ ap (λ (ts : List Tape). r.done ++ ts) (sym (list-more s cut (meaning before).name i p l e))
            ∙ r.rest;
      })

  -- nothing is left: the tapes in the array are the list
  whole : list_behind s cut (8 - i) (meaning before).name ≡ [] → ◌≡◌ {A = TapeList} (record { count = i; tapes = array }) (list_of (next_list s cut))
  unfolding list_of
  whole e =
      let all : r.done ≡ next_list s cut = sym (append-nil r.done) ∙ ap (λ (ts : List Tape). r.done ++ ts) (sym e) ∙ r.rest in
      rw (← all, r.held, r.size)

pub returns-in_default : goal.returns-in_default
returns-in_default c =
    whole c.loop-i.invariant (list-none _ _ _ _ (omega arith) (sym c.next_after.ensures ∙ c.in_default.is))

pub tape_in-before-requires : goal.tape_in-before-requires
tape_in-before-requires c =
    (c.requires, next-behind-low _ _ _ _ (sym c.next_after.ensures ∙ c.in-Some.is))

pub loop-i-preserved : goal.loop-i-preserved
loop-i-preserved c =
    turn c.loop-i.invariant c.requires (omega arith) (sym c.next_after.ensures ∙ c.in-Some.is) c.tape_in-before.ensures

pub returns : goal.returns
returns c =
    let all : c.loop-i.i ≡ 8 = omega arith in
    let w = whole c.loop-i.invariant (list-end _ _ _ _ (omega arith)) in
    rw all at w
