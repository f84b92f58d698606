use Rattle.std.proofs.Common.{◌≡◌, refl, sym, ap, ◌∙◌, List, [], ◌∷◌, ◌++◌, append-nil, ℕ, ◌+◌, ◌-◌, ◌≤◌, ◌<◌, arith, length, set, replicate, length-append}
use Rattle.std.proofs.Math.Nat.{sub-zero}
use Rattle.std.specs.Prelude.{None}
use Rattle.metadata.specs.declared.list.TapeMetadata.{TapeMetadata}
use Rattle.metadata.specs.declared.list.TapeList.{TapeList}
use Rattle.metadata.specs.Tapes.{Tape}
use Rattle.metadata.specs.Rules.{tape}
use Rattle.metadata.specs.Decoding.{Listing, unreadable, next_tape, TookTape, decode_from}
use Rattle.metadata.specs.Decoding as listing
use Rattle.metadata.specs.Struct.{stored, blank, list_of, decoded_of}
use Rattle.metadata.specs.StructLaws.{store-next}
use Rattle.metadata.specs.DecodingLaws.{prepend_all, prepend_all-snoc, prepend_all-tapes, prepend_all-unreadable, decode-step, decode-stop, decode-end, decode-over}
use Rattle.metadata.specs.Taken.{next-short}
use Rattle.metadata.proofs.decode.decode_tapes.Invariants.{Read}
use Rattle.metadata.proofs.decode.decode_tapes.Goals as goal

begin : (s : List ℕ) (count first : ℕ) (array : List TapeMetadata) → array ≡ replicate 8 blank → Read s count first array first [] 0
unfolding prepend_all
begin s count first array e = record {
  done = [];
  size = refl;
  within = omega arith;
  held = e;
  rest = ap (λ (n : ℕ). decode_from n [] s first) (sub-zero count);
}

module _ {s : List ℕ} {count first : ℕ} {array : List TapeMetadata} {at : ℕ} {before : List ℕ} {i : ℕ} (r : Read s count first array at before i) where
  -- one more tape
  turn : {t : Tape} {next : ℕ} → i < count → count ≤ 8 → TookTape s (next_tape before s at) t next
      → Read s count first (set array i (stored t)) next t.name (i + 1)
  turn {t} {next} l m e =
      let size = r.size in
      let step = decode-step count i before s at l e.is in
      let more : Listing = decode_from (count - (i + 1)) t.name s next in
      record {
        done = r.done ++ (t ∷ []);
        size = length-append r.done (t ∷ []) ∙ ap (λ (n : ℕ). n + 1) size;
        within = omega arith;
        held = ap (λ (a : List TapeMetadata). set a i (stored t)) r.held ∙ store-next r.done t i size (omega arith);
        rest = prepend_all-snoc r.done t more
            ∙ ap (prepend_all r.done) (sym (rw (← e.named) at step))
            ∙ r.rest;
      }

  -- no tape, where one is to come
  stopped : i < count → next_tape before s at ≡ None → decode_from count [] s first ≡ unreadable
  stopped l e =
      sym r.rest
      ∙ ap (prepend_all r.done) (decode-stop count i before s at l e)
      ∙ prepend_all-unreadable r.done

  -- a byte over
  over : count ≤ i → (at ≡ length s → ⊥) → decode_from count [] s first ≡ unreadable
  over l d =
      sym r.rest
      ∙ ap (prepend_all r.done) (decode-over count i before s at l d)
      ∙ prepend_all-unreadable r.done

  -- all of them
  whole : count ≤ i → at ≡ length s → decode_from count [] s first ≡ listing.tapes r.done
  whole l e =
      sym r.rest
      ∙ ap (prepend_all r.done) (decode-end count i before s at l e)
      ∙ prepend_all-tapes r.done []
      ∙ ap listing.tapes (append-nil r.done)

  list : count ≤ i → ◌≡◌ {A = TapeList} (record { count = count; tapes = array }) (list_of r.done)
  unfolding list_of
  list l =
      let size = r.size in
      let within = r.within in
      let n : length r.done ≡ count = omega arith in
      let m : i ≡ count = omega arith in
      rw (r.held, m, n)

pub loop-i-init : goal.loop-i-init
unfolding list_of
loop-i-init c =
    (refl, begin c.args.r.src.now c.args.count c.args.r.at _ (ap (λ (l : TapeList). l.tapes) c.empty-list.ensures))

pub returns-in_err-t : goal.returns-in_err-t
returns-in_err-t c =
    let source : c.loop-i.r.src.now ≡ c.args.r.src.now = cc (c.loop-i.invariant.0) in
    let none : next_tape c.loop-i.before.now c.args.r.src.now c.loop-i.r.at ≡ None = rw (← source) c.in_err-t.ensures.taken in
    c.from_residual.ensures ∙ sym (ap decoded_of (stopped c.loop-i.invariant.1 (omega arith) none))

pub stored-requires : goal.stored-requires
stored-requires c =
    next-short c.loop-i.before.now c.loop-i.r.src.now c.loop-i.r.at c.in_ok-t.ensures.taken.is

pub loop-i-preserved : goal.loop-i-preserved
loop-i-preserved c =
    let s = c.args.r.src.now in
    let source : c.loop-i.r.src.now ≡ s = cc (c.loop-i.invariant.0) in
    let t : Tape = tape c.in_ok-t.t.name.now c.in_ok-t.t.len c.in_ok-t.t.start in
    let found : TookTape s (next_tape c.loop-i.before.now s c.loop-i.r.at) t c.next_tape.new.r.at = rw (← source) c.in_ok-t.ensures.taken in
    (c.next_tape.ensures.source ∙ c.loop-i.invariant.0, rw c.stored.ensures (turn c.loop-i.invariant.1 (omega arith) c.requires found))

pub returns-then-r : goal.returns-then-r
returns-then-r c =
    let source : c.loop-i.r.src.now ≡ c.args.r.src.now = cc (c.loop-i.invariant.0) in
    let long : length c.loop-i.r.src.now ≡ length c.args.r.src.now = ap length source in
    sym (ap decoded_of (over c.loop-i.invariant.1 (omega arith) (λ e. omega arith)))

pub returns : goal.returns
returns c =
    let source : c.loop-i.r.src.now ≡ c.args.r.src.now = cc (c.loop-i.invariant.0) in
    let long : length c.loop-i.r.src.now ≡ length c.args.r.src.now = ap length source in
    rw (whole c.loop-i.invariant.1 (omega arith) (omega arith), list c.loop-i.invariant.1 (omega arith))
