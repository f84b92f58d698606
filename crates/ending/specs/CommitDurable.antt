-- A commit is durable: what a later `store` reads from the disk is the epoch and the list that the last commit published, and the file that is written next
-- is the other one. The session's epoch is not below that of the file that it does not write next: so `store` leaves it, and so each commit does, since
-- that file is then the one that it wrote. Assumes nothing.
use Prim.{tt}
use Rattle.std.specs.Prelude.{◌≡◌, refl, Bool, true, length, drop, replicate, Option, Some, None}
use Rattle.std.proofs.Common.{ap, ◌∙◌, arith, length-append}
use mathlib.Core.List.{List, [], ◌∷◌, ◌++◌}
use Prim.Native.Nat.{ℕ, zero, suc, ◌+◌, ◌-◌, ◌≤◌, ◌<◌, ◌^◌}
use Rattle.std.proofs.lemmas.List.{length-replicate}
use Rattle.octets.specs.Bytes.{put_front}
use Rattle.octets.specs.Number.{Bytes}
use Rattle.answers.specs.Answers.{code_of}
use Rattle.components.specs.FileBytes.{written}
use Rattle.metadata.specs.declared.choice.Side.{Side}
use Rattle.metadata.specs.declared.choice.Side.TheVariants.{Left, Right}
use Rattle.metadata.specs.Choice.{epoch_of, chosen, next_side}
use Rattle.metadata.specs.Record.{encode_record, read_record}
use Rattle.metadata.specs.RecordLaws.{Says, length-record, read_back, written-left, written-right, next-left, next-right}
use Rattle.metadata.specs.RoundTrip.{Sizes}
use Rattle.metadata.specs.StructLaws.{length-encode_list, storable-good}
use Rattle.metadata.specs.Tapes.{Tape, encode_list, good_list}
use Rattle.layout.specs.Names.{name}
use Rattle.layout.specs.Session.{names_at}
use Rattle.disk.specs.Steps.{side_bytes}
use Rattle.session.specs.Rows.{head_of}
use Rattle.beginning.specs.Sessions.{the_record}
use Rattle.staging.specs.Seeing.{cuts}
use Rattle.ending.specs.Listing.{next_behind, tape_in, with_next, list_behind, next_list}
use Rattle.ending.specs.ListingLaws.{next-tapes}
use Rattle.ending.specs.Steps.{other_side}
use Rattle.ending.specs.Committing.{commit_call}
use Rattle.ending.specs.CommitLaws.{the_list}
use Rattle.ending.specs.CommitMeaning.{Published, published-fits, commit-published}

-- ---- lengths of published tapes are 64-bit numbers

module _ (s : List ℕ) (bytes : Bytes s) (cut : Bool) where
  len-fits : (p : ℕ) → (tape_in s cut p).len < 2 ^ 64
  unfolding tape_in
  len-fits p = (published-fits s bytes p cut).len

  sizes-behind : (k : ℕ) (before : List ℕ) → Sizes (list_behind s cut k before)
  unfolding list_behind
  sizes-behind zero before = tt
  sizes-behind (suc k) before = by (next_behind s cut before) (sizes-behind k)
    where
      by : (f : Option ℕ) → ((last : List ℕ) → Sizes (list_behind s cut k last)) → Sizes (with_next s cut (list_behind s cut k) f)
      by (Some p) rest = (len-fits p, rest (name s names_at p))
      by None rest = tt

-- ---- bytes written to the front of a file stand there

front : (old bs : List ℕ) → 0 < length bs → written old 0 bs ≡ bs ++ drop (length bs) (old ++ replicate (0 + length bs - length old) 0)
unfolding written
front old [] some = absurd (omega arith)
front old (b ∷ bs) some =
    put_front (old ++ replicate (0 + length (b ∷ bs) - length old) 0) (b ∷ bs)
    (simp (length-append, length-replicate) (omega arith))

-- ---- the record that counts after one was written

module _ (e : ℕ) (ts : List Tape) (fits : e < 2 ^ 64) (good : good_list ts ≡ true) (sizes : Sizes ts) (old : List ℕ) where
  abbrev whole : List ℕ
  whole = written old 0 (encode_record e (encode_list ts))

  abbrev behind : List ℕ
  behind =
      drop (length (encode_record e (encode_list ts))) (old ++ replicate (0 + length (encode_record e (encode_list ts)) - length old) 0)

  stands : whole ≡ encode_record e (encode_list ts) ++ behind
  stands = front old (encode_record e (encode_list ts)) (omega (arith, length-record e (encode_list ts)))

  epoch-is : epoch_of (read_record whole) ≡ e
  epoch-is =
      let most = length-encode_list ts good in
      ap (λ (s : List ℕ). epoch_of (read_record s)) stands ∙ ap epoch_of (read_back e (encode_list ts) behind fits (omega arith))

  module _ (other : List ℕ) (below : epoch_of (read_record other) < e) where
    left-says : Says (chosen whole other) e ts
    left-says = rw stands (written-left e ts behind other fits good sizes below)

    right-says : Says (chosen other whole) e ts
    right-says = rw stands (written-right e ts behind other fits good sizes (omega arith))

    left-next : next_side whole other ≡ Right
    left-next = next-right whole other (omega (arith, epoch-is))

    right-next : next_side other whole ≡ Left
    right-next = next-left other whole (omega (arith, epoch-is))

-- ---- the commit

-- the file that is not written next has a record of no later epoch than the session's
abbrev pub Level : List ℕ → List ℕ → Type 0
Level d s = epoch_of (read_record (side_bytes d (other_side (head_of s).side))) ≤ (head_of s).epoch

-- what a `store` then reads
pub record Durable (s d : List ℕ) (cut : Bool) : Type 0 where
  pub says : Says (the_record d) ((head_of s).epoch + 1) (next_list s cut)
  pub next : next_side (side_bytes d Left) (side_bytes d Right) ≡ other_side (head_of s).side

module _ (e : ℕ) (ts : List Tape) (fits : e < 2 ^ 64) (good : good_list ts ≡ true) (sizes : Sizes ts) (d d' : List ℕ) where
  after : (side : Side) → side_bytes d' side ≡ written (side_bytes d side) 0 (encode_record e (encode_list ts)) → side_bytes d' (other_side side) ≡ side_bytes d (other_side side)
      → epoch_of (read_record (side_bytes d (other_side side))) < e
      → Says (the_record d') e ts × (next_side (side_bytes d' Left) (side_bytes d' Right) ≡ other_side side)
  after Left own same below =
      rw (own, same)
      (left-says e ts fits good sizes (side_bytes d Left) (side_bytes d Right) below, left-next e ts fits good sizes (side_bytes d Left) (side_bytes d Right) below)
  after Right own same below =
      rw (own, same)
      (right-says e ts fits good sizes (side_bytes d Right) (side_bytes d Left) below, right-next e ts fits good sizes (side_bytes d Right) (side_bytes d Left) below)

other-twice : (side : Side) → other_side (other_side side) ≡ side
other-twice Left = refl
other-twice Right = refl

module _ (d s : List ℕ) (bytes : Bytes s) (t : ℕ) (served : code_of (commit_call d s t).answer ≡ 0) where
  abbrev cut : Bool
  cut = cuts s t

  left : Published d s cut (commit_call d s t)
  left = commit-published d s bytes t served

  good-list : good_list (next_list s cut) ≡ true
  good-list = rw (next-tapes s cut) at (storable-good (the_list s cut) left.good)

  own-side : side_bytes (commit_call d s t).disk (head_of s).side
      ≡ written (side_bytes d (head_of s).side) 0 (encode_record ((head_of s).epoch + 1) (encode_list (next_list s cut)))
  own-side = rw (next-tapes s cut) at left.stands

  pub commit-durable : Level d s → Durable s (commit_call d s t).disk cut
  commit-durable level =
      let r = after ((head_of s).epoch + 1) (next_list s cut) left.fits good-list (sizes-behind s bytes cut 8 []) d (commit_call d s t).disk (head_of s).side
      own-side left.other (omega arith) in
      record { says = r.0; next = r.1 }

  pub commit-level : Level (commit_call d s t).disk (commit_call d s t).session
  commit-level =
      let wrote : epoch_of (read_record (side_bytes (commit_call d s t).disk (head_of s).side)) ≡ (head_of s).epoch + 1
      = ap (λ (b : List ℕ). epoch_of (read_record b)) own-side
      ∙ epoch-is ((head_of s).epoch + 1) (next_list s cut) left.fits good-list (sizes-behind s bytes cut 8 []) (side_bytes d (head_of s).side) in
      rw (left.head, other-twice (head_of s).side) (omega arith)
