-- What `commit` touches. Of the session its own fields, the published list, the writer's place, the staged records and tracking, and, of a truncate, the
-- bookkeeping of the rings; of the disk the side whose turn it is, and, of an append, the files. Assumes nothing.
use Prim.{tt}
use Rattle.std.specs.Prelude.{◌≡◌, true, false, cond, List, ℕ, ◌+◌, ◌≤◌, ◌<◌}
use Rattle.std.proofs.Common.{arith}
use Rattle.octets.specs.Cases.{decide}
use Rattle.answers.specs.Outcome.{Outcome}
use Rattle.metadata.specs.declared.choice.Side.{Side}
use Rattle.metadata.specs.declared.choice.Side.TheVariants.{Left, Right}
use Rattle.disk.specs.Steps.{side_at, side_len_at}
use Rattle.session.specs.Rows.{head_of}
use Rattle.beginning.specs.Ways.{usable-begun, usable-disk}
use Rattle.staging.specs.Seeing.{writes}
use Rattle.staging.specs.Ways.{cuts-alone}
use Rattle.ending.specs.Steps.{other_side}
use Rattle.ending.specs.Committing.{commit_call}
use Rattle.ending.specs.CommitLaws.{the_list, commit-cases}
use Rattle.touches.specs.Parts.{Part, Inside, Outside, Touches, Stays, mark, names, handles, rings, directories, side_of, side_length_of, stays, touches_none, touches-more}
use Rattle.touches.specs.Parts as P
use Rattle.touches.specs.CommitSteps.{append_parts, truncate_parts, record_parts, append_disk_parts, touches-appended-session, touches-appended-disk, touches-truncated-session, touches-truncated-disk}

-- ---- the call

-- of an append's number, and of a truncate's
abbrev pub commit_parts : List ℕ → ℕ → List Part
commit_parts s t = cond (writes s t) append_parts truncate_parts

abbrev pub commit_disk_parts : List ℕ → List ℕ → ℕ → List Part
commit_disk_parts d s t = cond (writes s t) (append_disk_parts d (head_of s).side) (record_parts (head_of s).side)

module _ (d s : List ℕ) (t : ℕ) where
  pub commit-touches-session : Touches (commit_parts s t) s (commit_call d s t).session
  commit-touches-session =
      commit-cases (λ (o : Outcome). Touches (commit_parts s t) s o.session) d s (λ why. touches_none (commit_parts s t) s) t
      (λ ok w v g room. rw w (touches-appended-session d s (the_list s false) (usable-disk d s ok) (usable-begun d s ok) g.good))
      (λ ok c v g. rw (cuts-alone s t c) (touches-truncated-session d s (the_list s true) (usable-disk d s ok).head.few g.good))

  pub commit-touches-disk : Touches (commit_disk_parts d s t) d (commit_call d s t).disk
  commit-touches-disk =
      commit-cases (λ (o : Outcome). Touches (commit_disk_parts d s t) d o.disk) d s (λ why. touches_none (commit_disk_parts d s t) d) t
      (λ ok w v g room. rw w (touches-appended-disk d s (the_list s false) (usable-disk d s ok) (usable-begun d s ok) g.good))
      (λ ok c v g. rw (cuts-alone s t c) (touches-truncated-disk d s (the_list s true) (usable-disk d s ok).head.few g.good))

-- ---- what it leaves

-- mark, names, handles, caches; every transaction's view and every reader's place
pub record CommitLeaves (s u : List ℕ) : Type 0 where
  pub mark-stays : Stays mark s u
  pub names-stay : Stays names s u
  pub views-stay : (w : ℕ) → w < 17 → Stays (P.view_of w) s u
  pub readers-stay : (x : ℕ) → x < 16 → Stays (P.transaction_of x) s u
  pub handles-stay : Stays handles s u
  pub rings-stay : Stays rings s u

-- mark and slot count, directories, the other side with its length
pub record CommitLeavesDisk (side : Side) (d e : List ℕ) : Type 0 where
  pub fields-stay : Stays (P.bytes 0 16) d e
  pub directories-stay : Stays directories d e
  pub other-stays : Stays (side_of (other_side side)) d e
  pub other-length-stays : Stays (side_length_of (other_side side)) d e

-- an append touches less
pub outside-truncate : (s : List ℕ) (t i : ℕ) → Outside i truncate_parts → Outside i (commit_parts s t)
outside-truncate s t i o =
    decide (writes s t)
    (λ (w : writes s t ≡ true). rw w (o.0, (o.1.0, (o.1.1.0, (o.1.1.1.0, (o.1.1.1.1.0, tt))))))
    (λ (w : writes s t ≡ false). rw w o)

-- and a truncate does of the disk
pub outside-append : (d s : List ℕ) (t i : ℕ) → Outside i (append_disk_parts d (head_of s).side) → Outside i (commit_disk_parts d s t)
outside-append d s t i o =
    decide (writes s t)
    (λ (w : writes s t ≡ true). rw w o)
    (λ (w : writes s t ≡ false). rw w (o.0, (o.1.0, tt)))

pub commit-leaves-session : (d s : List ℕ) (t : ℕ) → CommitLeaves s (commit_call d s t).session
commit-leaves-session d s t =
    let u = (commit_call d s t).session in
    let a : Touches truncate_parts s u = touches-more (commit_parts s t) truncate_parts s u (outside-truncate s t) (commit-touches-session d s t) in
    let rest : (q : Part) → ((i : ℕ) → Inside i q → Outside i truncate_parts) → Stays q s u = λ q h. stays truncate_parts q s u a h in
    record {
      mark-stays = rest mark (λ i h. search arith);
      names-stay = rest names (λ i h. search arith);
      views-stay = λ w low. rest (P.view_of w) (λ i h. search arith);
      readers-stay = λ x low. rest (P.transaction_of x) (λ i h. search arith);
      handles-stay = rest handles (λ i h. search arith);
      rings-stay = rest rings (λ i h. search arith);
    }

-- the two sides stand apart
apart-side : (side : Side) (i : ℕ) → Inside i (side_of (other_side side)) → (side_len_at side ≤ i → side_len_at side + 8 ≤ i) × (side_at side ≤ i → side_at side + 512 ≤ i)
apart-side Left i h = search arith
apart-side Right i h = search arith

apart-length : (side : Side) (i : ℕ) → Inside i (side_length_of (other_side side)) → (side_len_at side ≤ i → side_len_at side + 8 ≤ i) × (side_at side ≤ i → side_at side + 512 ≤ i)
apart-length Left i h = search arith
apart-length Right i h = search arith

-- and apart from all else below the file table
apart-fields : (side : Side) (i : ℕ) → i < 16 → (side_len_at side ≤ i → side_len_at side + 8 ≤ i) × (side_at side ≤ i → side_at side + 512 ≤ i)
apart-fields Left i h = search arith
apart-fields Right i h = search arith

apart-directories : (side : Side) (i : ℕ) → 32 ≤ i → i < 288 → (side_len_at side ≤ i → side_len_at side + 8 ≤ i) × (side_at side ≤ i → side_at side + 512 ≤ i)
apart-directories Left i l h = search arith
apart-directories Right i l h = search arith

side-below : (side : Side) (i : ℕ) → Inside i (side_of side) → i < 1312
side-below Left i h = omega (arith, h.1)
side-below Right i h = omega (arith, h.1)

length-below : (side : Side) (i : ℕ) → Inside i (side_length_of side) → i < 1312
length-below Left i h = omega (arith, h.1)
length-below Right i h = omega (arith, h.1)

pub commit-leaves-disk : (d s : List ℕ) (t : ℕ) → CommitLeavesDisk (head_of s).side d (commit_call d s t).disk
commit-leaves-disk d s t =
    let e = (commit_call d s t).disk in
    let side = (head_of s).side in
    let parts = append_disk_parts d side in
    let a : Touches parts d e = touches-more (commit_disk_parts d s t) parts d e (outside-append d s t) (commit-touches-disk d s t) in
    let rest : (q : Part) → ((i : ℕ) → Inside i q → Outside i parts) → Stays q d e = λ q h. stays parts q d e a h in
    let clear : (i : ℕ) → i < 1312 → (side_len_at side ≤ i → side_len_at side + 8 ≤ i) × (side_at side ≤ i → side_at side + 512 ≤ i) → Outside i parts
    = λ i l c. (c.0, (c.1, ((λ m. omega arith), tt))) in
    record {
      fields-stay = rest (P.bytes 0 16) (λ i h. clear i (omega (arith, h.1)) (apart-fields side i h.1));
      directories-stay = rest directories (λ i h. clear i (omega (arith, h.1)) (apart-directories side i h.0 h.1));
      other-stays = rest (side_of (other_side side)) (λ i h. clear i (side-below (other_side side) i h) (apart-side side i h));
      other-length-stays = rest (side_length_of (other_side side)) (λ i h. clear i (length-below (other_side side) i h) (apart-length side i h));
    }
