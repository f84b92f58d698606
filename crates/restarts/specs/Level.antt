-- A session is level with its disk if the metadata file that it does not write next has no later epoch than its own (`ending/specs/CommitDurable.antt`). A
-- `store` makes it so, a commit keeps it so, and so does whatever leaves the session's epoch and next side, and left and right. Assumes nothing.
use Rattle.std.specs.Prelude.{◌≡◌, true, false, List, ℕ, ◌≤◌}
use Rattle.std.proofs.Math.Path.{ap}
use Rattle.std.proofs.Common.{◌∙◌, arith}
use Rattle.octets.specs.Cases.{decide}
use Rattle.octets.specs.Number.{Bytes}
use Rattle.answers.specs.Answers.{code_of}
use Rattle.metadata.specs.Choice.{epoch_of, left_counts, chosen, next_side, chosen_epoch, chosen_list}
use Rattle.metadata.specs.Decoding.{tapes}
use Rattle.metadata.specs.Record.{read_record}
use Rattle.metadata.specs.RecordLaws.{chosen-epoch}
use Rattle.metadata.specs.Tapes.{Tape}
use Rattle.metadata.specs.declared.choice.Side.{Side}
use Rattle.metadata.specs.declared.choice.Side.TheVariants.{Left, Right}
use Rattle.disk.specs.Steps.{side_bytes}
use Rattle.session.specs.Rows.{head_of}
use Rattle.session.specs.BeginLaws.{new_head, started}
use Rattle.session.specs.Meaning.{Session, session_of}
use Rattle.beginning.specs.Sessions.{the_record, store_call}
use Rattle.beginning.specs.StoreLaws.{store-cases, store-means}
use Rattle.beginning.specs.Laws.{refusal-some}
use Rattle.ending.specs.CommitDurable.{Level}
use Rattle.ending.specs.Steps.{other_side}

-- ---- the file that is chosen is the one that is not written next, and its epoch is the one that counts

module _ (left right : List ℕ) where
  chosen-left : left_counts left right ≡ true → (next_side left right ≡ Right) × (chosen_epoch (chosen left right) ≡ epoch_of (read_record left))
  unfolding next_side chosen
  chosen-left e = (rw e, ap chosen_epoch (rw e) ∙ chosen-epoch left)

  chosen-right : left_counts left right ≡ false → (next_side left right ≡ Left) × (chosen_epoch (chosen left right) ≡ epoch_of (read_record right))
  unfolding next_side chosen
  chosen-right e = (rw e, ap chosen_epoch (rw e) ∙ chosen-epoch right)

pub chosen-level : (d : List ℕ) → epoch_of (read_record (side_bytes d (other_side (next_side (side_bytes d Left) (side_bytes d Right))))) ≤ chosen_epoch (the_record d)
chosen-level d =
    let l = side_bytes d Left in
    let r = side_bytes d Right in
    decide (left_counts l r)
    (λ e. let c = chosen-left l r e in rw (c.0, c.1) (omega arith))
    (λ e. let c = chosen-right l r e in rw (c.0, c.1) (omega arith))

-- ---- a store

-- the list that a store found
pub record Reads (d : List ℕ) : Type 0 where
  pub list : List Tape
  pub is : chosen_list (the_record d) ≡ tapes list

pub store-reads : (d s : List ℕ) → code_of (store_call d s).answer ≡ 0 → Reads d
store-reads d s =
    store-cases (λ o. code_of o.answer ≡ 0 → Reads d) d s (λ why e. absurd (refusal-some why e)) (λ ts ok read e. record { list = ts; is = read })

module _ (d s : List ℕ) (bytes : Bytes d) (served : code_of (store_call d s).answer ≡ 0) where
  pub store-head : head_of (store_call d s).session ≡ new_head (chosen_epoch (the_record d)) (next_side (side_bytes d Left) (side_bytes d Right))
  unfolding session_of started
  store-head =
      let found = store-reads d s served in
      ap (λ (m : Session). m.head) (store-means d s bytes found.list found.is served)

  pub store-level : Level d (store_call d s).session
  store-level = rw store-head (chosen-level d)

-- ---- what leaves the epoch, the next side, and left and right

pub level-same : (d s e u : List ℕ) → (head_of u).epoch ≡ (head_of s).epoch → (head_of u).side ≡ (head_of s).side → ((side : Side) → side_bytes e side ≡ side_bytes d side)
    → Level d s → Level e u
level-same d s e u epoch side same level = rw (epoch, side, same (other_side (head_of s).side)) level
