-- A reader keeps what it began with: its place and its view are read as before after every call but the drop of its own number. Assumes nothing.
use Rattle.std.specs.Prelude.{◌≡◌, ◌≢◌, true, List, ℕ, ◌<◌, Some}
use Rattle.std.proofs.Common.{sym, ap, ◌∙◌, true≢false, arith}
use Rattle.session.specs.Rows.{view_of, transaction_of, free_reader, find_transaction}
use Rattle.beginning.specs.Transactions.{is_open_at}
use Rattle.beginning.specs.Calls.{append_call, truncate_call, reader_call}
use Rattle.beginning.specs.Ways.{free-low, free-closed}
use Rattle.staging.specs.Shifting.{shift_call}
use Rattle.staging.specs.Cutting.{cut_call, drop_call}
use Rattle.entries.specs.Popping.{pop_call}
use Rattle.appending.specs.Calls.{put_call}
use Rattle.opening.specs.Calls.{open_call}
use Rattle.ending.specs.Dropping.{drop_transaction_call}
use Rattle.ending.specs.Committing.{commit_call}
use Rattle.touches.specs.Parts.{Stays, below_tapes, stays-found, stays_within}
use Rattle.touches.specs.Parts as P
use Rattle.touches.specs.Rows.{view-stays, transaction-stays}
use Rattle.touches.specs.Begins.{begun_parts, BeginLeaves, append-leaves, truncate-leaves, reader-touches}
use Rattle.touches.specs.Stages.{shift-leaves, cut-leaves, drop-leaves, pop-leaves}
use Rattle.touches.specs.Puts.{put-leaves-session}
use Rattle.touches.specs.Opens.{open-leaves-session}
use Rattle.touches.specs.Drops.{drop-transaction-leaves}
use Rattle.touches.specs.Commits.{commit-leaves-session}

-- the transaction in place x is as it was, and sees what it saw
pub record Keeps (x : ℕ) (s u : List ℕ) : Type 0 where
  pub place : transaction_of u x ≡ transaction_of s x
  pub view : (p : ℕ) → p < 8 → view_of u x p ≡ view_of s x p

keeps : (x : ℕ) (s u : List ℕ) → Stays (P.transaction_of x) s u → Stays (P.view_of x) s u → Keeps x s u
keeps x s u place view =
    record {
      place = transaction-stays _ _ s u place x (omega arith) (omega arith);
      view = λ p l. view-stays _ _ s u view x p (omega arith) (omega arith);
    }

module _ (x : ℕ) (low : x < 16) (d s : List ℕ) where
  -- where everything below the tapes stays
  by-tables : (u : List ℕ) → Stays below_tapes s u → Keeps x s u
  by-tables u stay =
      keeps x s u (stays_within _ _ _ _ s u stay (omega arith) (omega arith)) (stays_within _ _ _ _ s u stay (omega arith) (omega arith))

  by-begin : (t : ℕ) (u : List ℕ) → x ≢ t → BeginLeaves t s u → Keeps x s u
  by-begin t u apart a = keeps x s u (a.transactions-stay x (omega arith) apart) (a.views-stay x (omega arith) apart)

  pub append-keeps : Keeps x s (append_call d s).session
  append-keeps = by-begin 16 _ (λ e. omega arith) (append-leaves d s)

  pub truncate-keeps : Keeps x s (truncate_call d s).session
  truncate-keeps = by-begin 16 _ (λ e. omega arith) (truncate-leaves d s)

  -- a new reader takes no open one's place
  pub reader-keeps : is_open_at s x ≡ true → Keeps x s (reader_call d s).session
  reader-keeps opened =
      let apart : (t : ℕ) → free_reader s ≡ Some t → x ≢ t
      = λ t e z. true≢false (sym opened ∙ ap (is_open_at s) z ∙ free-closed s t e) in
      keeps x s _
      (stays-found begun_parts (free_reader s) (P.transaction_of x) s _ (reader-touches d s)
      (λ t e i h. let n = apart t e in let small = free-low s t e in search arith))
      (stays-found begun_parts (free_reader s) (P.view_of x) s _ (reader-touches d s)
      (λ t e i h. let n = apart t e in let small = free-low s t e in search arith))

  module _ (t h : ℕ) where
    pub shift-keeps : (i : ℕ) → Keeps x s (shift_call d s t h i).session
    shift-keeps i = by-tables _ (shift-leaves d s t h i).tables-stay

    pub cut_keeps : (i : ℕ) → Keeps x s (cut_call d s t h i).session
    cut_keeps i = by-tables _ (cut-leaves d s t h i).tables-stay

    pub drop_keeps : (i : ℕ) → Keeps x s (drop_call d s t h i).session
    drop_keeps i = by-tables _ (drop-leaves d s t h i).tables-stay

    pub pop-keeps : (out : List ℕ) → Keeps x s (pop_call d s t h out).session
    pop-keeps out = by-tables _ (pop-leaves d s t h out).tables-stay

    pub put_keeps : (bs : List ℕ) → Keeps x s (put_call d s t h bs).session
    put_keeps bs = by-tables _ (put-leaves-session d s t h bs).tables-stay

  pub open-keeps : (t : ℕ) (wanted : List ℕ) (entry fs cache start : ℕ) → Keeps x s (open_call d s t wanted entry fs cache start).session
  open-keeps t wanted entry fs cache start =
      let u = (open_call d s t wanted entry fs cache start).session in
      let a = open-leaves-session d s t wanted entry fs cache start in
      keeps x s u (stays_within _ _ _ _ s u a.transactions-stay (omega arith) (omega arith)) (stays_within _ _ _ _ s u a.views-stay (omega arith) (omega arith))

  pub commit-keeps : (t : ℕ) → Keeps x s (commit_call d s t).session
  commit-keeps t =
      let a = commit-leaves-session d s t in
      keeps x s _ (a.readers-stay x low) (a.views-stay x (omega arith))

  pub drop-transaction-keeps : (n : ℕ) → find_transaction s n ≢ Some x → Keeps x s (drop_transaction_call d s n).session
  drop-transaction-keeps n other =
      let u = (drop_transaction_call d s n).session in
      let a = drop-transaction-leaves d s n in
      keeps x s u (a.transactions-stay x (omega arith) other) (stays_within _ _ _ _ s u a.views-stay (omega arith) (omega arith))
