-- Of "bytes behind what is needed are never read and never written" (`docs/LAYOUT.md`) the second half: no call touches a byte of the session from 38,728
-- on, nor of the disk behind its last slot. Assumes nothing.
use Rattle.std.specs.Prelude.{List, [], ◌∷◌, ℕ, length}
use Rattle.std.proofs.Common.{arith}
use Rattle.metadata.specs.declared.choice.Side.{Side}
use Rattle.metadata.specs.declared.choice.Side.TheVariants.{Left, Right}
use Rattle.layout.specs.Disk as D
use Rattle.layout.specs.Names.{find_name}
use Rattle.layout.specs.Session.{session_bytes, names_at}
use Rattle.layout.specs.NamesLaws.{name-low}
use Rattle.session.specs.Rows.{free_reader, find_handle, find_transaction, head_of}
use Rattle.beginning.specs.Disks.{format_call}
use Rattle.beginning.specs.Calls.{append_call, truncate_call, reader_call}
use Rattle.beginning.specs.Sessions.{store_call}
use Rattle.beginning.specs.Ways.{free-low}
use Rattle.staging.specs.Shifting.{shift_call}
use Rattle.staging.specs.Cutting.{cut_call, drop_call}
use Rattle.staging.specs.Ways.{handle-found, transaction-low}
use Rattle.entries.specs.Popping.{pop_call}
use Rattle.appending.specs.Calls.{put_call}
use Rattle.opening.specs.Calls.{place_for, open_call, place_of}
use Rattle.opening.specs.CallWays.{place-low}
use Rattle.ending.specs.Dropping.{drop_transaction_call}
use Rattle.ending.specs.Committing.{commit_call}
use Rattle.touches.specs.Parts.{Part, bytes, Inside, Outside, Touches, Stays, mark, below_rings, tables, files, found, stays, stays-found}
use Rattle.touches.specs.Begins.{begun_parts, append-touches, truncate-touches, reader-touches, store-touches, format-touches-session, format-touches-disk}
use Rattle.touches.specs.Stages.{staged_parts, shift-touches, cut-touches, drop-touches, pop-touches}
use Rattle.touches.specs.Puts.{put_parts, put-touches-session, put-touches-disk}
use Rattle.touches.specs.Opens.{open_parts, readied_parts, clear_of, open-touches-session, open-touches-disk}
use Rattle.touches.specs.Drops.{drop_parts, any_parts, outside-any, drop-transaction-touches}
use Rattle.touches.specs.CommitSteps.{truncate_parts, append_disk_parts}
use Rattle.touches.specs.Commits.{outside-truncate, outside-append, commit-touches-session, commit-touches-disk}

-- every byte of the area behind what is needed
abbrev pub behind_session : List ℕ → Part
behind_session s = bytes session_bytes (length s)

abbrev pub behind_disk : List ℕ → Part
behind_disk d = bytes (D.data_at (D.slots d)) (length d)

-- ---- the session

module _ (d s : List ℕ) where
  pub format-behind : (n : ℕ) → Stays (behind_session s) s (format_call d s n).session
  format-behind n = stays (mark ∷ []) (behind_session s) s _ (format-touches-session d s n) (λ i h. search arith)

  pub store-behind : Stays (behind_session s) s (store_call d s).session
  store-behind = stays (below_rings ∷ []) (behind_session s) s _ (store-touches d s) (λ i h. search arith)

  pub append-behind : Stays (behind_session s) s (append_call d s).session
  append-behind = stays (begun_parts 16) (behind_session s) s _ (append-touches d s) (λ i h. search arith)

  pub truncate-behind : Stays (behind_session s) s (truncate_call d s).session
  truncate-behind = stays (begun_parts 16) (behind_session s) s _ (truncate-touches d s) (λ i h. search arith)

  pub reader-behind : Stays (behind_session s) s (reader_call d s).session
  reader-behind =
      stays-found begun_parts (free_reader s) (behind_session s) s _ (reader-touches d s) (λ t e i h. let small = free-low s t e in search arith)

  module _ (t h : ℕ) where
    by-staged : (u : List ℕ) → Touches (found staged_parts (find_handle s h)) s u → Stays (behind_session s) s u
    by-staged u a = stays-found staged_parts (find_handle s h) (behind_session s) s u a (λ p e i k. let small = (handle-found s h p e).low in search arith)

    pub shift_behind : (i : ℕ) → Stays (behind_session s) s (shift_call d s t h i).session
    shift_behind i = by-staged _ (shift-touches d s t h i)

    pub cut-behind : (i : ℕ) → Stays (behind_session s) s (cut_call d s t h i).session
    cut-behind i = by-staged _ (cut-touches d s t h i)

    pub drop-behind : (i : ℕ) → Stays (behind_session s) s (drop_call d s t h i).session
    drop-behind i = by-staged _ (drop-touches d s t h i)

    pub pop-behind : (out : List ℕ) → Stays (behind_session s) s (pop_call d s t h out).session
    pop-behind out = by-staged _ (pop-touches d s t h out)

    pub put-behind : (bs : List ℕ) → Stays (behind_session s) s (put_call d s t h bs).session
    put-behind bs =
        stays-found put_parts (find_handle s h) (behind_session s) s _ (put-touches-session d s t h bs) (λ p e i k. let small = (handle-found s h p e).low in search arith)

  pub open-behind : (t : ℕ) (wanted : List ℕ) (entry fs cache start : ℕ) → Stays (behind_session s) s (open_call d s t wanted entry fs cache start).session
  open-behind t wanted entry fs cache start =
      stays-found open_parts (place_for s (place_of s wanted)) (behind_session s) s _ (open-touches-session d s t wanted entry fs cache start)
      (λ p e i k. let small = place-low s (place_of s wanted) p (λ q f. name-low s names_at wanted q f) e in search arith)

  pub commit-behind : (t : ℕ) → Stays (behind_session s) s (commit_call d s t).session
  commit-behind t i h = (commit-touches-session d s t).same i (outside-truncate s t i (clear i h))
    where
      clear : (i : ℕ) → Inside i (behind_session s) → Outside i truncate_parts
      clear i h = search arith

  pub drop-transaction-behind : (n : ℕ) → Stays (behind_session s) s (drop_transaction_call d s n).session
  drop-transaction-behind n =
      stays-found (drop_parts s) (find_transaction s n) (behind_session s) s _ (drop-transaction-touches d s n)
      (λ t e i h. let small = transaction-low s n t e in let clear : Outside i (any_parts t) = search arith in outside-any s t i clear)

  -- ---- the disk

  -- a format's slots are those that it is to have, and it leaves all of them
  pub format-behind-disk : (n : ℕ) → Stays (bytes (D.data_at 0) (length d)) d (format_call d s n).disk
  format-behind-disk n = stays (tables ∷ []) (bytes (D.data_at 0) (length d)) d _ (format-touches-disk d s n) (λ i h. search arith)

  pub put-behind-disk : (t h : ℕ) (bs : List ℕ) → Stays (behind_disk d) d (put_call d s t h bs).disk
  put-behind-disk t h bs = stays (files d ∷ []) (behind_disk d) d _ (put-touches-disk d s t h bs) (λ i k. search arith)

  pub open-behind-disk : (t : ℕ) (wanted : List ℕ) (entry fs cache start : ℕ) → Stays (behind_disk d) d (open_call d s t wanted entry fs cache start).disk
  open-behind-disk t wanted entry fs cache start =
      let f = find_name d D.directories wanted in
      stays (readied_parts d f) (behind_disk d) d _ (open-touches-disk d s t wanted entry fs cache start)
      (λ i h. clear_of d f i (λ l. omega (arith, h.0)) (λ l. omega (arith, h.0)))

  pub commit-behind-disk : (t : ℕ) → Stays (behind_disk d) d (commit_call d s t).disk
  commit-behind-disk t i h = (commit-touches-disk d s t).same i (outside-append d s t i (clear (head_of s).side))
    where
      clear : (side : Side) → Outside i (append_disk_parts d side)
      clear Left = search arith
      clear Right = search arith
