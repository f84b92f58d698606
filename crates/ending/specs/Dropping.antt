-- "Dropping an append restores lengths; a tape created in it loses its handle. Dropping a truncate changes nothing." The disk is not written. Assumes
-- nothing.
use Rattle.std.specs.Prelude.{cond, List, [], ℕ, ◌-◌, eqb, Option, Some, None, Ok}
use Rattle.octets.specs.Sweep.{sweep}
use Rattle.answers.specs.declared.Refusal.TheVariants.{Unusable, Unknown}
use Rattle.layout.specs.Names.{put_name}
use Rattle.layout.specs.Session.{names_at}
use Rattle.ring_buffer.specs.Ring.{popped}
use Rattle.session.specs.Rows.{view_of, transaction_of, put_transaction, put_handle, ring_of, put_ring, staged_of, find_transaction}
use Rattle.session.specs.Meaning.{closed, no_handle, no_ring}
use Rattle.rolling_tape.specs.Tracking.{retracked}
use Rattle.rolling_tape.specs.declared.tracking.Change.TheVariants.{UntrackAll}
use Rattle.beginning.specs.Transactions.{After, after, refused, usable}
use Rattle.staging.specs.Seeing.{directory_of, is_append}
use Rattle.ending.specs.Listing.{is_touched}
use Rattle.ending.specs.Steps.{unstage, close_writer}

-- a known tape's ring gives up what was staged
unfoldable pub reverted : ℕ → List ℕ → List ℕ
reverted p s = put_ring (unstage p s) p (popped (ring_of s p) ((staged_of s p).len - (staged_of s p).base))

abbrev pub untrack_in : List ℕ → List ℕ → Option ℕ → List ℕ
untrack_in d s (Some place) = retracked d s place UntrackAll
untrack_in d s None = s

-- a tape that was created loses its handle and its place
unfoldable pub forgotten : List ℕ → ℕ → List ℕ → List ℕ
forgotten d p s =
    put_name (put_ring (put_handle (untrack_in d (unstage p s) (directory_of d s p)) p no_handle) p no_ring) names_at p []

unfoldable pub take_back : List ℕ → ℕ → List ℕ → List ℕ
take_back d p s = cond (is_touched s p) (cond (view_of s 16 p).listed (reverted p s) (forgotten d p s)) s

unfoldable pub drop_append : List ℕ → List ℕ → List ℕ
drop_append d s = close_writer (sweep (take_back d) 8 0 s)

-- the transaction in place t
unfoldable pub drop_at : List ℕ → List ℕ → ℕ → List ℕ
drop_at d s t =
    cond (eqb t 16) (cond (is_append (transaction_of s 16).kind) (drop_append d s) (close_writer s)) (put_transaction s t closed)

abbrev pub drop_found : List ℕ → List ℕ → Option ℕ → After
drop_found d s (Some t) = after (Ok 0) (drop_at d s t)
drop_found d s None = refused Unknown s

unfoldable pub drop_transaction_call : List ℕ → List ℕ → ℕ → After
drop_transaction_call d s t = cond (usable d s) (drop_found d s (find_transaction s t)) (refused Unusable s)
